-- What a machine answers.
use Rattle.std.specs.Prelude.{◌≡◌, ℕ, ℤ, pos, List}
use Rattle.c_tree.specs.Run.{Result, Ended, Over, Undefined}
use Rattle.c_run.specs.declared.ran.Ran.{Ran}
use Rattle.c_run.specs.declared.ran.Ran.TheVariants as ran

-- the answer to a run, where the output arrays then hold these lists
abbrev pub IsRan : Result → Ran → List (List ℤ) → Type 0
IsRan (Ended status outputs) answer now = (answer ≡ ran.Ended (pos status)) × (now ≡ outputs)
IsRan Over answer now = answer ≡ ran.Over
IsRan (Undefined token) answer now = answer ≡ ran.Undefined token
