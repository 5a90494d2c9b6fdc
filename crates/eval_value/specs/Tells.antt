-- What an answer of the code says of the outcome that a definition gives.
use Rattle.std.specs.Prelude.{◌≡◌, Result, Ok, Err}
use Rattle.fic_base.specs.declared.place.Place.{Place}
use Rattle.fi_eval.specs.Outcome.{Got, Gives, Fault, Over, Wrong}
use Rattle.eval_value.specs.declared.halt.Halt.{Halt}
use Rattle.eval_value.specs.declared.halt.Halt.TheVariants as halt

-- an answer is the outcome, unless memory is wanting
abbrev pub Tells : {R A : Type 0} → Result R Halt → (R → A) → Got Place A → Type 0
Tells (Ok x) view got = got ≡ Gives (view x)
Tells (Err halt.Memory) view got = Unit {0}
Tells (Err (halt.Fault site)) view got = got ≡ Fault site
Tells (Err halt.Over) view got = got ≡ Over
Tells (Err (halt.Wrong at)) view got = got ≡ Wrong at
