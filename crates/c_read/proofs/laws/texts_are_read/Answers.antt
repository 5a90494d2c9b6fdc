use Rattle.std.proofs.Common.{◌≡◌, ℕ, List, Ok, Err}
use Rattle.std.specs.Prelude.{Result}
use Rattle.num_type.specs.declared.memory.Stop.{Stop}
use Rattle.num_type.specs.declared.memory.Stop.TheVariants as answer
use Rattle.c_tree.specs.declared.program.CProgram.{CProgram}
use Rattle.c_tree.specs.Tree.{Program}
use Rattle.c_tree.specs.Whole.{program_of}
use Rattle.c_read.specs.declared.refusal.CBad.{CBad}
use Rattle.c_read.specs.declared.refusal.CRefusal.{CRefusal}
use Rattle.c_read.specs.Program.{GivesBack, IsRefusal, IsTextOf, ReadsProgram}
use Rattle.c_read.proofs.laws.texts_are_read.Goals as goal

gives_back : ((p q : Program) (bytes : List ℕ) → IsTextOf p bytes → IsTextOf q bytes → p ≡ q)
    → ((p : Program) (k : CBad) (n : ℕ) (bytes : List ℕ) → IsTextOf p bytes → IsRefusal k n bytes → ⊥)
    → (p : Program) (a : Result CProgram (Stop CRefusal)) (bytes : List ℕ) → IsTextOf p bytes → ReadsProgram a bytes → GivesBack p a
gives_back one none p (Ok q) bytes t h = one (program_of q) p bytes h t
gives_back one none p (Err answer.Memory) bytes t h = tt
gives_back one none p (Err (answer.Refused r)) bytes t h = none p r.kind r.offset bytes t h

pub returns : goal.returns
returns c = gives_back c.one_answer.ensures.program c.one_answer.ensures.not_both
