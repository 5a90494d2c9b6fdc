-- The results of a C text at cases.
use Rattle.std.specs.Prelude.{◌≡◌, ℕ, ℤ, List, [], ◌∷◌, flat_map}
use Rattle.c_tree.specs.Tree.{Program}
use Rattle.c_read.specs.Program.{IsTextOf}
use Rattle.case_io.specs.Cases.{input_ranges}
use Rattle.case_io.specs.Plain.{IsCase}
use Rattle.batch_run.specs.Lines.{AreLines}

-- the bytes are the lines of a program at cases, one behind the other
pub record HasLines (p : Program) (turns : ℕ) (cases : List (List (List ℤ))) (bytes : List ℕ) : Type 0 where
  pub lines : List (List ℕ)
  pub are : AreLines p turns 0 cases lines
  pub whole : bytes ≡ flat_map (λ line. line) lines

-- the bytes are the lines of the program of a text at a case file, which has one case so far
pub record AreResults (text cases : List ℕ) (turns : ℕ) (bytes : List ℕ) : Type 0 where
  pub program : Program
  pub read : IsTextOf program text
  pub inputs : List (List ℤ)
  pub are_inputs : IsCase (input_ranges program.interface) inputs cases
  pub lines : HasLines program turns (inputs ∷ []) bytes
