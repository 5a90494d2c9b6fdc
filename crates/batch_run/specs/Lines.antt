-- The result lines of a program at cases.
use Rattle.std.specs.Prelude.{◌≡◌, ℕ, zero, suc, ℤ, List, [], ◌∷◌, map}
use Rattle.c_tree.specs.Tree.{Program}
use Rattle.c_tree.specs.Names.{arrays_of}
use Rattle.c_tree.specs.Run.{Result, Ended, Over, Undefined, run}
use Rattle.c_run.specs.Start.{zero_lists}
use Rattle.case_io.specs.declared.refusal.Cases.{Cases}
use Rattle.case_io.specs.declared.result.CaseResult.{CaseResult}
use Rattle.case_io.specs.declared.result.CaseResult.TheVariants as case
use Rattle.case_io.specs.Reads.{lists_of}
use Rattle.case_io.specs.ResultLines.{IsLine}

-- what a case comes to, where the run of its program comes to this: a status above 0 is the number of a fault
abbrev pub IsCaseResult : Result → CaseResult → Type 0
IsCaseResult (Ended zero outputs) (case.Ends lists) = lists_of lists.items ≡ outputs
IsCaseResult (Ended (suc n) outputs) (case.Fault status) = status ≡ suc n
IsCaseResult Over case.Over = Unit {0}
IsCaseResult (Undefined n) (case.Undefined token) = token ≡ n
IsCaseResult _ _ = ⊥

-- the line of a case, by its number and its inputs: what the program comes to, with output arrays that hold zeros at first, each `while`
-- making at most so many turns
pub record IsCaseLine (p : Program) (turns number : ℕ) (inputs : List (List ℤ)) (line : List ℕ) : Type 0 where
  pub result : CaseResult
  pub is : IsCaseResult (run p inputs (zero_lists (arrays_of p).outputs) turns) result
  pub line_is : IsLine p.interface number result line

-- a line for each case in order, numbered from a number on
abbrev pub AreLines : Program → ℕ → ℕ → List (List (List ℤ)) → List (List ℕ) → Type 0
AreLines p turns number [] [] = Unit {0}
AreLines p turns number (inputs ∷ cases) (line ∷ lines) = IsCaseLine p turns number inputs line × AreLines p turns (suc number) cases lines
AreLines p turns number _ _ = ⊥

-- the inputs of cases
abbrev pub inputs_of : Cases → List (List (List ℤ))
inputs_of cases = map (λ c. lists_of c.items) cases.list.items
