-- What a run of the program of a part takes and gives.
use Rattle.std.proofs.Common.{◌≡◌, ◌<◌, false, ℤ, pos, List, [], ◌∷◌, length, Option, refl, sym, ap, ◌∙◌, subst, arith}
use Rattle.std.proofs.lemmas.List.Elements.{All-nil, All-cons}
use Rattle.num_type.specs.Types.{NumericType, IsWithin as IsType, IsInRange}
use Rattle.c_tree.specs.Tree.{Fixed, Program}
use Rattle.c_tree.specs.Names.{arrays_of}
use Rattle.c_tree.specs.Run.{Result, run}
use Rattle.c_run.specs.Fit as machine
use Rattle.c_run.specs.Ran.{IsRan}
use Rattle.c_run.specs.Start.{zero_lists}
use Rattle.c_run.specs.declared.ran.Ran.{Ran}
use Rattle.case_io.specs.Cases.{AreInputs, IsWithin, kind_range, input_ranges}
use Rattle.batch_run.proofs.Inputs.{inputs_fit}
use Rattle.lower_scalar.specs.Part.{Part}
use Rattle.part_run.specs.Output.{first_output, part_output}
use Rattle.part_run.specs.PartProgram.{interface, part_program}
use Rattle.part_run.proofs.Formed.{interface_fits}

-- two numbers
abbrev pub pair : ℤ → ℤ → List (List ℤ)
pair x y = (x ∷ []) ∷ (y ∷ []) ∷ []

-- they are in the ranges of the types of the inputs
pair_in_range : (a b t : NumericType) (x y : ℤ) → IsInRange a x → IsInRange b y → AreInputs (input_ranges (interface a b t)) (pair x y)
pair_in_range a b t x y p q = (
  refl,
  All-cons (IsWithin (kind_range (Fixed a false) 1)) x [] (p.least, p.most) (All-nil (IsWithin (kind_range (Fixed a false) 1))),
  (refl, All-cons (IsWithin (kind_range (Fixed b false) 1)) y [] (q.least, q.most) (All-nil (IsWithin (kind_range (Fixed b false) 1))), tt),
)

pub ready : (q : Program) (lists : List (List ℤ)) (a b t : NumericType) (p : Part) (x y : ℤ) → q ≡ part_program a b t p → lists ≡ pair x y → IsType a → IsType b → IsType t → IsInRange a x → IsInRange b y → machine.FitArrays (arrays_of q).inputs lists
ready q lists a b t p x y e l wa wb wt hx hy =
    subst (λ (r : Program). machine.FitArrays (arrays_of r).inputs lists) (sym e)
    (subst (machine.FitArrays (arrays_of (part_program a b t p)).inputs) (sym l)
    (inputs_fit (part_program a b t p) (pair x y) (interface_fits a b t wa wb wt) (pair_in_range a b t x y hx hy)))

pub has_output : (q : Program) (a b t : NumericType) (p : Part) → q ≡ part_program a b t p → 0 < length (arrays_of q).outputs
has_output q a b t p e = subst (λ (r : Program). 0 < length (arrays_of r).outputs) (sym e) (omega arith)

pub gives : (q : Program) (lists : List (List ℤ)) (a b t : NumericType) (p : Part) (x y : ℤ) (z : Option ℤ) (answer : Ran) (now : List (List ℤ)) → q ≡ part_program a b t p → lists ≡ pair x y → IsRan (run q lists (zero_lists (arrays_of q).outputs) 0) answer now → ((r : Result) → IsRan r answer now → z ≡ first_output r) → z ≡ part_output a b t p x y
gives q lists a b t p x y z answer now e l h f =
    f (run q lists (zero_lists (arrays_of q).outputs) 0) h
    ∙ ap (λ (r : Program). first_output (run r lists (zero_lists (arrays_of r).outputs) 0)) e
    ∙ ap (λ ls. first_output (run (part_program a b t p) ls ((pos 0 ∷ []) ∷ []) 0)) l
