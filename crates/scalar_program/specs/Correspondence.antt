-- What a program does, beside what its source does.
use Rattle.std.specs.Prelude.{◌≡◌, ℕ, ◌≤◌, ◌<◌, ◌*◌, true, false, ℤ, List, [], ◌∷◌, map, flat_map, length, Option, Some, None, All}
use Rattle.fic_base.specs.declared.place.Place.{Place}
use Rattle.mat_ast.specs.Tree.{Fun}
use Rattle.num_type.specs.Types.{NumericType, IsInRange}
use Rattle.fi_eval.specs.Outcome as got
use Rattle.fi_eval.specs.Outcome.{Got}
use Rattle.fi_rules.specs.Value.{Val, Fi, ComplexFi, Shape}
use Rattle.fi_rules.specs.Value as value
use Rattle.fi_eval.specs.Meaning.{evaluated, function_named, names_of}
use Rattle.c_tree.specs.Tree.{Kind, Fixed, Logical, Slot, Signature, Program}
use Rattle.c_tree.specs.declared.array_names.Array.{Array}
use Rattle.c_tree.specs.Names.{output_arrays}
use Rattle.c_tree.specs.Meaning.{number_of}
use Rattle.c_tree.specs.WellFormed.{IsWellFormed}
use Rattle.c_tree.specs.Depth.{depth, depth_limit}
use Rattle.c_tree.specs.Run.{Result, Ended, Over, run}

-- how a value stands in arrays of C: by columns, the real and the imaginary parts apart, truth values as 0 and 1
abbrev pub value_arrays : Val → List (List ℤ)
value_arrays (Fi t m s xs) = xs ∷ []
value_arrays (ComplexFi t m s xs ys) = xs ∷ ys ∷ []
value_arrays (value.Logical s bs) = map number_of bs ∷ []
value_arrays _ = []

abbrev pub all_arrays : List Val → List (List ℤ)
all_arrays = flat_map value_arrays

-- what the elements of a value are, and its shape
pub record Form : Type 0 where
  pub kind : Kind
  pub rows : ℕ
  pub columns : ℕ

abbrev pub form_of : Slot → Form
form_of s = record { kind = s.kind; rows = s.rows; columns = s.columns }

-- one real element of a type
abbrev pub real_form : NumericType → Form
real_form t = record { kind = Fixed t false; rows = 1; columns = 1 }

abbrev pub value_form : Val → Option Form
value_form (Fi t m s xs) = Some (record { kind = Fixed t false; rows = s.rows; columns = s.columns })
value_form (ComplexFi t m s xs ys) = Some (record { kind = Fixed t true; rows = s.rows; columns = s.columns })
value_form (value.Logical s bs) = Some (record { kind = Logical; rows = s.rows; columns = s.columns })
value_form _ = None

-- an outcome of evaluation and a result of C: 0 and the same shapes and stored integers, the same fault, which isn't 0, or both past the bound
abbrev pub Corresponds : Signature → Got Place (List Val) → Result → Type 0
Corresponds i (got.Gives vs) (Ended status outs) =
    (status ≡ 0) × (outs ≡ all_arrays vs) × (map (λ s. Some (form_of s)) i.outputs ≡ map value_form vs)
Corresponds i (got.Fault site) (Ended status outs) = (status ≡ site) × (0 < site)
Corresponds i got.Over Over = Unit {0}
Corresponds i _ _ = ⊥

-- a declared input: a fi of this type, complexity and shape, in range, without a fimath
abbrev pub IsInput : Kind → ℕ → ℕ → Val → Type 0
IsInput (Fixed t false) rows columns v =
    (xs : List ℤ) × (v ≡ Fi t None (record { rows = rows; columns = columns }) xs) × (length xs ≡ rows * columns) × All (IsInRange t) xs
IsInput (Fixed t true) rows columns v =
    (xs : List ℤ) × (ys : List ℤ) × (v ≡ ComplexFi t None (record { rows = rows; columns = columns }) xs ys)
    × (length xs ≡ rows * columns) × All (IsInRange t) xs × (length ys ≡ rows * columns) × All (IsInRange t) ys
IsInput Logical rows columns v = ⊥

-- the declared inputs, one by one
abbrev pub AreDeclared : List Slot → List Val → Type 0
AreDeclared [] [] = Unit {0}
AreDeclared (s ∷ ss) (v ∷ vs) = IsInput s.kind s.rows s.columns v × AreDeclared ss vs
AreDeclared _ _ = ⊥

-- contents of arrays of the declared lengths
abbrev pub AreFilled : List Array → List (List ℤ) → Type 0
AreFilled [] [] = Unit {0}
AreFilled (a ∷ more) (xs ∷ xss) = (length xs ≡ a.extent) × AreFilled more xss
AreFilled _ _ = ⊥

-- for every input of the declared types, every contents of the outputs at the call and every bound on turns, the program does
-- nothing undefined and what evaluation of the source does
abbrev pub Behaves : List Fun → List ℕ → Program → Type 0
Behaves fs entry p =
    (vs : List Val) (outs : List (List ℤ)) (n : ℕ) → AreDeclared p.interface.inputs vs → AreFilled (output_arrays p.interface) outs
    → Corresponds p.interface (evaluated fs entry vs n) (run p (all_arrays vs) outs n)

-- a program of a file, from an entry
pub record IsProgramOf (fs : List Fun) (entry : List ℕ) (inputs : List Slot) (p : Program) : Type 0 where
  pub well_formed : IsWellFormed p
  pub shallow : depth p ≤ depth_limit
  pub named : p.interface.entry ≡ entry
  pub takes : p.interface.inputs ≡ inputs
  pub gives : (f : Fun) → function_named fs entry ≡ Some f → map (λ s. s.name) p.interface.outputs ≡ names_of f.outputs
  pub behaves : Behaves fs entry p
