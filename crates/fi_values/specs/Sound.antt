-- Sound values: their lists are as long as their shapes say, and their stored integers are in the ranges of their types.
use Rattle.std.specs.Prelude.{◌≡◌, ◌≤◌, ℕ, ℤ, List, length, All}
use Rattle.num_type.specs.Types.{NumericType, IsWithin, IsInRange}
use Rattle.fi_rules.specs.Value.{Shape, count, Val, Fi, ComplexFi, Logical, Number, ComplexNumber, Words, MathObject, TypeObject}
use Rattle.fi_eval.specs.Outcome.{Got, Gives, Fault, Over, Wrong}

-- at least one row and one column, and at most 4,096 elements
pub record IsSized (s : Shape) : Type 0 where
  pub some_rows : 1 ≤ s.rows
  pub some_columns : 1 ≤ s.columns
  pub small : count s ≤ 4096

-- stored integers of a type, as many as a shape has elements
pub record IsStored (t : NumericType) (s : Shape) (zs : List ℤ) : Type 0 where
  pub filled : length zs ≡ count s
  pub in_range : All (IsInRange t) zs

-- an array's lists have an element for each row and column; a type is within the limits
abbrev pub IsSound : Val → Type 0
IsSound (Fi t m s xs) = IsWithin t × IsSized s × IsStored t s xs
IsSound (ComplexFi t m s xs ys) = IsWithin t × IsSized s × IsStored t s xs × IsStored t s ys
IsSound (Logical s bs) = IsSized s × (length bs ≡ count s)
IsSound (Number s cs) = IsSized s × (length cs ≡ count s)
IsSound (ComplexNumber s xs ys) = IsSized s × (length xs ≡ count s) × (length ys ≡ count s)
IsSound (Words text) = Unit {0}
IsSound (MathObject m) = Unit {0}
IsSound (TypeObject t) = IsWithin t

-- this holds of a result, if there is one
pub data Granted {W A : Type 0} (P : A → Type 0) : Got W A → Type 0 where
  grants : (x : A) → P x → Granted P (Gives x)
  at_fault : (site : ℕ) → Granted P (Fault site)
  past : Granted P Over
  at_wrong : (at : W) → Granted P (Wrong at)
