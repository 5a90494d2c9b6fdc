-- Values. A value carries its own type; its elements stand by columns.
use Rattle.std.specs.Prelude.{ℕ, ◌*◌, Bool, ◌&&◌, nat_eq, ℤ, List, Option}
use Rattle.num_type.specs.Constants.{Exact}
use Rattle.num_type.specs.Types.{NumericType}
use Rattle.fi_math.specs.declared.fimath.Fimath.{Fimath}

pub record Shape : Type 0 where
  pub rows : ℕ
  pub columns : ℕ

abbrev pub count : Shape → ℕ
count s = s.rows * s.columns

abbrev pub scalar : Shape
scalar = record { rows = 1; columns = 1 }

abbrev pub is_scalar : Shape → Bool
is_scalar s = nat_eq s.rows 1 && nat_eq s.columns 1

pub data Val : Type 0 where
  -- stored integers of a type, with the attached fimath
  Fi : NumericType → Option Fimath → Shape → List ℤ → Val
  -- the same with the imaginary parts behind the real ones
  ComplexFi : NumericType → Option Fimath → Shape → List ℤ → List ℤ → Val
  Logical : Shape → List Bool → Val
  -- constants, each in its one form
  Number : Shape → List Exact → Val
  ComplexNumber : Shape → List Exact → List Exact → Val
  Words : List ℕ → Val
  MathObject : Fimath → Val
  TypeObject : NumericType → Val
