-- The types of expressions: of what is computed at run time, and of what is known without a run.
use Rattle.std.specs.Prelude.{ℕ, Bool, true, false, ◌&&◌, nat_eq, List, [], ◌∷◌, Option, Some, None}
use Rattle.std.specs.Ordering.{int_eq}
use mathlib.Core.Bool.{beq}
use Rattle.num_type.specs.Constants.{Exact}
use Rattle.num_type.specs.Types.{NumericType}
use Rattle.fi_math.specs.declared.fimath.Fimath.{Fimath}
use Rattle.fi_math.specs.Same.{same_fimath}
use Rattle.fi_rules.specs.Value.{Shape, Val, Fi, ComplexFi, Logical, Number, ComplexNumber, Words, MathObject, TypeObject}

pub data Ty : Type 0 where
  -- a real fi, with the attached fimath
  FiTy : NumericType → Option Fimath → Ty
  -- constants
  NumberTy : Shape → List Exact → Ty
  TextTy : List ℕ → Ty
  MathTy : Fimath → Ty
  TypeTy : NumericType → Ty
  -- a class that no rule takes yet, or `:` as an argument
  OtherTy : Ty

unfoldable pub type_of : Val → Ty
type_of (Fi t m s xs) = FiTy t m
type_of (Number s cs) = NumberTy s cs
type_of (Words text) = TextTy text
type_of (MathObject m) = MathTy m
type_of (TypeObject t) = TypeTy t
type_of (ComplexFi t m s xs ys) = OtherTy
type_of (Logical s bs) = OtherTy
type_of (ComplexNumber s xs ys) = OtherTy

-- the value of what is known without a run
unfoldable pub known_value : Ty → Option Val
known_value (NumberTy s cs) = Some (Number s cs)
known_value (TextTy text) = Some (Words text)
known_value (MathTy m) = Some (MathObject m)
known_value (TypeTy t) = Some (TypeObject t)
known_value (FiTy t m) = None
known_value OtherTy = None

-- ---- sameness

abbrev pub same_type : NumericType → NumericType → Bool
same_type a b = beq a.signed b.signed && nat_eq a.word b.word && int_eq a.fraction b.fraction

unfoldable pub same_attached : Option Fimath → Option Fimath → Bool
same_attached None None = true
same_attached (Some m) (Some n) = same_fimath m n
same_attached None (Some n) = false
same_attached (Some m) None = false

abbrev pub same_exact : Exact → Exact → Bool
same_exact x y = int_eq x.significand y.significand && int_eq x.exponent y.exponent

-- constants in their one form
abbrev pub same_exacts : List Exact → List Exact → Bool
same_exacts [] [] = true
same_exacts (x ∷ xs) (y ∷ ys) = same_exact x y && same_exacts xs ys
same_exacts xs ys = false

abbrev pub same_shape : Shape → Shape → Bool
same_shape s t = nat_eq s.rows t.rows && nat_eq s.columns t.columns

-- a variable keeps its class, type and attached fimath, and a constant or an object its value
unfoldable pub same_ty : Ty → Ty → Bool
same_ty (FiTy a m) (FiTy b n) = same_type a b && same_attached m n
same_ty (NumberTy s xs) (NumberTy t ys) = same_shape s t && same_exacts xs ys
same_ty (MathTy m) (MathTy n) = same_fimath m n
same_ty (TypeTy a) (TypeTy b) = same_type a b
same_ty a b = false
