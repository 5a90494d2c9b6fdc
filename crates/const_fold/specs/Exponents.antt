-- Constants to powers.
use Rattle.std.specs.Prelude.{◌≡◌, ◌<◌, ℕ, ℤ, false, List}
use Rattle.fic_base.specs.declared.code.Code.TheVariants.{BadArgument, LiteralInexact, SizeMismatch}
use Rattle.fic_base.specs.declared.place.Place.{Place}
use Rattle.fic_base.specs.declared.refusal.Refusal.{Refusal}
use Rattle.shape_rules.specs.Places.{IsOne}
use Rattle.shape_rules.specs.Shapes.{elements_of}
use Rattle.const_eval.specs.Elementwise.{shapes_text}
use Rattle.const_eval.specs.Powers.{IsExponent, IsPowerOf, NoPowerOf}
use Rattle.const_eval.specs.Refusals.{IsRefusal}
use Rattle.const_eval.specs.Values.{number_at, is_complex}
use Rattle.const_eval.specs.declared.constant.Const.{Const}

-- a power takes them: both are real, and each number of b is an exponent
pub record AreOperands (a b : Const) : Type 0 where
  pub base : is_complex a ≡ false
  pub exponent : is_complex b ≡ false
  pub whole : (k : ℕ) → k < elements_of b.shape → (n : ℤ) × IsExponent (number_at b k).re n

-- both have one element
abbrev pub AreOnes : Const → Const → Type 0
AreOnes a b = IsOne a.shape × IsOne b.shape

-- c is the one number of a to the power of the one number of b
pub record IsPowered (a b c : Const) : Type 0 where
  pub operands : AreOperands a b
  pub ones : AreOnes a b
  pub one : IsOne c.shape
  pub real : is_complex c ≡ false
  pub exponent : ℤ
  pub whole : IsExponent (number_at b 0).re exponent
  pub power : IsPowerOf (number_at a 0).re exponent (number_at c 0).re

-- why there is none: an operand that no power takes; else the shapes; else a power that is no constant
pub data IsUnpowered (shown : List ℕ) (a b : Const) (at : Place) (r : Refusal) : Type 0 where
  NoOperands : (AreOperands a b → ⊥) → IsRefusal BadArgument at shown r → IsUnpowered shown a b at r
  Misfit : AreOperands a b → (AreOnes a b → ⊥) → IsRefusal SizeMismatch at (shapes_text a.shape b.shape) r → IsUnpowered shown a b at r
  Inexact : AreOperands a b → AreOnes a b → (n : ℤ) → IsExponent (number_at b 0).re n → NoPowerOf (number_at a 0).re n → IsRefusal LiteralInexact at shown r → IsUnpowered shown a b at r
