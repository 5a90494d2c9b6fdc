-- Types within the limits, or what is shown of those that aren't.
use Rattle.std.proofs.Common.{◌≡◌, ◌⊎◌, inl, inr, ◌∙◌, ap, ℕ, ◌<◌, ◌≤◌, Bool, arith}
use Rattle.std.specs.Prelude.{ℤ, pos, negsuc, ◌<ℤ◌}
use Rattle.std.proofs.lemmas.Int.{ints}
use Rattle.fic_base.specs.declared.code.Code.TheVariants as code
use Rattle.num_type.specs.Types.{NumericType, IsWithin, word_limit}
use Rattle.num_type.specs.View.{type_of}
use Rattle.num_type.specs.declared.num_type.NumType.{NumType}
use Rattle.fi_math.specs.Made.{Wide, limited}
use Rattle.fi_math.proofs.Limits.{type_is, wide_is, out_is}
use Rattle.fi_rules.specs.Checked.{Fine, Missing, Whole}
use Rattle.fi_rules.specs.Pairs.{limits_checked}
use Rattle.fi_rules.specs.Calls.{fixed}

-- a type is within its limits
pub type_fine : (t : NumType) → Fine (type_of t) ≡ limits_checked (limited 64 (type_of t))
unfolding limits_checked
type_fine t = ap limits_checked (type_is word_limit (type_of t) t.bits (record { one_bit = t.one_bit; bits = t.bits; least = t.least; most = t.most }))

pub made_fine : (t : NumType) (a : NumericType) → type_of t ≡ a → Fine (type_of t) ≡ limits_checked (limited 64 a)
made_fine t a e = type_fine t ∙ ap (λ (b : NumericType). limits_checked (limited 64 b)) e

pub made_out : (signed : Bool) (word : ℕ) (fraction : ℤ) → 1 ≤ word → word ≤ 64 → (IsWithin (fixed signed word fraction) → ⊥) → Missing code.FractionOut (Whole fraction) ≡ limits_checked (limited 64 (fixed signed word fraction))
unfolding limits_checked
made_out signed word fraction l m n = ap limits_checked (out_is word_limit (fixed signed word fraction) l m (omega arith) n)

pub made_wide : (signed : Bool) (word : ℕ) (fraction : ℤ) → (word < 1) ⊎ (64 < word) → limits_checked (Wide word) ≡ limits_checked (limited 64 (fixed signed word fraction))
made_wide signed word fraction h = ap limits_checked (wide_is word_limit (fixed signed word fraction) h)

pub far_out : (signed : Bool) (word : ℕ) (fraction : ℤ) → 1 ≤ word → word ≤ 64 → (fraction <ℤ negsuc 255) ⊎ (pos 256 <ℤ fraction) → Missing code.FractionOut (Whole fraction) ≡ limits_checked (limited 64 (fixed signed word fraction))
far_out signed word fraction l m (inl h) = made_out signed word fraction l m (λ w. omega (arith, ints, h, w.least))
far_out signed word fraction l m (inr h) = made_out signed word fraction l m (λ w. omega (arith, ints, h, w.most))

pub made_out_as : (signed : Bool) (word : ℕ) (fraction f : ℤ) → f ≡ fraction → 1 ≤ word → word ≤ 64 → (IsWithin (fixed signed word f) → ⊥) → Missing code.FractionOut (Whole f) ≡ limits_checked (limited 64 (fixed signed word fraction))
made_out_as signed word fraction f e l m n = made_out signed word f l m n ∙ ap (λ (g : ℤ). limits_checked (limited 64 (fixed signed word g))) e
