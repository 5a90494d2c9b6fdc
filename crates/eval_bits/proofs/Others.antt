-- Values of other classes than an operation takes.
use Rattle.std.proofs.Common.{◌≡◌, Option, Some, None, refl}
use Rattle.std.specs.Prelude.{ℕ}
use Rattle.num_type.specs.Types.{NumericType}
use Rattle.fi_math.specs.declared.fimath.Fimath.{Fimath}
use Rattle.fi_rules.specs.Options.{and_then}
use Rattle.fi_values.specs.Bits.{shifted, word_of, bits_between}
use Rattle.fi_meaning.specs.Calls as calls
use Rattle.fi_meaning.specs.Operators.{minus, signed_class}
use Rattle.eval_value.specs.View.{value_view}
use Rattle.eval_value.specs.declared.fi_value.FiValue.{FiValue}
use Rattle.eval_value.specs.declared.logical_value.LogicalValue.{LogicalValue}
use Rattle.eval_value.specs.declared.number_value.NumberValue.{NumberValue}
use Rattle.eval_value.specs.declared.value.Value.{Value}
use Rattle.eval_value.specs.declared.value.Value.TheVariants as value
use Rattle.eval_bits.specs.Changes.{moved}
use Rattle.eval_bits.specs.declared.change.Shift.{Shift}
use Rattle.eval_bits.proofs.Classes.{number_cases, value_cases}

abbrev NoFi : Value → Type 0
NoFi w = (v : FiValue) → w ≡ value.Fi v → ⊥

abbrev NoLogical : Value → Type 0
NoLogical w = (v : LogicalValue) → w ≡ value.Logical v → ⊥

abbrev NoNumber : Value → Type 0
NoNumber w = (v : NumberValue) → w ≡ value.Number v → ⊥

pub no_fi_moved : (w : Value) (s : Shift) (k : ℕ) → NoFi w → shifted (moved s) k (value_view w) ≡ None
unfolding word_of and_then
no_fi_moved w s k h =
    value_cases (λ u. shifted (moved s) k u ≡ None) w (λ v e. absurd (h v e)) (λ v e. refl)
    (λ v e. number_cases (λ u. shifted (moved s) k u ≡ None) v (λ s cs. refl) (λ s xs ys. refl)) (λ t. refl) (λ m. refl) (λ t. refl)

pub no_fi_sliced : (w : Value) (l r : ℕ) → NoFi w → bits_between l r (value_view w) ≡ None
unfolding bits_between
no_fi_sliced w l r h =
    value_cases (λ u. bits_between l r u ≡ None) w (λ v e. absurd (h v e)) (λ v e. refl)
    (λ v e. number_cases (λ u. bits_between l r u ≡ None) v (λ s cs. refl) (λ s xs ys. refl)) (λ t. refl) (λ m. refl) (λ t. refl)

pub no_fi_attached : (w : Value) (n : Option Fimath) → NoFi w → calls.attached n (value_view w) ≡ None
unfolding calls.attached
no_fi_attached w n h =
    value_cases (λ u. calls.attached n u ≡ None) w (λ v e. absurd (h v e)) (λ v e. refl)
    (λ v e. number_cases (λ u. calls.attached n u ≡ None) v (λ s cs. refl) (λ s xs ys. refl)) (λ t. refl) (λ m. refl) (λ t. refl)

pub no_signed : (w : Value) → NoFi w → NoNumber w → signed_class (value_view w) ≡ None
unfolding signed_class
no_signed w h k =
    value_cases (λ u. signed_class u ≡ None) w (λ v e. absurd (h v e)) (λ v e. refl) (λ v e. absurd (k v e)) (λ t. refl) (λ m. refl) (λ t. refl)

pub no_minus : (w : Value) → NoFi w → NoNumber w → minus (value_view w) ≡ None
unfolding minus
no_minus w h k =
    value_cases (λ u. minus u ≡ None) w (λ v e. absurd (h v e)) (λ v e. refl) (λ v e. absurd (k v e)) (λ t. refl) (λ m. refl) (λ t. refl)

pub no_taken : (w : Value) (t : NumericType) (m : Option Fimath) → NoFi w → NoNumber w → NoLogical w → calls.taken_value t m (value_view w) ≡ None
unfolding calls.taken_value
no_taken w t m h k l =
    value_cases (λ u. calls.taken_value t m u ≡ None) w (λ v e. absurd (h v e)) (λ v e. absurd (l v e)) (λ v e. absurd (k v e)) (λ t. refl) (λ m. refl) (λ t. refl)

-- ---- constants as they are

pub number_itself : (v : NumberValue) → signed_class (value_view (value.Number v)) ≡ Some (value_view (value.Number v))
unfolding signed_class
number_itself v = number_cases (λ u. signed_class u ≡ Some u) v (λ s cs. refl) (λ s xs ys. refl)
