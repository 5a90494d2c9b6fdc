-- Whole numbers as constants.
use Rattle.std.proofs.Common.{◌≡◌, ◌<◌, ◌^◌, ℤ, nat_abs, refl, arith}
use Rattle.std.proofs.lemmas.Int.{ints}
use Rattle.num_type.specs.Constants.{IsConstant, IsSame}
use Rattle.num_type.specs.Precision.{whole}
use Rattle.num_type.specs.View.{exact_of}
use Rattle.num_type.specs.declared.dyadic.Dyadic.{Dyadic}
use Rattle.num_type.proofs.Constants.{one_form, same_through, same_turned}
use Rattle.const_rules.proofs.OneForm.{one_form_is}
use Rattle.const_rules.proofs.KeptAnswers.{kept_form}
use Rattle.fi_values.specs.Numbers.{constant}

-- a constant that is a whole number is its one form
pub whole_form : (z : ℤ) (d : Dyadic) → IsSame (exact_of d) (whole z) → exact_of d ≡ constant z
whole_form z d h =
    one_form (exact_of d) (constant z) (kept_form d) (one_form_is (whole z)).0 (same_through (exact_of d) (whole z) (constant z) h (same_turned (constant z) (whole z) (one_form_is (whole z)).1))

-- a whole number of at most 53 bits is a constant
pub whole_constant : (z : ℤ) → nat_abs z < 2 ^ 53 → IsConstant (whole z)
whole_constant z h = record { form = whole z; bits = h; least = omega (arith, ints); most = omega (arith, ints); same = refl }
