-- Worked values, each by computing.
use Rattle.std.proofs.Common.{◌≡◌, ◌^◌, ◌-◌, true, false, [], ◌∷◌, refl}
use Rattle.std.specs.Prelude.{ℤ, pos, negsuc, neg_ℤ, Some, None, codes}
use Rattle.num_type.specs.Constants.{Exact, units}
use Rattle.num_type.specs.Precision.{whole}
use Rattle.const_rules.specs.Splits.{split_up_to}
use Rattle.const_rules.specs.OneForm.{constant_of, reduced}
use Rattle.const_rules.specs.Folds.{added, multiplied, power}
use Rattle.const_rules.specs.BestFraction.{best_fraction_of, common_fraction, greatest_fraction_of, width_up_to}
use Rattle.const_rules.specs.Stored.{is_exact_at, stored_at, stored_within, stored_in, whole_within}
use Rattle.const_rules.specs.LiteralValues.{literal_of, decimal_of, tenfold_of}

-- m * 2 ^ e
abbrev times_two_to : ℤ → ℤ → Exact
times_two_to m e = record { significand = m; exponent = e }

-- Constants

twelve : constant_of (whole (pos 12)) ≡ Some (times_two_to (pos 3) (pos 2))
unfolding constant_of reduced split_up_to
twelve = refl

zero_times_a_power : constant_of (times_two_to (pos 0) (pos 1000)) ≡ Some (whole (pos 0))
unfolding constant_of reduced split_up_to
zero_times_a_power = refl

greatest_power_of_two : constant_of (times_two_to (pos 1) (pos 452)) ≡ Some (times_two_to (pos 1) (pos 452))
unfolding constant_of reduced split_up_to
greatest_power_of_two = refl

next_power_of_two : constant_of (times_two_to (pos 1) (pos 453)) ≡ None
unfolding constant_of reduced split_up_to
next_power_of_two = refl

least_power_of_two : constant_of (times_two_to (pos 1) (negsuc 399)) ≡ Some (times_two_to (pos 1) (negsuc 399))
unfolding constant_of reduced split_up_to
least_power_of_two = refl

next_lower_power_of_two : constant_of (times_two_to (pos 1) (negsuc 400)) ≡ None
unfolding constant_of reduced split_up_to
next_lower_power_of_two = refl

fifty_three_bits : constant_of (whole (pos (2 ^ 53 - 1))) ≡ Some (whole (pos (2 ^ 53 - 1)))
unfolding constant_of reduced split_up_to
fifty_three_bits = refl

fifty_four_bits : constant_of (whole (pos (2 ^ 54 - 1))) ≡ None
unfolding constant_of reduced split_up_to
fifty_four_bits = refl

many_zero_bits : constant_of (times_two_to (neg_ℤ (pos (2 ^ 700))) (neg_ℤ (pos 700))) ≡ Some (whole (negsuc 0))
unfolding constant_of reduced split_up_to
many_zero_bits = refl

-- Operators

half_and_half : added (times_two_to (pos 1) (negsuc 0)) (times_two_to (pos 1) (negsuc 0)) ≡ Some (whole (pos 1))
unfolding units constant_of reduced split_up_to
half_and_half = refl

far_apart : added (times_two_to (pos 1) (pos 400)) (whole (pos 1)) ≡ None
unfolding units constant_of reduced split_up_to
far_apart = refl

wide_product : multiplied (whole (pos (2 ^ 53 - 1))) (whole (pos 3)) ≡ None
unfolding constant_of reduced split_up_to
wide_product = refl

inverse_of_three : power (whole (pos 3)) (negsuc 0) ≡ None
unfolding power constant_of reduced split_up_to
inverse_of_three = refl

inverse_of_zero : power (whole (pos 0)) (negsuc 0) ≡ None
unfolding power constant_of reduced split_up_to
inverse_of_zero = refl

zero_to_zero : power (whole (pos 0)) (pos 0) ≡ Some (whole (pos 1))
unfolding power constant_of reduced split_up_to
zero_to_zero = refl

two_to_minus_fifteen : power (whole (pos 2)) (negsuc 14) ≡ Some (times_two_to (pos 1) (negsuc 14))
unfolding power constant_of reduced split_up_to
two_to_minus_fifteen = refl

minus_quarter_cubed : power (times_two_to (negsuc 0) (negsuc 1)) (negsuc 2) ≡ Some (times_two_to (negsuc 0) (pos 6))
unfolding power constant_of reduced split_up_to
minus_quarter_cubed = refl

three_to_the_thirty_third : power (whole (pos 3)) (pos 33) ≡ Some (whole (pos 5559060566555523))
unfolding power constant_of reduced split_up_to
three_to_the_thirty_third = refl

three_to_the_thirty_fourth : power (whole (pos 3)) (pos 34) ≡ None
unfolding power constant_of reduced split_up_to
three_to_the_thirty_fourth = refl

-- Literals

quarter : literal_of (codes "2.5e-1") ≡ Some (times_two_to (pos 1) (negsuc 1))
unfolding literal_of decimal_of tenfold_of constant_of reduced split_up_to
quarter = refl

half_without_whole_digits : literal_of (codes ".5") ≡ Some (times_two_to (pos 1) (negsuc 0))
unfolding literal_of decimal_of tenfold_of constant_of reduced split_up_to
half_without_whole_digits = refl

tenth : literal_of (codes "0.1") ≡ None
unfolding literal_of decimal_of tenfold_of constant_of reduced split_up_to
tenth = refl

thousand : literal_of (codes "1E3") ≡ Some (times_two_to (pos 125) (pos 3))
unfolding literal_of decimal_of tenfold_of constant_of reduced split_up_to
thousand = refl

power_22 : literal_of (codes "100000000000000000000000e-1") ≡ Some (times_two_to (pos 2384185791015625) (pos 22))
unfolding literal_of decimal_of tenfold_of constant_of reduced split_up_to
power_22 = refl

power_23 : literal_of (codes "1e23") ≡ None
unfolding literal_of decimal_of tenfold_of constant_of reduced split_up_to
power_23 = refl

far_power : literal_of (codes "1d99999999999999999999999999999999999999999") ≡ None
unfolding literal_of decimal_of tenfold_of constant_of reduced split_up_to
far_power = refl

zeros_with_a_far_power : literal_of (codes "000.e999999999999999") ≡ Some (whole (pos 0))
unfolding literal_of decimal_of tenfold_of constant_of reduced split_up_to
zeros_with_a_far_power = refl

eighteen_digits : literal_of (codes "123456789012345678") ≡ None
unfolding literal_of decimal_of tenfold_of constant_of reduced split_up_to
eighteen_digits = refl

-- Fraction lengths

one_and_minus_two : best_fraction_of true 16 (whole (pos 1) ∷ whole (negsuc 1) ∷ []) ≡ pos 14
unfolding best_fraction_of common_fraction greatest_fraction_of width_up_to
one_and_minus_two = refl

minus_one : best_fraction_of true 16 (whole (negsuc 0) ∷ []) ≡ pos 15
unfolding best_fraction_of common_fraction greatest_fraction_of width_up_to
minus_one = refl

unsigned_below_zero : best_fraction_of false 16 (whole (negsuc 0) ∷ []) ≡ pos 16
unfolding best_fraction_of common_fraction greatest_fraction_of width_up_to
unsigned_below_zero = refl

zeros_alone : best_fraction_of true 16 (whole (pos 0) ∷ []) ≡ pos 15
unfolding best_fraction_of common_fraction greatest_fraction_of width_up_to
zeros_alone = refl

minus_three_halves : stored_at (times_two_to (negsuc 2) (negsuc 0)) (pos 3) ≡ negsuc 11
unfolding stored_within is_exact_at stored_at
minus_three_halves = refl

three_halves_no_whole : is_exact_at (times_two_to (negsuc 2) (negsuc 0)) (pos 0) ≡ false
unfolding stored_within is_exact_at stored_at
three_halves_no_whole = refl

minus_one_in_a_byte : stored_in (record { signed = true; word = 8; fraction = pos 7 }) (whole (negsuc 0)) ≡ Some (negsuc 127)
unfolding stored_within is_exact_at stored_at
minus_one_in_a_byte = refl

one_in_a_byte : stored_in (record { signed = true; word = 8; fraction = pos 7 }) (whole (pos 1)) ≡ None
unfolding stored_within is_exact_at stored_at
one_in_a_byte = refl

exponent_400 : whole_within (negsuc 399) (pos 400) (times_two_to (pos 25) (pos 4)) ≡ Some (pos 400)
unfolding stored_within is_exact_at stored_at
exponent_400 = refl

exponent_401 : whole_within (negsuc 399) (pos 400) (whole (pos 401)) ≡ None
unfolding stored_within is_exact_at stored_at
exponent_401 = refl
