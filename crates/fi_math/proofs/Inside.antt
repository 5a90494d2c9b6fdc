-- What a type that was made says of the limits.
use Rattle.std.proofs.Common.{ℕ, ℤ, ◌≡◌, refl, sym, ◌∙◌, ◌≤◌, Bool, true, false, arith}
use Rattle.std.specs.Prelude.{◌≤ℤ◌, nat_lt, int_lt, ◌||◌, if◌then◌else◌}
use Rattle.std.proofs.lemmas.Int.{ints}
use Rattle.std.proofs.lemmas.Bool.{ltb-false, or_parts, cond-false}
use Rattle.num_type.specs.Types.{NumericType, fraction_least, fraction_most, word_limit}
use Rattle.fi_math.specs.declared.fimath.Fimath.{Fimath}
use Rattle.fi_math.specs.declared.fimath.Mode.{Mode}
use Rattle.fi_math.specs.declared.fimath.Mode.TheVariants.{FullPrecision}
use Rattle.fi_math.specs.Full.{product_limit, full_product, full_sum, full_difference}
use Rattle.fi_math.specs.Made.{Made, Is, Wide, Out, limited, and_then}
use Rattle.fi_math.specs.Rules.{mode_type, stepped, product_by, sum_by, product_made, add_made, sub_made}

-- a type within the limits, and the type that was asked for
pub record IsInside (limit : ℕ) (t made : NumericType) : Type 0 where
  pub same : t ≡ made
  pub one_bit : 1 ≤ t.word
  pub bits : t.word ≤ limit
  pub least : fraction_least ≤ℤ t.fraction
  pub most : t.fraction ≤ℤ fraction_most

record Chosen (b c : Bool) (t made : NumericType) : Type 0 where
  first : b ≡ false
  second : c ≡ false
  same : t ≡ made

chosen : (b c : Bool) (w : ℕ) (f : ℤ) (t made : NumericType) → (if b then Wide w else (if c then Out f else Is t)) ≡ Is made → Chosen b c t made
chosen true c w f t made e = cc
chosen false true w f t made e = cc
chosen false false w f t made e = record { first = refl; second = refl; same = cc }

int_above : (a b : ℤ) → int_lt a b ≡ false → b ≤ℤ a
int_above a b h = grind (arith, ints)

pub limited_is : (limit : ℕ) (t made : NumericType) → limited limit t ≡ Is made → IsInside limit t made
unfolding limited
limited_is limit t made e =
    let c = chosen (nat_lt t.word 1 || nat_lt limit t.word) (int_lt t.fraction fraction_least || int_lt fraction_most t.fraction) t.word t.fraction t made e in
    let p = or_parts (nat_lt t.word 1) (nat_lt limit t.word) c.first in
    let q = or_parts (int_lt t.fraction fraction_least) (int_lt fraction_most t.fraction) c.second in
    record {
      same = c.same;
      one_bit = ltb-false t.word 1 p.0;
      bits = ltb-false limit t.word p.1;
      least = int_above t.fraction fraction_least q.0;
      most = int_above fraction_most t.fraction q.1;
    }

-- where a type comes out, there was a first one
pub first_is : (x : Made) (next : NumericType → Made) (made : NumericType) → and_then x next ≡ Is made → (first : NumericType) × (x ≡ Is first) × (next first ≡ Is made)
unfolding and_then
first_is (Is t) next made e = (t, refl, e)
first_is (Wide w) next made e = cc
first_is (Out f) next made e = cc

-- the full type of a product that has a type
pub product_inside : (m : Fimath) (a b made : NumericType) → product_made m a b ≡ Is made → IsInside product_limit (full_product a b) (full_product a b)
unfolding product_made
product_inside m a b made e =
    let f = first_is (limited product_limit (full_product a b)) (product_by m) made e in
    let i = limited_is product_limit (full_product a b) f.0 f.1 in
    record { same = refl; one_bit = i.one_bit; bits = i.bits; least = i.least; most = i.most }

-- that of a sum
pub sum_inside : (m : Fimath) (a b made : NumericType) → add_made m a b ≡ Is made → IsInside word_limit (full_sum a b) (full_sum a b)
unfolding add_made
sum_inside m a b made e =
    let f = first_is (limited word_limit (full_sum a b)) (sum_by m) made e in
    let i = limited_is word_limit (full_sum a b) f.0 f.1 in
    record { same = refl; one_bit = i.one_bit; bits = i.bits; least = i.least; most = i.most }

-- that of a difference
pub difference_inside : (m : Fimath) (a b made : NumericType) → sub_made m a b ≡ Is made → IsInside word_limit (full_difference a b) (full_difference a b)
unfolding sub_made
difference_inside m a b made e =
    let f = first_is (limited word_limit (full_difference a b)) (sum_by m) made e in
    let i = limited_is word_limit (full_difference a b) f.0 f.1 in
    record { same = refl; one_bit = i.one_bit; bits = i.bits; least = i.least; most = i.most }

-- that of a step of a sum, without CastBeforeSum
pub step_inside : (m : Fimath) (a t made : NumericType) → m.cast_before_sum ≡ false → stepped m a t ≡ Is made → IsInside word_limit (full_sum t a) (full_sum t a)
unfolding stepped
step_inside m a t made c e =
    let f = first_is (limited word_limit (full_sum t a)) (λ _. Is t) made (sym (cond-false m.cast_before_sum (Is t) (and_then (limited word_limit (full_sum t a)) (λ _. Is t)) c) ∙ e) in
    let i = limited_is word_limit (full_sum t a) f.0 f.1 in
    record { same = refl; one_bit = i.one_bit; bits = i.bits; least = i.least; most = i.most }

-- ---- FullPrecision

full_mode : (mode : Mode) (w : ℕ) (f : ℤ) (t : NumericType) → mode ≡ FullPrecision → mode_type mode w f t ≡ t
unfolding mode_type
full_mode mode w f t e = rw e refl

-- under FullPrecision the type of a product is the full one
pub product_full : (m : Fimath) (a b made : NumericType) → m.product_mode ≡ FullPrecision → product_made m a b ≡ Is made → made ≡ full_product a b
unfolding product_made product_by
product_full m a b made h e =
    let f = first_is (limited product_limit (full_product a b)) (product_by m) made e in
    let i = limited_is product_limit (full_product a b) f.0 f.1 in
    let j = limited_is word_limit (mode_type m.product_mode m.product_word m.product_fraction f.0) made f.2 in
    sym (i.same ∙ sym (full_mode m.product_mode m.product_word m.product_fraction f.0 h) ∙ j.same)

-- so is that of a sum
pub sum_full : (m : Fimath) (a b made : NumericType) → m.sum_mode ≡ FullPrecision → add_made m a b ≡ Is made → made ≡ full_sum a b
unfolding add_made sum_by
sum_full m a b made h e =
    let f = first_is (limited word_limit (full_sum a b)) (sum_by m) made e in
    let i = limited_is word_limit (full_sum a b) f.0 f.1 in
    let j = limited_is word_limit (mode_type m.sum_mode m.sum_word m.sum_fraction f.0) made f.2 in
    sym (i.same ∙ sym (full_mode m.sum_mode m.sum_word m.sum_fraction f.0 h) ∙ j.same)

-- and that of a difference
pub difference_full : (m : Fimath) (a b made : NumericType) → m.sum_mode ≡ FullPrecision → sub_made m a b ≡ Is made → made ≡ full_difference a b
unfolding sub_made sum_by
difference_full m a b made h e =
    let f = first_is (limited word_limit (full_difference a b)) (sum_by m) made e in
    let i = limited_is word_limit (full_difference a b) f.0 f.1 in
    let j = limited_is word_limit (mode_type m.sum_mode m.sum_word m.sum_fraction f.0) made f.2 in
    sym (i.same ∙ sym (full_mode m.sum_mode m.sum_word m.sum_fraction f.0 h) ∙ j.same)
