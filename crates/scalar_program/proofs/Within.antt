-- The types of results are within the limits.
use Rattle.std.proofs.Common.{◌≡◌, ℕ, ◌≤◌, Bool, true, false, ◌||◌, ◌≤ℤ◌, refl, sym, subst, arith, nat_lt, if◌then◌else◌}
use Rattle.std.specs.Prelude.{int_lt}
use Rattle.std.proofs.lemmas.Int.{ints}
use Rattle.num_type.specs.Types.{NumericType, IsWithin, fraction_least, fraction_most}
use Rattle.fi_math.specs.declared.fimath.Fimath.{Fimath}
use Rattle.fi_math.specs.Full.{full_product, full_sum, full_difference, product_limit}
use Rattle.fi_math.specs.Made.{Made, Is, Wide, Out, limited}
use Rattle.fi_math.specs.Made as made
use Rattle.fi_math.specs.Rules.{mode_type, product_by, sum_by, product_made, add_made, sub_made}
use Rattle.fi_rules.specs.declared.work.Work.{Work}
use Rattle.fi_rules.specs.declared.work.Work.TheVariants as work
use Rattle.fi_rules.specs.Pairs.{work_made}
use Rattle.lower_scalar.specs.Part.{Part}
use Rattle.scalar_program.specs.Lowered.{Operand, Operates}

-- ---- the types

or_false : (a b : Bool) → (a || b) ≡ false → (a ≡ false) × (b ≡ false)
or_false true b e = absurd (cc)
or_false false b e = (refl, e)

-- a type within a limit
pub limited_is : (limit : ℕ) (x t : NumericType) → limited limit x ≡ Is t → (t ≡ x) × (1 ≤ x.word) × (x.word ≤ limit) × (fraction_least ≤ℤ x.fraction) × (x.fraction ≤ℤ fraction_most)
unfolding limited
limited_is limit x t e = by (nat_lt x.word 1 || nat_lt limit x.word) (int_lt x.fraction fraction_least || int_lt fraction_most x.fraction) refl refl e
  where
    by : (wide out : Bool) → (nat_lt x.word 1 || nat_lt limit x.word) ≡ wide → (int_lt x.fraction fraction_least || int_lt fraction_most x.fraction) ≡ out → (if wide then Wide x.word else (if out then Out x.fraction else Is x)) ≡ Is t → (t ≡ x) × (1 ≤ x.word) × (x.word ≤ limit) × (fraction_least ≤ℤ x.fraction) × (x.fraction ≤ℤ fraction_most)
    by true out p q e = absurd (cc)
    by false true p q e = absurd (cc)
    by false false p q e =
        let w = or_false (nat_lt x.word 1) (nat_lt limit x.word) p in
        let f = or_false (int_lt x.fraction fraction_least) (int_lt fraction_most x.fraction) q in
        (let k : t ≡ x = cc in k, grind (arith, w.0), grind (arith, w.1), grind (arith, ints, f.0), grind (arith, ints, f.1))

pub limited_same : (x t : NumericType) → limited 64 x ≡ Is t → t ≡ x
limited_same x t e = (limited_is 64 x t e).0

pub limited_within : (x t : NumericType) → limited 64 x ≡ Is t → IsWithin t
limited_within x t e =
    let h = limited_is 64 x t e in
    subst IsWithin (sym h.0) (record { one_bit = h.1; bits = h.2; least = h.3; most = h.4 })

-- the second of two types
second_is : (m : Made) (f : NumericType → Made) (t : NumericType) → made.and_then m f ≡ Is t → (x : NumericType) × (f x ≡ Is t)
unfolding made.and_then
second_is (Is x) f t e = (x, e)
second_is (Wide w) f t e = absurd (cc)
second_is (Out f) g t e = absurd (cc)

-- the type of a result that is computed at run time is within the limits
pub operated_within : (w : Work) (m : Fimath) (a b t : NumericType) (x y : Operand) (fresh : ℕ) (p : Part) → Operates w m t x y fresh p → work_made w m a b ≡ Is t → IsWithin t
unfolding Operates work_made add_made sub_made product_made sum_by product_by
operated_within work.Sum m a b t x y fresh p h e = let s = second_is (limited 64 (full_sum a b)) (sum_by m) t e in limited_within (mode_type m.sum_mode m.sum_word m.sum_fraction s.0) t s.1
operated_within work.Difference m a b t x y fresh p h e = let s = second_is (limited 64 (full_difference a b)) (sum_by m) t e in limited_within (mode_type m.sum_mode m.sum_word m.sum_fraction s.0) t s.1
operated_within work.Product m a b t x y fresh p h e = let s = second_is (limited product_limit (full_product a b)) (product_by m) t e in limited_within (mode_type m.product_mode m.product_word m.product_fraction s.0) t s.1
operated_within work.Power m a b t x y fresh p h e = absurd h
operated_within work.Division m a b t x y fresh p h e = absurd h
operated_within work.Later m a b t x y fresh p h e = absurd h
