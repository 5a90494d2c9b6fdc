-- Types that operations make are within the limits.
use Rattle.std.proofs.Common.{◌≡◌, refl, ◌∙◌, subst, ℕ, Bool, true, false, List, length}
use Rattle.std.specs.Prelude.{ℤ, map}
use Rattle.std.specs.List.{AllByRecursion}
use Rattle.std.proofs.lemmas.List.{length-map}
use Rattle.std.proofs.lemmas.Bool.{cond_both}
use Rattle.num_type.specs.Constants.{Exact}
use Rattle.num_type.specs.Types.{NumericType, IsWithin, IsInRange, word_limit}
use Rattle.fi_math.specs.declared.fimath.Fimath.{Fimath}
use Rattle.fi_math.specs.Full.{full_product, full_sum, full_difference, full_sum_of}
use Rattle.fi_math.specs.Made.{Made, Is, Wide, Out, limited, and_then}
use Rattle.fi_math.specs.Rules.{mode_type, product_by, sum_by, product_made, add_made, sub_made, stepped, sum_made, complex_product_made}
use Rattle.fi_math.proofs.Inside.{limited_is}
use Rattle.const_rules.specs.Stored.{stored_in}
use Rattle.const_rules.proofs.Stored.{stored_in_is}
use Rattle.fi_rules.specs.declared.work.Work.{Work}
use Rattle.fi_rules.specs.declared.work.Work.TheVariants as work
use Rattle.fi_rules.specs.Pairs.{work_made, beside_type}
use Rattle.fi_values.specs.Arithmetic.{is_arithmetic, result_made}
use Rattle.fi_values.specs.Numbers.{stored_beside}
use Rattle.fi_values.specs.Sums.{made}
use Rattle.fi_values.proofs.Each.{each_map}
use Rattle.fi_values.proofs.Holds.{Holds, holds, empty, holds_all, holds_found, holds_weaker}

-- this holds of a type that was made
pub data Makes (P : NumericType → Type 0) : Made → Type 0 where
  makes : (t : NumericType) → P t → Makes P (Is t)
  too_wide : (w : ℕ) → Makes P (Wide w)
  too_far : (f : ℤ) → Makes P (Out f)

pub holds_made : {P : NumericType → Type 0} {x : Made} → Makes P x → Holds P (made x)
unfolding made
holds_made (makes t p) = holds t p
holds_made (too_wide w) = empty
holds_made (too_far f) = empty

makes_then : {P Q : NumericType → Type 0} {x : Made} {next : NumericType → Made} → Makes P x → ((t : NumericType) → P t → Makes Q (next t)) → Makes Q (and_then x next)
unfolding and_then
makes_then (makes t p) each = each t p
makes_then (too_wide w) each = too_wide w
makes_then (too_far f) each = too_far f

-- the type itself, within the limits
pub limited_type : (t : NumericType) → Makes (λ u. (t ≡ u) × IsWithin u) (limited 64 t)
limited_type t = of (limited 64 t) refl
  where
    of : (x : Made) → limited 64 t ≡ x → Makes (λ u. (t ≡ u) × IsWithin u) x
    of (Is u) e =
        let i = limited_is 64 t u e in
        makes u (i.same, subst IsWithin i.same (record { one_bit = i.one_bit; bits = i.bits; least = i.least; most = i.most }))
    of (Wide w) e = too_wide w
    of (Out f) e = too_far f

pub within : (t : NumericType) → Makes IsWithin (limited 64 t)
within t = of (limited 64 t) (limited_type t)
  where
    of : (x : Made) → Makes (λ u. (t ≡ u) × IsWithin u) x → Makes IsWithin x
    of x (makes u p) = makes u p.1
    of x (too_wide w) = too_wide w
    of x (too_far f) = too_far f

product_by_within : (m : Fimath) (t : NumericType) → Makes IsWithin (product_by m t)
unfolding product_by
product_by_within m t = within (mode_type m.product_mode m.product_word m.product_fraction t)

sum_by_within : (m : Fimath) (t : NumericType) → Makes IsWithin (sum_by m t)
unfolding sum_by
sum_by_within m t = within (mode_type m.sum_mode m.sum_word m.sum_fraction t)

product_within : (m : Fimath) (a b : NumericType) → Makes IsWithin (product_made m a b)
unfolding product_made
product_within m a b = makes_then (within (full_product a b)) (λ t h. product_by_within m t)

add_within : (m : Fimath) (a b : NumericType) → Makes IsWithin (add_made m a b)
unfolding add_made
add_within m a b = makes_then (within (full_sum a b)) (λ t h. sum_by_within m t)

sub_within : (m : Fimath) (a b : NumericType) → Makes IsWithin (sub_made m a b)
unfolding sub_made
sub_within m a b = makes_then (within (full_difference a b)) (λ t h. sum_by_within m t)

stepped_within : (m : Fimath) (a t : NumericType) → IsWithin t → Makes IsWithin (stepped m a t)
unfolding stepped
stepped_within m a t h =
    cond_both m.cast_before_sum (Is t) (and_then (limited word_limit (full_sum t a)) (λ _. Is t)) (Makes IsWithin)
    (λ e. makes t h) (λ e. makes_then (within (full_sum t a)) (λ u k. makes t h))

pub sum_within : (m : Fimath) (a : NumericType) (n : ℕ) → Makes IsWithin (sum_made m a n)
unfolding sum_made
sum_within m a n = makes_then (makes_then (within (full_sum_of n a)) (λ t h. sum_by_within m t)) (λ t h. stepped_within m a t h)

complex_product_within : (m : Fimath) (a b : NumericType) → Makes IsWithin (complex_product_made m a b)
unfolding complex_product_made
complex_product_within m a b = makes_then (product_within m a b) (λ p h. add_within m p p)

work_within : (w : Work) (m : Fimath) (a b : NumericType) → is_arithmetic w ≡ true → Makes IsWithin (work_made w m a b)
unfolding work_made is_arithmetic
work_within work.Sum m a b e = add_within m a b
work_within work.Difference m a b e = sub_within m a b
work_within work.Product m a b e = product_within m a b
work_within work.Power m a b e = absurd (cc)
work_within work.Division m a b e = absurd (cc)
work_within work.Later m a b e = absurd (cc)

-- the type of a result
pub result_within : (w : Work) (both : Bool) (m : Fimath) (a b : NumericType) → is_arithmetic w ≡ true → Makes IsWithin (result_made w both m a b)
unfolding result_made
result_within work.Product true m a b e = complex_product_within m a b
result_within work.Product false m a b e = work_within work.Product m a b e
result_within work.Sum both m a b e = work_within work.Sum m a b e
result_within work.Difference both m a b e = work_within work.Difference m a b e
result_within work.Power both m a b e = work_within work.Power m a b e
result_within work.Division both m a b e = work_within work.Division m a b e
result_within work.Later both m a b e = work_within work.Later m a b e

-- ---- constants beside a fi

pub stored_range : (t : NumericType) (c : Exact) → Holds (IsInRange t) (stored_in t c)
stored_range t c = holds_found (stored_in t c) (λ z e. ((stored_in_is t c z).0 e).1)

pub stored_all : (t : NumericType) (cs : List Exact) → Holds (λ zs. (length zs ≡ length cs) × AllByRecursion (IsInRange (beside_type t cs)) zs) (stored_beside t cs)
stored_all t cs =
    holds_weaker (holds_all (IsInRange (beside_type t cs)) (map (stored_in (beside_type t cs)) cs) (each_map (Holds (IsInRange (beside_type t cs))) (stored_in (beside_type t cs)) (stored_range (beside_type t cs)) cs))
    (λ zs h. (h.0 ∙ length-map cs (stored_in (beside_type t cs)), h.1))
