-- Joined shapes and lists, ranges, and queries.
use Rattle.std.proofs.Common.{◌≡◌, ◌⊎◌, ◌↔◌, inl, inr, ℕ, zero, suc, ◌+◌, ◌-◌, ◌*◌, ◌/◌, ◌<◌, ◌≤◌, Bool, true, false, cond, List, [], ◌∷◌, ◌++◌, map, length, refl, sym, ap, ◌∙◌, subst, arith, length-append}
use Rattle.std.specs.Prelude.{ℤ, pos, negsuc, neg_ℤ, ◌+ℤ◌, ◌-ℤ◌, ◌*ℤ◌, ◌≤ℤ◌, ◌<ℤ◌, nat_abs, int_le, nat_eq, nat_lt, nat_le, ◌&&◌, ◌^◌, Option, Some, None, IsSome, IfSome, All}
use Rattle.std.specs.Ordering.{int_eq}
use Rattle.std.specs.Option.{ForSome}
use Rattle.std.proofs.lemmas.Bool.Decides.{nat_tests, Decides-eqb, Decides-int_eq}
use Rattle.std.proofs.lemmas.Int.{ints, clamps}
use Rattle.std.proofs.lemmas.List.{length-map, map-append}
use Rattle.std.proofs.lemmas.List.Elements.{All-append, All-map, All-same}
use Rattle.std.proofs.Math.Nat.{mul_comm}
use mathlib.Core.Bool.{beq}
use Rattle.std.specs.Global.{Vec}
use Rattle.num_type.specs.Constants.{Exact}
use Rattle.num_type.specs.View.{exact_of, type_of}
use Rattle.num_type.specs.declared.dyadic.Dyadic.{Dyadic}
use Rattle.fi_math.specs.declared.fimath.Fimath.{Fimath}
use Rattle.num_type.specs.Types.{NumericType, IsInRange}
use Rattle.shape_rules.specs.declared.shape.Shape as code_shape
use Rattle.shape_rules.specs.Shapes.{IsShape}
use Rattle.shape_rules.specs.Places.{IsItem, IsBound}
use Rattle.shape_rules.proofs.Ranges.{counts, items_up, items_down, none_up, none_down, no_step}
use Rattle.fi_rules.specs.Options.{and_then, where_so}
use Rattle.fi_rules.specs.Types.{same_type, same_shape}
use Rattle.fi_rules.specs.Value.{Shape, is_scalar, Val, Fi, ComplexFi, Logical, Number, ComplexNumber, Words, MathObject, TypeObject}
use Rattle.fi_values.specs.Brackets.{Join, Beside, Above, joined, lists, shape_by}
use Rattle.fi_values.specs.Elements.{below, count_from, picked}
use Rattle.fi_values.specs.Numbers.{constant, bound_of}
use Rattle.fi_values.specs.Ranges.{item_count, items, items_of, ranged}
use Rattle.fi_values.specs.Shapes.{common, is_small}
use Rattle.fi_values.specs.Queries.{complex_of, extent_along, filled}
use Rattle.eval_value.specs.View.{shape_view, fi_view, logical_view, number_view, value_view}
use Rattle.eval_value.specs.declared.fi_value.FiValue.{FiValue}
use Rattle.eval_value.specs.declared.logical_value.LogicalValue.{LogicalValue}
use Rattle.eval_value.specs.declared.number_value.NumberValue.{NumberValue}
use Rattle.eval_value.specs.declared.value.Value.{Value}
use Rattle.eval_value.specs.declared.value.Value.TheVariants as value
use Rattle.eval_array.specs.Joints.{IsJoint}
use Rattle.eval_array.specs.Ranged.{items_view}
use Rattle.eval_array.specs.Views.{shape_answer}
use Rattle.eval_array.specs.declared.items.Items.{Items}
use Rattle.eval_array.proofs.Bounds.{nothing_there, it_is_there}
use Rattle.eval_array.proofs.Counts.{constant_map, length_below, map_more, step}
use Rattle.eval_array.proofs.Selected.{scalar_count}
use Rattle.eval_array.proofs.Elements.{All_picked, All_stacked, length_stacked}

-- ---- 0 in range

pub zero_in_range : (t : NumericType) → IsInRange t (pos 0)
zero_in_range t = by t.signed t.word
  where
    by : (s : Bool) (w : ℕ) → IsInRange (record { signed = s; word = w; fraction = t.fraction }) (pos 0)
    by true w = record { least = omega (arith, ints); most = omega (arith, ints) }
    by false w = record { least = omega (arith, ints); most = omega (arith, ints) }

-- ---- small shapes

pub small_made : (r : Option code_shape.Shape) (rows columns : ℕ) → 1 ≤ rows → 1 ≤ columns → (IsSome r ↔ IsShape rows columns) → IfSome r (λ s. s.rows ≡ rows) → IfSome r (λ s. s.cols ≡ columns) → shape_answer r ≡ where_so (is_small (record { rows = rows; columns = columns })) (record { rows = rows; columns = columns })
small_made (Some s) rows columns a b h p q =
    (λ i. Some (record { rows = p i; columns = q i }))
    ∙ it_is_there (is_small (record { rows = rows; columns = columns })) (record { rows = rows; columns = columns }) (let few : rows * columns ≤ 4096 = (h.0 refl).few in grind (arith, nat_tests))
small_made None rows columns a b h p q =
    nothing_there (is_small (record { rows = rows; columns = columns })) (record { rows = rows; columns = columns }) (by (nat_le (rows * columns) 4096) refl)
  where
    by : (c : Bool) → nat_le (rows * columns) 4096 ≡ c → nat_le (rows * columns) 4096 ≡ false
    by true e = absurd (never (h.1 (record { a_row = a; a_column = b; few = grind (arith, nat_tests) })))
      where
        never : false ≡ true → ⊥
        never e = cc
    by false e = e

-- ---- joined shapes

nothing : {A : Type 0} (x : A) → Some x ≡ None → ⊥
nothing x e = cc

same_some : {A : Type 0} (x y : A) → Some x ≡ Some y → x ≡ y
same_some x y e = cc

made_shape : (b : Bool) (r q : Shape) → Some q ≡ and_then (where_so b r) (λ r. where_so (is_small r) r) → (b ≡ true) × (q ≡ r)
unfolding and_then where_so
made_shape false r q e = absurd (nothing q e)
made_shape true r q e = (refl, by (is_small r) e)
  where
    by : (c : Bool) → Some q ≡ where_so c r → q ≡ r
    by true f = same_some q r f
    by false f = absurd (nothing q f)

pub joint_of : (j : Join) (s t q : Shape) → Some q ≡ shape_by j s t → IsJoint j s t
joint_of Beside s t q e = (Decides-eqb s.rows t.rows).0 (made_shape (nat_eq s.rows t.rows) (record { rows = s.rows; columns = s.columns + t.columns }) q e).0
joint_of Above s t q e = (Decides-eqb s.columns t.columns).0 (made_shape (nat_eq s.columns t.columns) (record { rows = s.rows + t.rows; columns = s.columns }) q e).0

pub length_lists : {X : Type 0} (j : Join) (s t q : Shape) (xs ys : List X) → Some q ≡ shape_by j s t → length xs ≡ s.rows * s.columns → length ys ≡ t.rows * t.columns → length (lists j s t xs ys) ≡ q.rows * q.columns
length_lists Beside s t q xs ys e f g =
    let m = made_shape (nat_eq s.rows t.rows) (record { rows = s.rows; columns = s.columns + t.columns }) q e in
    let h : s.rows ≡ t.rows = (Decides-eqb s.rows t.rows).0 m.0 in
    let a : length (xs ++ ys) ≡ length xs + length ys = length-append xs ys in
    let b : t.rows * t.columns ≡ s.rows * t.columns = ap (λ n. n * t.columns) (sym h) in
    let c : s.rows * s.columns + s.rows * t.columns ≡ s.rows * (s.columns + t.columns) = omega arith in
    let d : q.rows * q.columns ≡ s.rows * (s.columns + t.columns) = ap (λ (r : Shape). r.rows * r.columns) m.1 in
    omega (arith, a, b, c, d, f, g)
length_lists Above s t q xs ys e f g =
    let m = made_shape (nat_eq s.columns t.columns) (record { rows = s.rows + t.rows; columns = s.columns }) q e in
    let h : s.columns ≡ t.columns = (Decides-eqb s.columns t.columns).0 m.0 in
    let a : length xs ≡ s.columns * s.rows = f ∙ mul_comm s.rows s.columns in
    let b : length ys ≡ s.columns * t.rows = g ∙ mul_comm t.rows t.columns ∙ ap (λ n. n * t.rows) (sym h) in
    let d : q.rows * q.columns ≡ (s.rows + t.rows) * s.columns = ap (λ (r : Shape). r.rows * r.columns) m.1 in
    length_stacked s.columns s.rows t.rows xs ys a b ∙ mul_comm s.columns (s.rows + t.rows) ∙ sym d

pub All_lists : {X : Type 0} (P : X → Type 0) (j : Join) (s t : Shape) (xs ys : List X) → All P xs → All P ys → All P (lists j s t xs ys)
All_lists P Beside s t xs ys h g = All-append P xs ys h g
All_lists P Above s t xs ys h g = All_stacked P s.columns s.rows t.rows xs ys h g

-- ---- types

same_sign : (a b : Bool) → beq a b ≡ true → a ≡ b
same_sign true true e = refl
same_sign false false e = refl
same_sign true false e = sym e
same_sign false true e = e

pub both_true : (a b : Bool) → (a && b) ≡ true → (a ≡ true) × (b ≡ true)
both_true true b e = (refl, e)
both_true false b e = absurd (never e)
  where
    never : false ≡ true → ⊥
    never g = cc

pub same_types : (a b : NumericType) → same_type a b ≡ true → a ≡ b
same_types a b e =
    let h = both_true (beq a.signed b.signed && nat_eq a.word b.word) (int_eq a.fraction b.fraction) e in
    let g = both_true (beq a.signed b.signed) (nat_eq a.word b.word) h.0 in
    let p : a.signed ≡ b.signed = same_sign a.signed b.signed g.0 in
    let q : a.word ≡ b.word = (Decides-eqb a.word b.word).0 g.1 in
    let r : a.fraction ≡ b.fraction = (Decides-int_eq a.fraction b.fraction).0 h.1 in
    λ i. record { signed = p i; word = q i; fraction = r i }

-- ---- ranges

counted_up : (first last : ℤ) (n k : ℕ) → (k < item_count first (pos (suc n)) last) ↔ IsItem first (pos (suc n)) last k
counted_up first last n k = by (int_le first last) refl
  where
    by : (b : Bool) → int_le first last ≡ b → (k < cond b (suc (nat_abs (last -ℤ first) / suc n)) 0) ↔ IsItem first (pos (suc n)) last k
    by true e =
        let l : first ≤ℤ last = grind (arith, ints) in
        let g : ℕ = nat_abs (last -ℤ first) in
        let f : last ≡ first +ℤ pos g = omega (arith, ints, clamps, l) in
        let c = counts g (suc n) k (omega arith) in
        let i = items_up first (pos (suc n)) last g (suc n) k (omega (arith, ints)) f (omega (arith, ints)) in
        (λ a. i.0 (c.0 (omega (arith, a))), λ a. omega (arith, c.1 (i.1 a)))
    by false e = let l : last <ℤ first = grind (arith, ints) in none_up first (pos (suc n)) last k (omega (arith, ints)) l

counted_down : (first last : ℤ) (n k : ℕ) → (k < item_count first (negsuc n) last) ↔ IsItem first (negsuc n) last k
counted_down first last n k = by (int_le last first) refl
  where
    by : (b : Bool) → int_le last first ≡ b → (k < cond b (suc (nat_abs (first -ℤ last) / suc n)) 0) ↔ IsItem first (negsuc n) last k
    by true e =
        let l : last ≤ℤ first = grind (arith, ints) in
        let g : ℕ = nat_abs (first -ℤ last) in
        let f : first ≡ last +ℤ pos g = omega (arith, ints, clamps, l) in
        let c = counts g (suc n) k (omega arith) in
        let i = items_down first (negsuc n) last g (suc n) k (omega (arith, ints)) f (omega (arith, ints)) in
        (λ a. i.0 (c.0 (omega (arith, a))), λ a. omega (arith, c.1 (i.1 a)))
    by false e = let l : first <ℤ last = grind (arith, ints) in none_down first (negsuc n) last k (omega (arith, ints)) l

counted : (first step last : ℤ) (k : ℕ) → (k < item_count first step last) ↔ IsItem first step last k
counted first (pos zero) last k = no_step first (pos zero) last k refl
counted first (pos (suc n)) last k = counted_up first last n k
counted first (negsuc n) last k = counted_down first last n k

pub count_is : (first step last : ℤ) (m : ℕ) → ((k : ℕ) → (k < m) ↔ IsItem first step last k) → m ≡ item_count first step last
count_is first step last m h =
    same m (item_count first step last) (λ k l. (counted first step last k).1 ((h k).0 l)) (λ k l. (h k).1 ((counted first step last k).0 l))
  where
    same : (n o : ℕ) → ((k : ℕ) → k < n → k < o) → ((k : ℕ) → k < o → k < n) → n ≡ o
    same zero zero f g = refl
    same zero (suc o) f g = absurd (omega (arith, g 0 (omega arith)))
    same (suc n) zero f g = absurd (omega (arith, f 0 (omega arith)))
    same (suc n) (suc o) f g = omega (arith, f n (omega arith), g o (omega arith))

pub items_are : (first step last : ℤ) (m : ℕ) → ((k : ℕ) → (k < m) ↔ IsItem first step last k) → map (λ k. first +ℤ step *ℤ pos k) (below m) ≡ items first step last
items_are first step last m h = ap (λ n. map (λ k. first +ℤ step *ℤ pos k) (below n)) (count_is first step last m h)

pub item_bound : (first step last : ℤ) (k : ℕ) → IsBound first → IsBound last → IsItem first step last k → IsBound (first +ℤ step *ℤ pos k)
item_bound first (pos s) last k a b (inl h) =
    let is : pos s *ℤ pos k ≡ pos (s * k) = refl in
    record { least = omega (arith, ints, is, a.least); most = omega (arith, ints, h.1, b.most) }
item_bound first (pos s) last k a b (inr h) = absurd (omega (arith, ints, h.0))
item_bound first (negsuc s) last k a b (inl h) = absurd (omega (arith, ints, h.0))
item_bound first (negsuc s) last k a b (inr h) =
    let is : negsuc s *ℤ pos k ≡ neg_ℤ (pos (suc s * k)) = refl in
    record { least = omega (arith, ints, h.1, b.least); most = omega (arith, ints, is, a.most) }

few_of : (first last : ℤ) (g n : ℕ) → g < 2 ^ 32 → suc (g / suc n) ≤ 2 ^ 32
few_of first last g n h = let c : 2 ^ 32 < g / suc n + 1 → 2 ^ 32 * suc n ≤ g = (counts g (suc n) (2 ^ 32) (omega arith)).0 in omega (arith, c, h)

few_items : (first step last : ℤ) → IsBound first → IsBound last → item_count first step last ≤ 2 ^ 32
few_items first (pos zero) last a b = omega arith
few_items first (pos (suc n)) last a b = by (int_le first last)
  where
    by : (c : Bool) → cond c (suc (nat_abs (last -ℤ first) / suc n)) 0 ≤ 2 ^ 32
    by true = few_of first last (nat_abs (last -ℤ first)) n (omega (arith, ints, clamps, a.least, a.most, b.least, b.most))
    by false = omega arith
few_items first (negsuc n) last a b = by (int_le last first)
  where
    by : (c : Bool) → cond c (suc (nat_abs (first -ℤ last) / suc n)) 0 ≤ 2 ^ 32
    by true = few_of first last (nat_abs (first -ℤ last)) n (omega (arith, ints, clamps, a.least, a.most, b.least, b.most))
    by false = omega arith

pub few_counted : (first step last : ℤ) (m : ℕ) → IsBound first → IsBound last → ((k : ℕ) → (k < m) ↔ IsItem first step last k) → m ≤ 2 ^ 32
few_counted first step last m a b h = omega (arith, count_is first step last m h, few_items first step last a b)

-- one more item of a row
pub row_more : (first by : ℤ) (n k : ℕ) (done new : List Dyadic) (d : Dyadic) (whole : List Exact) → k < n → new ≡ done ++ d ∷ [] → exact_of d ≡ constant (first +ℤ by *ℤ pos k) → map exact_of done ++ map constant (map (λ k. first +ℤ by *ℤ pos k) (count_from k (n - k))) ≡ whole → map exact_of new ++ map constant (map (λ k. first +ℤ by *ℤ pos k) (count_from (k + 1) (n - (k + 1)))) ≡ whole
row_more first by n k done new d whole l e f h =
    let f_of : ℕ → ℤ = λ k. first +ℤ by *ℤ pos k in
    let rest : List Exact = map constant (map f_of (count_from (k + 1) (n - (k + 1)))) in
    ap (λ ds. map exact_of ds ++ rest) e
    ∙ ap (λ ds. ds ++ rest) (map-append exact_of done (d ∷ []))
    ∙ step (map exact_of done) (map constant (map f_of (count_from k (n - k)))) rest whole (exact_of d) (ap (λ zs. map constant zs) (map_more f_of k n l) ∙ ap (λ x. x ∷ rest) (sym f)) h

none_is : {A : Type 0} (x : A) → None ≡ Some x → ⊥
none_is x e = cc

pub ranged_none : (a b c : Val) → None ≡ items_of a b c → None ≡ ranged a b c
unfolding ranged and_then
ranged_none a b c = by (bound_of a) (bound_of b) (bound_of c)
  where
    by : (x s y : Option ℤ) → None ≡ and_then x (λ x. and_then s (λ s. and_then y (λ y. Some (items x s y)))) → None ≡ and_then (and_then x (λ x. and_then s (λ s. and_then y (λ y. Some (item_count x s y))))) (λ n. and_then (where_so (nat_lt 0 n && nat_le n 4096) n) (λ n. and_then (and_then x (λ x. and_then s (λ s. and_then y (λ y. Some (items x s y))))) (λ zs. Some (Number (record { rows = 1; columns = n }) (map constant zs)))))
    by None s y e = refl
    by (Some x) None y e = refl
    by (Some x) (Some s) None e = refl
    by (Some x) (Some s) (Some y) e = absurd (none_is (items x s y) e)

abbrev pub as_row : List ℤ → ℕ → Option Val
as_row zs n = and_then (where_so (nat_lt 0 n && nat_le n 4096) n) (λ n. Some (Number (record { rows = 1; columns = n }) (map constant zs)))

pub ranged_is : (a b c : Val) (zs : List ℤ) → Some zs ≡ items_of a b c → as_row zs (length zs) ≡ ranged a b c
unfolding ranged and_then
ranged_is a b c zs = by (bound_of a) (bound_of b) (bound_of c)
  where
    by : (x s y : Option ℤ) → Some zs ≡ and_then x (λ x. and_then s (λ s. and_then y (λ y. Some (items x s y)))) → as_row zs (length zs) ≡ and_then (and_then x (λ x. and_then s (λ s. and_then y (λ y. Some (item_count x s y))))) (λ n. and_then (where_so (nat_lt 0 n && nat_le n 4096) n) (λ n. and_then (and_then x (λ x. and_then s (λ s. and_then y (λ y. Some (items x s y))))) (λ zs. Some (Number (record { rows = 1; columns = n }) (map constant zs)))))
    by None s y e = absurd (nothing zs e)
    by (Some x) None y e = absurd (nothing zs e)
    by (Some x) (Some s) None e = absurd (nothing zs e)
    by (Some x) (Some s) (Some y) e =
        let f : zs ≡ items x s y = same_some zs (items x s y) e in
        let n : length zs ≡ item_count x s y = ap length f ∙ length-map (below (item_count x s y)) (λ k. x +ℤ s *ℤ pos k) ∙ length_below (item_count x s y) in
        ap (λ us. as_row us (length zs)) f ∙ ap (λ m. as_row (items x s y) m) n

none_in_row : (zs : List ℤ) (n : ℕ) → (n ≡ 0) ⊎ (4096 < n) → None ≡ as_row zs n
unfolding and_then where_so
none_in_row zs n h = ap (λ b. and_then (where_so b n) (λ n. Some (Number (record { rows = 1; columns = n }) (map constant zs)))) (sym (by h))
  where
    by : (n ≡ 0) ⊎ (4096 < n) → (nat_lt 0 n && nat_le n 4096) ≡ false
    by (inl e) = grind (arith, nat_tests)
    by (inr l) = grind (arith, nat_tests)

all_in_row : (zs : List ℤ) (n : ℕ) → 1 ≤ n → n ≤ 4096 → Some (Number (record { rows = 1; columns = n }) (map constant zs)) ≡ as_row zs n
unfolding and_then where_so
all_in_row zs n a b = ap (λ b. and_then (where_so b n) (λ n. Some (Number (record { rows = 1; columns = n }) (map constant zs)))) (sym inside)
  where
    inside : (nat_lt 0 n && nat_le n 4096) ≡ true
    inside = grind (arith, nat_tests)

length_items : (r : Items) → length (items_view r) ≡ r.count
length_items r = length-map (below r.count) (λ k. r.first +ℤ r.step *ℤ pos k) ∙ length_below r.count

pub ranged_empty : (a b c : Val) (r : Items) → Some (items_view r) ≡ items_of a b c → (r.count ≡ 0) ⊎ (4096 < r.count) → None ≡ ranged a b c
ranged_empty a b c r e h =
    none_in_row (items_view r) r.count h ∙ ap (λ n. as_row (items_view r) n) (sym (length_items r)) ∙ ranged_is a b c (items_view r) e

pub ranged_row : (a b c : Val) (r : Items) (v : Val) → Some (items_view r) ≡ items_of a b c → 1 ≤ r.count → r.count ≤ 4096 → v ≡ Number (record { rows = 1; columns = r.count }) (map constant (items_view r)) → Some v ≡ ranged a b c
ranged_row a b c r v e some few f =
    ap (λ (w : Val). Some w) f ∙ all_in_row (items_view r) r.count some few ∙ ap (λ n. as_row (items_view r) n) (sym (length_items r)) ∙ ranged_is a b c (items_view r) e

-- ---- operands of one shape, or one with a single element

pub common_cases : (s t q : Shape) → Some q ≡ common s t → ((s.rows * s.columns ≡ t.rows * t.columns) × (q ≡ s)) ⊎ (((s.rows * s.columns ≡ 1) × (q ≡ t)) ⊎ ((t.rows * t.columns ≡ 1) × (q ≡ s)))
unfolding common
common_cases s t q = by (same_shape s t) refl (is_scalar s) refl (is_scalar t) refl
  where
    by : (a : Bool) → same_shape s t ≡ a → (b : Bool) → is_scalar s ≡ b → (c : Bool) → is_scalar t ≡ c → Some q ≡ cond a (Some s) (cond b (Some t) (cond c (Some s) None)) → ((s.rows * s.columns ≡ t.rows * t.columns) × (q ≡ s)) ⊎ (((s.rows * s.columns ≡ 1) × (q ≡ t)) ⊎ ((t.rows * t.columns ≡ 1) × (q ≡ s)))
    by true e b f c g h =
        let p = both_true (nat_eq s.rows t.rows) (nat_eq s.columns t.columns) e in
        let m : s.rows ≡ t.rows = (Decides-eqb s.rows t.rows).0 p.0 in
        let n : s.columns ≡ t.columns = (Decides-eqb s.columns t.columns).0 p.1 in
        inl (λ i. m i * n i, same_some q s h)
    by false e true f c g h = inr (inl (scalar_count s f, same_some q t h))
    by false e false f true g h = inr (inr (scalar_count t g, same_some q s h))
    by false e false f false g h = absurd (nothing q h)

-- ---- classes that don't fit

abbrev class : Val → ℕ
class (Fi t m s xs) = 0
class (ComplexFi t m s xs ys) = 0
class (Logical s bs) = 1
class (Number s cs) = 2
class (ComplexNumber s xs ys) = 2
class (Words text) = 3
class (MathObject m) = 4
class (TypeObject t) = 5

apart : (j : Join) (v w : Val) → (class v ≡ class w → ⊥) → None ≡ joined j v w
unfolding joined
apart j (Fi t m s xs) (Fi u n r ys) h = absurd (h refl)
apart j (Fi t m s xs) (ComplexFi u n r us vs) h = absurd (h refl)
apart j (ComplexFi t m s xs ys) (Fi u n r us) h = absurd (h refl)
apart j (ComplexFi t m s xs ys) (ComplexFi u n r us vs) h = absurd (h refl)
apart j (Logical s bs) (Logical t cs) h = absurd (h refl)
apart j (Number s xs) (Number t ys) h = absurd (h refl)
apart j (Number s xs) (ComplexNumber t us vs) h = absurd (h refl)
apart j (ComplexNumber s xs ys) (Number t us) h = absurd (h refl)
apart j (ComplexNumber s xs ys) (ComplexNumber t us vs) h = absurd (h refl)
apart j v w h = refl

abbrev pub real_or : NumericType → Option Fimath → Shape → List ℤ → Option (Vec ℤ) → Val
real_or t m s xs None = Fi t m s xs
real_or t m s xs (Some v) = ComplexFi t m s xs v.items

abbrev pub number_or : Shape → List Exact → Option (Vec Dyadic) → Val
number_or s xs None = Number s xs
number_or s xs (Some v) = ComplexNumber s xs (map exact_of v.items)

fi_class_of : (t : NumericType) (m : Option Fimath) (s : Shape) (xs : List ℤ) (o : Option (Vec ℤ)) → class (real_or t m s xs o) ≡ 0
fi_class_of t m s xs None = refl
fi_class_of t m s xs (Some v) = refl

number_class_of : (s : Shape) (xs : List Exact) (o : Option (Vec Dyadic)) → class (number_or s xs o) ≡ 2
number_class_of s xs None = refl
number_class_of s xs (Some v) = refl

fi_class : (a : FiValue) → class (fi_view a) ≡ 0
fi_class a = fi_class_of (type_of a.num) a.math (shape_view a.shape) a.re.items a.im

number_class : (a : NumberValue) → class (number_view a) ≡ 2
number_class a = number_class_of (shape_view a.shape) (map exact_of a.re.items) a.im

-- the class of a value that isn't of these
no_fi : (w : Value) → ((x : FiValue) → w ≡ value.Fi x → ⊥) → class (value_view w) ≡ 0 → ⊥
no_fi (value.Fi x) h e = h x refl
no_fi (value.Logical x) h e = omega (arith, e)
no_fi (value.Number x) h e = omega (arith, e, number_class x)
no_fi (value.Words x) h e = omega (arith, e)
no_fi (value.Math x) h e = omega (arith, e)
no_fi (value.Type x) h e = omega (arith, e)

no_logical : (w : Value) → ((x : LogicalValue) → w ≡ value.Logical x → ⊥) → class (value_view w) ≡ 1 → ⊥
no_logical (value.Logical x) h e = h x refl
no_logical (value.Fi x) h e = omega (arith, e, fi_class x)
no_logical (value.Number x) h e = omega (arith, e, number_class x)
no_logical (value.Words x) h e = omega (arith, e)
no_logical (value.Math x) h e = omega (arith, e)
no_logical (value.Type x) h e = omega (arith, e)

no_number : (w : Value) → ((x : NumberValue) → w ≡ value.Number x → ⊥) → class (value_view w) ≡ 2 → ⊥
no_number (value.Number x) h e = h x refl
no_number (value.Fi x) h e = omega (arith, e, fi_class x)
no_number (value.Logical x) h e = omega (arith, e)
no_number (value.Words x) h e = omega (arith, e)
no_number (value.Math x) h e = omega (arith, e)
no_number (value.Type x) h e = omega (arith, e)

pub fi_alone : (j : Join) (a : FiValue) (w : Value) → ((x : FiValue) → w ≡ value.Fi x → ⊥) → None ≡ joined j (fi_view a) (value_view w)
fi_alone j a w h = apart j (fi_view a) (value_view w) (λ e. no_fi w h (sym e ∙ fi_class a))

pub logical_alone : (j : Join) (a : LogicalValue) (w : Value) → ((x : LogicalValue) → w ≡ value.Logical x → ⊥) → None ≡ joined j (logical_view a) (value_view w)
logical_alone j a w h = apart j (logical_view a) (value_view w) (λ e. no_logical w h (sym e))

pub number_alone : (j : Join) (a : NumberValue) (w : Value) → ((x : NumberValue) → w ≡ value.Number x → ⊥) → None ≡ joined j (number_view a) (value_view w)
number_alone j a w h = apart j (number_view a) (value_view w) (λ e. no_number w h (sym e ∙ number_class a))

complex_apart : (v w : Val) → (class v ≡ 0 → ⊥) → None ≡ complex_of v w
unfolding complex_of
complex_apart (Fi t m s xs) w h = absurd (h refl)
complex_apart v w h = refl

complex_with_apart : (v w : Val) → (class w ≡ 0 → ⊥) → None ≡ complex_of v w
unfolding complex_of
complex_with_apart (Fi t m s xs) (Fi u n r ys) h = absurd (h refl)
complex_with_apart v w h = refl

pub no_complex : (v w : Value) → ((x : FiValue) → v ≡ value.Fi x → ⊥) → None ≡ complex_of (value_view v) (value_view w)
no_complex v w h = complex_apart (value_view v) (value_view w) (no_fi v h)

pub no_complex_with : (a : FiValue) (w : Value) → ((x : FiValue) → w ≡ value.Fi x → ⊥) → None ≡ complex_of (fi_view a) (value_view w)
no_complex_with a w h = complex_with_apart (fi_view a) (value_view w) (no_fi w h)

-- ---- extents

pub extent_one : (d : ℕ) (s : Shape) → d ≡ 1 → Some s.rows ≡ extent_along d s
unfolding extent_along
extent_one d s e = ap (λ n. extent_along n s) (sym e)

pub extent_two : (d : ℕ) (s : Shape) → d ≡ 2 → Some s.columns ≡ extent_along d s
unfolding extent_along
extent_two d s e = ap (λ n. extent_along n s) (sym e)

pub extent_other : (d : ℕ) (s : Shape) → (d ≡ 1 → ⊥) → (d ≡ 2 → ⊥) → None ≡ extent_along d s
unfolding extent_along
extent_other zero s a b = refl
extent_other (suc zero) s a b = absurd (a refl)
extent_other (suc (suc zero)) s a b = absurd (b refl)
extent_other (suc (suc (suc d))) s a b = refl

-- ---- arrays of one number

less_times : (r c : ℕ) → 1 ≤ c → r ≤ r * c
less_times r zero h = absurd (omega (arith, h))
less_times r (suc c) h = omega arith

too_many : (n : ℕ) → 4096 < n → nat_le n 4096 ≡ false
too_many n h = grind (arith, nat_tests)

filled_none : (c : Exact) (s : Shape) → is_small s ≡ false → None ≡ filled c s
unfolding and_then where_so
filled_none c s e = ap (λ b. and_then (where_so b s) (λ s. Some (Number s (map (λ k. c) (below (s.rows * s.columns)))))) (sym e)

pub filled_rows : (c : Exact) (m n : ℕ) → 4096 < m → 1 ≤ n → None ≡ filled c (record { rows = m; columns = n })
filled_rows c m n h some =
    let l : m ≤ m * n = less_times m n some in
    filled_none c (record { rows = m; columns = n }) (too_many (m * n) (omega (arith, l, h)))

pub filled_columns : (c : Exact) (m n : ℕ) → 4096 < n → 1 ≤ m → None ≡ filled c (record { rows = m; columns = n })
filled_columns c m n h some =
    let l : n ≤ n * m = less_times n m some in
    filled_none c (record { rows = m; columns = n }) (ap (λ k. nat_le k 4096) (mul_comm m n) ∙ too_many (n * m) (omega (arith, l, h)))

pub filled_unfit : (c : Exact) (s : Shape) → None ≡ where_so (is_small s) s → None ≡ filled c s
unfolding and_then
filled_unfit c s e = ap (λ o. and_then o (λ s. Some (Number s (map (λ k. c) (below (s.rows * s.columns)))))) e

pub filled_fit : (c : Exact) (s q : Shape) (zs : List Exact) → Some q ≡ where_so (is_small s) s → zs ≡ map (λ k. c) (below (q.rows * q.columns)) → Some (Number q zs) ≡ filled c s
unfolding and_then
filled_fit c s q zs e f = (λ i. Some (Number q (f i))) ∙ ap (λ o. and_then o (λ s. Some (Number s (map (λ k. c) (below (s.rows * s.columns)))))) e

exact_along : (d : Dyadic) (ks : List ℕ) → map exact_of (map (λ k. d) ks) ≡ map (λ k. exact_of d) ks
exact_along d [] = refl
exact_along d (k ∷ ks) = ap (λ cs. exact_of d ∷ cs) (exact_along d ks)

pub filled_with : (d : Dyadic) (n m : ℕ) (zs : List Dyadic) → zs ≡ map (λ k. d) (below n) → n ≡ m → map exact_of zs ≡ map (λ k. exact_of d) (below m)
filled_with d n m zs e f = ap (λ ds. map exact_of ds) e ∙ exact_along d (below n) ∙ ap (λ k. map (λ (j : ℕ). exact_of d) (below k)) f

-- ---- ghost facts

pub for_some : {A : Type 0} (x : A) (P : A → Type 0) → P x → ForSome (Some x) P
for_some x P h = λ y e. subst P (same_some x y e) h

pub picked_inside : (t : NumericType) (z : ℤ) (ys xs : List ℤ) (ks : List ℕ) (v : List ℤ) → ys ≡ xs → z ≡ pos 0 → v ≡ picked z ys ks → All (IsInRange t) xs → All (IsInRange t) v
picked_inside t z ys xs ks v f p e h =
    All-same (IsInRange t) v (picked z ys ks) e
    (All_picked (IsInRange t) z ys ks (subst (λ (y : ℤ). IsInRange t y) (sym p) (zero_in_range t)) (All-same (IsInRange t) ys xs f h))

pub noughts_inside : (t : NumericType) (zs ys : List ℤ) → zs ≡ map (λ y. pos 0) ys → All (IsInRange t) zs
noughts_inside t zs ys e = All-same (IsInRange t) zs (map (λ (y : ℤ). pos 0) ys) e (All-map (IsInRange t) (λ (y : ℤ). pos 0) ys (λ j d l. zero_in_range t))

pub noughts_along : (z : ℤ) (ys : List ℤ) (n : ℕ) → z ≡ pos 0 → n ≡ length ys → map (λ k. z) (below n) ≡ map (λ y. pos 0) ys
noughts_along z ys n p e = (λ i. map (λ (k : ℕ). p i) (below (e i))) ∙ sym (constant_map (pos 0) ys)

pub column_count : (s : code_shape.Shape) (n : ℕ) → shape_view s ≡ record { rows = n; columns = 1 } → s.rows * s.cols ≡ n
column_count s n e = let h : s.rows * s.cols ≡ n * 1 = ap (λ (r : Shape). r.rows * r.columns) e in omega (arith, h)
