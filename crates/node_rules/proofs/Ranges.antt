-- Ranges go by their rule.
use Rattle.std.proofs.Common.{◌≡◌, refl, sym, ◌∙◌, Bool, true, false}
use Rattle.std.specs.Prelude.{ℤ, ◌&&◌, nat_lt, nat_le, map, Option, Some, None}
use Rattle.fi_rules.specs.Options.{and_then, ◌|>◌, where_so}
use Rattle.fi_rules.specs.Value.{Val, Number}
use Rattle.fi_values.specs.Numbers.{constant, bound_of}
use Rattle.fi_values.specs.Ranges.{item_count, items, items_of, ranged}
use Rattle.node_rules.specs.Ranges.{may_bound, is_truth, is_fi, bound_ruled, row_ruled, bounds_ruled, range_ruled, range_value, items_at, turns_ruled, loop_ruled}
use Rattle.node_rules.specs.Ruled.{Ruled, Fine, Missing, bind, needed, tested, fine, given}
use Rattle.node_rules.specs.Types.{NodeTy, ty_of, known, is_index}
use Rattle.node_rules.proofs.Binds.{fine_needed}
use Rattle.node_rules.proofs.Goes.{Goes, goes, stops}
use Rattle.node_rules.proofs.Outcomes.{fine_none, fine_stops}

-- a bound is a constant within the limits, or has no whole number
data Bound (v : Val) : Type 0 where
  whole : (z : ℤ) → bound_of v ≡ Some z → bound_of (known (ty_of v)) ≡ Some z → may_bound (ty_of v) ≡ true → is_truth (ty_of v) ≡ false → is_index (ty_of v) ≡ false → is_fi (ty_of v) ≡ false → Bound v
  other : bound_of v ≡ None → bound_of (known (ty_of v)) ≡ None → Bound v

bound : (v : Val) → Bound v
unfolding known ty_of may_bound is_truth is_index is_fi bound_of
bound (Number s cs) = of (bound_of (Number s cs)) refl
  where
    of : (o : Option ℤ) → bound_of (Number s cs) ≡ o → Bound (Number s cs)
    of None e = other e e
    of (Some z) e = whole z e e (rw e refl) refl refl refl
bound v = other refl refl

-- a rule that comes to nothing
pub nothing : (val : NodeTy → Val) (c : Ruled NodeTy) → fine c ≡ None → Goes val None c
unfolding fine
nothing val (Fine t) e = absurd (cc)
nothing val (Missing code why) e = stops code why

-- a bound that is none, in each place
none_bound : (t : NodeTy) → bound_of (known t) ≡ None → fine (bound_ruled t) ≡ None
none_bound t e = fine_needed _ _ _ ∙ e

none_first : (x s y : NodeTy) → bound_of (known x) ≡ None → fine (bounds_ruled x s y) ≡ None
none_first x s y e = fine_stops (bound_ruled x) _ (none_bound x e)

none_second : (x s y : NodeTy) → bound_of (known s) ≡ None → fine (bounds_ruled x s y) ≡ None
none_second x s y e = fine_none (bound_ruled x) _ (λ a. fine_stops (bound_ruled s) _ (none_bound s e))

none_third : (x s y : NodeTy) → bound_of (known y) ≡ None → fine (bounds_ruled x s y) ≡ None
none_third x s y e = fine_none (bound_ruled x) _ (λ a. fine_none (bound_ruled s) _ (λ b. fine_stops (bound_ruled y) _ (none_bound y e)))

none_in : (x s y : NodeTy) → fine (bounds_ruled x s y) ≡ None → fine (range_ruled x s y) ≡ None
none_in x s y e = fine_none _ _ (λ x. fine_none _ _ (λ x. e))

row_law : (v s y : Val) (a b c : ℤ) → Goes range_value (where_so (nat_lt 0 (item_count a b c) && nat_le (item_count a b c) 4096) (item_count a b c) |> (λ n. Some (Number (record { rows = 1; columns = n }) (map constant (items a b c))))) (row_ruled a b c)
unfolding bind tested where_so and_then known ty_of
row_law v s y a b c = of (nat_lt 0 (item_count a b c)) refl (nat_le (item_count a b c) 4096) refl
  where
    of : (p : Bool) → nat_lt 0 (item_count a b c) ≡ p → (q : Bool) → nat_le (item_count a b c) 4096 ≡ q → Goes range_value (where_so (nat_lt 0 (item_count a b c) && nat_le (item_count a b c) 4096) (item_count a b c) |> (λ n. Some (Number (record { rows = 1; columns = n }) (map constant (items a b c))))) (row_ruled a b c)
    of true e true h = rw (e, h) (goes _ refl)
    of true e false h = rw (e, h) (stops _ _)
    of false e q h = rw e (stops _ _)

pub range_law : (v s y : Val) → Goes range_value (ranged v s y) (range_ruled (ty_of v) (ty_of s) (ty_of y))
unfolding ranged and_then bind tested needed
range_law v s y = of (bound v) (bound s) (bound y)
  where
    of : Bound v → Bound s → Bound y → Goes range_value (ranged v s y) (range_ruled (ty_of v) (ty_of s) (ty_of y))
    of (whole a e f g h i j) (whole b e1 f1 g1 h1 i1 j1) (whole c e2 f2 g2 h2 i2 j2) = rw (e, e1, e2, f, f1, f2, g, g1, g2, h, h1, h2, i, i1, i2) (row_law v s y a b c)
    of (other e f) q r = rw e (nothing range_value (range_ruled (ty_of v) (ty_of s) (ty_of y)) (none_in (ty_of v) (ty_of s) (ty_of y) (none_first (ty_of v) (ty_of s) (ty_of y) f)))
    of (whole a e f g h i j) (other e1 f1) r = rw (e, e1) (nothing range_value (range_ruled (ty_of v) (ty_of s) (ty_of y)) (none_in (ty_of v) (ty_of s) (ty_of y) (none_second (ty_of v) (ty_of s) (ty_of y) f1)))
    of (whole a e f g h i j) (whole b e1 f1 g1 h1 i1 j1) (other e2 f2) = rw (e, e1, e2) (nothing range_value (range_ruled (ty_of v) (ty_of s) (ty_of y)) (none_in (ty_of v) (ty_of s) (ty_of y) (none_third (ty_of v) (ty_of s) (ty_of y) f2)))

-- ---- in the head of a loop

none_turns : (x s y : NodeTy) → fine (turns_ruled x s y) ≡ None → given (loop_ruled x s y) (λ l. items_at l.first l.step l.count) ≡ None
unfolding and_then
none_turns x s y e = let h : fine (loop_ruled x s y) ≡ None = fine_none _ _ (λ x. fine_none _ _ (λ x. e)) in rw h refl

loop_first : (x s y : NodeTy) → bound_of (known x) ≡ None → fine (turns_ruled x s y) ≡ None
loop_first x s y e = fine_stops (bound_ruled x) _ (none_bound x e)

loop_second : (x s y : NodeTy) → bound_of (known s) ≡ None → fine (turns_ruled x s y) ≡ None
loop_second x s y e = fine_none (bound_ruled x) _ (λ a. fine_stops (bound_ruled s) _ (none_bound s e))

loop_third : (x s y : NodeTy) → bound_of (known y) ≡ None → fine (turns_ruled x s y) ≡ None
loop_third x s y e = fine_none (bound_ruled x) _ (λ a. fine_none (bound_ruled s) _ (λ b. fine_stops (bound_ruled y) _ (none_bound y e)))

pub loop_law : (v s y : Val) → items_of v s y ≡ given (loop_ruled (ty_of v) (ty_of s) (ty_of y)) (λ l. items_at l.first l.step l.count)
unfolding and_then bind tested needed fine
loop_law v s y = of (bound v) (bound s) (bound y)
  where
    of : Bound v → Bound s → Bound y → items_of v s y ≡ given (loop_ruled (ty_of v) (ty_of s) (ty_of y)) (λ l. items_at l.first l.step l.count)
    of (whole a e f g h i j) (whole b e1 f1 g1 h1 i1 j1) (whole c e2 f2 g2 h2 i2 j2) = rw (e, e1, e2, f, f1, f2, g, g1, g2, h, h1, h2, i, i1, i2) refl
    of (other e f) q r = rw e (sym (none_turns (ty_of v) (ty_of s) (ty_of y) (loop_first (ty_of v) (ty_of s) (ty_of y) f)))
    of (whole a e f g h i j) (other e1 f1) r = rw (e, e1) (sym (none_turns (ty_of v) (ty_of s) (ty_of y) (loop_second (ty_of v) (ty_of s) (ty_of y) f1)))
    of (whole a e f g h i j) (whole b e1 f1 g1 h1 i1 j1) (other e2 f2) = rw (e, e1, e2) (sym (none_turns (ty_of v) (ty_of s) (ty_of y) (loop_third (ty_of v) (ty_of s) (ty_of y) f2)))
