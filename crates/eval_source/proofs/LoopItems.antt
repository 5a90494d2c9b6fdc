-- The items of a range in the head of a loop.
use Rattle.std.proofs.Common.{◌≡◌, ℕ, ℤ, ◌<◌, ◌≤◌, true, false, List, length, Option, Some, None, Result, sym, ap, subst, ◌∙◌, arith}
use Rattle.std.specs.Prelude.{nat_le, pos, ◌+ℤ◌, ◌*ℤ◌}
use Rattle.std.proofs.lemmas.List.{length-map}
use Rattle.std.proofs.lemmas.Bool.Decides.{nat_tests}
use Rattle.fic_base.specs.declared.place.Place.{Place}
use Rattle.fi_eval.specs.Outcome.{Gives, Wrong, bind, ◌>>=◌, choose, or_wrong}
use Rattle.fi_values.specs.Elements.{below}
use Rattle.eval_value.specs.Tells.{Tells}
use Rattle.eval_value.specs.declared.halt.Halt.{Halt}
use Rattle.eval_array.specs.Ranged.{items_answer, items_view}
use Rattle.eval_array.specs.declared.items.Items.{Items}
use Rattle.eval_array.proofs.Counts.{length_below}
use Rattle.eval_source.specs.Flows.{within}

pub no_items : (o : Option Items) (at to : Place) → o ≡ None → (or_wrong at (items_answer o) >>= within to) ≡ Wrong at
unfolding bind or_wrong
no_items o at to n = ap (λ x. bind (or_wrong at x) (within to)) (ap items_answer n)

pub some_items : (r : Result Items Halt) (o : Option Items) (x : Items) (at to : Place) → o ≡ Some x → Tells r items_view (within to (items_view x)) → Tells r items_view (or_wrong at (items_answer o) >>= within to)
unfolding bind or_wrong
some_items r o x at to n t = subst (λ y. Tells r items_view (bind (or_wrong at y) (within to))) (sym (ap items_answer n)) t

pub found_items : (r : Result Items Halt) (o e : Option (List ℤ)) (at to : Place) → o ≡ e → Tells r items_view (or_wrong at o >>= within to) → Tells r items_view (or_wrong at e >>= within to)
found_items r o e at to h t = subst (λ y. Tells r items_view (or_wrong at y >>= within to)) h t

-- how many items there are
counted_items : (r : Items) → length (items_view r) ≡ r.count
counted_items r = length-map (below r.count) (λ k. r.first +ℤ r.step *ℤ pos k) ∙ length_below r.count

is_few : (n : ℕ) → n ≤ 1048576 → nat_le n 1048576 ≡ true
is_few n h = grind (arith, nat_tests)

is_many : (n : ℕ) → 1048576 < n → nat_le n 1048576 ≡ false
is_many n h = grind (arith, nat_tests)

pub few_items : (to : Place) (r : Items) → r.count ≤ 1048576 → within to (items_view r) ≡ Gives (items_view r)
unfolding choose
few_items to r h = ap (λ b. choose b (Gives (items_view r)) (Wrong to)) (ap (λ n. nat_le n 1048576) (counted_items r) ∙ is_few r.count h)

pub many_items : (to : Place) (r : Items) → (r.count ≤ 1048576 → ⊥) → within to (items_view r) ≡ Wrong to
unfolding choose
many_items to r h =
    let more : 1048576 < r.count = omega (arith, h) in
    ap (λ b. choose b (Gives (items_view r)) (Wrong to)) (ap (λ n. nat_le n 1048576) (counted_items r) ∙ is_many r.count more)
