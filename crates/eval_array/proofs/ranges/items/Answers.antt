use Rattle.std.proofs.Common.{◌≡◌, sym, subst, ◌∙◌, arith, rules, to_z, of_z, w64}
use Rattle.std.specs.Prelude.{ℤ}
use Rattle.std.proofs.lemmas.Int.{ints}
use Rattle.shape_rules.specs.Places.{IsBound}
use Rattle.fi_values.specs.Ranges as ranges
use Rattle.eval_array.proofs.Joined.{few_counted, item_bound, items_are}
use Rattle.eval_array.proofs.ranges.items.Goals as goal

pub invariant_of-result : goal.invariant_of-result
invariant_of-result c =
    let x : ℤ = to_z w64 (of_z w64 c.args.first) in
    let s : ℤ = to_z w64 (of_z w64 c.args.step) in
    let y : ℤ = to_z w64 (of_z w64 c.args.last) in
    let p : x ≡ c.args.first = first_of (search rules, omega (arith, ints)) in
    let r : y ≡ c.args.last = first_of (search rules, omega (arith, ints)) in
    let a : IsBound x = subst (λ (z : ℤ). IsBound z) (sym p) c.requires.first in
    let b : IsBound y = subst (λ (z : ℤ). IsBound z) (sym r) c.requires.last in
    record {
      first_bound = a;
      few = few_counted x s y c.range_items-count.result a b c.range_items-count.ensures;
      bounds = λ k l. item_bound x s y k a b ((c.range_items-count.ensures k).0 l);
    }

pub returns : goal.returns
returns c =
    let x : ℤ = to_z w64 (of_z w64 c.args.first) in
    let s : ℤ = to_z w64 (of_z w64 c.args.step) in
    let y : ℤ = to_z w64 (of_z w64 c.args.last) in
    let p : x ≡ c.args.first = first_of (search rules, omega (arith, ints)) in
    let q : s ≡ c.args.step = first_of (search rules, omega (arith, ints)) in
    let r : y ≡ c.args.last = first_of (search rules, omega (arith, ints)) in
    items_are x s y c.range_items-count.result c.range_items-count.ensures ∙ (λ i. ranges.items (p i) (q i) (r i))
