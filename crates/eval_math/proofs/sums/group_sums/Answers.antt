use Rattle.std.proofs.Common.{◌≡◌, ◌∙◌, ◌+◌, ◌-◌, ◌<◌, ◌≤◌, ap, List, ℕ, ℤ, [], ◌∷◌, ◌++◌, length, map, pos, arith}
use Rattle.std.proofs.lemmas.List.{length_push}
use Rattle.std.proofs.lemmas.List.Elements.{All-nil, All-push, All-same}
use Rattle.num_type.specs.Types.{IsInRange}
use Rattle.num_type.specs.View.{type_of}
use Rattle.fi_values.specs.Elements.{below, count_from, picked}
use Rattle.fi_values.specs.Sums.{sum_of}
use Rattle.eval_value.specs.View.{shape_view}
use Rattle.eval_math.specs.Totals.{along_view, group, group_count}
use Rattle.eval_math.proofs.Added.{sums_are}
use Rattle.eval_math.proofs.Counted.{begun_counted, index_end, index_next}
use Rattle.eval_math.proofs.sums.group_sums.Goals as goal

pub loop-g-init : goal.loop-g-init
loop-g-init c = record {
  value = ap (λ (w : List ℤ). w ++ map (λ g. sum_of c.args.m.now (type_of c.args.t) (type_of c.args.a) (picked (pos 0) c.args.xs.now (group (along_view c.args.along) (shape_view c.args.shape) g))) (count_from 0 (group_count (along_view c.args.along) (shape_view c.args.shape) - 0))) c.new-out.ensures.items
      ∙ begun_counted (λ g. sum_of c.args.m.now (type_of c.args.t) (type_of c.args.a) (picked (pos 0) c.args.xs.now (group (along_view c.args.along) (shape_view c.args.shape) g))) (group_count (along_view c.args.along) (shape_view c.args.shape));
  many = ap length c.new-out.ensures.items;
  inside = All-same (IsInRange (type_of c.args.t)) c.new-out.result.items [] c.new-out.ensures.items (All-nil (IsInRange (type_of c.args.t)));
}

pub loop-g-preserved : goal.loop-g-preserved
loop-g-preserved c =
    let n = group_count (along_view c.args.along) (shape_view c.args.shape) in
    let l : c.loop-g.g < n = omega arith in
    let e : length c.push.new.self.items ≡ length c.loop-g.out.items + 1 = ap length c.in_ok-push.ensures.items ∙ length_push c.loop-g.out.items c.in_ok-z.z in
    record {
      value = index_next (λ g. sum_of c.args.m.now (type_of c.args.t) (type_of c.args.a) (picked (pos 0) c.args.xs.now (group (along_view c.args.along) (shape_view c.args.shape) g))) c.loop-g.g n c.loop-g.out.items c.push.new.self.items c.in_ok-z.z
          (map (λ g. sum_of c.args.m.now (type_of c.args.t) (type_of c.args.a) (picked (pos 0) c.args.xs.now (group (along_view c.args.along) (shape_view c.args.shape) g))) (below n))
          l
          (c.in_ok-z.ensures.value ∙ ap (λ (ks : List ℕ). sum_of c.args.m.now (type_of c.args.t) (type_of c.args.a) (picked (pos 0) c.args.xs.now ks)) (c.as_slice.ensures.value ∙ c.in_ok-places.ensures))
          c.in_ok-push.ensures.items c.loop-g.invariant.value;
      many = omega (arith, e, c.loop-g.invariant.many);
      inside = All-same (IsInRange (type_of c.args.t)) c.push.new.self.items (c.loop-g.out.items ++ c.in_ok-z.z ∷ []) c.in_ok-push.ensures.items (All-push (IsInRange (type_of c.args.t)) c.loop-g.out.items c.in_ok-z.z c.loop-g.invariant.inside c.in_ok-z.ensures.inside);
    }

pub returns-clause-value : goal.returns-clause-value
returns-clause-value c =
    let n = group_count (along_view c.args.along) (shape_view c.args.shape) in
    let l : n ≤ c.loop-g.g = omega arith in
    index_end (λ g. sum_of c.args.m.now (type_of c.args.t) (type_of c.args.a) (picked (pos 0) c.args.xs.now (group (along_view c.args.along) (shape_view c.args.shape) g))) c.loop-g.g n c.loop-g.out.items
    (map (λ g. sum_of c.args.m.now (type_of c.args.t) (type_of c.args.a) (picked (pos 0) c.args.xs.now (group (along_view c.args.along) (shape_view c.args.shape) g))) (below n))
    l c.loop-g.invariant.value
    ∙ sums_are c.args.m.now (type_of c.args.t) (type_of c.args.a) (along_view c.args.along) (shape_view c.args.shape) c.args.xs.now
