use Rattle.std.proofs.Common.{◌≡◌, ◌∙◌, ◌+◌, ◌<◌, sym, ap, subst, ℕ, ℤ, List, [], ◌∷◌, ◌++◌, get_or, length, map, arith}
use Rattle.std.specs.Prelude.{Option}
use Rattle.std.proofs.lemmas.List.{length_push}
use Rattle.std.proofs.lemmas.List.Elements.{All-nil, All-push, All-same}
use Rattle.num_type.specs.View.{type_of}
use Rattle.shape_rules.specs.Shapes.{columns_of, rows_of}
use Rattle.fi_rules.specs.Options.{all_of}
use Rattle.eval_math.specs.Matrices.{IsCell, IsEntry, entry_at}
use Rattle.eval_math.specs.View.{operand_view, with_built}
use Rattle.eval_math.proofs.Bound.{begun, ended, next, read_at}
use Rattle.eval_math.proofs.fi_products.entries.Goals as goal

pub loop-p-init : goal.loop-p-init
loop-p-init c = record {
  value = ap (λ (w : List (ℤ × Option ℤ)). with_built w (all_of (map (entry_at c.args.how.now (operand_view c.args.a.now) (operand_view c.args.b.now)) c.args.places.now))) c.new-out.ensures.items
      ∙ begun (entry_at c.args.how.now (operand_view c.args.a.now) (operand_view c.args.b.now)) c.args.places.now;
  many = ap length c.new-out.ensures.items;
  inside = All-same (IsEntry (type_of c.args.how.now.sum)) c.new-out.result.items [] c.new-out.ensures.items (All-nil (IsEntry (type_of c.args.how.now.sum)));
}

pub loop-p-preserved : goal.loop-p-preserved
loop-p-preserved c =
    let p : ℕ × ℕ = get_or c.args.places.now c.loop-p.p-index (0, 0) in
    let e : length c.push.new.self.items ≡ length c.loop-p.out.items + 1 = ap length c.in_ok-push.ensures.items ∙ length_push c.loop-p.out.items c.in_ok-z.z in
    record {
      value = next (entry_at c.args.how.now (operand_view c.args.a.now) (operand_view c.args.b.now)) c.args.places.now c.loop-p.p-index p c.loop-p.out.items c.push.new.self.items c.in_ok-z.z
          (all_of (map (entry_at c.args.how.now (operand_view c.args.a.now) (operand_view c.args.b.now)) c.args.places.now))
          c.loop-p-test.true (read_at c.args.places.now c.loop-p.p-index (0, 0) p c.loop-p-test.true) c.in_ok-z.ensures.value c.in_ok-push.ensures.items c.loop-p.invariant.value;
      many = omega (arith, e, c.loop-p.invariant.many);
      inside = All-same (IsEntry (type_of c.args.how.now.sum)) c.push.new.self.items (c.loop-p.out.items ++ c.in_ok-z.z ∷ []) c.in_ok-push.ensures.items
          (All-push (IsEntry (type_of c.args.how.now.sum)) c.loop-p.out.items c.in_ok-z.z c.loop-p.invariant.inside c.in_ok-z.ensures.inside);
    }

pub returns-clause-value : goal.returns-clause-value
returns-clause-value c =
    ended (entry_at c.args.how.now (operand_view c.args.a.now) (operand_view c.args.b.now)) c.args.places.now c.loop-p.p-index c.loop-p.out.items
    (all_of (map (entry_at c.args.how.now (operand_view c.args.a.now) (operand_view c.args.b.now)) c.args.places.now))
    c.loop-p-test.false c.loop-p.invariant.value
