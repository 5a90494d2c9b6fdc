use Rattle.std.proofs.Common.{◌≡◌, ◌∙◌, ◌+◌, sym, ap, subst, pos, [], ◌∷◌, ◌++◌, length, map, arith}
use Rattle.std.proofs.lemmas.List.{length_push}
use Rattle.std.proofs.lemmas.List.Elements.{All-push, All-same}
use Rattle.num_type.specs.Types.{IsInRange}
use Rattle.num_type.specs.View.{type_of}
use Rattle.eval_math.proofs.Bound.{constant_next}
use Rattle.eval_math.proofs.Zero.{zero_inside}
use Rattle.eval_math.proofs.operand.zeros.Goals as goal

pub loop-k-preserved : goal.loop-k-preserved
loop-k-preserved c =
    let e : length c.push.new.self.items ≡ length c.loop-k.out.items + 1 = ap length c.in_ok-push.ensures.items ∙ length_push c.loop-k.out.items c.of.result in
    record {
      value = constant_next (pos 0) (pos 0) c.args.parts.now c.loop-k.k c.loop-k.out.items c.push.new.self.items c.of.result (map (λ x. pos 0) c.args.parts.now) c.loop-k-test.true c.of.ensures c.in_ok-push.ensures.items c.loop-k.invariant.value;
      many = omega (arith, e, c.loop-k.invariant.many);
      inside = All-same (IsInRange (type_of c.args.t)) c.push.new.self.items (c.loop-k.out.items ++ c.of.result ∷ []) c.in_ok-push.ensures.items
          (All-push (IsInRange (type_of c.args.t)) c.loop-k.out.items c.of.result c.loop-k.invariant.inside (subst (IsInRange (type_of c.args.t)) (sym c.of.ensures) (zero_inside (type_of c.args.t))));
    }
