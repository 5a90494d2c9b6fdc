use Rattle.std.proofs.Common.{◌≡◌, ◌∙◌, ◌+◌, sym, ap, subst, ℤ, List, [], ◌∷◌, ◌++◌, length, map, arith}
use Rattle.std.specs.Prelude.{Option}
use Rattle.std.proofs.lemmas.List.{length_push}
use Rattle.std.proofs.lemmas.List.Elements.{All-push, All-same}
use Rattle.num_type.specs.Types.{IsInRange}
use Rattle.num_type.specs.View.{type_of}
use Rattle.eval_math.specs.Matrices.{or_nought}
use Rattle.eval_math.proofs.Accumulated.{entry_item, nought_inside}
use Rattle.eval_math.proofs.Bound.{mapped_next}
use Rattle.eval_math.proofs.fi_products.imaginary_parts.Goals as goal

pub loop-z-preserved : goal.loop-z-preserved
loop-z-preserved c =
    let e : length c.push.new.self.items ≡ length c.loop-z.out.items + 1 = ap length c.in_ok-push.ensures.items ∙ length_push c.loop-z.out.items c.or_zero.result in
    let inside : IsInRange (type_of c.args.t) c.or_zero.result =
    subst (IsInRange (type_of c.args.t)) (sym c.or_zero.ensures) (nought_inside (type_of c.args.t) c.z-item.result.1 (entry_item (type_of c.args.t) c.args.zs.now c.loop-z.z-index c.z-item.result c.loop-z-test.true c.z-item.is c.requires).imaginary) in
    record {
      value = mapped_next (λ (z : ℤ × Option ℤ). or_nought z.1) c.args.zs.now c.loop-z.z-index c.z-item.result c.loop-z.out.items c.push.new.self.items c.or_zero.result (map (λ (z : ℤ × Option ℤ). or_nought z.1) c.args.zs.now) c.loop-z-test.true c.z-item.is c.or_zero.ensures c.in_ok-push.ensures.items c.loop-z.invariant.value;
      many = omega (arith, e, c.loop-z.invariant.many);
      inside = All-same (IsInRange (type_of c.args.t)) c.push.new.self.items (c.loop-z.out.items ++ c.or_zero.result ∷ []) c.in_ok-push.ensures.items
          (All-push (IsInRange (type_of c.args.t)) c.loop-z.out.items c.or_zero.result c.loop-z.invariant.inside inside);
    }
