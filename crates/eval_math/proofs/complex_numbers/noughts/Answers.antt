use Rattle.std.proofs.Common.{◌≡◌, ◌∙◌, ◌+◌, ap, length, map, arith}
use Rattle.std.proofs.lemmas.List.{length_push}
use Rattle.num_type.specs.View.{exact_of}
use Rattle.fi_values.specs.Numbers.{nought_parts}
use Rattle.eval_math.proofs.Reckoned.{noughts_next}
use Rattle.eval_math.proofs.complex_numbers.noughts.Goals as goal

pub loop-k-preserved : goal.loop-k-preserved
loop-k-preserved c =
    let e : length c.push.new.self.items ≡ length c.loop-k.out.items + 1 = ap length c.in_ok-push.ensures.items ∙ length_push c.loop-k.out.items c.zero.result in
    record {
      value = noughts_next c.loop-k.k c.args.parts.now c.zero.result c.loop-k.out.items c.push.new.self.items (nought_parts (map exact_of c.args.parts.now)) c.loop-k-test.true c.zero.ensures.significand c.zero.ensures.exponent c.in_ok-push.ensures.items c.loop-k.invariant.value;
      many = omega (arith, e, c.loop-k.invariant.many);
    }
