use Rattle.std.proofs.Common.{◌≡◌, ◌∙◌, ◌+◌, ap, ℕ, List, get_or, length, map, arith}
use Rattle.std.proofs.lemmas.List.{length_push, map_push}
use Rattle.num_type.specs.View.{exact_of}
use Rattle.num_type.specs.declared.dyadic.Dyadic.{Dyadic}
use Rattle.fi_rules.specs.Options.{all_of}
use Rattle.eval_value.specs.View.{shape_view}
use Rattle.eval_math.specs.Matrices.{real_entry}
use Rattle.eval_math.specs.View.{with_built}
use Rattle.eval_math.proofs.Bound.{begun, ended, next, read_at, stopped}
use Rattle.eval_math.proofs.number_products.real_entries.Goals as goal

pub loop-p-init : goal.loop-p-init
loop-p-init c =
    let f = real_entry (shape_view c.args.x.now.shape) (map exact_of c.args.x.now.re.items) (shape_view c.args.y.now.shape) (map exact_of c.args.y.now.re.items) in
    record {
      value = ap (λ (w : List Dyadic). with_built (map exact_of w) (all_of (map f c.args.places.now))) c.new-out.ensures.items ∙ begun f c.args.places.now;
      many = ap length c.new-out.ensures.items;
    }

pub returns-in-Ok-None-clause-value : goal.returns-in-Ok-None-clause-value
returns-in-Ok-None-clause-value c =
    let f = real_entry (shape_view c.args.x.now.shape) (map exact_of c.args.x.now.re.items) (shape_view c.args.y.now.shape) (map exact_of c.args.y.now.re.items) in
    let p : ℕ × ℕ = get_or c.args.places.now c.loop-p.p-index (0, 0) in
    stopped f c.args.places.now c.loop-p.p-index p (map exact_of c.loop-p.out.items) (all_of (map f c.args.places.now)) c.loop-p-test.true (read_at c.args.places.now c.loop-p.p-index (0, 0) p c.loop-p-test.true) (rw c.in-Ok-None.field-0-is at c.in-Ok-None.ensures) c.loop-p.invariant.value

pub loop-p-preserved : goal.loop-p-preserved
loop-p-preserved c =
    let f = real_entry (shape_view c.args.x.now.shape) (map exact_of c.args.x.now.re.items) (shape_view c.args.y.now.shape) (map exact_of c.args.y.now.re.items) in
    let p : ℕ × ℕ = get_or c.args.places.now c.loop-p.p-index (0, 0) in
    let e : length c.push.new.self.items ≡ length c.loop-p.out.items + 1 = ap length c.in_ok-push-in-Ok-Some.ensures.items ∙ length_push c.loop-p.out.items c.in-Ok-Some.z in
    record {
      value = next f c.args.places.now c.loop-p.p-index p (map exact_of c.loop-p.out.items) (map exact_of c.push.new.self.items) (exact_of c.in-Ok-Some.z) (all_of (map f c.args.places.now))
          c.loop-p-test.true (read_at c.args.places.now c.loop-p.p-index (0, 0) p c.loop-p-test.true) (rw c.in-Ok-Some.field-0-is at c.in-Ok-Some.ensures)
          (ap (map exact_of) c.in_ok-push-in-Ok-Some.ensures.items ∙ map_push exact_of c.loop-p.out.items c.in-Ok-Some.z) c.loop-p.invariant.value;
      many = omega (arith, e, c.loop-p.invariant.many);
    }

pub returns-clause-value : goal.returns-clause-value
returns-clause-value c =
    let f = real_entry (shape_view c.args.x.now.shape) (map exact_of c.args.x.now.re.items) (shape_view c.args.y.now.shape) (map exact_of c.args.y.now.re.items) in
    ended f c.args.places.now c.loop-p.p-index (map exact_of c.loop-p.out.items) (all_of (map f c.args.places.now)) c.loop-p-test.false c.loop-p.invariant.value
