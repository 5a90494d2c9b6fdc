use Rattle.std.proofs.Common.{◌≡◌, ◌∙◌, sym, ap, Bool, true, false}
use Rattle.std.specs.Prelude.{◌||◌, if◌then◌else◌}
use Rattle.fi_rules.specs.Value.{is_scalar}
use Rattle.fi_rules.specs.declared.work.Work.TheVariants as work
use Rattle.fi_values.specs.Arithmetic.{arithmetic}
use Rattle.fi_values.specs.Products as products
use Rattle.fi_values.specs.Reads.{shape_of}
use Rattle.eval_value.specs.View.{value_view}
use Rattle.eval_math.proofs.products.multiplied.Goals as goal

pub returns-in_ok-r : goal.returns-in_ok-r
returns-in_ok-r c =
    let e : c.either.result ≡ (is_scalar (shape_of (value_view c.args.x.now)) || is_scalar (shape_of (value_view c.args.y.now))) =
    c.either.ensures ∙ (λ i. (c.is_single.ensures ∙ ap is_scalar c.shape.ensures) i || (c.is_single-2.ensures ∙ ap is_scalar c.shape-2.ensures) i) in
    let t : true ≡ (is_scalar (shape_of (value_view c.args.x.now)) || is_scalar (shape_of (value_view c.args.y.now))) = sym c.if-either.true ∙ e in
    c.in_ok-r.ensures ∙ ap (λ (b : Bool). if b then arithmetic work.Product (value_view c.args.x.now) (value_view c.args.y.now) else products.matrix (value_view c.args.x.now) (value_view c.args.y.now)) t

pub returns-in_ok-r-2 : goal.returns-in_ok-r-2
returns-in_ok-r-2 c =
    let e : c.either.result ≡ (is_scalar (shape_of (value_view c.args.x.now)) || is_scalar (shape_of (value_view c.args.y.now))) =
    c.either.ensures ∙ (λ i. (c.is_single.ensures ∙ ap is_scalar c.shape.ensures) i || (c.is_single-2.ensures ∙ ap is_scalar c.shape-2.ensures) i) in
    let t : false ≡ (is_scalar (shape_of (value_view c.args.x.now)) || is_scalar (shape_of (value_view c.args.y.now))) = sym c.if-either.false ∙ e in
    c.in_ok-r-2.ensures ∙ ap (λ (b : Bool). if b then arithmetic work.Product (value_view c.args.x.now) (value_view c.args.y.now) else products.matrix (value_view c.args.x.now) (value_view c.args.y.now)) t
