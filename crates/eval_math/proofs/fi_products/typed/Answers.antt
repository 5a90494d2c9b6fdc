use Rattle.std.proofs.Common.{◌≡◌, ◌∙◌, ap, sym, Bool}
use Rattle.std.specs.Prelude.{◌&&◌, is_some}
use Rattle.num_type.specs.View.{type_of}
use Rattle.fi_rules.specs.declared.work.Work.TheVariants as work
use Rattle.fi_values.specs.Arithmetic.{result_made}
use Rattle.fi_values.specs.Sums.{made}
use Rattle.eval_value.specs.View.{item_view}
use Rattle.eval_math.specs.View.{parts_view}
use Rattle.eval_math.proofs.Bound.{bound_none, bound_some}
use Rattle.eval_math.proofs.fi_products.typed.Goals as goal

pub returns-in-None : goal.returns-in-None
returns-in-None c =
    let e : c.both.result ≡ (is_some (parts_view c.args.a.now).im && is_some (parts_view c.args.b.now).im) = c.both.ensures ∙ (λ i. c.is_complex-p.ensures i && c.is_complex-q.ensures i) in
    bound_none _ _ (c.in-None.ensures.value ∙ ap (λ (x : Bool). made (result_made work.Product x c.args.by.now.math (type_of c.args.a.now.num) (type_of c.args.b.now.num))) e)

pub summed-requires-clause-made : goal.summed-requires-clause-made
summed-requires-clause-made c =
    let e : c.both.result ≡ (is_some (parts_view c.args.a.now).im && is_some (parts_view c.args.b.now).im) = c.both.ensures ∙ (λ i. c.is_complex-p.ensures i && c.is_complex-q.ensures i) in
    ap (λ (x : Bool). result_made work.Product x c.args.by.now.math (type_of c.args.a.now.num) (type_of c.args.b.now.num)) (sym e) ∙ c.in-Some.ensures.made

pub returns-in_ok-r-in-Some : goal.returns-in_ok-r-in-Some
returns-in_ok-r-in-Some c =
    let e : c.both.result ≡ (is_some (parts_view c.args.a.now).im && is_some (parts_view c.args.b.now).im) = c.both.ensures ∙ (λ i. c.is_complex-p.ensures i && c.is_complex-q.ensures i) in
    bound_some _ _ (type_of c.in-Some.product) (item_view c.in_ok-r-in-Some.r)
    (c.in-Some.ensures.value ∙ ap (λ (x : Bool). made (result_made work.Product x c.args.by.now.math (type_of c.args.a.now.num) (type_of c.args.b.now.num))) e)
    c.in_ok-r-in-Some.ensures
