use Rattle.std.specs.Prelude.{option_map}
use Rattle.num_type.specs.View.{exact_of}
use Rattle.fi_rules.specs.declared.work.Work.TheVariants as work
use Rattle.fi_rules.specs.Pairs.{folded}
use Rattle.eval_math.proofs.Bound.{bound_none, bound_some}
use Rattle.eval_math.proofs.number_products.real_step.Goals as goal

pub returns-in-None : goal.returns-in-None
returns-in-None c = bound_none (folded work.Product (exact_of c.args.x) (exact_of c.args.y)) (λ z. folded work.Sum (exact_of c.args.sum) z) c.in-None.ensures

pub returns-in-Some : goal.returns-in-Some
returns-in-Some c = bound_some (folded work.Product (exact_of c.args.x) (exact_of c.args.y)) (λ z. folded work.Sum (exact_of c.args.sum) z) (exact_of c.in-Some.z) (option_map exact_of c.folded-in-Some.result) c.in-Some.ensures c.folded-in-Some.ensures
