use Rattle.std.proofs.Common.{sym, ◌∙◌}
use Rattle.num_type.specs.View.{exact_of}
use Rattle.eval_value.specs.View.{value_view}
use Rattle.eval_bits.proofs.Raised.{no_base, no_exponent, scalars_raised}
use Rattle.eval_bits.proofs.powers.power.Goals as goal

pub returns-in-None : goal.returns-in-None
returns-in-None c = sym (no_base (value_view c.args.x.now) (value_view c.args.y.now) (sym c.in-None.ensures))

pub returns-in-None-real_constant : goal.returns-in-None-real_constant
returns-in-None-real_constant c = sym (no_exponent (value_view c.args.x.now) (value_view c.args.y.now) (sym c.in-None-real_constant.ensures))

pub returns-in_ok-r-in-Some-real_constant : goal.returns-in_ok-r-in-Some-real_constant
returns-in_ok-r-in-Some-real_constant c =
    c.in_ok-r-in-Some-real_constant.ensures
    ∙ sym (scalars_raised (value_view c.args.x.now) (value_view c.args.y.now) (exact_of c.in-Some.a) (exact_of c.in-Some-real_constant.b) (sym c.in-Some.ensures) (sym c.in-Some-real_constant.ensures))
