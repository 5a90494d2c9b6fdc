use Rattle.std.proofs.Common.{ℤ, Option, None, sym, subst}
use Rattle.num_type.specs.Decimals.{ReadsDecimal}
use Rattle.num_type.proofs.Decimals.{read_nothing, none_left}
use Rattle.num_type.proofs.decimal.read_decimal.Goals as goal

pub returns-in-None : goal.returns-in-None
returns-in-None c =
    let none : Option ℤ = None in
    subst (ReadsDecimal none) (sym (none_left c.args.bytes.now c.in-None.ensures.cases)) read_nothing
