use Rattle.std.proofs.Common.{arith}
use Rattle.fi_rules.specs.View.{operand_side}
use Rattle.scalar_program.proofs.Literals.{literal_reach}
use Rattle.scalar_walk.specs.View.{spot_view}
use Rattle.scalar_walk.proofs.Constants.{stands_there, stands_in_text}
use Rattle.scalar_walk.proofs.operations.stand.Goals as goal

pub returns-in-None-clause-at : goal.returns-in-None-clause-at
returns-in-None-clause-at c = stands_there (spot_view c.args.spot) (operand_side c.args.side.now) c.args.side.now.stored c.in-None.is

pub returns-in-Some-clause-at : goal.returns-in-Some-clause-at
returns-in-Some-clause-at c = stands_in_text (spot_view c.args.spot) (operand_side c.args.side.now) c.args.side.now.stored c.in-Some.z c.signed.result c.in-Some.is c.signed.ensures

pub returns-in-Some-clause-below : goal.returns-in-Some-clause-below
returns-in-Some-clause-below c = λ n h. omega (arith, literal_reach c.signed.result c.in-Some.z)
