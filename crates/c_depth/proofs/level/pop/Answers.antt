use Rattle.c_depth.proofs.Walk.{top_of, below_top}
use Rattle.c_depth.proofs.level.pop.Goals as goal

pub returns-in-Some-clause-top : goal.returns-in-Some-clause-top
returns-in-Some-clause-top c = top_of c.args.outer.now c.pop.new.self c.in-Some.base c.in-Some.ensures

pub returns-in-Some-clause-rest : goal.returns-in-Some-clause-rest
returns-in-Some-clause-rest c = below_top c.args.outer.now c.pop.new.self c.in-Some.base c.in-Some.ensures
