use Rattle.eval_array.proofs.Joined.{small_made}
use Rattle.eval_array.proofs.shapes.small_shape.Goals as goal

pub returns : goal.returns
returns c = small_made c.make.result c.args.rows c.args.columns c.requires.rows c.requires.columns c.make.ensures.limits c.make.ensures.rows c.make.ensures.columns
