use Rattle.eval_bits.proofs.Raised.{raised_folds, raised_meets, raised_missing}
use Rattle.eval_bits.proofs.powers.raised.Goals as goal

pub returns-in-Ok-Folds : goal.returns-in-Ok-Folds
returns-in-Ok-Folds c = raised_folds c.args.x c.args.y c.in-Ok-Folds.c (rw c.in-Ok-Folds.field-0-is at c.in-Ok-Folds.ensures)

pub unreachable-requires : goal.unreachable-requires
unreachable-requires c = raised_meets c.args.x c.args.y _ _ (rw c.in-Ok-Meets.field-0-is at c.in-Ok-Meets.ensures)

pub returns : goal.returns
returns c = raised_missing c.args.x c.args.y _ _ c.in-Err.ensures
