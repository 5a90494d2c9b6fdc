use Rattle.std.proofs.Common.{map}
use Rattle.c_tree.specs.View.{slot_view}
use Rattle.c_read.proofs.Behind.{some_first, last_tested}
use Rattle.c_read.proofs.function.has_slot.Goals as goal

pub returns-then-not-is_empty : goal.returns-then-not-is_empty
returns-then-not-is_empty c =
    some_first c.args.interface.now.inputs (map slot_view c.args.interface.now.outputs) c.is_empty.result c.is_empty.ensures c.if-not-is_empty.true

pub returns : goal.returns
returns c = last_tested c.args.interface.now c.is_empty-2.result (c.is_empty.ensures.0 c.if-not-is_empty.false) c.is_empty-2.ensures
