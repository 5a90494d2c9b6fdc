use Rattle.shape_rules.proofs.Readers.{whole_none, parted_none, parted}
use Rattle.shape_rules.proofs.declared.read_type.Goals as goal

pub returns-in-None-read_num : goal.returns-in-None-read_num
returns-in-None-read_num c = whole_none c.args.bytes.now c.in-None.ensures c.in-None-read_num.ensures

pub returns-in-None-read_num-2 : goal.returns-in-None-read_num-2
returns-in-None-read_num-2 c = parted_none c.args.bytes.now c.in-Some.text.now c.in-Some.rest.now c.in-Some.ensures.0 c.in-Some.ensures.1 c.in-None-read_num-2.ensures

pub returns-in-Some-read_num-2 : goal.returns-in-Some-read_num-2
returns-in-Some-read_num-2 c =
    parted c.read_behind.result c.in-Some-read_num-2.num c.args.bytes.now c.in-Some.text.now c.in-Some.rest.now c.in-Some.ensures.0 c.in-Some.ensures.1 c.in-Some-read_num-2.ensures c.read_behind.ensures
