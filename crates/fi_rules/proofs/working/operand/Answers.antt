use Rattle.std.proofs.Common.{rules, ◌≡◌, to_z, of_z}
use Rattle.std.specs.Int.{w32}
use Rattle.num_type.specs.View.{type_of}
use Rattle.fi_rules.specs.View.{checked_view}
use Rattle.fi_rules.proofs.Workings.{fi_fine, constant_fine}
use Rattle.fi_rules.proofs.working.operand.Goals as goal

pub returns-in-Fi-clause-num : goal.returns-in-Fi-clause-num
returns-in-Fi-clause-num c = fi_fine c.args.side.now c.in-Fi.t c.in-Fi.m c.in-Fi.is

pub returns-in-Constant-clause-num : goal.returns-in-Constant-clause-num
returns-in-Constant-clause-num c =
    let e : to_z w32 (of_z w32 c.in-Constant.fraction) ≡ c.in-Constant.fraction = search rules in
    constant_fine c.args.side.now c.in-Constant.t c.in-Constant.fraction (to_z w32 (of_z w32 c.in-Constant.fraction)) c.in-Constant.z (checked_view (λ o. type_of o.num) c.constant_operand.result) e c.in-Constant.is c.constant_operand.ensures.num
