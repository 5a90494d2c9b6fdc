use Rattle.std.proofs.Common.{arith}
use Rattle.mat_parts.proofs.Views.{funcs_push}
use Rattle.mat_parts.proofs.body.and_func.Goals as goal

pub invariant_of-result : goal.invariant_of-result
invariant_of-result c = record { sized = omega (arith, funcs_push _ _ _ c.in_ok-push.ensures.items) }
