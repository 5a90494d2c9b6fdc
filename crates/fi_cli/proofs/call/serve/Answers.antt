use Rattle.std.proofs.Common.{refl, map, string_bytes}
use Rattle.fi_cli.specs.View.{cause_view}
use Rattle.fi_cli.proofs.Tells.{cause_told}
use Rattle.fi_cli.proofs.call.serve.Goals as goal

pub returns-in-Err-clause-says : goal.returns-in-Err-clause-says
returns-in-Err-clause-says g c = cause_told c.tell.result (cause_view c.in-Err.fault) (map string_bytes c.args.words.now) _ _ _ c.in-Err.ensures.cause (refl, refl) c.tell.ensures
