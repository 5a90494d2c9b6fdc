use Rattle.std.proofs.Common.{map, string_bytes}
use Rattle.fi_cli.specs.View.{command_view}
use Rattle.fi_cli.proofs.TypeWords.{has_scalars}
use Rattle.fi_cli.proofs.call.carry_out.Goals as goal

pub obey-requires : goal.obey-requires
obey-requires g c = has_scalars (command_view c.in-Ok.command) (map string_bytes c.args.words.now) c.in-Ok.ensures.form
