use Rattle.mat_parse.proofs.Parses.{parse_once}
use Rattle.mat_parse.proofs.parser.one_parse.Goals as goal

pub returns : goal.returns
returns c = parse_once
