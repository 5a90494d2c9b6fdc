use Rattle.std.proofs.Common.{map, string_bytes}
use Rattle.fi_cli.proofs.Exact.{TextLaws, says_answers, says_rises}
use Rattle.fi_cli.proofs.call.top.Goals as goal

pub returns : goal.returns
returns g c =
    let laws : TextLaws = record { one = c.one_answer.ensures.program; apart = c.one_answer.ensures.not_both } in
    let says = c.serve-answered.ensures.says in
    record {
      says = says;
      answers = says_answers laws c.serve-answered.result (map string_bytes c.args.words.now) _ _ _ says;
      keeps = c.serve-answered.ensures.keeps;
      rises = c.serve-answered.ensures.rises;
      counts = says_rises c.serve-answered.result (map string_bytes c.args.words.now) _ _ _ says;
    }
