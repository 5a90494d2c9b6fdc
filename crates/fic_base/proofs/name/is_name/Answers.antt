use Rattle.std.proofs.Common.{sym, ◌∙◌, arith}
use Rattle.fic_base.proofs.NameTests.{name_test}
use Rattle.fic_base.proofs.name.is_name.Goals as goal

pub returns : goal.returns
returns c =
    name_test c.args.word.now c.is_keyword.result c.is_keyword.ensures (sym c.starts_with_letter.ensures ∙ c.if-not-starts_with_letter.false) (sym c.has_name_bytes.ensures ∙ c.if-not-has_name_bytes.false)
    (omega (arith, c.if-word-gt-NAME_MAX.false))
