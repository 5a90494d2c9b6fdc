use Rattle.std.proofs.Common.{sym, ◌∙◌, arith}
use Rattle.shape_rules.proofs.Texts.{same_decimal}
use Rattle.c_word.proofs.numbered.read_number.Goals as goal

pub returns-else-n : goal.returns-else-n
returns-else-n c m less e =
    omega (arith, same_decimal m c.in-Some.n (omega (arith, less)) c.in-Some.ensures.1 (sym e ∙ c.in-Some.ensures.0), less, c.if-n.false)
