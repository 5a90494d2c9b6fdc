use Rattle.std.proofs.Common.{◌∙◌, ap, sym}
use Rattle.c_grammar.specs.Equal.{same_word}
use Rattle.c_grammar.proofs.Alike.{same_word_is, same_word_self}
use Rattle.c_grammar.proofs.same.same_word.Goals as goal

pub returns-clause-decides : goal.returns-clause-decides
returns-clause-decides c =
    let v = c.args.v in
    let w = c.args.w in
    (λ h. same_word_is v w (sym c.compared.ensures ∙ h), λ e. c.compared.ensures ∙ ap (same_word v) (sym e) ∙ same_word_self v)
