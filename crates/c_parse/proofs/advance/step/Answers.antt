use Rattle.std.proofs.Common.{◌∙◌, ap, sym}
use Rattle.std.specs.Prelude.{slice_get}
use Rattle.c_grammar.specs.Machine.{owe, step}
use Rattle.c_parts.specs.View.{reading_view, reader_view}
use Rattle.c_moves.proofs.Goes.{goes, goes_option}
use Rattle.c_parse.proofs.Owed.{due, none_due}
use Rattle.c_parse.proofs.advance.step.Goals as goal

pub compared-requires : goal.compared-requires
compared-requires c = ap (λ ws. slice_get ws c.args.reader.at) (sym c.as_slice.ensures) ∙ sym c.expected.ensures ∙ c.in-Some.is

pub returns-in-None : goal.returns-in-None
unfolding reader_view
returns-in-None c =
    goes c.advance.result _ _
    (ap (λ ws. step c.args.arrays.now (owe ws (reading_view c.args.reader.reading)) c.args.word)
    (sym (none_due c.args.reader.words c.args.reader.at (ap (λ ws. slice_get ws c.args.reader.at) (sym c.as_slice.ensures) ∙ sym c.expected.ensures ∙ c.in-None.is))))
    c.advance.ensures

pub returns-in-Some : goal.returns-in-Some
unfolding reader_view
returns-in-Some c =
    goes_option c.compared.result _ _
    (ap (λ ws. step c.args.arrays.now (owe ws (reading_view c.args.reader.reading)) c.args.word)
    (sym (due c.args.reader.words c.args.reader.at c.in-Some.due (ap (λ ws. slice_get ws c.args.reader.at) (sym c.as_slice.ensures) ∙ sym c.expected.ensures ∙ c.in-Some.is))))
    c.compared.ensures
