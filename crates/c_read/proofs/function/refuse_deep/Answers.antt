use Rattle.std.proofs.Common.{subst}
use Rattle.c_grammar.specs.Live.{IsSentence}
use Rattle.c_tree.specs.View.{interface_view}
use Rattle.c_tree.specs.Whole.{program_of}
use Rattle.c_read.proofs.Places.{deep_last}
use Rattle.c_read.proofs.function.refuse_deep.Goals as goal

pub returns-in-Ok : goal.returns-in-Ok
returns-in-Ok c = λ ts. λ at_end. λ h.
    let i = interface_view c.args.interface in
    let p = program_of c.in-Ok.program in
    deep_last c.texts_go_by_words.ensures.live c.depth_by_words.ensures i c.requires.interface p ts c.args.words.now h at_end c.args.first
    (c.depths_by_words.ensures.each c.args.words.now) c.requires.deep (subst (IsSentence i p) c.up_to.ensures c.in-Ok.ensures.program)
