use Rattle.std.proofs.Common.{refl}
use Rattle.c_tree.specs.View.{interface_view}
use Rattle.c_tree.specs.Whole.{program_of}
use Rattle.c_read.proofs.function.read_words.Goals as goal

pub returns-in-Ok : goal.returns-in-Ok
returns-in-Ok c = λ ts. λ h.
    let i = interface_view c.args.interface in
    let p = program_of c.in-Ok.program in
    c.unless_bad-r.ensures i ts c.args.at_end (c.after_all-bad.ensures i p ts c.args.words.now c.requires.interface h c.requires.deep c.in-Ok.ensures.program refl)
