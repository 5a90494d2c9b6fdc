use Rattle.std.proofs.Common.{subst, sym}
use Rattle.c_read.specs.declared.refusal.CBad.TheVariants as bad
use Rattle.c_read.specs.Program.{IsBadToken}
use Rattle.c_read.proofs.Places.{program_cut, program_shallow}
use Rattle.c_read.proofs.function.after_all.Goals as goal

pub returns-then-at_end : goal.returns-then-at_end
returns-then-at_end c = λ i. λ p. λ ts. λ ws. λ it. λ h. λ found. λ s. λ e.
    program_shallow c.texts_go_by_words.ensures.whole i it p ts ws h c.args.at_end c.if-at_end.true (c.depth_is_the_greatest.ensures.greatest p s.well_formed) (c.depths_by_words.ensures.program p) found s

pub returns : goal.returns
returns c = λ i. λ p. λ ts. λ ws. λ it. λ h. λ found. λ s. λ e.
    subst (λ b. IsBadToken bad.Token i ts b c.args.count) (sym c.if-at_end.false)
    (program_cut c.texts_go_by_words.ensures.live c.depth_by_words.ensures i it p ts ws h c.args.count e found s)
