use Rattle.c_read.proofs.Places.{deep_before, deep_behind}
use Rattle.c_read.proofs.function.refused_in_front.Goals as goal

pub returns-then-first-at : goal.returns-then-first-at
returns-then-first-at c = λ i. λ ts. λ ws. λ at_end. λ it. λ h. λ found. λ r.
    deep_before c.texts_go_by_words.ensures.live c.depth_by_words.ensures i it ts ws h at_end c.args.first c.args.at c.if-first-at.true (c.depths_by_words.ensures.each ws) found r

pub returns : goal.returns
returns c = λ i. λ ts. λ ws. λ at_end. λ it. λ h. λ found. λ r.
    deep_behind c.texts_go_by_words.ensures.whole c.texts_go_by_words.ensures.live c.depth_by_words.ensures i it ts ws h at_end c.args.first c.args.at c.if-first-at.false (c.depths_by_words.ensures.each ws) found r
