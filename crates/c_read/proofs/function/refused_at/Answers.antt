use Rattle.c_read.proofs.Places.{refused_shallow}
use Rattle.c_read.proofs.function.refused_at.Goals as goal

pub returns : goal.returns
returns c = λ i. λ ts. λ ws. λ at_end. λ it. λ h. λ found. λ r.
    refused_shallow c.texts_go_by_words.ensures.whole c.texts_go_by_words.ensures.live c.depth_by_words.ensures i it ts ws h at_end c.args.at found r
