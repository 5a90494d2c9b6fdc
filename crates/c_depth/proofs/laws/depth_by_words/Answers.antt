use Rattle.c_depth.proofs.Fronts.{depth_by_front}
use Rattle.c_depth.proofs.laws.depth_by_words.Goals as goal

pub returns : goal.returns
returns c = λ i. λ p. λ ts. λ more. λ ws. λ n. λ it. λ h. λ m. λ s.
    depth_by_front i p ts more ws n (λ v. λ w. c.one_word.ensures i v w it) (c.words_are_spelled.ensures.tokens p s.well_formed) (c.words_are_spelled.ensures.texts p s.well_formed) h m s
