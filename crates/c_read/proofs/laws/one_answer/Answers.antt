use Rattle.c_read.proofs.Once.{one_refusal, no_refusal}
use Rattle.c_read.proofs.laws.one_answer.Goals as goal

pub returns-clause-program : goal.returns-clause-program
returns-clause-program c = λ p. λ q. λ bytes. λ t. λ u. c.one_program.ensures p q bytes t.well_formed u.well_formed t.text u.text

pub returns-clause-refusal : goal.returns-clause-refusal
returns-clause-refusal c = one_refusal c.one_interface.ensures c.one_reading.ensures

pub returns-clause-not_both : goal.returns-clause-not_both
returns-clause-not_both c = λ p. λ k. λ n. λ bytes. λ t.
    no_refusal c.one_interface.ensures c.tokens_are_read.ensures c.interface_has_a_slot.ensures c.depth_by_words.ensures p
    (record {
      tokens = c.words_are_spelled.ensures.tokens p t.well_formed;
      texts = c.words_are_spelled.ensures.texts p t.well_formed;
      depths_read = c.depths_by_words.ensures.program p;
      greatest_is = c.depth_is_the_greatest.ensures.greatest p t.well_formed;
    })
    k n bytes t
