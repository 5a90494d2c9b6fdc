use Rattle.const_eval.proofs.complex.Complex.neg.Goals as goal

pub returns : goal.returns
returns c = λ i. record { re = c.neg.ensures i; im = c.neg-2.ensures i }
