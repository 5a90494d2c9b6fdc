use Rattle.mat_grammar.proofs.shallow_is_live.Goals as goal

pub returns : goal.returns
returns c = λ ts h. (h.0, h.1, h.3)
