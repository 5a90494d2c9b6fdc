use Rattle.const_eval.proofs.exponent.+doubled.Given as goal

abbrev pub decreases-doubled : goal.decreases-doubled
decreases-doubled l = l.times
