use Rattle.std.proofs.Common.{◌≡◌, ◌-◌, ◌*◌, ◌++◌, drop}
use Rattle.fi_values.specs.Elements as elements
use Rattle.eval_array.proofs.lists.stacked.Given as goal

abbrev pub invariant-loop-k : goal.invariant-loop-k
invariant-loop-k g l =
    l.out.items ++ elements.stacked (l.columns - l.k) l.upper_rows l.lower_rows (drop (l.k * l.upper_rows) l.upper) (drop (l.k * l.lower_rows) l.lower)
    ≡ elements.stacked l.columns l.upper_rows l.lower_rows l.upper l.lower
