use Rattle.std.proofs.Common.{◌≡◌, ◌≤◌, ◌-◌, ◌++◌, drop, length}
use Rattle.std.specs.Option.{option_map}
use Rattle.mat_grammar.specs.Words.{undoubled}
use Rattle.mat_grammar.proofs.text.unescaped.Given as goal

abbrev pub invariant-loop-at : goal.invariant-loop-at
invariant-loop-at l = record {
  within : l.at ≤ length l.own;
  is : option_map (λ more. l.text.items ++ more) (undoubled l.quote (drop l.at l.own)) ≡ undoubled l.quote l.own;
}

abbrev pub decreases-loop-at : goal.decreases-loop-at
decreases-loop-at l = length l.initial.own - l.at
