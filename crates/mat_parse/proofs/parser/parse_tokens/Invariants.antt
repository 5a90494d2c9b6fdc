use Rattle.std.proofs.Common.{◌≡◌, ◌≤◌, ◌-◌, take, length}
use Rattle.mat_token.specs.Lexeme.{lexemes_of}
use Rattle.mat_grammar.specs.Machine.{state}
use Rattle.mat_grammar.specs.Least.{least}
use Rattle.mat_parts.specs.Pending.{state_view}
use Rattle.mat_parse.proofs.parser.parse_tokens.Given as goal

abbrev pub invariant-loop-index : goal.invariant-loop-index
invariant-loop-index l = record {
  within : l.index ≤ length l.tokens;
  is : state_view l.reading ≡ state (take l.index (lexemes_of l.bytes l.tokens));
  shallow : least (state_view l.reading) ≤ 100;
}

abbrev pub decreases-loop-index : goal.decreases-loop-index
decreases-loop-index l = length l.initial.tokens - l.index
