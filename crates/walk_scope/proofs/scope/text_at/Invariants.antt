use Rattle.std.proofs.Common.{◌≡◌, drop}
use Rattle.mat_token.specs.Lexeme.{lexemes_of}
use Rattle.walk_scope.specs.Shown.{text_at}
use Rattle.walk_scope.proofs.scope.text_at.Given as goal

abbrev pub invariant-loop-t : goal.invariant-loop-t
invariant-loop-t l = text_at (lexemes_of l.bytes l.tokens) l.at ≡ text_at (lexemes_of l.bytes (drop l.t-index l.tokens)) l.at
