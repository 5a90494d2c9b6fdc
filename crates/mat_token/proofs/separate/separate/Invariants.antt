use Rattle.std.proofs.Common.{◌≡◌, ◌++◌, false, [], drop}
use Rattle.mat_token.specs.Brackets.{separated}
use Rattle.mat_token.proofs.separate.separate.Given as goal

abbrev pub invariant-loop-token : goal.invariant-loop-token
invariant-loop-token l =
    l.out.items ++ separated l.bytes l.brackets l.operand (drop l.token-index l.tokens) ≡ separated l.bytes [] false l.tokens
