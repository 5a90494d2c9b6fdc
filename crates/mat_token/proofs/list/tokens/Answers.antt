use Rattle.std.proofs.Common.{false, [], ap, ◌∙◌, arith}
use Rattle.mat_token.specs.Reads.{Gives}
use Rattle.mat_token.specs.Brackets.{separated}
use Rattle.mat_token.proofs.Kept.{tokens_kept}
use Rattle.mat_token.proofs.list.tokens.Goals as goal

pub returns-clause-kept : goal.returns-clause-kept
returns-clause-kept c =
    let bytes = c.args.bytes.now in
    tokens_kept bytes c.in_ok-tokens.tokens.items (record {
      long = λ h. absurd (omega (arith, h, c.if-bytes-gt-SOURCE_MAX.false));
      short = λ _. (
        Gives c.in_ok-read.read.items,
        c.in_ok-read.ensures.tokens,
        ap Gives (c.in_ok-tokens.ensures.tokens ∙ ap (separated bytes [] false) c.deref.ensures.value),
      );
    })
