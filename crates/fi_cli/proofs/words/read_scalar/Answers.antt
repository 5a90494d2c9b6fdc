use Rattle.std.proofs.Common.{inl, inr, ◌∙◌}
use Rattle.fi_cli.proofs.TypeWords.{other_word}
use Rattle.fi_cli.proofs.words.read_scalar.Goals as goal

pub returns-then-declared : goal.returns-then-declared
returns-then-declared c = other_word c.args.word.now c.in-Some.declared c.in-Some.ensures (inl c.if-declared.true)

pub returns-else-elements-eq1 : goal.returns-else-elements-eq1
returns-else-elements-eq1 c = other_word c.args.word.now c.in-Some.declared c.in-Some.ensures (inr (λ e. c.if-elements-eq1.false (c.elements.ensures.value ∙ e)))
