use Rattle.std.proofs.Common.{◌∙◌, ap, sym, ◌++◌}
use Rattle.std.specs.Prelude.{codes}
use Rattle.c_token.proofs.ElementTexts.{fixed_only, no_truth}
use Rattle.c_token.proofs.kind.read_kind.Goals as goal

pub returns-then-not-has_front : goal.returns-then-not-has_front
returns-then-not-has_front c = fixed_only c.read_fixed.result c.args.text.now c.if-not-has_front.ensures c.read_fixed.ensures

pub returns-in-None : goal.returns-in-None
returns-in-None c =
    no_truth c.args.text.now c.split_at.result.1.now (c.if-not-has_front.ensures ∙ ap (λ l. codes "b:" ++ l) (sym c.split_at.ensures.back)) c.in-None.ensures
