use Rattle.std.proofs.Common.{ℤ, ◌∙◌, ap, rules, w32, SFits}
use Rattle.std.proofs.lemmas.Int.{to_z-of_z}
use Rattle.num_type.specs.Types.{word_limit}
use Rattle.num_type.specs.View.{type_of}
use Rattle.fi_math.specs.Made.{limited}
use Rattle.fi_math.specs.Rules.{mode_type, sum_by}
use Rattle.fi_math.proofs.types.sum_mode_type.Goals as goal

pub returns : goal.returns
unfolding sum_by
returns c =
    let f : SFits w32 c.args.m.now.sum_fraction = search rules in
    c.by_mode.ensures ∙ ap (λ (x : ℤ). limited word_limit (mode_type c.args.m.now.sum_mode c.args.m.now.sum_word x (type_of c.args.full))) (to_z-of_z w32 c.args.m.now.sum_fraction f)
