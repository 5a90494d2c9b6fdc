use Rattle.std.proofs.Common.{◌≡◌, ◌≤◌, ◌<◌, ◌^◌, ℕ, sym, ◌∙◌, subst, arith}
use Rattle.shape_rules.proofs.Texts.{same_decimal}
use Rattle.fi_cli.proofs.words.read_turns.Goals as goal

pub returns-else-turns-le-TURNS_MAX : goal.returns-else-turns-le-TURNS_MAX
returns-else-turns-le-TURNS_MAX c turns h =
    let most : turns ≤ 1000000 = h.most in
    let small : turns < 2 ^ 128 = omega (arith, most) in
    let same : turns ≡ c.in-Some.turns = same_decimal turns c.in-Some.turns small c.in-Some.ensures.1 (sym h.text ∙ c.in-Some.ensures.0) in
    omega (arith, same, most, c.if-turns-le-TURNS_MAX.false)
