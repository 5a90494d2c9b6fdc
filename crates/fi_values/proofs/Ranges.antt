-- Ranges are sound.
use Rattle.std.proofs.Common.{◌≡◌, refl, sym, ◌∙◌, ◌≤◌, ◌<◌, arith}
use Rattle.std.specs.Prelude.{ℤ, ◌&&◌, nat_lt, nat_le, map, Option, Some, None}
use Rattle.std.proofs.lemmas.Bool.{and_parts, ltb-true, leb-true}
use Rattle.std.proofs.lemmas.List.{length-map}
use Rattle.fi_rules.specs.Options.{◌|>◌, where_so, and_then}
use Rattle.fi_rules.specs.Value.{Val, Number}
use Rattle.fi_values.specs.Elements.{below}
use Rattle.fi_values.specs.Numbers.{constant, bound_of}
use Rattle.fi_values.specs.Ranges.{item_count, items, ranged}
use Rattle.fi_values.specs.Sound.{IsSound}
use Rattle.fi_values.proofs.Holds.{Holds, holds, empty, holds_then, holds_where}
use Rattle.fi_values.proofs.Lists.{length-below}

-- with bounds that are known
abbrev range_by : Option ℤ → Option ℤ → Option ℤ → Option Val
range_by x s y =
    x |> (λ x. s |> (λ s. y |> (λ y. Some (item_count x s y))))
    |> (λ n. where_so (nat_lt 0 n && nat_le n 4096) n
    |> (λ n. x |> (λ x. s |> (λ s. y |> (λ y. Some (items x s y)))) |> (λ zs. Some (Number (record { rows = 1; columns = n }) (map constant zs)))))

by_sound : (x s y : Option ℤ) → Holds IsSound (range_by x s y)
unfolding and_then
by_sound None s y = empty
by_sound (Some x) None y = empty
by_sound (Some x) (Some s) None = empty
by_sound (Some x) (Some s) (Some y) =
    holds_then (holds_where (λ n. (n ≡ item_count x s y) × (0 < n) × (n ≤ 4096)) (nat_lt 0 (item_count x s y) && nat_le (item_count x s y) 4096) (item_count x s y)
    (λ e. let p = and_parts (nat_lt 0 (item_count x s y)) (nat_le (item_count x s y) 4096) e in (refl, ltb-true 0 (item_count x s y) p.0, leb-true (item_count x s y) 4096 p.1)))
    (λ n p. holds _ (
      record { some_rows = omega arith; some_columns = p.1; small = omega (arith, p.2) },
      length-map (items x s y) constant ∙ (length-map (below (item_count x s y)) _ ∙ length-below (item_count x s y)) ∙ sym p.0 ∙ omega arith,
    ))

pub ranged_sound : (first step last : Val) → Holds IsSound (ranged first step last)
unfolding ranged
ranged_sound first step last = by_sound (bound_of first) (bound_of step) (bound_of last)
