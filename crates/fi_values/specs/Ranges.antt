-- Ranges of whole numbers.
use Rattle.std.specs.Prelude.{ℕ, zero, suc, ◌/◌, ℤ, pos, negsuc, ◌+ℤ◌, ◌-ℤ◌, ◌*ℤ◌, nat_abs, ◌&&◌, int_le, nat_lt, nat_le, if◌then◌else◌, List, map, Option, Some}
use Rattle.fi_rules.specs.Value.{Val, Number}
use Rattle.fi_rules.specs.Options.{◌|>◌, where_so}
use Rattle.fi_values.specs.Elements.{below}
use Rattle.fi_values.specs.Numbers.{constant, bound_of}

-- how many items there are; a step of 0 has none
abbrev pub item_count : ℤ → ℤ → ℤ → ℕ
item_count first (pos zero) last = 0
item_count first (pos (suc n)) last = if int_le first last then suc (nat_abs (last -ℤ first) / suc n) else 0
item_count first (negsuc n) last = if int_le last first then suc (nat_abs (first -ℤ last) / suc n) else 0

abbrev pub items : ℤ → ℤ → ℤ → List ℤ
items first step last = map (λ k. first +ℤ step *ℤ pos k) (below (item_count first step last))

-- the items between bounds that are values
abbrev pub items_of : Val → Val → Val → Option (List ℤ)
items_of first step last = bound_of first |> (λ x. bound_of step |> (λ s. bound_of last |> (λ y. Some (items x s y))))

-- the number of items of a range between values
abbrev pub count_of : Val → Val → Val → Option ℕ
count_of first step last = bound_of first |> (λ x. bound_of step |> (λ s. bound_of last |> (λ y. Some (item_count x s y))))

-- a range as a row of numbers: there is no empty one, and none of more than 4,096 elements
unfoldable pub ranged : Val → Val → Val → Option Val
ranged first step last =
    count_of first step last
    |> (λ n. where_so (nat_lt 0 n && nat_le n 4096) n
    |> (λ n. items_of first step last |> (λ zs. Some (Number (record { rows = 1; columns = n }) (map constant zs)))))
