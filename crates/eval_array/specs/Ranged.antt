-- Items of ranges as the code has them.
use Rattle.std.specs.Prelude.{ℤ, pos, ◌+ℤ◌, ◌*ℤ◌, List, map, Option, Some, None}
use Rattle.fi_values.specs.Elements.{below}
use Rattle.eval_array.specs.declared.items.Items.{Items}

abbrev pub items_view : Items → List ℤ
items_view r = map (λ k. r.first +ℤ r.step *ℤ pos k) (below r.count)

abbrev pub items_answer : Option Items → Option (List ℤ)
items_answer None = None
items_answer (Some r) = Some (items_view r)
