-- Ranges as values: their conditions in the order of the codes, and the row of numbers that they are.
use Rattle.std.specs.Prelude.{ℕ, ℤ, pos, ◌+ℤ◌, ◌*ℤ◌, Bool, true, false, not, ◌&&◌, ◌||◌, nat_lt, nat_le, List, map, is_some, None}
use Rattle.fic_base.specs.declared.code.Code.TheVariants as code
use Rattle.fi_rules.specs.Checked.{Itself}
use Rattle.fi_rules.specs.Value.{Val}
use Rattle.fi_values.specs.Elements.{below}
use Rattle.fi_values.specs.Numbers.{constant, bound_of}
use Rattle.fi_values.specs.Ranges.{item_count, items}
use Rattle.node_rules.specs.Ruled.{Ruled, Fine, Shows, Most, ◌>>=◌, needed, tested}
use Rattle.node_rules.specs.Types.{NodeTy, FiNode, LogicalNode, NumberNode, IndexNode, is_index, known}

-- no text and no object; a constant is real, whole, of one element, and within 2 ^ 31 - 1 of 0
unfoldable pub may_bound : NodeTy → Bool
may_bound (FiNode t m c s) = true
may_bound (LogicalNode s) = true
may_bound (NumberNode s xs ys) = is_some (bound_of (known (NumberNode s xs ys)))
may_bound (IndexNode lo hi) = true
may_bound t = false

unfoldable pub is_truth : NodeTy → Bool
is_truth (LogicalNode s) = true
is_truth t = false

unfoldable pub is_fi : NodeTy → Bool
is_fi (FiNode t m c s) = true
is_fi t = false

abbrev pub any_bound : (NodeTy → Bool) → NodeTy → NodeTy → NodeTy → Bool
any_bound is x s y = is x || is s || is y

-- no logical, and no index beside a fi
abbrev pub may_range : NodeTy → NodeTy → NodeTy → Bool
may_range x s y = not (any_bound is_truth x s y || (any_bound is_index x s y && any_bound is_fi x s y))

-- what is known without a run
abbrev pub bound_ruled : NodeTy → Ruled ℤ
bound_ruled t = needed code.DynamicSize (Shows Itself) (bound_of (known t))

-- at least one item, and at most 4,096
abbrev pub row_ruled : ℤ → ℤ → ℤ → Ruled NodeTy
row_ruled first step last =
    tested code.DynamicSize (Shows Itself) (nat_lt 0 (item_count first step last)) (item_count first step last)
    >>= (λ n. tested code.Limit (Most 4096) (nat_le n 4096) n
    >>= (λ n. Fine (NumberNode (record { rows = 1; columns = n }) (map constant (items first step last)) None)))

abbrev pub bounds_ruled : NodeTy → NodeTy → NodeTy → Ruled NodeTy
bounds_ruled x s y = bound_ruled x >>= (λ a. bound_ruled s >>= (λ b. bound_ruled y >>= (λ c. row_ruled a b c)))

-- the type of a range from x by s to y; where no step is written it is the number 1
abbrev pub range_ruled : NodeTy → NodeTy → NodeTy → Ruled NodeTy
range_ruled x s y =
    tested code.BadArgument (Shows Itself) (may_bound x && may_bound s && may_bound y) x
    >>= (λ t. tested code.FloatOperand (Shows Itself) (may_range x s y) t >>= (λ t. bounds_ruled x s y))

abbrev pub range_value : NodeTy → Val
range_value t = known t

-- ---- in the head of a loop

-- the items of a loop: the first, the step, and how many
pub record Turns : Type 0 where
  pub first : ℤ
  pub step : ℤ
  pub count : ℕ

-- the items in their order
abbrev pub items_at : ℤ → ℤ → ℕ → List ℤ
items_at first step count = map (λ k. first +ℤ step *ℤ pos k) (below count)

abbrev pub turns_ruled : NodeTy → NodeTy → NodeTy → Ruled Turns
turns_ruled x s y =
    bound_ruled x >>= (λ a. bound_ruled s >>= (λ b. bound_ruled y >>= (λ c. Fine (record { first = a; step = b; count = item_count a b c }))))

-- there it is no row, and may have any number of items
abbrev pub loop_ruled : NodeTy → NodeTy → NodeTy → Ruled Turns
loop_ruled x s y =
    tested code.BadArgument (Shows Itself) (may_bound x && may_bound s && may_bound y) x
    >>= (λ t. tested code.FloatOperand (Shows Itself) (may_range x s y) t >>= (λ t. turns_ruled x s y))
