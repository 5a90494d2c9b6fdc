-- The limits on what is walked.
use Rattle.std.specs.Prelude.{ℕ, suc, ◌+◌, nat_le, nat_lt, if◌then◌else◌, List, codes}
use Rattle.fic_base.specs.declared.code.Code.TheVariants as code
use Rattle.fic_base.specs.declared.place.Place.{Place}
use Rattle.fi_rules.specs.Decimals.{size_text}
use Rattle.fi_rules.specs.Value.{Shape, count, is_scalar}
use Rattle.walk_scope.specs.Told.{Told, Passes, Refuses, when◌then◌else◌}

-- nodes, those of callees included, and elements of nodes that aren't scalar
pub record Counts : Type 0 where
  pub nodes : ℕ
  pub elements : ℕ

abbrev pub no_counts : Counts
no_counts = record { nodes = 0; elements = 0 }

abbrev pub node_limit : ℕ
node_limit = 200000

abbrev pub element_limit : ℕ
element_limit = 1048576

-- items of one `for`
abbrev pub item_limit : ℕ
item_limit = 1048576

-- calls inside each other below the entry
abbrev pub call_limit : ℕ
call_limit = 16

-- arms, loops and right sides of `&&` and `||` inside each other, over calls
abbrev pub nesting_limit : ℕ
nesting_limit = 100

-- what a node of this shape counts
abbrev pub elements_in : Shape → ℕ
elements_in s = if is_scalar s then 0 else count s

abbrev pub limited_at : {A : Type 0} → Place → ℕ → Told A
limited_at at limit = Refuses code.Limit at (size_text limit)

-- one more node, of so many elements
abbrev pub counted : Place → ℕ → Counts → Told Counts
counted at elements c =
    when nat_le (c.elements + elements) element_limit
    then (when nat_lt c.nodes node_limit then Passes (record { nodes = suc c.nodes; elements = c.elements + elements }) else limited_at at node_limit)
    else limited_at at element_limit

-- one more arm, loop or right side inside so many
abbrev pub nested : {A : Type 0} → Place → ℕ → A → Told A
nested at nesting x = when nat_lt nesting nesting_limit then Passes x else limited_at at nesting_limit
