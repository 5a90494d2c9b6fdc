-- Worked rows of the conditions of parts, complex values and queries, by computing.
use Rattle.std.proofs.Common.{◌≡◌, refl, true, false, []}
use Rattle.std.specs.Prelude.{pos, Some, None}
use Rattle.fic_base.specs.declared.code.Code.TheVariants as code
use Rattle.const_rules.specs.Stored.{is_exact_at, stored_at}
use Rattle.fi_rules.specs.Arguments.{whole_of}
use Rattle.fi_rules.specs.Checked.{Itself, Differs}
use Rattle.fi_rules.specs.Options.{and_then, where_so}
use Rattle.fi_rules.specs.Pairs.{governed_checked}
use Rattle.fi_math.specs.Govern.{usual, governed}
use Rattle.fi_math.specs.Same.{same_fimath}
use Rattle.fi_rules.specs.Value.{scalar}
use Rattle.fi_meaning.specs.Functions.{natural}
use Rattle.fi_values.specs.Queries.{extent_along}
use Rattle.fi_values.specs.Shapes.{common}
use Rattle.node_rules.specs.Parted.{part_ruled, conjugate_ruled, complex_ruled}
use Rattle.node_rules.specs.Queries.{asked_shape, numel_ruled, length_ruled, size_ruled}
use Rattle.node_rules.specs.Ruled.{Missing, Shows, Misfit, bind, needed, ruled, tested}
use Rattle.node_rules.specs.TypedPairs.{typed_pair_met}
use Rattle.node_rules.specs.Types.{FiNode, LogicalNode, NumberNode, IndexNode, TextNode, known}
use Rattle.node_rules.proofs.RangeRows.{number}
use Rattle.node_rules.proofs.Rows.{u8, floored, row_of_two, row_of_three, a2}

-- a number and a logical have no parts
numbers : part_ruled (NumberNode scalar [] None) ≡ Missing code.BadArgument (Shows Itself)
unfolding part_ruled
numbers = refl

logicals : conjugate_ruled (LogicalNode scalar) ≡ Missing code.BadArgument (Shows Itself)
unfolding conjugate_ruled
logicals = refl

-- a complex operand before shapes that don't fit
operands : complex_ruled a2 (FiNode u8 None true row_of_three) ≡ Missing code.BadArgument (Shows Itself)
unfolding typed_pair_met bind
operands = refl

shapes : complex_ruled (FiNode u8 (Some usual) false row_of_two) (FiNode u8 (Some floored) false row_of_three) ≡ Missing code.SizeMismatch (Misfit row_of_two row_of_three)
unfolding typed_pair_met common bind tested needed
shapes = refl

-- fimaths that differ, behind the counts
fimaths : complex_ruled (FiNode u8 (Some usual) false row_of_two) (FiNode u8 (Some floored) false scalar) ≡ Missing code.FimathDiffers (Shows (Differs usual floored))
unfolding typed_pair_met common governed same_fimath governed_checked ruled bind tested needed
fimaths = refl

-- neither a text nor an index has a shape that is asked for
texts : numel_ruled (TextNode []) ≡ Missing code.BadArgument (Shows Itself)
unfolding asked_shape bind needed
texts = refl

indices : length_ruled (IndexNode (pos 1) (pos 3)) ≡ Missing code.BadArgument (Shows Itself)
unfolding asked_shape bind needed
indices = refl

-- there is no third dimension
dimensions : size_ruled a2 (number (pos 3)) ≡ Missing code.BadArgument (Shows Itself)
unfolding asked_shape extent_along natural known whole_of is_exact_at stored_at where_so and_then bind needed
dimensions = refl
