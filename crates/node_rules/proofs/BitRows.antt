-- Worked rows of the conditions of functions on bits, by computing: each where the next one in the order of the codes is missing too.
use Rattle.std.proofs.Common.{◌≡◌, refl, true, false}
use Rattle.std.specs.Prelude.{pos, Some, None}
use Rattle.fic_base.specs.declared.code.Code.TheVariants as code
use Rattle.const_rules.specs.Stored.{is_exact_at, stored_at}
use Rattle.num_type.specs.Types.{NumericType}
use Rattle.fi_rules.specs.Arguments.{whole_of}
use Rattle.fi_rules.specs.Checked.{Itself, Differs}
use Rattle.fi_rules.specs.Options.{and_then, where_so}
use Rattle.fi_rules.specs.Pairs.{governed_checked}
use Rattle.fi_math.specs.Govern.{usual, governed}
use Rattle.fi_math.specs.Same.{same_fimath}
use Rattle.fi_rules.specs.Value.{scalar}
use Rattle.fi_meaning.specs.Functions.{natural}
use Rattle.fi_values.specs.Shapes.{common}
use Rattle.node_rules.specs.Bits.{bits_paired, complemented_ruled, shifted_ruled, sliced_ruled}
use Rattle.node_rules.specs.Ruled.{Missing, Shows, Misfit, bind, needed, ruled, tested}
use Rattle.node_rules.specs.TypedPairs.{typed_pair_met}
use Rattle.node_rules.specs.Types.{FiNode, LogicalNode, IndexNode, known}
use Rattle.node_rules.proofs.RangeRows.{number}
use Rattle.node_rules.proofs.Rows.{u8, floored, row_of_two, row_of_three, a2}

abbrev pub s8 : NumericType
s8 = record { signed = true; word = 8; fraction = pos 0 }

-- unequal types before shapes that don't fit
types : bits_paired a2 (FiNode s8 None false row_of_three) ≡ Missing code.BadArgument (Shows Itself)
unfolding typed_pair_met bind tested
types = refl

-- a complex operand before the same
complex_pairs : bits_paired a2 (FiNode u8 None true row_of_three) ≡ Missing code.BadArgument (Shows Itself)
unfolding typed_pair_met bind
complex_pairs = refl

-- shapes that don't fit before fimaths that differ
shapes : bits_paired (FiNode u8 (Some usual) false row_of_two) (FiNode u8 (Some floored) false row_of_three) ≡ Missing code.SizeMismatch (Misfit row_of_two row_of_three)
unfolding typed_pair_met common bind tested needed
shapes = refl

-- fimaths that differ, behind the counts
fimaths : bits_paired (FiNode u8 (Some usual) false row_of_two) (FiNode u8 (Some floored) false scalar) ≡ Missing code.FimathDiffers (Shows (Differs usual floored))
unfolding typed_pair_met common governed same_fimath governed_checked ruled bind tested needed
fimaths = refl

-- a logical and an index have no bits
logicals : complemented_ruled (LogicalNode scalar) ≡ Missing code.BadArgument (Shows Itself)
unfolding complemented_ruled
logicals = refl

indices : complemented_ruled (IndexNode (pos 1) (pos 3)) ≡ Missing code.BadArgument (Shows Itself)
unfolding complemented_ruled
indices = refl

-- by a fi, and by as many bits as the word has
counts : shifted_ruled a2 a2 ≡ Missing code.BadArgument (Shows Itself)
unfolding shifted_ruled natural known bind needed
counts = refl

words : shifted_ruled a2 (number (pos 8)) ≡ Missing code.BadArgument (Shows Itself)
unfolding shifted_ruled natural known whole_of is_exact_at stored_at where_so and_then bind needed tested
words = refl

-- from a lower bit down to a higher one, and above the word
slices : sliced_ruled a2 (number (pos 2)) (number (pos 3)) ≡ Missing code.BadArgument (Shows Itself)
unfolding sliced_ruled natural known whole_of is_exact_at stored_at where_so and_then bind needed tested
slices = refl

highest : sliced_ruled a2 (number (pos 9)) (number (pos 3)) ≡ Missing code.BadArgument (Shows Itself)
unfolding sliced_ruled natural known whole_of is_exact_at stored_at where_so and_then bind needed tested
highest = refl
