-- Worked rows of calls of built-in functions, by computing: how many arguments come before what they are.
use Rattle.std.proofs.Common.{◌≡◌, refl, false, [], ◌∷◌}
use Rattle.std.specs.Prelude.{pos, None}
use Rattle.fic_base.specs.declared.code.Code.TheVariants as code
use Rattle.fi_math.specs.Logs.{halvings}
use Rattle.fi_math.specs.Made.{limited, and_then}
use Rattle.fi_math.specs.Rules.{sum_made}
use Rattle.fi_ops.specs.Bits.{word_type}
use Rattle.fi_rules.specs.Pairs.{limits_checked}
use Rattle.fi_rules.specs.Checked.{Itself, Counts, Whole}
use Rattle.fi_meaning.specs.Functions.{Numel, Sum, Real, BitSlice, Truth, natural}
use Rattle.node_rules.specs.Built.{function_met, function_worked, function_ruled}
use Rattle.node_rules.specs.Parted.{part_ruled}
use Rattle.node_rules.specs.Queries.{asked_shape}
use Rattle.node_rules.specs.Ruled.{Missing, Shows, bind, needed, ruled}
use Rattle.node_rules.specs.Sums.{sum_met}
use Rattle.node_rules.specs.Types.{FiNode, IndexNode, TextNode, known}
use Rattle.node_rules.proofs.Rows.{a2, row_of_two}

-- numel()
no_argument : function_ruled Numel [] ≡ Missing code.ArgCount (Shows (Counts 0 1))
unfolding function_met function_worked bind
no_argument = refl

-- sum(), and of three arguments: of 1 and 2 that it may have, the least above 0, and the greatest
no_addends : function_ruled Sum [] ≡ Missing code.ArgCount (Shows (Counts 0 1))
unfolding function_met function_worked bind
no_addends = refl

three_addends : function_ruled Sum (a2 ∷ a2 ∷ a2 ∷ []) ≡ Missing code.ArgCount (Shows (Counts 3 2))
unfolding function_met function_worked bind
three_addends = refl

-- real('x','y'): how many comes before what they are
counted_first : function_ruled Real (TextNode [] ∷ TextNode [] ∷ []) ≡ Missing code.ArgCount (Shows (Counts 2 1))
unfolding function_met function_worked bind
counted_first = refl

-- true(a)
truth_of_something : function_ruled (Truth false) (a2 ∷ []) ≡ Missing code.ArgCount (Shows (Counts 1 0))
unfolding function_met function_worked bind
truth_of_something = refl

-- sum(a, a): the dimension is a constant
computed_dimension : function_ruled Sum (a2 ∷ a2 ∷ []) ≡ Missing code.BadArgument (Shows Itself)
unfolding function_met function_worked natural known bind needed
computed_dimension = refl

-- sum('x') and real('x')
text_summed : function_ruled Sum (TextNode [] ∷ []) ≡ Missing code.BadArgument (Shows Itself)
unfolding function_met function_worked sum_met bind
text_summed = refl

text_parted : function_ruled Real (TextNode [] ∷ []) ≡ Missing code.BadArgument (Shows Itself)
unfolding function_met function_worked part_ruled bind
text_parted = refl

-- a logical has a shape, an index has none
index_asked : function_ruled Numel (IndexNode (pos 1) (pos 3) ∷ []) ≡ Missing code.BadArgument (Shows Itself)
unfolding function_met function_worked asked_shape bind needed
index_asked = refl

-- bitsliceget(a, b)
two_for_three : function_ruled BitSlice (a2 ∷ a2 ∷ []) ≡ Missing code.ArgCount (Shows (Counts 2 3))
unfolding function_met function_worked bind
two_for_three = refl

-- 65 bits of two addends of 64, behind the counts
wide_sum : function_ruled Sum (FiNode (word_type 64) None false row_of_two ∷ []) ≡ Missing code.TooWide (Shows (Whole (pos 65)))
unfolding function_met function_worked sum_met sum_made halvings limited and_then limits_checked ruled bind
wide_sum = refl
