-- Worked rows of the conditions of ranges, by computing: each where the next one in the order of the codes is missing too.
use Rattle.std.proofs.Common.{◌≡◌, refl, [], ◌∷◌}
use Rattle.std.specs.Prelude.{ℤ, pos, negsuc, None}
use Rattle.fic_base.specs.declared.code.Code.TheVariants as code
use Rattle.num_type.specs.Constants.{Exact}
use Rattle.num_type.specs.Precision.{whole}
use Rattle.const_rules.specs.Stored.{is_exact_at, stored_at}
use Rattle.fi_rules.specs.Arguments.{whole_of}
use Rattle.fi_rules.specs.Checked.{Itself}
use Rattle.fi_rules.specs.Options.{and_then, where_so}
use Rattle.fi_rules.specs.Value.{scalar}
use Rattle.fi_values.specs.Numbers.{bound_of}
use Rattle.node_rules.specs.Ranges.{may_bound, is_truth, is_fi, range_ruled}
use Rattle.node_rules.specs.Ruled.{Missing, Shows, Most, bind, needed, tested}
use Rattle.node_rules.specs.Types.{NodeTy, LogicalNode, NumberNode, IndexNode, TextNode, is_index, known}
use Rattle.node_rules.proofs.Rows.{a2}

abbrev pub number : ℤ → NodeTy
number z = NumberNode scalar (whole z ∷ []) None

abbrev half : Exact
half = record { significand = pos 1; exponent = negsuc 0 }

-- a text before a logical
texts : range_ruled (TextNode []) (number (pos 1)) (LogicalNode scalar) ≡ Missing code.BadArgument (Shows Itself)
unfolding may_bound bind tested
texts = refl

-- a constant that isn't whole before a logical
halves : range_ruled (NumberNode scalar (half ∷ []) None) (number (pos 1)) (LogicalNode scalar) ≡ Missing code.BadArgument (Shows Itself)
unfolding may_bound bound_of whole_of is_exact_at stored_at known where_so and_then bind tested
halves = refl

-- a logical before a bound that is no constant
logicals : range_ruled (LogicalNode scalar) (number (pos 1)) a2 ≡ Missing code.FloatOperand (Shows Itself)
unfolding may_bound is_truth bound_of whole_of is_exact_at stored_at known where_so and_then bind tested
logicals = refl

-- an index beside a fi before the same
indices : range_ruled (IndexNode (pos 1) (pos 3)) (number (pos 1)) a2 ≡ Missing code.FloatOperand (Shows Itself)
unfolding may_bound is_truth is_index is_fi bound_of whole_of is_exact_at stored_at known where_so and_then bind tested
indices = refl

-- a bound that is no constant
variables : range_ruled (number (pos 1)) (number (pos 1)) (IndexNode (pos 1) (pos 5000)) ≡ Missing code.DynamicSize (Shows Itself)
unfolding may_bound is_truth is_index is_fi bound_of whole_of is_exact_at stored_at known where_so and_then bind tested needed
variables = refl

-- no item
empty : range_ruled (number (pos 2)) (number (pos 1)) (number (pos 1)) ≡ Missing code.DynamicSize (Shows Itself)
unfolding may_bound is_truth is_index is_fi bound_of whole_of is_exact_at stored_at known where_so and_then bind tested needed
empty = refl

-- 5,000 items
long : range_ruled (number (pos 1)) (number (pos 1)) (number (pos 5000)) ≡ Missing code.Limit (Most 4096)
unfolding may_bound is_truth is_index is_fi bound_of whole_of is_exact_at stored_at known where_so and_then bind tested needed
long = refl
