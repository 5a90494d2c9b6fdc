-- Arrays of one number, as zeros and ones make them, also in the type of a fi: their conditions in the order of the codes, the types of their results,
-- and their values.
use Rattle.std.specs.Prelude.{ℕ, ℤ, Bool, true, false, bytes_eq, List, [], ◌∷◌, length, map, codes, Option, None, is_some}
use Rattle.fic_base.specs.declared.code.Code.TheVariants as code
use Rattle.num_type.specs.Constants.{Exact}
use Rattle.fi_rules.specs.declared.built_ins.BuiltIn.TheVariants as built_in
use Rattle.fi_rules.specs.Arguments.{whole_of}
use Rattle.fi_rules.specs.Checked.{Itself, Counts}
use Rattle.fi_rules.specs.Options.{◌|>◌, where_so}
use Rattle.fi_rules.specs.Value.{Shape, count, is_scalar, Val}
use Rattle.fi_values.specs.Elements.{below}
use Rattle.fi_values.specs.Shapes.{is_small}
use Rattle.fi_meaning.specs.Functions.{extent}
use Rattle.node_rules.specs.Arguments.{plain}
use Rattle.node_rules.specs.Makers.{maker_ruled, maker_value}
use Rattle.node_rules.specs.Ranges.{is_fi}
use Rattle.node_rules.specs.Ruled.{Ruled, Fine, Missing, Shows, Most, ◌>>=◌, needed, tested}
use Rattle.node_rules.specs.Types.{NodeTy, FiNode, LogicalNode, NumberNode, IndexNode, TextNode, known}

-- ---- shapes

-- the whole number that a real constant of one element is
unfoldable pub whole_constant : NodeTy → Option ℤ
whole_constant (NumberNode s (c ∷ []) None) = where_so (is_scalar s) c |> whole_of
whole_constant t = None

-- no text and no object; a constant is real, whole and of one element
unfoldable pub may_size : NodeTy → Bool
may_size (FiNode t m c s) = true
may_size (LogicalNode s) = true
may_size (IndexNode lo hi) = true
may_size (NumberNode s xs ys) = is_some (whole_constant (NumberNode s xs ys))
may_size t = false

abbrev pub allowed : {A : Type 0} → Bool → A → Ruled A
allowed b x = tested code.BadArgument (Shows Itself) b x

-- known without a run, and from 1 on
abbrev pub extent_ruled : NodeTy → Ruled ℕ
extent_ruled t = needed code.DynamicSize (Shows Itself) (extent (known t))

abbrev pub small_ruled : Shape → Ruled Shape
small_ruled s = tested code.Limit (Most 4096) (is_small s) s

-- where one extent is given
abbrev pub square_ruled : NodeTy → Ruled Shape
square_ruled n = allowed (may_size n) n >>= (λ _. extent_ruled n >>= (λ k. small_ruled (record { rows = k; columns = k })))

abbrev pub rectangle_ruled : NodeTy → NodeTy → Ruled Shape
rectangle_ruled m n =
    allowed (may_size m) m
    >>= (λ _. allowed (may_size n) n
    >>= (λ _. extent_ruled m >>= (λ r. extent_ruled n >>= (λ k. small_ruled (record { rows = r; columns = k })))))

-- ---- before the node is counted

-- what is to be worked out behind the counts
pub data Filling : Type 0 where
  -- numbers
  Plain : Shape → Filling
  -- their cast to the type of a fi
  Like : Shape → NodeTy → Filling

unfoldable pub filling_shape : Filling → Shape
filling_shape (Plain s) = s
filling_shape (Like s p) = s

unfoldable pub is_like : NodeTy → Bool
is_like (TextNode text) = bytes_eq text (codes "like")
is_like t = false

-- the word like, and a fi
abbrev pub like_ruled : NodeTy → NodeTy → Ruled Shape → Ruled Filling
like_ruled w p c = allowed (is_like w) w >>= (λ _. allowed (is_fi p) p >>= (λ _. c >>= (λ s. Fine (Like s p))))

unfoldable pub filled_met : List NodeTy → Ruled Filling
filled_met [] = Missing code.ArgCount (Shows (Counts 0 1))
filled_met (n ∷ []) = square_ruled n >>= (λ s. Fine (Plain s))
filled_met (m ∷ n ∷ []) = rectangle_ruled m n >>= (λ s. Fine (Plain s))
filled_met (n ∷ w ∷ p ∷ []) = like_ruled w p (square_ruled n)
filled_met (m ∷ n ∷ w ∷ p ∷ []) = like_ruled w p (rectangle_ruled m n)
filled_met ts = Missing code.ArgCount (Shows (Counts (length ts) 4))

-- ---- behind the counts

abbrev pub filled_node : Exact → Shape → NodeTy
filled_node z s = NumberNode s (map (λ k. z) (below (count s))) None

unfoldable pub filled_worked : Exact → Filling → Ruled NodeTy
filled_worked z (Plain s) = Fine (filled_node z s)
filled_worked z (Like s p) = maker_ruled built_in.Cast (plain (filled_node z s) ∷ plain (TextNode (codes "like")) ∷ plain p ∷ [])

abbrev pub filled_ruled : Exact → List NodeTy → Ruled NodeTy
filled_ruled z ts = filled_met ts >>= filled_worked z

-- ---- values

unfoldable pub filled_value : Exact → NodeTy → Val
filled_value z (FiNode t m c s) = maker_value built_in.Cast (FiNode t m c s) (known (filled_node z s) ∷ [])
filled_value z t = known t
