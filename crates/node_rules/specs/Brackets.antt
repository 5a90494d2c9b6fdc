-- Brackets: their conditions in the order of the codes, the types of their results, and their values.
use Rattle.std.specs.Prelude.{ℕ, ◌+◌, Bool, true, false, ◌&&◌, ◌||◌, nat_eq, List, [], ◌∷◌, map, Option, Some, None}
use Rattle.fic_base.specs.declared.code.Code.TheVariants as code
use Rattle.num_type.specs.Constants.{Exact}
use Rattle.num_type.specs.Types.{NumericType}
use Rattle.fi_math.specs.declared.fimath.Fimath.{Fimath}
use Rattle.fi_rules.specs.Checked.{Itself}
use Rattle.fi_rules.specs.Value.{Shape, Val, Fi, ComplexFi, Logical, Words}
use Rattle.fi_values.specs.Brackets.{Join, Beside, Above, lists, same_kind}
use Rattle.fi_values.specs.Numbers.{nought_parts}
use Rattle.fi_values.specs.Reads as values
use Rattle.fi_values.specs.Shapes.{is_small}
use Rattle.node_rules.specs.Parts.{parts_in, truths_in}
use Rattle.node_rules.specs.Ruled.{Ruled, Fine, Shows, Misfit, Most, ◌>>=◌, tested}
use Rattle.node_rules.specs.Stores.{list_or}
use Rattle.node_rules.specs.Types.{NodeTy, FiNode, LogicalNode, NumberNode, TextNode, ty_of, shape_of, known}

-- ---- classes

-- what all elements of a bracket have in common
pub data Kind : Type 0 where
  -- fis equal in type, fimath and complexity
  Fis : NumericType → Option Fimath → Bool → Kind
  Logicals : Kind
  Numbers : Kind
  -- a text, an object or an index stands in no bracket
  Others : Kind

unfoldable pub kind_of : NodeTy → Kind
kind_of (FiNode t m c s) = Fis t m c
kind_of (LogicalNode s) = Logicals
kind_of (NumberNode s xs ys) = Numbers
kind_of t = Others

unfoldable pub is_joined : Kind → Bool
is_joined Others = false
is_joined k = true

unfoldable pub alike : Kind → Kind → Bool
alike (Fis t m true) (Fis u n true) = same_kind t m u n
alike (Fis t m false) (Fis u n false) = same_kind t m u n
alike Logicals Logicals = true
alike Numbers Numbers = true
alike k l = false

abbrev pub all_alike : Kind → List NodeTy → Bool
all_alike k [] = true
all_alike k (t ∷ ts) = alike k (kind_of t) && all_alike k ts

abbrev pub one_kind : List NodeTy → Bool
one_kind [] = true
one_kind (t ∷ ts) = is_joined (kind_of t) && all_alike (kind_of t) ts

abbrev pub rows_alike : List (List NodeTy) → Bool
rows_alike [] = true
rows_alike (r ∷ rs) = one_kind r && rows_alike rs

-- ---- shapes

-- the extent that is the same: the height beside each other, the width above each other
abbrev pub shared_extent : Join → Shape → ℕ
shared_extent Beside s = s.rows
shared_extent Above s = s.columns

abbrev pub shape_with : Join → Shape → Shape → Shape
shape_with Beside s t = record { rows = s.rows; columns = s.columns + t.columns }
shape_with Above s t = record { rows = s.rows + t.rows; columns = s.columns }

-- all meet the first one, which is shown with the first that doesn't
abbrev pub all_meet_first : {A : Type 0} → Join → Shape → List NodeTy → A → Ruled A
all_meet_first j s [] x = Fine x
all_meet_first j s (t ∷ ts) x =
    tested code.SizeMismatch (Misfit s (shape_of t)) (nat_eq (shared_extent j s) (shared_extent j (shape_of t))) x
    >>= (λ x. all_meet_first j s ts x)

abbrev pub all_meet : {A : Type 0} → Join → List NodeTy → A → Ruled A
all_meet j [] x = Fine x
all_meet j (t ∷ ts) x = all_meet_first j (shape_of t) ts x

abbrev pub rows_meet : {A : Type 0} → List (List NodeTy) → A → Ruled A
rows_meet [] x = Fine x
rows_meet (r ∷ rs) x = all_meet Beside r x >>= (λ x. rows_meet rs x)

-- ---- joined types

-- zeros for the imaginary parts of a real one
unfoldable pub imaginary_of : List Exact → Option (List Exact) → List Exact
imaginary_of xs None = nought_parts xs
imaginary_of xs (Some ys) = ys

unfoldable pub joined_imaginary : Join → Shape → Shape → List Exact → Option (List Exact) → List Exact → Option (List Exact) → Option (List Exact)
joined_imaginary j s t xs None us None = None
joined_imaginary j s t xs ys us vs = Some (lists j s t (imaginary_of xs ys) (imaginary_of us vs))

-- of two types of one kind that meet
unfoldable pub joined_ty : Join → NodeTy → NodeTy → NodeTy
joined_ty j (FiNode t m c s) u = FiNode t m c (shape_with j s (shape_of u))
joined_ty j (LogicalNode s) u = LogicalNode (shape_with j s (shape_of u))
joined_ty j (NumberNode s xs ys) (NumberNode t us vs) = NumberNode (shape_with j s t) (lists j s t xs us) (joined_imaginary j s t xs ys us vs)
joined_ty j t u = t

-- from left to right, or from the top
abbrev pub all_joined_ty : Join → NodeTy → List NodeTy → NodeTy
all_joined_ty j t [] = t
all_joined_ty j t (u ∷ us) = all_joined_ty j (joined_ty j t u) us

-- of nothing any type
abbrev pub list_ty : Join → List NodeTy → NodeTy
list_ty j [] = TextNode []
list_ty j (t ∷ ts) = all_joined_ty j t ts

-- of the rows that have elements
abbrev pub row_types : List (List NodeTy) → List NodeTy
row_types [] = []
row_types ([] ∷ rs) = row_types rs
row_types ((t ∷ ts) ∷ rs) = all_joined_ty Beside t ts ∷ row_types rs

-- ---- the rule

abbrev pub all_filled : List (List NodeTy) → Bool
all_filled [] = true
all_filled ([] ∷ rs) = false
all_filled ((t ∷ ts) ∷ rs) = all_filled rs

-- nothing is no array
abbrev pub has_elements : List (List NodeTy) → Bool
has_elements [] = false
has_elements (r ∷ rs) = all_filled (r ∷ rs)

abbrev pub is_one : List NodeTy → Bool
is_one [] = false
is_one (t ∷ []) = true
is_one (t ∷ u ∷ us) = false

-- a single element is joined to nothing, and as large as it was
abbrev pub is_single : List (List NodeTy) → Bool
is_single [] = false
is_single (r ∷ []) = is_one r
is_single (r ∷ q ∷ rs) = false

-- the elements of each row are of one kind, and so are the rows; the heights of all rows come before widths
abbrev pub bracket_ruled : List (List NodeTy) → Ruled NodeTy
bracket_ruled rows =
    tested code.BadArgument (Shows Itself) (rows_alike rows && one_kind (row_types rows)) (row_types rows)
    >>= (λ ts. rows_meet rows ts
    >>= (λ ts. all_meet Above ts ts
    >>= (λ ts. tested code.DynamicSize (Shows Itself) (has_elements rows) (list_ty Above ts)
    >>= (λ t. tested code.Limit (Most 4096) (is_single rows || is_small (shape_of t)) t))))

-- ---- values: elements keep the type that they have

-- of two values whose types are joined
unfoldable pub together : Join → Val → Val → Val
together j (Fi t m s xs) w = Fi t m (shape_with j s (values.shape_of w)) (lists j s (values.shape_of w) xs (parts_in w).re)
together j (ComplexFi t m s xs ys) w =
    ComplexFi t m (shape_with j s (values.shape_of w)) (lists j s (values.shape_of w) xs (parts_in w).re) (lists j s (values.shape_of w) ys (list_or (parts_in w).im))
together j (Logical s bs) w = Logical (shape_with j s (values.shape_of w)) (lists j s (values.shape_of w) bs (truths_in w))
together j v w = known (joined_ty j (ty_of v) (ty_of w))

abbrev pub all_together : Join → Val → List Val → Val
all_together j v [] = v
all_together j v (w ∷ ws) = all_together j (together j v w) ws

abbrev pub list_value : Join → List Val → Val
list_value j [] = Words []
list_value j (v ∷ vs) = all_together j v vs

-- numbers are known
unfoldable pub of_type : NodeTy → Val → Val
of_type (NumberNode s xs ys) v = known (NumberNode s xs ys)
of_type t v = v

abbrev pub bracket_value : NodeTy → List (List Val) → Val
bracket_value t rows = of_type t (list_value Above (map (list_value Beside) rows))
