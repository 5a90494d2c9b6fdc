-- Calls of fi, numerictype, fimath, setfimath, removefimath, cast and abs: their conditions in the order of the codes, which are those of fi_rules on
-- the types of elements and those of complex values, the types of their results, and their values.
use Rattle.std.specs.Prelude.{Bool, true, false, not, ◌||◌, List, [], ◌∷◌, map, Option, Some, None}
use Rattle.fic_base.specs.declared.code.Code.TheVariants as code
use Rattle.num_type.specs.Types.{NumericType}
use Rattle.fi_math.specs.declared.fimath.Fimath.{Fimath}
use Rattle.fi_rules.specs.declared.built_ins.BuiltIn.{BuiltIn}
use Rattle.fi_rules.specs.declared.built_ins.BuiltIn.TheVariants as built_in
use Rattle.fi_rules.specs.Calls.{Asked, MakesType, MakesMath, asked, Built, Taken, Attached, SignTaken, Object, built}
use Rattle.fi_rules.specs.Checked.{Itself}
use Rattle.fi_rules.specs.Types.{Ty, FiTy, NumberTy, TextTy, MathTy, TypeTy, OtherTy}
use Rattle.fi_rules.specs.Value.{Shape, scalar, Val, Fi, ComplexFi, Logical, Number, ComplexNumber}
use Rattle.fi_eval.specs.Calls.{taken, taken_constant}
use Rattle.fi_eval.specs.Operators.{Remove, math_of, turned_element}
use Rattle.fi_values.specs.Arithmetic.{Parts, imaginary, fi_value}
use Rattle.fi_meaning.specs.Calls.{truth_number, takes}
use Rattle.node_rules.specs.Arguments.{ArgumentTy, element_types}
use Rattle.node_rules.specs.Parts.{no_parts, parts_in, each_element}
use Rattle.node_rules.specs.Ruled.{Ruled, Fine, Shows, ◌>>=◌, tested, ruled}
use Rattle.node_rules.specs.Types.{NodeTy, FiNode, NumberNode, TextNode, MathNode, TypeNode, shape_of, is_complex, known}

-- ---- before the node is counted

unfoldable pub is_complex_fi : NodeTy → Bool
is_complex_fi (FiNode t m c s) = c
is_complex_fi t = false

-- the size of a complex fi isn't supported
unfoldable pub is_supported : BuiltIn → List ArgumentTy → Bool
is_supported built_in.Abs (a ∷ more) = not (is_complex_fi a.ty)
is_supported b args = true

-- a complex value isn't cast to the type of a real fi
unfoldable pub takes_parts : BuiltIn → List ArgumentTy → Bool
takes_parts built_in.Cast (v ∷ a ∷ p ∷ []) = is_complex p.ty || not (is_complex v.ty)
takes_parts b args = true

abbrev pub maker_met : BuiltIn → List ArgumentTy → Ruled Asked
maker_met b args =
    tested code.Unsupported (Shows Itself) (is_supported b args) args
    >>= (λ _. ruled (asked b (element_types (takes b) args)) >>= (λ a. tested code.BadArgument (Shows Itself) (takes_parts b args) a))

-- of the result
unfoldable pub making_shape : Asked → NodeTy → Shape
making_shape (MakesType t) v = scalar
making_shape (MakesMath m) v = scalar
making_shape a v = shape_of v

-- ---- behind the counts

unfoldable pub first_ty : List ArgumentTy → NodeTy
first_ty [] = TextNode []
first_ty (a ∷ more) = a.ty

-- a cast is complex where the fi that it is like is
unfoldable pub is_complex_call : BuiltIn → List ArgumentTy → Bool
is_complex_call built_in.Cast (v ∷ a ∷ p ∷ []) = is_complex p.ty
is_complex_call b args = is_complex (first_ty args)

-- what is known without a run
unfoldable pub object_node : Ty → NodeTy
object_node (NumberTy s cs) = NumberNode s cs None
object_node (TextTy text) = TextNode text
object_node (MathTy m) = MathNode m
object_node (TypeTy t) = TypeNode t
object_node (FiTy t m) = FiNode t m false scalar
object_node OtherTy = TextNode []

-- what a call gives of a first argument of this type, complex or not
unfoldable pub built_node : Built → Bool → NodeTy → NodeTy
built_node (Object t) c v = object_node t
built_node (Taken t m) c v = FiNode t m c (shape_of v)
built_node (Attached m) c (FiNode t n d s) = FiNode t m d s
built_node (Attached m) c v = v
built_node SignTaken c v = v

abbrev pub maker_worked : BuiltIn → List ArgumentTy → Asked → Ruled NodeTy
maker_worked b args a = ruled (built a) >>= (λ r. Fine (built_node r (is_complex_call b args) (first_ty args)))

abbrev pub maker_ruled : BuiltIn → List ArgumentTy → Ruled NodeTy
maker_ruled b args = maker_met b args >>= maker_worked b args

-- ---- values

-- the stored integers of a value in a type
unfoldable pub taken_parts : NumericType → Option Fimath → Val → Parts
taken_parts t m (Fi u n s xs) = record { re = map (λ x. taken t m x u.fraction) xs; im = None }
taken_parts t m (ComplexFi u n s xs ys) = record { re = map (λ x. taken t m x u.fraction) xs; im = Some (map (λ y. taken t m y u.fraction) ys) }
taken_parts t m (Number s cs) = record { re = map (taken_constant t m) cs; im = None }
taken_parts t m (ComplexNumber s xs ys) = record { re = map (taken_constant t m) xs; im = Some (map (taken_constant t m) ys) }
taken_parts t m (Logical s bs) = record { re = map (λ b. taken_constant t m (truth_number b)) bs; im = None }
taken_parts t m v = no_parts

-- zeros for the imaginary parts that a real value lacks
unfoldable pub completed : Bool → Parts → Parts
completed true p = record { re = p.re; im = Some (imaginary p) }
completed false p = p

unfoldable pub maker_value : BuiltIn → NodeTy → List Val → Val
maker_value built_in.Fi (FiNode t m c s) (v ∷ more) = fi_value t m s (completed c (taken_parts t m v))
maker_value built_in.Cast (FiNode t m c s) (v ∷ more) = fi_value t m s (completed c (taken_parts t m v))
maker_value built_in.SetFimath (FiNode t m c s) (v ∷ more) = fi_value t m s (parts_in v)
maker_value built_in.RemoveFimath (FiNode t m c s) (v ∷ more) = fi_value t m s (parts_in v)
maker_value built_in.Abs (FiNode t m c s) (v ∷ more) = fi_value t m s (each_element (turned_element Remove (math_of m) t) (parts_in v))
maker_value b t vs = known t
