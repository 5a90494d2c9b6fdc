-- Arguments of built-in functions: what is known of them without a run, and the types of elements that the rules of fi_rules ask for.
use Rattle.std.specs.Prelude.{Bool, true, ◌++◌, List, [], ◌∷◌, map, Option, Some, None}
use Rattle.fi_rules.specs.Types.{Ty, FiTy, NumberTy, TextTy, MathTy, TypeTy, OtherTy}
use Rattle.fi_rules.specs.Value.{scalar, Val, Logical}
use Rattle.fi_meaning.specs.Calls.{Argument, truth_number, truth_type, single_ty}
use Rattle.node_rules.specs.Types.{NodeTy, FiNode, LogicalNode, NumberNode, IndexNode, TextNode, MathNode, TypeNode, ty_of}

-- the type of an argument, and the truth of the word true or false where it is that word itself
pub record ArgumentTy : Type 0 where
  pub ty : NodeTy
  pub word : Option Bool

-- one that is no such word
abbrev pub plain : NodeTy → ArgumentTy
plain t = record { ty = t; word = None }

unfoldable pub word_of : Val → Bool → Option Bool
word_of (Logical s (b ∷ [])) true = Some b
word_of v w = None

abbrev pub argument_ty : Argument → ArgumentTy
argument_ty a = record { ty = ty_of a.value; word = word_of a.value a.is_word }

abbrev pub argument_tys : List Argument → List ArgumentTy
argument_tys = map argument_ty

-- ---- where a constant is wanted the words stand for 1 and 0

unfoldable pub wanted_node : Option Bool → NodeTy → NodeTy
wanted_node (Some b) t = NumberNode scalar (truth_number b ∷ []) None
wanted_node None t = t

abbrev pub constant_node : ArgumentTy → NodeTy
constant_node a = wanted_node a.word a.ty

-- ---- types of elements

-- no rule of fi_rules takes a logical or an index
unfoldable pub element_of : NodeTy → Ty
element_of (FiNode t m c s) = FiTy t m
element_of (NumberNode s cs None) = NumberTy s cs
element_of (NumberNode s xs (Some ys)) = NumberTy s (xs ++ ys)
element_of (TextNode text) = TextTy text
element_of (MathNode m) = MathTy m
element_of (TypeNode t) = TypeTy t
element_of (LogicalNode s) = OtherTy
element_of (IndexNode lo hi) = OtherTy

-- where a constant is wanted: a real one of one element
unfoldable pub constant_of : NodeTy → Ty
constant_of (NumberNode s cs None) = single_ty s cs
constant_of (NumberNode s xs (Some ys)) = OtherTy
constant_of t = element_of t

-- of a value that is taken into a type
unfoldable pub value_of : NodeTy → Ty
value_of (LogicalNode s) = FiTy truth_type None
value_of t = element_of t

abbrev pub constants_of : List ArgumentTy → List Ty
constants_of = map (λ (a : ArgumentTy). constant_of (constant_node a))

-- of all arguments, the first one taken into a type or not
unfoldable pub element_types : Bool → List ArgumentTy → List Ty
element_types true (a ∷ more) = value_of a.ty ∷ constants_of more
element_types b args = constants_of args
