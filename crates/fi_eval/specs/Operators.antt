-- Operators on values. Their conditions and the types of their results are the rules on the types of the operands.
use Rattle.std.specs.Prelude.{Bool, false, ◌&&◌, if◌then◌else◌, ℤ, List, [], ◌∷◌, map, Option, Some, None}
use Rattle.fic_base.specs.declared.place.Place.{Place}
use Rattle.mat_ast.specs.declared.tree.BinOp.{BinOp}
use Rattle.mat_ast.specs.declared.tree.UnOp.{UnOp}
use Rattle.mat_ast.specs.declared.tree.UnOp.TheVariants as un
use Rattle.num_type.specs.Types.{NumericType}
use Rattle.fi_math.specs.declared.fimath.Fimath.{Fimath}
use Rattle.fi_math.specs.Govern.{usual}
use Rattle.fi_ops.specs.Operations.{multiplied, summed, subtracted, negated, absolute}
use Rattle.fi_rules.specs.declared.work.Work.{Work}
use Rattle.fi_rules.specs.declared.work.Work.TheVariants as work
use Rattle.fi_rules.specs.Value.{Shape, scalar, is_scalar, Val, Fi, Number}
use Rattle.fi_rules.specs.Checked.{Checked, Fine, Missing}
use Rattle.fi_rules.specs.Types.{Ty, type_of, known_value}
use Rattle.fi_rules.specs.Pairs.{Working, FoldsTo, Computes, work_of, pair_checked}
use Rattle.fi_rules.specs.Signs.{sign_checked}
use Rattle.fi_eval.specs.Outcome.{Got, Gives, Wrong, ◌>>=◌, or_wrong, when◌then◌else◌}

-- what conditions come to: wrong at the place where one is missing
unfoldable pub met_at : {A : Type 0} → Place → Checked A → Got Place A
met_at at (Fine x) = Gives x
met_at at (Missing code shown) = Wrong at

-- ---- two operands

-- element by element, a single one with each
abbrev pub pairwise : {A B C : Type 0} → (A → B → C) → List A → List B → List C
pairwise f (x ∷ []) ys = map (f x) ys
pairwise f xs (y ∷ []) = map (λ x. f x y) xs
pairwise f [] ys = []
pairwise f (x ∷ xs) [] = []
pairwise f (x ∷ xs) (y ∷ ys) = f x y ∷ pairwise f xs ys

-- the stored integer of a result of this type, from two stored integers
abbrev pub element : Work → Fimath → NumericType → NumericType → NumericType → ℤ → ℤ → ℤ
element work.Sum m t a b x y = summed m t (record { num = a; z = x }) (record { num = b; z = y })
element work.Difference m t a b x y = subtracted m t (record { num = a; z = x }) (record { num = b; z = y })
element work.Product m t a b x y = multiplied m t (record { num = a; z = x }) (record { num = b; z = y })
element work.Power m t a b x y = x
element work.Division m t a b x y = x
element work.Later m t a b x y = x

-- the stored integers of an operand: of a constant, those beside the fi
unfoldable pub stored_of : Option (List ℤ) → Val → List ℤ
stored_of (Some zs) v = zs
stored_of None (Fi t m s xs) = xs
stored_of None v = []

unfoldable pub shape_of : Val → Option Shape
shape_of (Fi t m s xs) = Some s
shape_of (Number s cs) = Some s
shape_of v = None

-- a single element; arrays aren't built yet
unfoldable pub is_single : Val → Bool
is_single (Fi t m s xs) = is_scalar s
is_single (Number s cs) = is_scalar s
is_single v = false

unfoldable pub computed : Place → Work → Working → Val → Val → Got Place Val
computed at w (FoldsTo t) x y = or_wrong at (known_value t)
computed at w (Computes a b g t) x y =
    when is_single x && is_single y
    then Gives (Fi t g.attached scalar (pairwise (element w g.math t a.num b.num) (stored_of a.stored x) (stored_of b.stored y)))
    else Wrong at

-- an operator on two values
abbrev pub operated : Place → BinOp → Val → Val → Got Place Val
operated at operator x y =
    met_at at (pair_checked (work_of operator) (type_of x) (type_of y)) >>= (λ w. computed at (work_of operator) w x y)

-- ---- one operand

-- the fimath of an operation with one operand
unfoldable pub math_of : Option Fimath → Fimath
math_of None = usual
math_of (Some m) = m

-- what is done to a number's sign
pub data Turn : Type 0 where
  Negate : Turn
  Remove : Turn

abbrev pub turned_element : Turn → Fimath → NumericType → ℤ → ℤ
turned_element Negate m t x = negated m (record { num = t; z = x })
turned_element Remove m t x = absolute m (record { num = t; z = x })

-- a real fi in its own type, with its fimath
unfoldable pub turned : Place → Turn → Val → Got Place Val
turned at turn (Fi t m s xs) = Gives (Fi t m s (map (turned_element turn (math_of m) t) xs))
turned at turn v = Wrong at

-- a minus before a value that has one: of a fi by the rule of negation, of a constant exactly
unfoldable pub minus : Place → Val → Ty → Got Place Val
minus at (Fi t m s xs) u = turned at Negate (Fi t m s xs)
minus at v u = or_wrong at (known_value u)

-- a value with a sign before it, whose type is this
unfoldable pub with_sign : Place → UnOp → Val → Ty → Got Place Val
with_sign at un.Plus v u = Gives v
with_sign at un.Minus v u = minus at v u
with_sign at un.Not v u = Wrong at

-- a sign before a value
abbrev pub signed : Place → UnOp → Val → Got Place Val
signed at sign v = met_at at (sign_checked sign (type_of v)) >>= with_sign at sign v
