-- What the rules of fi_rules ask for, by the types of elements: each function asks for one kind of result, of arguments of certain classes.
use Rattle.std.proofs.Common.{◌≡◌, refl, Bool, true, false, ℕ, List, [], ◌∷◌}
use Rattle.std.specs.Prelude.{bytes_eq, codes, Option, Some, None, ℤ, if◌then◌else◌}
use Rattle.num_type.specs.Constants.{Exact}
use Rattle.num_type.specs.Types.{NumericType}
use Rattle.fi_math.specs.declared.fimath.Fimath.{Fimath}
use Rattle.fi_rules.specs.Calls.{Asked, Takes, Attaches, MakesType, MakesMath, is_numeric, best_asked, stated_asked, fi_one, fi_two, fi_three, fi_four, fi_asked, type_made, numerictype_asked, fimath_asked, set_asked, setfimath_asked, remove_asked, removefimath_asked, like_asked, cast_asked, sign_asked}
use Rattle.fi_rules.specs.Checked as checked
use Rattle.fi_rules.specs.Types.{Ty, FiTy, NumberTy, TextTy, MathTy, TypeTy}
use Rattle.fi_rules.specs.Value.{Shape, is_scalar, Val, Fi, ComplexFi, Logical, Number}
use Rattle.fi_meaning.specs.Calls.{single_ty}
use Rattle.fi_meaning.proofs.ShapesOperators.{Passes, passes, misses, passes_then, passes_any, passes_if}
use Rattle.node_rules.specs.Arguments.{word_of, wanted_node, element_of, constant_of}
use Rattle.node_rules.specs.Ruled.{ruled, fine}
use Rattle.node_rules.specs.Types.{LogicalNode, ty_of}

abbrev pub is_fi_ty : Ty → Bool
is_fi_ty (FiTy t m) = true
is_fi_ty t = false

-- ---- a value in a type

pub data AsksNumeric (v : Ty) : Asked → Type 0 where
  asks_numeric : (t : NumericType) (m : Option Fimath) → is_numeric v ≡ true → AsksNumeric v (Takes t m)

stated_passes : (t : NumericType) (m : Option Fimath) (v : Ty) → Passes (AsksNumeric v) (stated_asked t m v)
unfolding is_numeric checked.choose
stated_passes t m (FiTy u n) = passes (Takes t m) (asks_numeric t m refl)
stated_passes t m (NumberTy s cs) = passes (Takes t m) (asks_numeric t m refl)
stated_passes t m v = misses _ _

best_passes : (signed : Bool) (word : ℕ) (m : Option Fimath) (v : Ty) → Passes (AsksNumeric v) (best_asked signed word m v)
unfolding best_asked is_numeric
best_passes signed word m (NumberTy s cs) = passes _ (asks_numeric _ m refl)
best_passes signed word m v = misses _ _

one_passes : (v s : Ty) → Passes (AsksNumeric v) (fi_one v s)
unfolding fi_one
one_passes v (TypeTy t) = stated_passes t None v
one_passes v s = passes_then (passes_any _) (λ signed _. best_passes signed 16 None v)

two_passes : (v s w : Ty) → Passes (AsksNumeric v) (fi_two v s w)
unfolding fi_two
two_passes v (TypeTy t) m = passes_then (passes_any _) (λ n _. stated_passes t (Some n) v)
two_passes v s w = passes_then (passes_any _) (λ signed _. passes_then (passes_any _) (λ word _. best_passes signed word None v))

three_passes : (v s w f : Ty) → Passes (AsksNumeric v) (fi_three v s w f)
unfolding fi_three
three_passes v s w (MathTy m) = passes_then (passes_any _) (λ signed _. passes_then (passes_any _) (λ word _. best_passes signed word (Some m) v))
three_passes v s w f = passes_then (passes_any _) (λ t _. stated_passes t None v)

four_passes : (v s w f m : Ty) → Passes (AsksNumeric v) (fi_four v s w f m)
unfolding fi_four
four_passes v s w f m = passes_then (passes_any _) (λ t _. passes_then (passes_any _) (λ n _. stated_passes t (Some n) v))

pub fi_passes : (v : Ty) (us : List Ty) → Passes (AsksNumeric v) (fi_asked (v ∷ us))
unfolding fi_asked
fi_passes v [] = best_passes true 16 None v
fi_passes v (a ∷ []) = one_passes v a
fi_passes v (a ∷ b ∷ []) = two_passes v a b
fi_passes v (a ∷ b ∷ c ∷ []) = three_passes v a b c
fi_passes v (a ∷ b ∷ c ∷ d ∷ []) = four_passes v a b c d
fi_passes v (a ∷ b ∷ c ∷ d ∷ e ∷ us) = misses _ _

-- ---- objects

pub data AsksType : Asked → Type 0 where
  asks_type : (t : NumericType) → AsksType (MakesType t)

pub type_passes : (us : List Ty) → Passes AsksType (numerictype_asked us)
unfolding numerictype_asked type_made
type_passes [] = misses _ _
type_passes (FiTy t m ∷ []) = passes (MakesType t) (asks_type t)
type_passes (a ∷ []) = misses _ _
type_passes (s ∷ w ∷ []) = misses _ _
type_passes (s ∷ w ∷ f ∷ []) = passes_then (passes_any _) (λ t _. passes (MakesType t) (asks_type t))
type_passes (s ∷ w ∷ f ∷ a ∷ us) = misses _ _

pub data AsksMath : Asked → Type 0 where
  asks_math : (m : Fimath) → AsksMath (MakesMath m)

pub math_passes : (us : List Ty) → Passes AsksMath (fimath_asked us)
unfolding fimath_asked
math_passes us = passes_if _ (passes_then (passes_any _) (λ m _. passes (MakesMath m) (asks_math m))) (misses _ _)

-- ---- another fimath, and the size

pub data AsksFi (v : Ty) : Asked → Type 0 where
  asks_fi : (m : Option Fimath) → is_fi_ty v ≡ true → AsksFi v (Attaches m)

pub set_passes : (v m : Ty) → Passes (AsksFi v) (setfimath_asked (v ∷ m ∷ []))
unfolding setfimath_asked set_asked
set_passes (FiTy t m) (MathTy n) = passes (Attaches (Some n)) (asks_fi (Some n) refl)
set_passes v m = misses _ _

pub remove_passes : (v : Ty) → Passes (AsksFi v) (removefimath_asked (v ∷ []))
unfolding removefimath_asked remove_asked
remove_passes (FiTy t m) = passes (Attaches None) (asks_fi None refl)
remove_passes v = misses _ _

pub sign_none : (v : Ty) → is_fi_ty v ≡ false → fine (ruled (sign_asked v)) ≡ None
unfolding sign_asked ruled fine
sign_none (FiTy t m) e = absurd (cc)
sign_none v e = refl

-- ---- casts

pub data AsksCast (v p : Ty) : Asked → Type 0 where
  asks_cast : (t : NumericType) (m : Option Fimath) → is_numeric v ≡ true → is_fi_ty p ≡ true → AsksCast v p (Takes t m)

stated_like : (t : NumericType) (m : Option Fimath) (v : Ty) → Passes (AsksCast v (FiTy t m)) (stated_asked t m v)
unfolding is_numeric checked.choose
stated_like t m (FiTy u n) = passes (Takes t m) (asks_cast t m refl refl)
stated_like t m (NumberTy s cs) = passes (Takes t m) (asks_cast t m refl refl)
stated_like t m v = misses _ _

pub like_passes : (v a p : Ty) → Passes (AsksCast v p) (cast_asked (v ∷ a ∷ p ∷ []))
unfolding cast_asked like_asked
like_passes v (TextTy word) (FiTy t m) = passes_if (bytes_eq word (codes "like")) (stated_like t m v) (misses _ _)
like_passes v a p = misses _ _

-- ---- where a fi is wanted

pub data IsFi : Val → Type 0 where
  real_fi : (t : NumericType) (m : Option Fimath) (s : Shape) (xs : List ℤ) → IsFi (Fi t m s xs)
  complex_fi : (t : NumericType) (m : Option Fimath) (s : Shape) (xs ys : List ℤ) → IsFi (ComplexFi t m s xs ys)

-- the type that is asked for of an argument with this value
abbrev pub asked_ty : Val → Bool → Ty
asked_ty v w = constant_of (wanted_node (word_of v w) (ty_of v))

pub data FiClass (v : Val) (w : Bool) : Type 0 where
  a_fi : IsFi v → FiClass v w
  no_fi : is_fi_ty (asked_ty v w) ≡ false → FiClass v w

truth_none : (o : Option Bool) (s : Shape) → is_fi_ty (constant_of (wanted_node o (LogicalNode s))) ≡ false
unfolding wanted_node constant_of element_of single_ty
truth_none None s = refl
truth_none (Some b) s = refl

either_none : (b : Bool) (t u : Ty) → is_fi_ty t ≡ false → is_fi_ty u ≡ false → is_fi_ty (if b then t else u) ≡ false
either_none true t u e f = e
either_none false t u e f = f

single_none : (s : Shape) (cs : List Exact) → is_fi_ty (single_ty s cs) ≡ false
unfolding single_ty
single_none s [] = refl
single_none s (c ∷ []) = either_none (is_scalar s) _ _ refl refl
single_none s (c ∷ d ∷ cs) = refl

pub fi_class : (v : Val) (w : Bool) → FiClass v w
unfolding word_of wanted_node constant_of element_of ty_of
fi_class (Fi t m s xs) w = a_fi (real_fi t m s xs)
fi_class (ComplexFi t m s xs ys) w = a_fi (complex_fi t m s xs ys)
fi_class (Logical s bs) w = no_fi (truth_none (word_of (Logical s bs) w) s)
fi_class (Number s cs) w = no_fi (single_none s cs)
fi_class v w = no_fi refl

pub fi_is : (v : Val) (w : Bool) → is_fi_ty (asked_ty v w) ≡ true → IsFi v
fi_is v w e = of (fi_class v w)
  where
    of : FiClass v w → IsFi v
    of (a_fi h) = h
    of (no_fi f) = absurd (cc)
