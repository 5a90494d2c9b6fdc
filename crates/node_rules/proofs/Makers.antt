-- Calls of fi, numerictype, fimath, setfimath, removefimath, cast and abs go by their rules.
use Rattle.std.proofs.Common.{◌≡◌, refl, ap, subst, ◌∙◌, Bool, true, false, List, [], ◌∷◌}
use Rattle.std.specs.Prelude.{not, ◌||◌, Option, Some, None}
use Rattle.fic_base.specs.declared.code.Code.TheVariants as code
use Rattle.fic_base.specs.declared.place.Place.{Place}
use Rattle.num_type.specs.Types.{NumericType}
use Rattle.fi_math.specs.declared.fimath.Fimath.{Fimath}
use Rattle.fi_rules.specs.declared.built_ins.BuiltIn.{BuiltIn}
use Rattle.fi_rules.specs.declared.built_ins.BuiltIn.TheVariants as built_in
use Rattle.fi_rules.specs.Calls.{Asked, Takes, Attaches, is_numeric, fi_asked, cast_asked, setfimath_asked, removefimath_asked, sign_asked, abs_asked, asked, built}
use Rattle.fi_rules.specs.Checked.{Itself}
use Rattle.fi_rules.specs.Options.{and_then, ◌|>◌}
use Rattle.fi_rules.specs.Types.{known_value}
use Rattle.fi_rules.specs.Value.{Val, Fi, ComplexFi, Logical, Number, ComplexNumber}
use Rattle.fi_eval.specs.Outcome.{or_wrong}
use Rattle.fi_values.specs.Arithmetic.{fi_value}
use Rattle.fi_values.specs.Stores.{complex_taken}
use Rattle.fi_meaning.specs.Calls.{Argument, takes, taken_value, attached, cast_like, after_rules, values_of, by_rules}
use Rattle.node_rules.specs.Arguments.{word_of, wanted_node, element_of, constant_of, value_of, constants_of, argument_tys, element_types}
use Rattle.node_rules.specs.Makers.{is_complex_fi, is_supported, takes_parts, first_ty, is_complex_call, object_node, built_node, maker_ruled, taken_parts, completed, maker_value}
use Rattle.node_rules.specs.Parts.{parts_in}
use Rattle.node_rules.specs.Ruled as rules
use Rattle.node_rules.specs.Ruled.{Fine, Shows, tested, ruled, fine, given}
use Rattle.node_rules.specs.Types.{NodeTy, FiNode, MathNode, TypeNode, ty_of, shape_of, is_complex, known}
use Rattle.node_rules.proofs.Asked.{is_fi_ty, AsksNumeric, asks_numeric, fi_passes, AsksType, asks_type, type_passes, AsksMath, asks_math, math_passes, AsksFi, asks_fi, set_passes, remove_passes, sign_none, AsksCast, asks_cast, like_passes, IsFi, real_fi, complex_fi, asked_ty, FiClass, a_fi, no_fi, fi_class, fi_is}
use Rattle.node_rules.proofs.Binds.{missing}
use Rattle.node_rules.proofs.Called.{sign_taken, built_or, asked_value, called, by_types, passes_none, goes_here, goes_refused, Law, Behind, Tested, call_tested, call_goes, taken_goes, type_goes, taken_none, no_call}
use Rattle.node_rules.proofs.Goes.{Goes, goes, stops, goes_given}

-- ---- fi

fi_goes : (v : Val) (vs : List Val) (u : NumericType) (m : Option Fimath) → is_numeric (value_of (ty_of v)) ≡ true
    → Goes (λ t. maker_value built_in.Fi t (v ∷ vs)) (taken_value u m v |> after_rules built_in.Fi (v ∷ vs)) (Fine (FiNode u m (is_complex (ty_of v)) (shape_of (ty_of v))))
unfolding is_numeric value_of element_of ty_of is_complex known maker_value taken_value complex_taken taken_parts completed fi_value after_rules and_then
fi_goes (Fi t n s xs) vs u m e = goes (FiNode u m false s) refl
fi_goes (ComplexFi t n s xs ys) vs u m e = goes (FiNode u m true s) refl
fi_goes (Logical s bs) vs u m e = goes (FiNode u m false s) refl
fi_goes (Number s cs) vs u m e = goes (FiNode u m false s) refl
fi_goes (ComplexNumber s xs ys) vs u m e = goes (FiNode u m true s) refl
fi_goes v vs u m e = absurd (cc)

fi_law : (args : List Argument) → Law built_in.Fi args (λ t. maker_value built_in.Fi t (values_of args))
unfolding is_supported takes_parts takes element_types asked fi_asked is_complex_call first_ty built_node built_or ruled fine
fi_law [] = no_call built_in.Fi [] _ refl
fi_law (a ∷ more) =
    call_goes built_in.Fi (a ∷ more) (λ t. maker_value built_in.Fi t (values_of (a ∷ more))) refl refl (fi_passes (value_of (ty_of a.value)) (constants_of (argument_tys more))) of
  where
    of : (x : Asked) → AsksNumeric (value_of (ty_of a.value)) x → Behind built_in.Fi (a ∷ more) (λ t. maker_value built_in.Fi t (values_of (a ∷ more))) x
    of x (asks_numeric t m e) = taken_goes _ t m _ _ (λ u. fi_goes a.value (values_of more) u m e)

-- ---- objects

numerictype_law : (args : List Argument) → Law built_in.Numerictype args (λ t. maker_value built_in.Numerictype t (values_of args))
unfolding is_supported takes_parts takes element_types asked object_node built_node built_or known_value maker_value known after_rules ty_of and_then
numerictype_law args =
    call_goes built_in.Numerictype args (λ t. maker_value built_in.Numerictype t (values_of args)) refl refl (type_passes (element_types false (argument_tys args))) of
  where
    of : (x : Asked) → AsksType x → Behind built_in.Numerictype args (λ t. maker_value built_in.Numerictype t (values_of args)) x
    of x (asks_type t) = type_goes _ t _ _ (λ u. goes (TypeNode u) refl)

fimath_law : (args : List Argument) → Law built_in.Fimath args (λ t. maker_value built_in.Fimath t (values_of args))
unfolding is_supported takes_parts takes element_types asked built object_node built_node built_or known_value maker_value known after_rules ty_of ruled fine rules.bind and_then
fimath_law args =
    call_goes built_in.Fimath args (λ t. maker_value built_in.Fimath t (values_of args)) refl refl (math_passes (element_types false (argument_tys args))) of
  where
    of : (x : Asked) → AsksMath x → Behind built_in.Fimath args (λ t. maker_value built_in.Fimath t (values_of args)) x
    of x (asks_math m) = goes (MathNode m) refl

-- ---- other fimaths

set_goes : {v : Val} (b : Val) (m : Option Fimath) → IsFi v
    → Goes (λ t. maker_value built_in.SetFimath t (v ∷ b ∷ [])) (asked_value built_in.SetFimath (v ∷ b ∷ []) (Attaches m)) (rules.bind (ruled (built (Attaches m))) (λ r. Fine (built_node r (is_complex (ty_of v)) (ty_of v))))
unfolding built built_or attached after_rules built_node maker_value parts_in fi_value ty_of ruled fine rules.bind and_then
set_goes b m (real_fi t n s xs) = goes (FiNode t m false s) refl
set_goes b m (complex_fi t n s xs ys) = goes (FiNode t m true s) refl

setfimath_law : (args : List Argument) → Law built_in.SetFimath args (λ t. maker_value built_in.SetFimath t (values_of args))
unfolding is_supported takes_parts takes element_types asked setfimath_asked is_complex_call first_ty ruled fine
setfimath_law [] = no_call built_in.SetFimath [] _ refl
setfimath_law (a ∷ []) = no_call built_in.SetFimath (a ∷ []) _ refl
setfimath_law (a ∷ b ∷ []) =
    call_goes built_in.SetFimath (a ∷ b ∷ []) (λ t. maker_value built_in.SetFimath t (a.value ∷ b.value ∷ [])) refl refl (set_passes (asked_ty a.value a.is_word) (asked_ty b.value b.is_word)) of
  where
    of : (x : Asked) → AsksFi (asked_ty a.value a.is_word) x → Behind built_in.SetFimath (a ∷ b ∷ []) (λ t. maker_value built_in.SetFimath t (a.value ∷ b.value ∷ [])) x
    of x (asks_fi m e) = set_goes b.value m (fi_is a.value a.is_word e)
setfimath_law (a ∷ b ∷ c ∷ more) = no_call built_in.SetFimath (a ∷ b ∷ c ∷ more) _ refl

remove_goes : {v : Val} (m : Option Fimath) → IsFi v
    → Goes (λ t. maker_value built_in.RemoveFimath t (v ∷ [])) (asked_value built_in.RemoveFimath (v ∷ []) (Attaches m)) (rules.bind (ruled (built (Attaches m))) (λ r. Fine (built_node r (is_complex (ty_of v)) (ty_of v))))
unfolding built built_or attached after_rules built_node maker_value parts_in fi_value ty_of ruled fine rules.bind and_then
remove_goes m (real_fi t n s xs) = goes (FiNode t m false s) refl
remove_goes m (complex_fi t n s xs ys) = goes (FiNode t m true s) refl

removefimath_law : (args : List Argument) → Law built_in.RemoveFimath args (λ t. maker_value built_in.RemoveFimath t (values_of args))
unfolding is_supported takes_parts takes element_types asked removefimath_asked is_complex_call first_ty ruled fine
removefimath_law [] = no_call built_in.RemoveFimath [] _ refl
removefimath_law (a ∷ []) =
    call_goes built_in.RemoveFimath (a ∷ []) (λ t. maker_value built_in.RemoveFimath t (a.value ∷ [])) refl refl (remove_passes (asked_ty a.value a.is_word)) of
  where
    of : (x : Asked) → AsksFi (asked_ty a.value a.is_word) x → Behind built_in.RemoveFimath (a ∷ []) (λ t. maker_value built_in.RemoveFimath t (a.value ∷ [])) x
    of x (asks_fi m e) = remove_goes m (fi_is a.value a.is_word e)
removefimath_law (a ∷ b ∷ more) = no_call built_in.RemoveFimath (a ∷ b ∷ more) _ refl

-- ---- abs

abs_goes : {v : Val} (w : Bool) → FiClass v w → Law built_in.Abs (record { value = v; is_word = w } ∷ []) (λ t. maker_value built_in.Abs t (v ∷ []))
unfolding is_complex_fi is_supported takes_parts takes element_types asked abs_asked sign_asked word_of wanted_node element_of constant_of is_complex_call first_ty built built_node built_or sign_taken after_rules maker_value parts_in fi_value ty_of tested ruled fine rules.bind and_then
abs_goes w (a_fi (real_fi t m s xs)) = goes (FiNode t m false s) refl
abs_goes w (a_fi (complex_fi t m s xs ys)) = stops _ _
abs_goes {v = v} w (no_fi e) = no_call built_in.Abs (record { value = v; is_word = w } ∷ []) _ (sign_none (asked_ty v w) e)

abs_law : (args : List Argument) → Law built_in.Abs args (λ t. maker_value built_in.Abs t (values_of args))
unfolding takes element_types asked abs_asked ruled fine
abs_law [] = no_call built_in.Abs [] _ refl
abs_law (a ∷ []) = abs_goes a.is_word (fi_class a.value a.is_word)
abs_law (a ∷ b ∷ more) = no_call built_in.Abs (a ∷ b ∷ more) _ refl

-- ---- cast

pub goes_as : (val : NodeTy → Val) (t : NodeTy) (x : Val) → val t ≡ x → ty_of x ≡ t → Goes val (Some x) (Fine t)
goes_as val t x e h = subst (λ y. Goes val (Some y) (Fine t)) e (goes t (ap ty_of e ∙ h))

-- the value of a node of this type is that of the call
abbrev pub IsCast : (NodeTy → Val) → Val → Val → Val → Type 0
IsCast val v a p =
    (u : NumericType) (m : Option Fimath) → val (FiNode u m (is_complex (ty_of p)) (shape_of (ty_of v))) ≡ maker_value built_in.Cast (FiNode u m (is_complex (ty_of p)) (shape_of (ty_of v))) (v ∷ a ∷ p ∷ [])

cast_goes : (val : NodeTy → Val) (v a : Val) {p : Val} (t : NumericType) (m : Option Fimath) → is_numeric (value_of (ty_of v)) ≡ true → IsFi p → IsCast val v a p
    → Goes val (asked_value built_in.Cast (v ∷ a ∷ p ∷ []) (Takes t m))
    (rules.bind (tested code.BadArgument (Shows Itself) (is_complex (ty_of p) || not (is_complex (ty_of v))) (Takes t m)) (λ x. rules.bind (ruled (built x)) (λ r. Fine (built_node r (is_complex (ty_of p)) (ty_of v)))))
unfolding is_numeric value_of element_of ty_of is_complex built_or built_node maker_value taken_value complex_taken taken_parts completed fi_value after_rules cast_like and_then
cast_goes val (Fi x n s xs) a t m e (real_fi y o r ys) same = goes_here val _ _ _ _ _ refl (taken_goes val t m _ _ (λ u. goes_as val (FiNode u m false s) _ (same u m) refl))
cast_goes val (Fi x n s xs) a t m e (complex_fi y o r ys zs) same = goes_here val _ _ _ _ _ refl (taken_goes val t m _ _ (λ u. goes_as val (FiNode u m true s) _ (same u m) refl))
cast_goes val (ComplexFi x n s xs ws) a t m e (real_fi y o r ys) same = goes_refused val _ _ _ _ _ refl (taken_none t m _ (λ u. refl))
cast_goes val (ComplexFi x n s xs ws) a t m e (complex_fi y o r ys zs) same = goes_here val _ _ _ _ _ refl (taken_goes val t m _ _ (λ u. goes_as val (FiNode u m true s) _ (same u m) refl))
cast_goes val (Logical s bs) a t m e (real_fi y o r ys) same = goes_here val _ _ _ _ _ refl (taken_goes val t m _ _ (λ u. goes_as val (FiNode u m false s) _ (same u m) refl))
cast_goes val (Logical s bs) a t m e (complex_fi y o r ys zs) same = goes_here val _ _ _ _ _ refl (taken_goes val t m _ _ (λ u. goes_as val (FiNode u m true s) _ (same u m) refl))
cast_goes val (Number s cs) a t m e (real_fi y o r ys) same = goes_here val _ _ _ _ _ refl (taken_goes val t m _ _ (λ u. goes_as val (FiNode u m false s) _ (same u m) refl))
cast_goes val (Number s cs) a t m e (complex_fi y o r ys zs) same = goes_here val _ _ _ _ _ refl (taken_goes val t m _ _ (λ u. goes_as val (FiNode u m true s) _ (same u m) refl))
cast_goes val (ComplexNumber s xs ws) a t m e (real_fi y o r ys) same = goes_refused val _ _ _ _ _ refl (taken_none t m _ (λ u. refl))
cast_goes val (ComplexNumber s xs ws) a t m e (complex_fi y o r ys zs) same = goes_here val _ _ _ _ _ refl (taken_goes val t m _ _ (λ u. goes_as val (FiNode u m true s) _ (same u m) refl))
cast_goes val v a t m e h same = absurd (cc)

pub cast_three : (val : NodeTy → Val) (v a p : Argument) → IsCast val v.value a.value p.value → Law built_in.Cast (v ∷ a ∷ p ∷ []) val
unfolding is_supported takes_parts takes element_types asked is_complex_call first_ty
cast_three val v a p same =
    call_tested built_in.Cast (v ∷ a ∷ p ∷ []) val refl (like_passes (value_of (ty_of v.value)) (asked_ty a.value a.is_word) (asked_ty p.value p.is_word)) of
  where
    of : (x : Asked) → AsksCast (value_of (ty_of v.value)) (asked_ty p.value p.is_word) x → Tested built_in.Cast (v ∷ a ∷ p ∷ []) val x
    of x (asks_cast t m e f) = cast_goes val v.value a.value t m e (fi_is p.value p.is_word f) same

cast_law : (args : List Argument) → Law built_in.Cast args (λ t. maker_value built_in.Cast t (values_of args))
unfolding takes element_types asked cast_asked ruled fine
cast_law [] = no_call built_in.Cast [] _ refl
cast_law (v ∷ []) = no_call built_in.Cast (v ∷ []) _ refl
cast_law (v ∷ a ∷ []) = no_call built_in.Cast (v ∷ a ∷ []) _ refl
cast_law (v ∷ a ∷ p ∷ []) = cast_three _ v a p (λ u m. refl)
cast_law (v ∷ a ∷ p ∷ b ∷ more) = no_call built_in.Cast (v ∷ a ∷ p ∷ b ∷ more) _ refl

-- like what is no fi
pub cast_none : (v a p : Argument) → is_fi_ty (asked_ty p.value p.is_word) ≡ false → called built_in.Cast (element_types true (argument_tys (v ∷ a ∷ p ∷ []))) (v.value ∷ a.value ∷ p.value ∷ []) ≡ None
unfolding element_types asked
cast_none v a p e = missing _ (passes_none (like_passes (value_of (ty_of v.value)) (asked_ty a.value a.is_word) (asked_ty p.value p.is_word)) of)
  where
    of : (x : Asked) → AsksCast (value_of (ty_of v.value)) (asked_ty p.value p.is_word) x → ⊥
    of x (asks_cast t m f h) = cc

-- ---- each of them

pub maker_law : (b : BuiltIn) (args : List Argument) → Law b args (λ t. maker_value b t (values_of args))
maker_law built_in.Abs args = abs_law args
maker_law built_in.Fi args = fi_law args
maker_law built_in.Numerictype args = numerictype_law args
maker_law built_in.Fimath args = fimath_law args
maker_law built_in.SetFimath args = setfimath_law args
maker_law built_in.RemoveFimath args = removefimath_law args
maker_law built_in.Cast args = cast_law args

pub maker_given : (at : Place) (b : BuiltIn) (args : List Argument) → by_rules at b args ≡ or_wrong at (given (maker_ruled b (argument_tys args)) (λ t. maker_value b t (values_of args)))
maker_given at b args = by_types at b args ∙ ap (λ o. or_wrong at o) (goes_given _ (maker_law b args))
