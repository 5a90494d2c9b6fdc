-- What rules that were kept say of operands and of first arguments.
use Rattle.std.proofs.Common.{◌≡◌, ℕ, length, map, Bool, true, false, List, [], ◌∷◌, Option, Some, None, refl, sym, subst}
use Rattle.std.specs.Prelude.{codes, bytes_eq}
use Rattle.num_type.specs.Types.{NumericType}
use Rattle.num_type.specs.Constants.{Exact}
use Rattle.fi_math.specs.declared.fimath.Fimath.{Fimath}
use Rattle.fi_math.specs.declared.governing.Governed.{Governed}
use Rattle.fi_math.specs.Govern.{governed, usual}
use Rattle.fi_math.specs.Made.{Made, Is, Wide, Out, limited}
use Rattle.fi_rules.specs.Arguments.{bit_in, length_in, math_in}
use Rattle.fi_rules.specs.Properties.{with_properties}
use Rattle.fi_rules.specs.declared.work.Work.{Work}
use Rattle.fi_rules.specs.declared.work.Work.TheVariants as work
use Rattle.fi_rules.specs.declared.built_ins.BuiltIn.{BuiltIn}
use Rattle.fi_rules.specs.declared.built_ins.BuiltIn.TheVariants as built_in
use Rattle.fi_rules.specs.Value.{Shape}
use Rattle.fi_rules.specs.Checked as checked
use Rattle.fi_rules.specs.Checked.{Checked, Fine, Missing, needed, choose}
use Rattle.fi_rules.specs.Types.{Ty, FiTy, NumberTy, TextTy, MathTy, TypeTy, OtherTy}
use Rattle.fi_rules.specs.View.{is_fi}
use Rattle.fi_rules.specs.Pairs.{Meeting, Folds, Meets, met, sum_met, power_met, fi_meets, number_meets, numbers_folded, power_folded, beside, worked, limits_checked, work_made, side_made, governed_checked, typed}
use Rattle.fi_rules.specs.Calls.{Asked, Takes, Attaches, TakesSign, MakesType, MakesMath, Attached, asked, built, is_numeric, best_asked, stated_asked, best_by, type_asked, taken, fi_one, fi_two, fi_three, fi_four, fi_asked, type_made, numerictype_asked, fimath_asked, set_asked, setfimath_asked, remove_asked, removefimath_asked, like_asked, cast_asked, sign_asked, abs_asked, is_even}
use Rattle.fi_rules.specs.declared.pairs.Working as code_pairs
use Rattle.fi_rules.specs.declared.pairs.Working.TheVariants as working
use Rattle.fi_rules.specs.declared.pairs.Operand as code_operand
use Rattle.fi_rules.specs.declared.ty.Ty as code_ty
use Rattle.fi_rules.specs.View.{ty_view, working_view}
use Rattle.num_type.specs.View.{type_of}
use Rattle.num_type.specs.declared.num_type.NumType.{NumType}
use Rattle.std.specs.List.{slice_get}
use Rattle.scalar_walk.proofs.Passed.{some_is}
use Rattle.scalar_walk.specs.View.{IsMade, IsGranted, is_computed}

-- a fact of the result, if there is one
abbrev pub OnFine : {A : Type 0} → Checked A → (A → Type 0) → Type 0
OnFine (Fine x) P = P x
OnFine (Missing code shown) P = Unit {0}

pub on_fine : {A : Type 0} (o : Checked A) (x : A) (P : A → Type 0) → OnFine o P → o ≡ Fine x → P x
on_fine o x P h e = subst (λ p. OnFine p P) e h

on_bind : {A B : Type 0} (o : Checked A) (f : A → Checked B) (P : B → Type 0) → ((x : A) → OnFine (f x) P) → OnFine (checked.bind o f) P
unfolding checked.bind
on_bind (Fine x) f P h = h x
on_bind (Missing code shown) f P h = tt

on_kept : {A B : Type 0} (o : Checked A) (f : A → Checked B) (Q : A → Type 0) (P : B → Type 0) → OnFine o Q → ((x : A) → Q x → OnFine (f x) P) → OnFine (checked.bind o f) P
unfolding checked.bind
on_kept (Fine x) f Q P q h = h x q
on_kept (Missing code shown) f Q P q h = tt

-- ---- operators

-- two operands are computed with, unless they are constants
abbrev pub IsMet : Work → Meeting → Type 0
IsMet w (Folds t) = Unit {0}
IsMet w (Meets a b) = is_computed w ≡ true

fi_on : (w : Work) (a : NumericType) (m : Option Fimath) (y : Ty) → is_computed w ≡ true → OnFine (fi_meets a m y) (IsMet w)
unfolding fi_meets
fi_on w a m (FiTy b n) h = h
fi_on w a m (NumberTy s cs) h = on_bind (beside a cs checked.RightConstant) _ (IsMet w) (λ o. h)
fi_on w a m (TextTy t) h = tt
fi_on w a m (MathTy t) h = tt
fi_on w a m (TypeTy t) h = tt
fi_on w a m OtherTy h = tt

number_on : (w : Work) (s : Shape) (cs : List Exact) (y : Ty) → is_computed w ≡ true → OnFine (number_meets w s cs y) (IsMet w)
unfolding number_meets
number_on w s cs (FiTy b n) h = on_bind (beside b cs checked.LeftConstant) _ (IsMet w) (λ o. h)
number_on w s cs (NumberTy t ds) h = on_bind (numbers_folded w s cs t ds) _ (IsMet w) (λ c. tt)
number_on w s cs (TextTy t) h = tt
number_on w s cs (MathTy t) h = tt
number_on w s cs (TypeTy t) h = tt
number_on w s cs OtherTy h = tt

sum_on : (w : Work) (x y : Ty) → is_computed w ≡ true → OnFine (sum_met w x y) (IsMet w)
unfolding sum_met
sum_on w (FiTy a m) y h = fi_on w a m y h
sum_on w (NumberTy s cs) y h = number_on w s cs y h
sum_on w (TextTy t) y h = tt
sum_on w (MathTy t) y h = tt
sum_on w (TypeTy t) y h = tt
sum_on w OtherTy y h = tt

power_on : (x y : Ty) → OnFine (power_met x y) (IsMet work.Power)
unfolding power_met
power_on (NumberTy s cs) (NumberTy t ds) = on_bind (power_folded s cs t ds) _ (IsMet work.Power) (λ c. tt)
power_on (NumberTy s cs) (FiTy t m) = tt
power_on (NumberTy s cs) (TextTy t) = tt
power_on (NumberTy s cs) (MathTy t) = tt
power_on (NumberTy s cs) (TypeTy t) = tt
power_on (NumberTy s cs) OtherTy = tt
power_on (FiTy t m) y = tt
power_on (TextTy t) y = tt
power_on (MathTy t) y = tt
power_on (TypeTy t) y = tt
power_on OtherTy y = tt

pub met_on : (w : Work) (x y : Ty) → OnFine (met w x y) (IsMet w)
unfolding met is_computed
met_on work.Sum x y = sum_on work.Sum x y refl
met_on work.Difference x y = sum_on work.Difference x y refl
met_on work.Product x y = sum_on work.Product x y refl
met_on work.Power x y = power_on x y
met_on work.Division x y = tt
met_on work.Later x y = tt

limits_on : (m : Made) → OnFine (limits_checked m) (λ t. m ≡ Is t)
unfolding limits_checked
limits_on (Is t) = refl
limits_on (Wide word) = tt
limits_on (Out fraction) = tt

pub worked_on : (w : Work) (k : Meeting) → IsMet w k → OnFine (worked w k) (IsMade w)
unfolding worked IsMade
worked_on w (Folds t) h = tt
worked_on w (Meets a b) h =
    on_bind (governed_checked (governed a.math b.math)) (typed w a b) (IsMade w) (λ g.
    on_bind (limits_checked (side_made a a.stored)) _ (IsMade w) (λ s.
    on_bind (limits_checked (side_made b b.stored)) _ (IsMade w) (λ t.
    on_kept (limits_checked (work_made w g.math a.num b.num)) _ (λ u. work_made w g.math a.num b.num ≡ Is u) (IsMade w) (limits_on (work_made w g.math a.num b.num)) (λ u is. (h, is)))))

-- ---- calls

-- the first argument is there, and of a class that is taken
unfoldable pub IsAskable : List Ty → Asked → Type 0
IsAskable (u ∷ us) (Takes t m) = is_numeric u ≡ true
IsAskable (u ∷ us) (Attaches m) = is_fi u ≡ true
IsAskable (u ∷ us) TakesSign = is_fi u ≡ true
IsAskable ts (MakesType t) = Unit {0}
IsAskable ts (MakesMath m) = Unit {0}
IsAskable [] k = ⊥

best_on : (signed : Bool) (word : ℕ) (m : Option Fimath) (v : Ty) (ts : List Ty) → OnFine (best_asked signed word m v) (IsAskable (v ∷ ts))
unfolding best_asked IsAskable is_numeric
best_on signed word m (NumberTy s cs) ts = refl
best_on signed word m (FiTy t n) ts = tt
best_on signed word m (TextTy t) ts = tt
best_on signed word m (MathTy t) ts = tt
best_on signed word m (TypeTy t) ts = tt
best_on signed word m OtherTy ts = tt

stated_on : (t : NumericType) (m : Option Fimath) (v : Ty) (ts : List Ty) → OnFine (stated_asked t m v) (IsAskable (v ∷ ts))
unfolding IsAskable is_numeric choose
stated_on t m (FiTy u n) ts = refl
stated_on t m (NumberTy s cs) ts = refl
stated_on t m (TextTy u) ts = tt
stated_on t m (MathTy u) ts = tt
stated_on t m (TypeTy u) ts = tt
stated_on t m OtherTy ts = tt

by_on : (s w : Ty) (m : Option Fimath) (v : Ty) (ts : List Ty) → OnFine (best_by s w m v) (IsAskable (v ∷ ts))
by_on s w m v ts =
    on_bind (taken (bit_in s)) _ (IsAskable (v ∷ ts)) (λ signed. on_bind (taken (length_in w)) _ (IsAskable (v ∷ ts)) (λ word. best_on signed word m v ts))

sixteen_on : (s v : Ty) (ts : List Ty) → OnFine (checked.bind (taken (bit_in s)) (λ signed. best_asked signed 16 None v)) (IsAskable (v ∷ ts))
sixteen_on s v ts = on_bind (taken (bit_in s)) _ (IsAskable (v ∷ ts)) (λ signed. best_on signed 16 None v ts)

one_on : (v a : Ty) → OnFine (fi_one v a) (IsAskable (v ∷ a ∷ []))
unfolding fi_one
one_on v (TypeTy t) = stated_on t None v (TypeTy t ∷ [])
one_on v (FiTy t m) = sixteen_on (FiTy t m) v (FiTy t m ∷ [])
one_on v (NumberTy s cs) = sixteen_on (NumberTy s cs) v (NumberTy s cs ∷ [])
one_on v (TextTy t) = sixteen_on (TextTy t) v (TextTy t ∷ [])
one_on v (MathTy m) = sixteen_on (MathTy m) v (MathTy m ∷ [])
one_on v OtherTy = sixteen_on OtherTy v (OtherTy ∷ [])

two_on : (v a b : Ty) → OnFine (fi_two v a b) (IsAskable (v ∷ a ∷ b ∷ []))
unfolding fi_two
two_on v (TypeTy t) b = on_bind (taken (math_in b)) _ (IsAskable (v ∷ TypeTy t ∷ b ∷ [])) (λ n. stated_on t (Some n) v (TypeTy t ∷ b ∷ []))
two_on v (FiTy t m) b = by_on (FiTy t m) b None v (FiTy t m ∷ b ∷ [])
two_on v (NumberTy s cs) b = by_on (NumberTy s cs) b None v (NumberTy s cs ∷ b ∷ [])
two_on v (TextTy t) b = by_on (TextTy t) b None v (TextTy t ∷ b ∷ [])
two_on v (MathTy m) b = by_on (MathTy m) b None v (MathTy m ∷ b ∷ [])
two_on v OtherTy b = by_on OtherTy b None v (OtherTy ∷ b ∷ [])

-- a value in a type that is stated in parts
of_parts_on : (v s w f : Ty) (ts : List Ty) → OnFine (checked.bind (type_asked s w f) (λ t. stated_asked t None v)) (IsAskable (v ∷ ts))
of_parts_on v s w f ts = on_bind (type_asked s w f) _ (IsAskable (v ∷ ts)) (λ t. stated_on t None v ts)

three_on : (v a b c : Ty) → OnFine (fi_three v a b c) (IsAskable (v ∷ a ∷ b ∷ c ∷ []))
unfolding fi_three
three_on v a b (MathTy m) = by_on a b (Some m) v (a ∷ b ∷ MathTy m ∷ [])
three_on v a b (FiTy t m) = of_parts_on v a b (FiTy t m) (a ∷ b ∷ FiTy t m ∷ [])
three_on v a b (NumberTy s cs) = of_parts_on v a b (NumberTy s cs) (a ∷ b ∷ NumberTy s cs ∷ [])
three_on v a b (TextTy t) = of_parts_on v a b (TextTy t) (a ∷ b ∷ TextTy t ∷ [])
three_on v a b (TypeTy t) = of_parts_on v a b (TypeTy t) (a ∷ b ∷ TypeTy t ∷ [])
three_on v a b OtherTy = of_parts_on v a b OtherTy (a ∷ b ∷ OtherTy ∷ [])

four_on : (v a b c d : Ty) → OnFine (fi_four v a b c d) (IsAskable (v ∷ a ∷ b ∷ c ∷ d ∷ []))
unfolding fi_four
four_on v a b c d =
    on_bind (type_asked a b c) _ (IsAskable (v ∷ a ∷ b ∷ c ∷ d ∷ [])) (λ t.
    on_bind (taken (math_in d)) _ (IsAskable (v ∷ a ∷ b ∷ c ∷ d ∷ [])) (λ n. stated_on t (Some n) v (a ∷ b ∷ c ∷ d ∷ [])))

fi_asked_on : (ts : List Ty) → OnFine (fi_asked ts) (IsAskable ts)
unfolding fi_asked
fi_asked_on [] = tt
fi_asked_on (v ∷ []) = best_on true 16 None v []
fi_asked_on (v ∷ a ∷ []) = one_on v a
fi_asked_on (v ∷ a ∷ b ∷ []) = two_on v a b
fi_asked_on (v ∷ a ∷ b ∷ c ∷ []) = three_on v a b c
fi_asked_on (v ∷ a ∷ b ∷ c ∷ d ∷ []) = four_on v a b c d
fi_asked_on (v ∷ a ∷ b ∷ c ∷ d ∷ e ∷ more) = tt

type_on : (a : Ty) (ts : List Ty) → OnFine (type_made a) (IsAskable (a ∷ ts))
unfolding type_made IsAskable
type_on (FiTy t m) ts = tt
type_on (NumberTy s cs) ts = tt
type_on (TextTy t) ts = tt
type_on (MathTy m) ts = tt
type_on (TypeTy t) ts = tt
type_on OtherTy ts = tt

numerictype_on : (ts : List Ty) → OnFine (numerictype_asked ts) (IsAskable ts)
unfolding numerictype_asked IsAskable
numerictype_on [] = tt
numerictype_on (a ∷ []) = type_on a []
numerictype_on (s ∷ w ∷ []) = tt
numerictype_on (s ∷ w ∷ f ∷ []) = on_bind (type_asked s w f) _ (IsAskable (s ∷ w ∷ f ∷ [])) (λ t. tt)
numerictype_on (s ∷ w ∷ f ∷ a ∷ more) = tt

-- a fimath is made of any arguments
math_on : (ts : List Ty) (m : Fimath) → IsAskable ts (MakesMath m)
unfolding IsAskable
math_on [] m = tt
math_on (u ∷ us) m = tt

fimath_on : (b : Bool) (ts : List Ty) (o : Option Fimath) (other : Checked Asked) → OnFine other (IsAskable ts) → OnFine (choose b (checked.bind (taken o) (λ m. Fine (MakesMath m))) other) (IsAskable ts)
unfolding choose
fimath_on true ts o other h = on_bind (taken o) _ (IsAskable ts) (λ m. math_on ts m)
fimath_on false ts o other h = h

set_on : (a b : Ty) → OnFine (set_asked a b) (IsAskable (a ∷ b ∷ []))
unfolding set_asked IsAskable
set_on (FiTy t m) (MathTy n) = refl
set_on (FiTy t m) (FiTy u n) = tt
set_on (FiTy t m) (NumberTy s cs) = tt
set_on (FiTy t m) (TextTy u) = tt
set_on (FiTy t m) (TypeTy u) = tt
set_on (FiTy t m) OtherTy = tt
set_on (NumberTy s cs) b = tt
set_on (TextTy t) b = tt
set_on (MathTy m) b = tt
set_on (TypeTy t) b = tt
set_on OtherTy b = tt

setfimath_on : (ts : List Ty) → OnFine (setfimath_asked ts) (IsAskable ts)
unfolding setfimath_asked
setfimath_on [] = tt
setfimath_on (a ∷ []) = tt
setfimath_on (a ∷ b ∷ []) = set_on a b
setfimath_on (a ∷ b ∷ c ∷ more) = tt

remove_on : (a : Ty) → OnFine (remove_asked a) (IsAskable (a ∷ []))
unfolding remove_asked IsAskable
remove_on (FiTy t m) = refl
remove_on (NumberTy s cs) = tt
remove_on (TextTy t) = tt
remove_on (MathTy m) = tt
remove_on (TypeTy t) = tt
remove_on OtherTy = tt

removefimath_on : (ts : List Ty) → OnFine (removefimath_asked ts) (IsAskable ts)
unfolding removefimath_asked
removefimath_on [] = tt
removefimath_on (a ∷ []) = remove_on a
removefimath_on (a ∷ b ∷ more) = tt

chosen_on : {A : Type 0} (b : Bool) (x y : Checked A) (P : A → Type 0) → OnFine x P → OnFine y P → OnFine (choose b x y) P
unfolding choose
chosen_on true x y P h g = h
chosen_on false x y P h g = g

like_on : (v a b : Ty) → OnFine (like_asked v a b) (IsAskable (v ∷ a ∷ b ∷ []))
unfolding like_asked
like_on v (TextTy word) (FiTy t m) = chosen_on (bytes_eq word (codes "like")) (stated_asked t m v) _ (IsAskable (v ∷ TextTy word ∷ FiTy t m ∷ [])) (stated_on t m v (TextTy word ∷ FiTy t m ∷ [])) tt
like_on v (TextTy word) (NumberTy s cs) = tt
like_on v (TextTy word) (TextTy t) = tt
like_on v (TextTy word) (MathTy m) = tt
like_on v (TextTy word) (TypeTy t) = tt
like_on v (TextTy word) OtherTy = tt
like_on v (FiTy t m) b = tt
like_on v (NumberTy s cs) b = tt
like_on v (MathTy m) b = tt
like_on v (TypeTy t) b = tt
like_on v OtherTy b = tt

cast_on : (ts : List Ty) → OnFine (cast_asked ts) (IsAskable ts)
unfolding cast_asked
cast_on [] = tt
cast_on (a ∷ []) = tt
cast_on (a ∷ b ∷ []) = tt
cast_on (v ∷ a ∷ b ∷ []) = like_on v a b
cast_on (a ∷ b ∷ c ∷ d ∷ more) = tt

sign_asked_on : (a : Ty) → OnFine (sign_asked a) (IsAskable (a ∷ []))
unfolding sign_asked IsAskable
sign_asked_on (FiTy t m) = refl
sign_asked_on (NumberTy s cs) = tt
sign_asked_on (TextTy t) = tt
sign_asked_on (MathTy m) = tt
sign_asked_on (TypeTy t) = tt
sign_asked_on OtherTy = tt

abs_on : (ts : List Ty) → OnFine (abs_asked ts) (IsAskable ts)
unfolding abs_asked
abs_on [] = tt
abs_on (a ∷ []) = sign_asked_on a
abs_on (a ∷ b ∷ more) = tt

pub asked_on : (b : BuiltIn) (ts : List Ty) → OnFine (asked b ts) (IsAskable ts)
unfolding asked fimath_asked
asked_on built_in.Abs ts = abs_on ts
asked_on built_in.Fi ts = fi_asked_on ts
asked_on built_in.Numerictype ts = numerictype_on ts
asked_on built_in.Fimath ts = fimath_on (is_even (length ts)) ts (with_properties ts [] usual) _ tt
asked_on built_in.SetFimath ts = setfimath_on ts
asked_on built_in.RemoveFimath ts = removefimath_on ts
asked_on built_in.Cast ts = cast_on ts

pub built_on : (k : Asked) (ts : List Ty) → IsAskable ts k → OnFine (built k) (λ m. IsGranted m ts)
unfolding built IsAskable IsGranted
built_on (Takes t m) [] h = absurd h
built_on (Takes t m) (u ∷ us) h = on_bind (limits_checked (limited 64 t)) _ (λ m. IsGranted m (u ∷ us)) (λ u. h)
built_on (Attaches m) [] h = absurd h
built_on (Attaches m) (u ∷ us) h = h
built_on TakesSign [] h = absurd h
built_on TakesSign (u ∷ us) h = h
built_on (MakesType t) ts h = on_bind (limits_checked (limited 64 t)) _ (λ m. IsGranted m ts) (λ u. tt)
built_on (MakesMath m) ts h = tt

-- ---- what the code has of it

-- the parts of an operation at run time
pub made_parts : (w : Work) (k : code_pairs.Working) (a b : code_operand.Operand) (g : Governed) (t : NumType) → k ≡ working.Computes a b g t → IsMade w (working_view k)
    → (is_computed w ≡ true) × (work_made w g.math (type_of a.num) (type_of b.num) ≡ Is (type_of t))
unfolding IsMade
made_parts w k a b g t h m = subst (λ (k : code_pairs.Working). IsMade w (working_view k)) h m

-- the first argument, where another fimath is attached to it
pub attached_fi : (m : Option Fimath) (types : List code_ty.Ty) (x : code_ty.Ty) → Some x ≡ slice_get types 0 → IsGranted (Attached m) (map ty_view types) → is_fi (ty_view x) ≡ true
unfolding IsGranted
attached_fi m [] x h g = absurd g
attached_fi m (t ∷ ts) x h g = subst (λ (y : code_ty.Ty). is_fi (ty_view y) ≡ true) (sym (some_is x t h)) g
