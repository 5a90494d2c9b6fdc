-- Arguments as values and as types.
use Rattle.std.proofs.Common.{◌≡◌, ℕ, zero, suc, ◌+◌, ◌*◌, ◌<◌, ◌≤◌, ◌^◌, Bool, true, false, not, List, [], ◌∷◌, ◌++◌, length, get_or, take, map, Option, Some, None, refl, sym, ap, ◌∙◌, nat_eq, of_z, w64, arith}
use Rattle.std.specs.Prelude.{ℤ, pos, negsuc, ◌*ℤ◌, ◌<ℤ◌, ◌≤ℤ◌, int_le, nat_abs, if◌then◌else◌}
use Rattle.std.specs.Global.{Vec}
use Rattle.std.proofs.lemmas.Int.{ints, clamps}
use Rattle.std.proofs.lemmas.Bool.{eqb-true, false≢true}
use Rattle.std.proofs.lemmas.Nat.{pow_pos}
use Rattle.std.proofs.lemmas.Option.{none-some, same_Some}
use Rattle.std.proofs.lemmas.List.{take_more, take_all, length-map, map-append}
use Rattle.num_type.specs.Constants.{Exact}
use Rattle.num_type.specs.View.{exact_of, type_of}
use Rattle.num_type.specs.declared.dyadic.Dyadic.{Dyadic}
use Rattle.num_type.proofs.Sums.{zero_m}
use Rattle.fi_rules.specs.Arguments.{constant_in, whole_of, bit_of, bit_in}
use Rattle.fi_rules.specs.Options.{and_then, where_so}
use Rattle.fi_rules.specs.Pairs.{scalar_number}
use Rattle.fi_rules.specs.Types as types
use Rattle.fi_rules.specs.Types.{Ty, FiTy, NumberTy, TextTy, MathTy, TypeTy, OtherTy}
use Rattle.fi_rules.specs.Value.{Shape, scalar, is_scalar, Val, Logical, Number}
use Rattle.fi_rules.specs.View.{ty_view}
use Rattle.fi_rules.specs.declared.ty.Ty as code_ty
use Rattle.fi_rules.proofs.Numbers.{whole_raised, whole_missing, whole_down}
use Rattle.fi_meaning.specs.Calls.{Argument, truth_number, constant_ty, constant_value, constants, element_ty, function_values, single_ty, value_ty}
use Rattle.fi_meaning.specs.Functions.{Function, Filled}
use Rattle.eval_value.specs.View.{fi_view, number_view, value_view}
use Rattle.eval_value.specs.declared.fi_value.FiValue.{FiValue}
use Rattle.eval_value.specs.declared.logical_value.LogicalValue.{LogicalValue}
use Rattle.eval_value.specs.declared.number_value.NumberValue.{NumberValue}
use Rattle.eval_value.specs.declared.value.Value.{Value}
use Rattle.eval_value.specs.declared.value.Value.TheVariants as value
use Rattle.eval_call.specs.Functions.{is_filled, value_at}
use Rattle.eval_call.specs.Represented.{is_signed, states_sign, stated_sign, other_type, represented, represented_types}
use Rattle.eval_call.specs.View.{argument_view, word_truth}
use Rattle.eval_call.specs.declared.argument.Argument as code_argument
use Rattle.eval_bits.proofs.Classes.{number_cases}
use Rattle.eval_call.proofs.Follow.{some_none}
use Rattle.eval_call.proofs.Forms.{fi_cases, real_is, complex_is}

-- ---- the words true and false

word_is : (v : Val) (w t : Bool) → Some t ≡ word_truth v w → Number scalar (truth_number t ∷ []) ≡ constant_value v w
unfolding word_truth constant_value
word_is (Logical s (b ∷ [])) true t h = let e : t ≡ b = same_Some t b h in ap (λ c. Number scalar (truth_number c ∷ [])) e
word_is (Logical s (b ∷ [])) false t h = absurd (some_none t h)
word_is (Logical s []) w t h = absurd (some_none t h)
word_is (Logical s (b ∷ c ∷ bs)) w t h = absurd (some_none t h)
word_is v w t h = absurd (some_none t h)

pub word_value : (v u : Val) (w t : Bool) (x : Exact) → Some t ≡ word_truth v w → x ≡ truth_number t → u ≡ Number scalar (x ∷ []) → u ≡ constant_value v w
word_value v u w t x h e g = g ∙ ap (λ y. Number scalar (y ∷ [])) e ∙ word_is v w t h

pub own_value : (u v : Val) (w : Bool) → None ≡ word_truth v w → u ≡ v → u ≡ constant_value v w
unfolding word_truth constant_value
own_value u (Logical s (b ∷ [])) true h e = absurd (none-some b h)
own_value u (Logical s (b ∷ [])) false h e = e
own_value u (Logical s []) w h e = e
own_value u (Logical s (b ∷ c ∷ bs)) w h e = e
own_value u v w h e = e

pub no_word : (v : Val) → None ≡ word_truth v false
unfolding word_truth
no_word (Logical s []) = refl
no_word (Logical s (b ∷ [])) = refl
no_word (Logical s (b ∷ c ∷ bs)) = refl
no_word v = refl

pub other_word : (v : Value) (w : Bool) → ((l : LogicalValue) → v ≡ value.Logical l → ⊥) → None ≡ word_truth (value_view v) w
unfolding word_truth
other_word (value.Fi v) w h = fi_cases (λ u. None ≡ word_truth u w) v (λ t m s xs. refl) (λ t m s xs ys. refl)
other_word (value.Logical l) w h = absurd (h l refl)
other_word (value.Number v) w h = number_cases (λ u. None ≡ word_truth u w) v (λ s cs. refl) (λ s xs ys. refl)
other_word (value.Words text) w h = refl
other_word (value.Math m) w h = refl
other_word (value.Type t) w h = refl

pub one_truth : (s : Shape) (bs : List Bool) (b : Bool) → length bs ≡ 1 → b ≡ get_or bs 0 b → Some b ≡ word_truth (Logical s bs) true
unfolding word_truth
one_truth s (c ∷ []) b h e = ap (λ x. Some x) e
one_truth s [] b h e = absurd (omega (arith, h))
one_truth s (c ∷ d ∷ bs) b h e = absurd (omega (arith, h))

pub more_truths : (s : Shape) (bs : List Bool) → (length bs ≡ 1 → ⊥) → None ≡ word_truth (Logical s bs) true
unfolding word_truth
more_truths s (c ∷ []) h = absurd (h refl)
more_truths s [] h = refl
more_truths s (c ∷ d ∷ bs) h = refl

-- ---- the values that a function takes

pub value_behind : (f : Function) (k : ℕ) (a : Argument) (v : Val) → 0 < k → v ≡ constant_value a.value a.is_word → v ≡ value_at f k a
unfolding value_at
value_behind f zero a v h e = absurd (omega (arith, h))
value_behind f (suc k) a v h e = e

pub value_filled : (f : Function) (k : ℕ) (a : Argument) (v : Val) → k ≡ 0 → is_filled f ≡ true → v ≡ constant_value a.value a.is_word → v ≡ value_at f k a
unfolding value_at
value_filled f zero a v h g e = e ∙ ap (λ b. if b then constant_value a.value a.is_word else a.value) (sym g)
value_filled f (suc k) a v h g e = absurd (omega (arith, h))

pub value_first : (f : Function) (k : ℕ) (a : Argument) (v : Val) → k ≡ 0 → is_filled f ≡ false → v ≡ a.value → v ≡ value_at f k a
unfolding value_at
value_first f zero a v h g e = e ∙ ap (λ b. if b then constant_value a.value a.is_word else a.value) (sym g)
value_first f (suc k) a v h g e = absurd (omega (arith, h))

-- so far, and one more
pub more_taken : {X A : Type 0} (view : X → A) (xs : List X) (x : X) (whole : List A) (k : ℕ) → map view xs ≡ take k whole → k < length whole → view x ≡ get_or whole k (view x) → map view (xs ++ x ∷ []) ≡ take (k + 1) whole
more_taken view xs x whole k h l e =
    map-append view xs (x ∷ []) ∙ (λ i. h i ++ e i ∷ []) ∙ sym (take_more whole k (view x) l)

pub all_taken : {A : Type 0} (xs whole : List A) (k : ℕ) → xs ≡ take k whole → length whole ≡ k → xs ≡ whole
all_taken xs whole k h e = h ∙ take_all k whole (omega (arith, e))

at_map : {X A : Type 0} (f : X → A) (xs : List X) (k : ℕ) (x : X) (d : A) → k < length xs → x ≡ get_or xs k x → f x ≡ get_or (map f xs) k d
at_map f [] k x d h e = absurd (omega (arith, h))
at_map f (y ∷ xs) zero x d h e = ap f e
at_map f (y ∷ xs) (suc k) x d h e = at_map f xs k x d (omega (arith, h)) e

values_of_first : (f : Function) (a : Argument) (more : List Argument) → function_values f (a ∷ more) ≡ value_at f 0 a ∷ map (λ (b : Argument). constant_value b.value b.is_word) more
unfolding function_values value_at is_filled
values_of_first (Filled z) a more = refl
values_of_first f a more = refl

values_of_none : (f : Function) → function_values f [] ≡ []
unfolding function_values
values_of_none (Filled z) = refl
values_of_none f = refl

values_count : (f : Function) (args : List Argument) → length (function_values f args) ≡ length args
values_count f [] = ap length (values_of_none f)
values_count f (a ∷ more) = ap length (values_of_first f a more) ∙ ap suc (length-map more (λ (b : Argument). constant_value b.value b.is_word))

value_there : (f : Function) (args : List Argument) (k : ℕ) (a : Argument) (d : Val) → k < length args → a ≡ get_or args k a → value_at f k a ≡ get_or (function_values f args) k d
unfolding value_at
value_there f [] k a d h e = absurd (omega (arith, h))
value_there f (b ∷ more) zero a d h e = ap (value_at f 0) e ∙ sym (ap (λ vs. get_or vs 0 d) (values_of_first f b more))
value_there f (b ∷ more) (suc k) a d h e =
    at_map (λ (b : Argument). constant_value b.value b.is_word) more k a d (omega (arith, h)) e ∙ sym (ap (λ vs. get_or vs (suc k) d) (values_of_first f b more))

viewed : (args : List code_argument.Argument) (k : ℕ) (a : code_argument.Argument) → k < length args → a ≡ get_or args k a → argument_view a ≡ get_or (map argument_view args) k (argument_view a)
viewed args k a h e = at_map argument_view args k a (argument_view a) h e

pub value_taken : (f : Function) (args : List code_argument.Argument) (xs : List Value) (v : Value) (k : ℕ) (a : code_argument.Argument)
    → map value_view xs ≡ take k (function_values f (map argument_view args)) → k < length args → a ≡ get_or args k a → value_view v ≡ value_at f k (argument_view a)
    → map value_view (xs ++ v ∷ []) ≡ take (k + 1) (function_values f (map argument_view args))
value_taken f args xs v k a h l e g =
    more_taken value_view xs v (function_values f (map argument_view args)) k h (omega (arith, l, values_count f (map argument_view args), length-map args argument_view))
    (g ∙ value_there f (map argument_view args) k (argument_view a) (value_view v) (omega (arith, l, length-map args argument_view)) (viewed args k a l e))

pub values_taken : (f : Function) (args : List code_argument.Argument) (vs : List Val) (k : ℕ) → vs ≡ take k (function_values f (map argument_view args)) → k ≡ length args → vs ≡ function_values f (map argument_view args)
values_taken f args vs k h e = all_taken vs (function_values f (map argument_view args)) k h (values_count f (map argument_view args) ∙ length-map args argument_view ∙ sym e)

-- ---- types

types_count : (b : Bool) (args : List Argument) → length (represented_types b args) ≡ length args
unfolding represented_types
types_count true [] = refl
types_count true (a ∷ more) = ap suc (length-map more (λ (a : Argument). constant_ty a.value a.is_word))
types_count false args = length-map args (λ (a : Argument). constant_ty a.value a.is_word)

pub type_behind : (b : Bool) (args : List code_argument.Argument) (k : ℕ) (a : code_argument.Argument) (t : Ty) → k < length args → 0 < k → a ≡ get_or args k a → t ≡ constant_ty (value_view a.value) a.is_word
    → t ≡ get_or (represented_types b (map argument_view args)) k OtherTy
unfolding represented_types
type_behind b [] k a t l h e g = absurd (omega (arith, l))
type_behind b (x ∷ args) zero a t l h e g = absurd (omega (arith, h))
type_behind true (x ∷ args) (suc k) a t l h e g =
    g ∙ at_map (λ (a : Argument). constant_ty a.value a.is_word) (map argument_view args) k (argument_view a) OtherTy (omega (arith, l, length-map args argument_view)) (viewed args k a (omega (arith, l)) e)
type_behind false (x ∷ args) (suc k) a t l h e g =
    g ∙ at_map (λ (a : Argument). constant_ty a.value a.is_word) (map argument_view args) k (argument_view a) OtherTy (omega (arith, l, length-map args argument_view)) (viewed args k a (omega (arith, l)) e)

pub type_first : (b : Bool) (args : List code_argument.Argument) (k : ℕ) (a : code_argument.Argument) (t : Ty) → 0 < length args → k ≡ 0 → a ≡ get_or args 0 a → b ≡ true → t ≡ represented (is_signed (map argument_view args)) (value_view a.value)
    → t ≡ get_or (represented_types b (map argument_view args)) k OtherTy
unfolding represented_types
type_first b [] k a t l h e g u = absurd (omega (arith, l))
type_first b (x ∷ args) (suc k) a t l h e g u = absurd (omega (arith, h))
type_first true (x ∷ args) zero a t l h e g u = u ∙ ap (λ c. represented (states_sign (constants (map argument_view args))) (value_view c.value)) e
type_first false (x ∷ args) zero a t l h e g u = absurd (false≢true g)

pub type_constant : (b : Bool) (args : List code_argument.Argument) (k : ℕ) (a : code_argument.Argument) (t : Ty) → 0 < length args → k ≡ 0 → a ≡ get_or args 0 a → b ≡ false → t ≡ constant_ty (value_view a.value) a.is_word
    → t ≡ get_or (represented_types b (map argument_view args)) k OtherTy
unfolding represented_types
type_constant b [] k a t l h e g u = absurd (omega (arith, l))
type_constant b (x ∷ args) (suc k) a t l h e g u = absurd (omega (arith, h))
type_constant false (x ∷ args) zero a t l h e g u = u ∙ ap (λ c. constant_ty (value_view c.value) c.is_word) e
type_constant true (x ∷ args) zero a t l h e g u = absurd (false≢true (sym g))

pub type_taken : (b : Bool) (args : List code_argument.Argument) (xs : List code_ty.Ty) (t : code_ty.Ty) (k : ℕ) → map ty_view xs ≡ take k (represented_types b (map argument_view args)) → k < length args
    → ty_view t ≡ get_or (represented_types b (map argument_view args)) k OtherTy → map ty_view (xs ++ t ∷ []) ≡ take (k + 1) (represented_types b (map argument_view args))
type_taken b args xs t k h l e =
    let all = represented_types b (map argument_view args) in
    let m : k < length all = omega (arith, l, types_count b (map argument_view args), length-map args argument_view) in
    map-append ty_view xs (t ∷ []) ∙ (λ i. h i ++ e i ∷ []) ∙ sym (take_more all k OtherTy m)

pub types_taken : (b : Bool) (args : List code_argument.Argument) (ts : List Ty) (k : ℕ) → ts ≡ take k (represented_types b (map argument_view args)) → k ≡ length args → ts ≡ represented_types b (map argument_view args)
types_taken b args ts k h e = all_taken ts (represented_types b (map argument_view args)) k h (types_count b (map argument_view args) ∙ length-map args argument_view ∙ sym e)

-- ---- constants

word_number : (v : Val) (w t : Bool) → Some t ≡ word_truth v w → Some (truth_number t) ≡ constant_in (constant_ty v w)
unfolding word_truth constant_ty constant_in where_so
word_number (Logical s (b ∷ [])) true t h = let e : t ≡ b = same_Some t b h in ap (λ c. Some (truth_number c)) e
word_number (Logical s (b ∷ [])) false t h = absurd (some_none t h)
word_number (Logical s []) w t h = absurd (some_none t h)
word_number (Logical s (b ∷ c ∷ bs)) w t h = absurd (some_none t h)
word_number v w t h = absurd (some_none t h)

pub word_constant : (v : Val) (w t : Bool) (x : Exact) → Some t ≡ word_truth v w → x ≡ truth_number t → Some x ≡ constant_in (constant_ty v w)
word_constant v w t x h e = ap (λ y. Some y) e ∙ word_number v w t h

single_constant : (b : Bool) (s : Shape) (c : Exact) → is_scalar s ≡ b → where_so b c ≡ constant_in (if b then NumberTy scalar (c ∷ []) else OtherTy)
unfolding constant_in where_so
single_constant true s c h = refl
single_constant false s c h = refl

own_number : (s : Shape) (cs : List Exact) → constant_in (NumberTy s cs) ≡ constant_in (single_ty s cs)
unfolding constant_in single_ty where_so
own_number s [] = refl
own_number s (c ∷ []) = single_constant (is_scalar s) s c refl
own_number s (c ∷ d ∷ cs) = refl

own_constant_in : (v : Val) (w : Bool) → None ≡ word_truth v w → constant_in (types.type_of v) ≡ constant_in (constant_ty v w)
unfolding word_truth constant_ty constant_in types.type_of element_ty
own_constant_in (Number s cs) w h = own_number s cs
own_constant_in (Logical s (b ∷ [])) true h = absurd (none-some b h)
own_constant_in (Logical s (b ∷ [])) false h = refl
own_constant_in (Logical s []) w h = refl
own_constant_in (Logical s (b ∷ c ∷ bs)) w h = refl
own_constant_in v w h = refl

pub own_constant : (v : Val) (w : Bool) (o : Option Exact) → None ≡ word_truth v w → o ≡ constant_in (types.type_of v) → o ≡ constant_in (constant_ty v w)
own_constant v w o h e = e ∙ own_constant_in v w h

single_typed : (b : Bool) (s : Shape) (c x : Exact) → Some x ≡ constant_in (if b then NumberTy scalar (c ∷ []) else OtherTy) → scalar_number x ≡ (if b then NumberTy scalar (c ∷ []) else OtherTy)
unfolding constant_in where_so
single_typed true s c x h = let e : x ≡ c = same_Some x c h in ap scalar_number e
single_typed false s c x h = absurd (some_none x h)

pub number_typed : (v : Val) (w : Bool) (x : Exact) → Some x ≡ constant_in (constant_ty v w) → scalar_number x ≡ constant_ty v w
unfolding constant_ty constant_in single_ty element_ty where_so
number_typed (Number s []) w x h = absurd (some_none x h)
number_typed (Number s (c ∷ [])) w x h = single_typed (is_scalar s) s c x h
number_typed (Number s (c ∷ d ∷ cs)) w x h = absurd (some_none x h)
number_typed (Logical s (b ∷ [])) true x h = let e : x ≡ truth_number b = same_Some x (truth_number b) h in ap scalar_number e
number_typed (Logical s (b ∷ [])) false x h = absurd (some_none x h)
number_typed (Logical s []) w x h = absurd (some_none x h)
number_typed (Logical s (b ∷ c ∷ bs)) w x h = absurd (some_none x h)
number_typed v w x h = absurd (some_none x h)

single_other : (b : Bool) (s : Shape) (c : Exact) → None ≡ constant_in (if b then NumberTy scalar (c ∷ []) else OtherTy) → OtherTy ≡ (if b then NumberTy scalar (c ∷ []) else OtherTy)
unfolding constant_in where_so
single_other true s c h = absurd (none-some c h)
single_other false s c h = refl

pub other_typed : (v : Val) (w : Bool) (t : Ty) → None ≡ constant_in (constant_ty v w) → t ≡ other_type v → t ≡ constant_ty v w
unfolding constant_ty constant_in single_ty element_ty other_type where_so
other_typed (Number s []) w t h e = e
other_typed (Number s (c ∷ [])) w t h e = e ∙ single_other (is_scalar s) s c h
other_typed (Number s (c ∷ d ∷ cs)) w t h e = e
other_typed (Logical s (b ∷ [])) true t h e = absurd (none-some (truth_number b) h)
other_typed (Logical s (b ∷ [])) false t h e = e
other_typed (Logical s []) w t h e = e
other_typed (Logical s (b ∷ c ∷ bs)) w t h e = e
other_typed v w t h e = e

pub fi_typed : (v : FiValue) → FiTy (type_of v.num) v.math ≡ other_type (fi_view v)
unfolding other_type element_ty
fi_typed v = by v.im refl
  where
    by : (o : Option (Vec ℤ)) → v.im ≡ o → FiTy (type_of v.num) v.math ≡ other_type (fi_view v)
    by None e = sym (ap other_type (real_is v e))
    by (Some parts) e = sym (ap other_type (complex_is v parts e))

pub numbers_typed : (v : NumberValue) → OtherTy ≡ other_type (number_view v)
unfolding other_type
numbers_typed v = number_cases (λ u. OtherTy ≡ other_type u) v (λ s cs. refl) (λ s xs ys. refl)

pub fi_represented : (b : Bool) (v : FiValue) → FiTy (type_of v.num) v.math ≡ represented b (fi_view v)
unfolding represented value_ty element_ty
fi_represented b v = by v.im refl
  where
    by : (o : Option (Vec ℤ)) → v.im ≡ o → FiTy (type_of v.num) v.math ≡ represented b (fi_view v)
    by None e = sym (ap (represented b) (real_is v e))
    by (Some parts) e = sym (ap (represented b) (complex_is v parts e))

-- ---- the sign that is stated

nonzero : (m : ℤ) (p : ℕ) → 0 < p → (m ≡ pos 0 → ⊥) → m *ℤ pos p ≡ pos 0 → ⊥
nonzero (pos zero) p h g e = g refl
nonzero (pos (suc n)) p h g e = let s : 0 < suc n * p = grind arith in omega (arith, ints, e, s)
nonzero (negsuc n) p h g e = let s : 0 < suc n * p = grind arith in omega (arith, ints, e, s)

other_bit : (z : ℤ) → (z ≡ pos 0 → ⊥) → stated_sign (and_then (Some z) bit_of) ≡ true
unfolding and_then bit_of
other_bit (pos zero) h = absurd (h refl)
other_bit (pos (suc zero)) h = refl
other_bit (pos (suc (suc n))) h = refl
other_bit (negsuc n) h = refl

no_bit : stated_sign (and_then None bit_of) ≡ true
unfolding and_then
no_bit = refl

zero_bit : (z : ℤ) → z ≡ pos 0 → stated_sign (and_then (Some z) bit_of) ≡ false
unfolding and_then bit_of
zero_bit z h = rw h refl

some_bit : (c : Dyadic) → (c.m ≡ pos 0 → ⊥) → stated_sign (and_then (whole_of (exact_of c)) bit_of) ≡ true
some_bit c h = by (int_le (pos 0) c.e) refl
  where
    by : (b : Bool) → int_le (pos 0) c.e ≡ b → stated_sign (and_then (whole_of (exact_of c)) bit_of) ≡ true
    by true e =
        let k : ℕ = nat_abs c.e in
        let up : pos 0 ≤ℤ c.e = grind (arith, ints) in
        ap (λ o. stated_sign (and_then o bit_of)) (whole_raised c k (omega (arith, ints, clamps, up)))
        ∙ other_bit (c.m *ℤ pos (2 ^ k)) (nonzero c.m (2 ^ k) (pow_pos k) h)
    by false e =
        let down : c.e <ℤ pos 0 = grind (arith, ints) in
        ap (λ o. stated_sign (and_then o bit_of)) (whole_missing c (whole_down c down)) ∙ no_bit

nought_bit : (c : Dyadic) → c.m ≡ pos 0 → stated_sign (and_then (whole_of (exact_of c)) bit_of) ≡ false
nought_bit c h =
    ap (λ o. stated_sign (and_then o bit_of)) (whole_raised c 0 (c.zero_form h)) ∙ zero_bit (c.m *ℤ pos (2 ^ 0)) (omega (arith, ints, h))

bit_sign : (c : Dyadic) → stated_sign (and_then (whole_of (exact_of c)) bit_of) ≡ not (nat_eq (of_z w64 c.m) 0)
bit_sign c = by (nat_eq (of_z w64 c.m) 0) refl
  where
    by : (b : Bool) → nat_eq (of_z w64 c.m) 0 ≡ b → stated_sign (and_then (whole_of (exact_of c)) bit_of) ≡ not (nat_eq (of_z w64 c.m) 0)
    by true e = nought_bit c (zero_m c (eqb-true (of_z w64 c.m) 0 e)) ∙ sym (ap not e)
    by false e = some_bit c (λ z. false≢true (sym e ∙ ap (λ m. nat_eq (of_z w64 m) 0) z)) ∙ sym (ap not e)

second_sign : (args : List code_argument.Argument) (b : code_argument.Argument) → 2 ≤ length args → b ≡ get_or args 1 b → is_signed (map argument_view args) ≡ stated_sign (bit_in (constant_ty (value_view b.value) b.is_word))
second_sign (x ∷ y ∷ args) b h e = ap (λ c. stated_sign (bit_in (constant_ty (value_view c.value) c.is_word))) (sym e)
second_sign [] b h e = absurd (omega (arith, h))
second_sign (x ∷ []) b h e = absurd (omega (arith, h))

sign_of : (t : Ty) (x : Exact) → Some x ≡ constant_in t → stated_sign (bit_in t) ≡ stated_sign (and_then (whole_of x) bit_of)
unfolding and_then
sign_of t x h = ap (λ o. stated_sign (and_then (and_then o whole_of) bit_of)) (sym h)

sign_of_none : (t : Ty) → None ≡ constant_in t → stated_sign (bit_in t) ≡ true
unfolding and_then
sign_of_none t h = ap (λ o. stated_sign (and_then (and_then o whole_of) bit_of)) (sym h)

pub signed_by : (args : List code_argument.Argument) (b : code_argument.Argument) (c : Dyadic) → 2 ≤ length args → b ≡ get_or args 1 b → Some (exact_of c) ≡ constant_in (constant_ty (value_view b.value) b.is_word)
    → not (nat_eq (of_z w64 c.m) 0) ≡ is_signed (map argument_view args)
signed_by args b c h e g = sym (second_sign args b h e ∙ sign_of (constant_ty (value_view b.value) b.is_word) (exact_of c) g ∙ bit_sign c)

pub signed_else : (args : List code_argument.Argument) (b : code_argument.Argument) → 2 ≤ length args → b ≡ get_or args 1 b → None ≡ constant_in (constant_ty (value_view b.value) b.is_word)
    → true ≡ is_signed (map argument_view args)
signed_else args b h e g = sym (second_sign args b h e ∙ sign_of_none (constant_ty (value_view b.value) b.is_word) g)

pub signed_alone : (args : List code_argument.Argument) → length args < 2 → true ≡ is_signed (map argument_view args)
signed_alone [] h = refl
signed_alone (a ∷ []) h = refl
signed_alone (a ∷ b ∷ args) h = absurd (omega (arith, h))
