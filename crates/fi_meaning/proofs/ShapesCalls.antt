-- Calls of the built-in functions of the rules on sound values give sound ones.
use Rattle.std.proofs.Common.{◌≡◌, ◌∙◌, List, [], ◌∷◌, length}
use Rattle.std.specs.Prelude.{ℤ, pos, ◌≤◌, map, Option}
use Rattle.std.specs.List.{AllByRecursion}
use Rattle.std.proofs.lemmas.List.{length-map}
use Rattle.fic_base.specs.declared.place.Place.{Place}
use Rattle.num_type.specs.Constants.{Exact}
use Rattle.num_type.specs.Types.{NumericType, IsWithin, IsInRange}
use Rattle.fi_math.specs.declared.fimath.Fimath.{Fimath}
use Rattle.fi_math.specs.Made.{Made}
use Rattle.fi_rules.specs.declared.built_ins.BuiltIn.{BuiltIn}
use Rattle.fi_rules.specs.declared.built_ins.BuiltIn.TheVariants as built_in
use Rattle.fi_rules.specs.Calls.{Asked, Takes, Attaches, TakesSign, MakesType, MakesMath, Built, Taken, Attached, SignTaken, Object, asked, built, call_checked}
use Rattle.fi_rules.specs.Pairs.{limits_checked}
use Rattle.fi_rules.specs.Types.{Ty, known_value}
use Rattle.fi_rules.specs.Value.{Shape, count, Val, Fi, ComplexFi, Logical, Number, ComplexNumber, Words, MathObject, TypeObject}
use Rattle.fi_eval.specs.Calls.{taken, taken_constant}
use Rattle.fi_eval.specs.Operators.{Remove, turned}
use Rattle.fi_values.specs.Sound.{IsStored, IsSound, Granted, grants, at_wrong}
use Rattle.fi_values.specs.Stores.{complex_taken}
use Rattle.fi_values.proofs.Each.{each_map, each_map_from, is_stored}
use Rattle.fi_values.proofs.Holds.{Holds, holds, empty, holds_then, granted_then, granted_wrong}
use Rattle.fi_values.proofs.Integers.{zero_in, taken_in, constant_in}
use Rattle.fi_values.proofs.Limits.{Makes, makes, too_wide, too_far, within}
use Rattle.fi_meaning.specs.Calls.{Argument, truth_number, takes, argument_types, taken_value, attached, built_value, cast_like, after_rules, values_of, by_rules}
use Rattle.fi_meaning.proofs.ShapesOperators.{Passes, passes, misses, passes_then, passes_any, granted_met, IsKnown, turned_stored}

-- ---- what the rules give

-- a type that values are taken to is within the limits, and an object is sound
abbrev IsBuilt : Built → Type 0
IsBuilt (Taken t m) = IsWithin t
IsBuilt (Attached m) = Unit {0}
IsBuilt SignTaken = Unit {0}
IsBuilt (Object t) = IsKnown t

passes_limits : {P : NumericType → Type 0} {x : Made} → Makes P x → Passes P (limits_checked x)
unfolding limits_checked
passes_limits (makes t p) = passes t p
passes_limits (too_wide w) = misses _ _
passes_limits (too_far f) = misses _ _

built_passes : (a : Asked) → Passes IsBuilt (built a)
unfolding built known_value
built_passes (Takes t m) = passes_then (passes_limits (within t)) (λ u h. passes (Taken u m) h)
built_passes (Attaches m) = passes (Attached m) tt
built_passes TakesSign = passes SignTaken tt
built_passes (MakesType t) = passes_then (passes_limits (within t)) (λ u h. passes _ (holds _ h))
built_passes (MakesMath m) = passes _ (holds _ tt)

call_passes : (b : BuiltIn) (ts : List Ty) → Passes IsBuilt (call_checked b ts)
call_passes b ts = passes_then (passes_any (asked b ts)) (λ a _. built_passes a)

-- ---- values in a type

taken_stored : (t u : NumericType) (m : Option Fimath) (s : Shape) (xs : List ℤ) → 1 ≤ t.word → length xs ≡ count s → IsStored t s (map (λ x. taken t m x u.fraction) xs)
taken_stored t u m s xs h e =
    is_stored (length-map xs _ ∙ e)
    (each_map (IsInRange t) (λ x. taken t m x u.fraction) (λ x. taken_in t m x u.fraction h) xs)

constants_stored : {A : Type 0} (t : NumericType) (m : Option Fimath) (s : Shape) (f : A → Exact) (xs : List A) → 1 ≤ t.word → length xs ≡ count s → IsStored t s (map (λ x. taken_constant t m (f x)) xs)
constants_stored t m s f xs h e =
    is_stored (length-map xs _ ∙ e)
    (each_map (IsInRange t) (λ x. taken_constant t m (f x)) (λ x. constant_in t m (f x) h) xs)

abbrev BothStored : NumericType → Shape → List ℤ × List ℤ → Type 0
BothStored t s p = IsStored t s p.0 × IsStored t s p.1

complex_fi_taken : (t : NumericType) (m : Option Fimath) (u : NumericType) (n : Option Fimath) (s : Shape) (xs ys : List ℤ) → 1 ≤ t.word → length xs ≡ count s → length ys ≡ count s → Holds (BothStored t s) (complex_taken t m (ComplexFi u n s xs ys))
unfolding complex_taken
complex_fi_taken t m u n s xs ys h e f = holds _ (taken_stored t u m s xs h e, taken_stored t u m s ys h f)

complex_number_taken : (t : NumericType) (m : Option Fimath) (s : Shape) (xs ys : List Exact) → 1 ≤ t.word → length xs ≡ count s → length ys ≡ count s → Holds (BothStored t s) (complex_taken t m (ComplexNumber s xs ys))
unfolding complex_taken
complex_number_taken t m s xs ys h e f = holds _ (constants_stored t m s (λ c. c) xs h e, constants_stored t m s (λ c. c) ys h f)

taken_sound : (t : NumericType) (m : Option Fimath) (v : Val) → IsWithin t → IsSound v → Holds IsSound (taken_value t m v)
unfolding taken_value
taken_sound t m (Fi u n s xs) w h = holds _ (w, h.1, taken_stored t u m s xs w.one_bit h.2.filled)
taken_sound t m (Number s cs) w h = holds _ (w, h.0, constants_stored t m s (λ c. c) cs w.one_bit h.1)
taken_sound t m (Logical s bs) w h = holds _ (w, h.0, constants_stored t m s truth_number bs w.one_bit h.1)
taken_sound t m (ComplexFi u n s xs ys) w h =
    holds_then (complex_fi_taken t m u n s xs ys w.one_bit h.2.filled h.3.filled) (λ p k. holds (ComplexFi t m s p.0 p.1) (w, h.1, k.0, k.1))
taken_sound t m (ComplexNumber s xs ys) w h =
    holds_then (complex_number_taken t m s xs ys w.one_bit h.1 h.2) (λ p k. holds (ComplexFi t m s p.0 p.1) (w, h.0, k.0, k.1))
taken_sound t m (Words text) w h = empty
taken_sound t m (MathObject n) w h = empty
taken_sound t m (TypeObject u) w h = empty

attached_sound : (m : Option Fimath) (v : Val) → IsSound v → Holds IsSound (attached m v)
unfolding attached
attached_sound m (Fi t n s xs) h = holds _ h
attached_sound m (ComplexFi t n s xs ys) h = holds _ h
attached_sound m (Logical s bs) h = empty
attached_sound m (Number s cs) h = empty
attached_sound m (ComplexNumber s xs ys) h = empty
attached_sound m (Words text) h = empty
attached_sound m (MathObject n) h = empty
attached_sound m (TypeObject t) h = empty

absolute_sound : (at : Place) (v : Val) → IsSound v → Granted IsSound (turned at Remove v)
unfolding turned
absolute_sound at (Fi t m s xs) h = grants _ (h.0, h.1, turned_stored Remove t m s xs h.0.one_bit h.2)
absolute_sound at (ComplexFi t m s xs ys) h = at_wrong at
absolute_sound at (Logical s bs) h = at_wrong at
absolute_sound at (Number s cs) h = at_wrong at
absolute_sound at (ComplexNumber s xs ys) h = at_wrong at
absolute_sound at (Words text) h = at_wrong at
absolute_sound at (MathObject m) h = at_wrong at
absolute_sound at (TypeObject t) h = at_wrong at

built_sound : (at : Place) (r : Built) (vs : List Val) → IsBuilt r → AllByRecursion IsSound vs → Granted IsSound (built_value at r vs)
unfolding built_value
built_sound at (Object t) vs b h = granted_wrong at b
built_sound at (Taken t m) (v ∷ vs) b h = granted_wrong at (taken_sound t m v b h.0)
built_sound at (Attached m) (v ∷ vs) b h = granted_wrong at (attached_sound m v h.0)
built_sound at SignTaken (v ∷ vs) b h = absolute_sound at v h.0
built_sound at r [] b h = at_wrong at

-- ---- casts

cast_sound : (v w : Val) → IsSound v → Holds IsSound (cast_like v w)
unfolding cast_like
cast_sound (ComplexFi t m s xs ys) (ComplexFi u n r us vs) h = holds _ h
cast_sound (Fi t m s xs) (ComplexFi u n r us vs) h =
    holds _ (h.0, h.1, h.2, is_stored (length-map xs _ ∙ h.2.filled) (each_map (IsInRange t) (λ x. pos 0) (λ x. zero_in t) xs))
cast_sound (Fi t m s xs) (Fi u n r ys) h = holds _ h
cast_sound v w h = empty

after_sound : (b : BuiltIn) (vs : List Val) (r : Val) → IsSound r → Holds IsSound (after_rules b vs r)
unfolding after_rules
after_sound built_in.Cast (v ∷ a ∷ p ∷ []) r h = cast_sound r p h
after_sound b vs r h = holds r h

-- ---- calls

abbrev pub IsArgument : Argument → Type 0
IsArgument a = IsSound a.value

pub values_sound : (args : List Argument) → AllByRecursion IsArgument args → AllByRecursion IsSound (values_of args)
values_sound args h = each_map_from IsArgument IsSound (λ (a : Argument). a.value) (λ a k. k) args h

pub rules_sound : (at : Place) (b : BuiltIn) (args : List Argument) → AllByRecursion IsArgument args → Granted IsSound (by_rules at b args)
rules_sound at b args h =
    granted_then (granted_met at (call_passes b (argument_types (takes b) args))) (λ r p.
    granted_then (built_sound at r (values_of args) p (values_sound args h)) (λ v k. granted_wrong at (after_sound b (values_of args) v k)))
