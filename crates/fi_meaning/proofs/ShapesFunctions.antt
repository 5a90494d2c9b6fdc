-- Calls of the other built-in functions on sound values give sound ones.
use Rattle.std.proofs.Common.{refl, ℕ, Bool, true, List, [], ◌∷◌}
use Rattle.std.specs.Prelude.{◌≤◌, nat_lt, bytes_eq, codes, map, Option, Some, None}
use Rattle.std.specs.List.{AllByRecursion}
use Rattle.std.proofs.lemmas.Bool.{ltb-true}
use Rattle.fic_base.specs.declared.place.Place.{Place}
use Rattle.num_type.specs.Constants.{Exact}
use Rattle.fi_ops.specs.Bits.{left_shifted, right_shifted, sign_shifted, anded, ored, xored}
use Rattle.fi_rules.specs.declared.built_ins.BuiltIn.{BuiltIn}
use Rattle.fi_rules.specs.declared.built_ins.BuiltIn.TheVariants as built_in
use Rattle.fi_rules.specs.Calls.{built_in_named}
use Rattle.fi_rules.specs.Options.{◌|>◌}
use Rattle.fi_rules.specs.Value.{Val, Logical, Words}
use Rattle.fi_values.specs.Sound.{IsSound, Granted, at_wrong}
use Rattle.fi_values.specs.Sums.{first_along}
use Rattle.fi_values.proofs.Bits.{turned_bits_sound, shifted_sound, two_typed_sound, bits_joined_sound, bits_between_sound}
use Rattle.fi_values.proofs.Each.{each_map_from}
use Rattle.fi_values.proofs.Holds.{Holds, holds, empty, holds_any, holds_then, holds_where, granted_then, granted_wrong}
use Rattle.fi_values.proofs.Integers.{left_in, right_in, sign_in, anded_in, ored_in, xored_in}
use Rattle.fi_values.proofs.Logicals.{truth_sound}
use Rattle.fi_values.proofs.Queries.{element_count_sound, greater_extent_sound, extent_sound, real_part_sound, imaginary_part_sound, complex_sound, filled_sound}
use Rattle.fi_values.proofs.Sizes.{scalar_sized}
use Rattle.fi_values.proofs.Sums.{sum_sound}
use Rattle.fi_values.proofs.Transposes.{conjugate_sound}
use Rattle.fi_meaning.specs.Calls.{Argument, constant_value, function_values, like_at_end, cast_of, filled_call, function_call, by_name, called_name}
use Rattle.fi_meaning.specs.Functions.{Function, Filled, Numel, Length, Size, Truth, Real, Imag, Conj, Complex, Sum, BitAnd, BitOr, BitXor, BitCmp, BitShiftLeft, BitShiftRight, BitShiftSign, BitConcat, BitSlice, function_of, natural, extent, filled_by, along, shape_of_fi, conjugate_of, given}
use Rattle.fi_meaning.proofs.ShapesCalls.{IsArgument, rules_sound}

-- ---- what functions give

extent_some : (v : Val) → Holds (λ n. 1 ≤ n) (extent v)
extent_some v = holds_then (holds_any (natural v)) (λ n _. holds_where (λ n. 1 ≤ n) (nat_lt 0 n) n (λ e. ltb-true 0 n e))

filled_by_sound : (c : Exact) (vs : List Val) → Holds IsSound (filled_by c vs)
unfolding filled_by
filled_by_sound c [] = empty
filled_by_sound c (n ∷ []) = holds_then (extent_some n) (λ k h. filled_sound c (record { rows = k; columns = k }) h h)
filled_by_sound c (m ∷ n ∷ []) = holds_then (extent_some m) (λ r h. holds_then (extent_some n) (λ k g. filled_sound c (record { rows = r; columns = k }) h g))
filled_by_sound c (m ∷ n ∷ v ∷ vs) = empty

conjugate_of_sound : (v : Val) → IsSound v → Holds IsSound (conjugate_of v)
unfolding conjugate_of
conjugate_of_sound v h = holds_then (holds_any (shape_of_fi v)) (λ s _. holds _ (conjugate_sound v h))

given_sound : (f : Function) (vs : List Val) → AllByRecursion IsSound vs → Holds IsSound (given f vs)
unfolding given
given_sound (Filled c) vs h = filled_by_sound c vs
given_sound Numel (v ∷ []) h = element_count_sound v
given_sound Length (v ∷ []) h = greater_extent_sound v
given_sound Size (v ∷ d ∷ []) h = holds_then (holds_any (natural d)) (λ d _. extent_sound d v)
given_sound (Truth b) [] h = holds _ (truth_sound b)
given_sound Real (v ∷ []) h = real_part_sound v h.0
given_sound Imag (v ∷ []) h = imaginary_part_sound v h.0
given_sound Conj (v ∷ []) h = conjugate_of_sound v h.0
given_sound Complex (v ∷ w ∷ []) h = complex_sound v w h.0 h.1.0
given_sound Sum (v ∷ []) h = holds_then (holds_any (shape_of_fi v)) (λ s _. sum_sound (first_along s) v h.0)
given_sound Sum (v ∷ d ∷ []) h = holds_then (holds_any (natural d |> along)) (λ a _. sum_sound a v h.0)
given_sound BitAnd (v ∷ w ∷ []) h = two_typed_sound anded anded_in v w h.0 h.1.0
given_sound BitOr (v ∷ w ∷ []) h = two_typed_sound ored ored_in v w h.0 h.1.0
given_sound BitXor (v ∷ w ∷ []) h = two_typed_sound xored xored_in v w h.0 h.1.0
given_sound BitCmp (v ∷ []) h = turned_bits_sound v h.0
given_sound BitShiftLeft (v ∷ k ∷ []) h = holds_then (holds_any (natural k)) (λ k _. shifted_sound left_shifted (λ k a one r. left_in k a one) k v h.0)
given_sound BitShiftRight (v ∷ k ∷ []) h = holds_then (holds_any (natural k)) (λ k _. shifted_sound right_shifted (λ k a one r. right_in k a one) k v h.0)
given_sound BitShiftSign (v ∷ k ∷ []) h = holds_then (holds_any (natural k)) (λ k _. shifted_sound sign_shifted (λ k a one r. sign_in k a r) k v h.0)
given_sound BitConcat vs h = bits_joined_sound vs h
given_sound BitSlice (v ∷ l ∷ r ∷ []) h = holds_then (holds_any (natural l)) (λ l _. holds_then (holds_any (natural r)) (λ r _. bits_between_sound l r v h.0))
given_sound f vs h = empty

-- ---- arguments

constant_sound : (v : Val) (w : Bool) → IsSound v → IsSound (constant_value v w)
unfolding constant_value
constant_sound (Logical s (b ∷ [])) true h = (scalar_sized, refl)
constant_sound v w h = h

constants_sound : (args : List Argument) → AllByRecursion IsArgument args → AllByRecursion IsSound (map (λ (a : Argument). constant_value a.value a.is_word) args)
constants_sound args h = each_map_from IsArgument IsSound (λ (a : Argument). constant_value a.value a.is_word) (λ a k. constant_sound a.value a.is_word k) args h

function_values_sound : (f : Function) (args : List Argument) → AllByRecursion IsArgument args → AllByRecursion IsSound (function_values f args)
unfolding function_values
function_values_sound (Filled z) args h = constants_sound args h
function_values_sound f [] h = tt
function_values_sound f (a ∷ more) h = (h.0, constants_sound more h.1)

-- ---- arrays like a fi

abbrev IsLike : List Val × Val → Type 0
IsLike p = AllByRecursion IsSound p.0 × IsSound p.1

like_sound : (vs : List Val) → AllByRecursion IsSound vs → Holds IsLike (like_at_end vs)
unfolding like_at_end
like_sound (n ∷ Words word ∷ p ∷ []) h = holds_where IsLike (bytes_eq word (codes "like")) (n ∷ [], p) (λ e. ((h.0, tt), h.1.1.0))
like_sound (m ∷ n ∷ Words word ∷ p ∷ []) h = holds_where IsLike (bytes_eq word (codes "like")) (m ∷ n ∷ [], p) (λ e. ((h.0, (h.1.0, tt)), h.1.1.1.0))
like_sound vs h = empty

cast_of_sound : (at : Place) (v p : Val) → IsSound v → IsSound p → Granted IsSound (cast_of at v p)
cast_of_sound at v p h k = rules_sound at built_in.Cast _ (h, (tt, (k, tt)))

filled_call_sound : (at : Place) (f : Function) (vs : List Val) {o : Option (List Val × Val)} → AllByRecursion IsSound vs → Holds IsLike o → Granted IsSound (filled_call at f vs o)
unfolding filled_call
filled_call_sound at f vs h empty = granted_wrong at (given_sound f vs h)
filled_call_sound at f vs h (holds like k) = granted_then (granted_wrong at (given_sound f like.0 k.0)) (λ v g. cast_of_sound at v like.1 g k.1)

function_call_sound : (at : Place) (f : Function) (vs : List Val) → AllByRecursion IsSound vs → Granted IsSound (function_call at f vs)
unfolding function_call
function_call_sound at (Filled z) vs h = filled_call_sound at (Filled z) vs h (like_sound vs h)
function_call_sound at f vs h = granted_wrong at (given_sound f vs h)

-- ---- calls of names

by_name_sound : (at : Place) (b : Option BuiltIn) (f : Option Function) (args : List Argument) → AllByRecursion IsArgument args → Granted IsSound (by_name at b f args)
unfolding by_name
by_name_sound at (Some b) f args h = rules_sound at b args h
by_name_sound at None (Some f) args h = function_call_sound at f (function_values f args) (function_values_sound f args h)
by_name_sound at None None args h = at_wrong at

pub called_name_sound : (at : Place) (name : List ℕ) (args : List Argument) → AllByRecursion IsArgument args → Granted IsSound (called_name at name args)
called_name_sound at name args h = by_name_sound at (built_in_named name) (function_of name) args h
