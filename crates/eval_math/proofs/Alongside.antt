-- Numbers beside fis.
use Rattle.std.proofs.Common.{◌≡◌, ◌↔◌, ◌∙◌, refl, sym, ap, ℕ, ℤ, ◌≤◌, true, List, ◌++◌, length, map, take, drop, arith}
use Rattle.std.specs.Prelude.{Option, Some, None, IsSome, IfSome, option_map}
use Rattle.std.proofs.lemmas.List.{length-map, map-append}
use Rattle.std.specs.Global.{Vec}
use Rattle.num_type.specs.Constants.{Exact}
use Rattle.num_type.specs.Types.{NumericType, IsWithin}
use Rattle.num_type.specs.View.{exact_of, type_of}
use Rattle.num_type.specs.declared.dyadic.Dyadic.{Dyadic}
use Rattle.num_type.specs.declared.num_type.NumType.{NumType}
use Rattle.num_type.proofs.Constants.{not_true}
use Rattle.const_rules.specs.Stored.{stored_in}
use Rattle.fi_math.specs.Made.{limited}
use Rattle.fi_math.proofs.Limits.{type_is, out_is}
use Rattle.fi_rules.specs.Options.{and_then, all_of}
use Rattle.fi_rules.specs.Pairs.{beside_type}
use Rattle.fi_rules.specs.Value.{Shape, Number, ComplexNumber}
use Rattle.fi_values.specs.Arithmetic.{Operand, beside_operand}
use Rattle.fi_values.specs.Numbers.{stored_beside}
use Rattle.fi_values.specs.Sums.{made}
use Rattle.eval_value.specs.View.{number_view, shape_view}
use Rattle.eval_value.specs.declared.number_value.NumberValue.{NumberValue}
use Rattle.eval_math.proofs.Bound.{bound_none, bound_some, twice_mapped}
use Rattle.eval_math.proofs.Dispatch.{number_of}

-- the type that is made of parts
pub made_type : (r : Option NumType) (x : NumericType) → 1 ≤ x.word → x.word ≤ 64 → (IsSome r ↔ IsWithin x) → IfSome r (λ t. type_of t ≡ x) → option_map type_of r ≡ made (limited 64 x)
unfolding made
made_type (Some t) x l m h e = ap Some e ∙ ap made (type_is 64 x m (h.0 refl))
made_type None x l m h e = ap made (out_is 64 x l m (omega arith) (λ w. not_true (h.1 w)))

-- the stored integers, at the type that is theirs
pub stored_is : (z : Option (List ℤ)) (t u : NumericType) (ds : List Dyadic) → z ≡ all_of (map (λ d. stored_in u (exact_of d)) ds) → u ≡ beside_type t (map exact_of ds) → z ≡ stored_beside t (map exact_of ds)
stored_is z t u ds e h =
    e
    ∙ ap (λ (w : NumericType). all_of (map (λ d. stored_in w (exact_of d)) ds)) h
    ∙ ap all_of (sym (twice_mapped (stored_in (beside_type t (map exact_of ds))) exact_of ds))

no_second : {A B C : Type 0} (o : Option A) (p : Option B) (next : A → B → Option C) → None ≡ p → None ≡ and_then o (λ x. and_then p (next x))
unfolding and_then
no_second None p next e = refl
no_second (Some x) p next e = bound_none p (next x) e

-- ---- real numbers

pub real_without_type : (t : NumericType) (s : Shape) (cs : List Exact) → None ≡ made (limited 64 (beside_type t cs)) → None ≡ beside_operand t (Number s cs)
unfolding beside_operand
real_without_type t s cs e =
    no_second (stored_beside t cs) (made (limited 64 (beside_type t cs))) (λ zs u. Some (record { num = u; math = None; shape = s; parts = record { re = zs; im = None } })) e

pub real_without_stored : (t : NumericType) (s : Shape) (cs : List Exact) → None ≡ stored_beside t cs → None ≡ beside_operand t (Number s cs)
unfolding beside_operand
real_without_stored t s cs e =
    bound_none (stored_beside t cs) (λ zs. and_then (made (limited 64 (beside_type t cs))) (λ u. Some (record { num = u; math = None; shape = s; parts = record { re = zs; im = None } }))) e

pub real_with : (t u : NumericType) (s : Shape) (cs : List Exact) (zs : List ℤ) → Some u ≡ made (limited 64 (beside_type t cs)) → Some zs ≡ stored_beside t cs → Some (record { num = u; math = None; shape = s; parts = record { re = zs; im = None } }) ≡ beside_operand t (Number s cs)
unfolding beside_operand
real_with t u s cs zs h e =
    bound_some (stored_beside t cs) (λ zs. and_then (made (limited 64 (beside_type t cs))) (λ u. Some (record { num = u; math = None; shape = s; parts = record { re = zs; im = None } }))) zs _ e
    (bound_some (made (limited 64 (beside_type t cs))) (λ u. Some (record { num = u; math = None; shape = s; parts = record { re = zs; im = None } })) u _ h refl)

-- ---- complex numbers

complex_next : Shape → ℕ → List ℤ → NumericType → Option Operand
complex_next s n zs u = Some (record { num = u; math = None; shape = s; parts = record { re = take n zs; im = Some (drop n zs) } })

pub complex_without_type : (t : NumericType) (s : Shape) (xs ys : List Exact) → None ≡ made (limited 64 (beside_type t (xs ++ ys))) → None ≡ beside_operand t (ComplexNumber s xs ys)
unfolding beside_operand complex_next
complex_without_type t s xs ys e = no_second (stored_beside t (xs ++ ys)) (made (limited 64 (beside_type t (xs ++ ys)))) (complex_next s (length xs)) e

pub complex_without_stored : (t : NumericType) (s : Shape) (xs ys : List Exact) → None ≡ stored_beside t (xs ++ ys) → None ≡ beside_operand t (ComplexNumber s xs ys)
unfolding beside_operand complex_next
complex_without_stored t s xs ys e = bound_none (stored_beside t (xs ++ ys)) (λ zs. and_then (made (limited 64 (beside_type t (xs ++ ys)))) (complex_next s (length xs) zs)) e

pub complex_with : (t u : NumericType) (s : Shape) (xs ys : List Exact) (zs : List ℤ) (n : ℕ) (a : Operand) → Some u ≡ made (limited 64 (beside_type t (xs ++ ys))) → Some zs ≡ stored_beside t (xs ++ ys) → length xs ≡ n → a ≡ record { num = u; math = None; shape = s; parts = record { re = take n zs; im = Some (drop n zs) } } → Some a ≡ beside_operand t (ComplexNumber s xs ys)
unfolding beside_operand complex_next
complex_with t u s xs ys zs n a h e l f =
    ap Some f
    ∙ ap (λ (k : ℕ). complex_next s k zs u) (sym l)
    ∙ bound_some (stored_beside t (xs ++ ys)) (λ zs. and_then (made (limited 64 (beside_type t (xs ++ ys)))) (complex_next s (length xs) zs)) zs _ e
    (bound_some (made (limited 64 (beside_type t (xs ++ ys)))) (complex_next s (length xs) zs) u _ h refl)

pub all_mapped : (all re im : List Dyadic) → all ≡ re ++ im → map exact_of all ≡ map exact_of re ++ map exact_of im
all_mapped all re im e = ap (map exact_of) e ∙ map-append exact_of re im

-- ---- by whether it is complex

pub real_view : (t : NumericType) (n : NumberValue) (xs : List Dyadic) (r : Option Operand) → n.im ≡ None → xs ≡ n.re.items → r ≡ beside_operand t (Number (shape_view n.shape) (map exact_of xs)) → r ≡ beside_operand t (number_view n)
real_view t n xs r e f h =
    h
    ∙ (λ i. beside_operand t (Number (shape_view n.shape) (map exact_of (f i))))
    ∙ ap (λ (o : Option (Vec Dyadic)). beside_operand t (number_of (shape_view n.shape) n.re.items o)) (sym e)

pub complex_view : (t : NumericType) (n : NumberValue) (v : Vec Dyadic) (xs ys : List Dyadic) (r : Option Operand) → n.im ≡ Some v → xs ≡ n.re.items → ys ≡ v.items → r ≡ beside_operand t (ComplexNumber (shape_view n.shape) (map exact_of xs) (map exact_of ys)) → r ≡ beside_operand t (number_view n)
complex_view t n v xs ys r e f g h =
    h
    ∙ (λ i. beside_operand t (ComplexNumber (shape_view n.shape) (map exact_of (f i)) (map exact_of (g i))))
    ∙ ap (λ (o : Option (Vec Dyadic)). beside_operand t (number_of (shape_view n.shape) n.re.items o)) (sym e)
