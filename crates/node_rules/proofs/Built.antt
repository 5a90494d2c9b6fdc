-- Calls of built-in functions go by their rules.
use Rattle.std.proofs.Common.{◌≡◌, ℕ, refl, sym, ap, subst, ◌∙◌, true, false, List, [], ◌∷◌, map}
use Rattle.std.specs.Prelude.{Option, Some}
use Rattle.fi_ops.specs.Bits.{left_shifted, right_shifted, sign_shifted, anded, ored, xored}
use Rattle.fi_rules.specs.Options.{◌|>◌, and_then}
use Rattle.fi_rules.specs.Value.{Val, Fi, ComplexFi}
use Rattle.fi_values.specs.Sums.{Along, first_along, summed_value}
use Rattle.fi_meaning.specs.Functions as functions
use Rattle.fi_meaning.specs.Functions.{Function, Filled, Numel, Length, Size, Truth, Real, Imag, Conj, Complex, Sum, BitAnd, BitOr, BitXor, BitCmp, BitShiftLeft, BitShiftRight, BitShiftSign, BitConcat, BitSlice, along, shape_of_fi, natural}
use Rattle.node_rules.specs.Built.{has_rule, Calling, Pairs, Adds, Concatenates, settled, first_sum_met, sum_along_met, shape_or, along_or, first_of, along_in, function_met, function_worked, function_ruled, function_value}
use Rattle.node_rules.specs.Bits.{natural_ruled}
use Rattle.node_rules.specs.Ruled.{Ruled, Fine, Missing, bind, ◌>>=◌, needed}
use Rattle.node_rules.specs.Sums.{sum_met, sum_worked, sum_ruled, sum_value}
use Rattle.node_rules.specs.Concatenated.{concatenated_met, concatenated_worked}
use Rattle.node_rules.specs.TypedPairs.{typed_pair_met, typed_pair_worked}
use Rattle.node_rules.specs.Types.{NodeTy, ty_of}
use Rattle.node_rules.proofs.Binds.{fine_needed, then_then}
use Rattle.node_rules.proofs.Bits.{fine_natural, paired_law, complemented_law, shifted_law, sliced_law}
use Rattle.node_rules.proofs.Concatenated.{concatenated_law}
use Rattle.node_rules.proofs.Goes.{Goes, goes, stops, by, goes_on}
use Rattle.node_rules.proofs.Parted.{real_law, imaginary_law, conjugate_law, complex_law}
use Rattle.node_rules.proofs.Queries.{numel_law, length_law, size_law}
use Rattle.node_rules.proofs.Signs.{sum_law}

-- what is kept to be worked out
worked_of : {A : Type 0} {o : Option Val} (val : NodeTy → Val) (keep : A → Calling) (work : A → Ruled NodeTy) (c : Ruled A) → ((x : A) → function_worked (keep x) ≡ work x) → Goes val o (c >>= work) → Goes val o ((c >>= (λ x. Fine (keep x))) >>= function_worked)
unfolding bind
worked_of {o = o} val keep work (Fine x) e h = subst (λ r. Goes val o r) (sym (e x)) h
worked_of val keep work (Missing k why) e h = h

settled_law : {o : Option Val} (val : NodeTy → Val) (r : Ruled NodeTy) → Goes val o r → Goes val o (settled r >>= function_worked)
unfolding function_worked bind
settled_law val (Fine t) h = h
settled_law val (Missing k why) h = h

first_sum_law : (v : Val) → Goes (λ t. sum_value (first_of v) t v) (shape_of_fi v |> (λ s. summed_value (first_along s) v)) (first_sum_met (ty_of v) >>= function_worked)
unfolding shape_or sum_met function_worked bind and_then ty_of
first_sum_law (Fi t m s xs) = sum_law (first_along s) (Fi t m s xs)
first_sum_law (ComplexFi t m s xs ys) = sum_law (first_along s) (ComplexFi t m s xs ys)
first_sum_law v = stops _ _

along_is : (d : Val) (n : ℕ) (a : Along) → natural d ≡ Some n → along n ≡ Some a → along_in d ≡ a
unfolding along_or and_then
along_is d n a g h = ap (λ o. along_or (o |> along)) g ∙ ap along_or h

sum_along_law : (v d : Val) → Goes (λ t. sum_value (along_in d) t v) (natural d |> along |> (λ a. summed_value a v)) (sum_along_met (ty_of v) (ty_of d) >>= function_worked)
unfolding function_worked
sum_along_law v d =
    by _ (then_then (natural d) along (λ a. summed_value a v))
    (goes_on _ _ _ (natural_ruled (ty_of d)) (natural d) (fine_natural d) (λ n g. goes_on _ _ _ (needed _ _ (along n)) (along n) (fine_needed _ _ _) (λ a h.
    worked_of _ (λ s. Adds a s) (sum_worked a) (sum_met (ty_of v)) (λ s. refl) (subst (λ x. Goes (λ t. sum_value x t v) (summed_value a v) (sum_ruled a (ty_of v))) (sym (along_is d n a g h)) (sum_law a v)))))

pub function_law : (f : Function) (vs : List Val) → has_rule f ≡ true → Goes (λ t. function_value f t vs) (functions.given f vs) (function_ruled f (map ty_of vs))
unfolding has_rule function_met function_worked function_value functions.given bind ty_of
function_law (Filled c) vs h = absurd (cc)
function_law Numel [] h = stops _ _
function_law Numel (v ∷ []) h = settled_law _ _ (numel_law v)
function_law Numel (v ∷ w ∷ more) h = stops _ _
function_law Length [] h = stops _ _
function_law Length (v ∷ []) h = settled_law _ _ (length_law v)
function_law Length (v ∷ w ∷ more) h = stops _ _
function_law Size [] h = stops _ _
function_law Size (v ∷ []) h = stops _ _
function_law Size (v ∷ d ∷ []) h = settled_law _ _ (size_law v d)
function_law Size (v ∷ d ∷ w ∷ more) h = stops _ _
function_law (Truth b) [] h = goes _ refl
function_law (Truth b) (v ∷ more) h = stops _ _
function_law Real [] h = stops _ _
function_law Real (v ∷ []) h = settled_law _ _ (real_law v)
function_law Real (v ∷ w ∷ more) h = stops _ _
function_law Imag [] h = stops _ _
function_law Imag (v ∷ []) h = settled_law _ _ (imaginary_law v)
function_law Imag (v ∷ w ∷ more) h = stops _ _
function_law Conj [] h = stops _ _
function_law Conj (v ∷ []) h = settled_law _ _ (conjugate_law v)
function_law Conj (v ∷ w ∷ more) h = stops _ _
function_law Complex [] h = stops _ _
function_law Complex (v ∷ []) h = stops _ _
function_law Complex (v ∷ w ∷ []) h = worked_of _ (λ p. Pairs true p) (typed_pair_worked true) (typed_pair_met (ty_of v) (ty_of w)) (λ p. refl) (complex_law v w)
function_law Complex (v ∷ w ∷ x ∷ more) h = stops _ _
function_law Sum [] h = stops _ _
function_law Sum (v ∷ []) h = first_sum_law v
function_law Sum (v ∷ d ∷ []) h = sum_along_law v d
function_law Sum (v ∷ d ∷ w ∷ more) h = stops _ _
function_law BitAnd [] h = stops _ _
function_law BitAnd (v ∷ []) h = stops _ _
function_law BitAnd (v ∷ w ∷ []) h = worked_of _ (λ p. Pairs false p) (typed_pair_worked false) (typed_pair_met (ty_of v) (ty_of w)) (λ p. refl) (paired_law anded v w)
function_law BitAnd (v ∷ w ∷ x ∷ more) h = stops _ _
function_law BitOr [] h = stops _ _
function_law BitOr (v ∷ []) h = stops _ _
function_law BitOr (v ∷ w ∷ []) h = worked_of _ (λ p. Pairs false p) (typed_pair_worked false) (typed_pair_met (ty_of v) (ty_of w)) (λ p. refl) (paired_law ored v w)
function_law BitOr (v ∷ w ∷ x ∷ more) h = stops _ _
function_law BitXor [] h = stops _ _
function_law BitXor (v ∷ []) h = stops _ _
function_law BitXor (v ∷ w ∷ []) h = worked_of _ (λ p. Pairs false p) (typed_pair_worked false) (typed_pair_met (ty_of v) (ty_of w)) (λ p. refl) (paired_law xored v w)
function_law BitXor (v ∷ w ∷ x ∷ more) h = stops _ _
function_law BitCmp [] h = stops _ _
function_law BitCmp (v ∷ []) h = settled_law _ _ (complemented_law v)
function_law BitCmp (v ∷ w ∷ more) h = stops _ _
function_law BitShiftLeft [] h = stops _ _
function_law BitShiftLeft (v ∷ []) h = stops _ _
function_law BitShiftLeft (v ∷ k ∷ []) h = settled_law _ _ (shifted_law left_shifted v k)
function_law BitShiftLeft (v ∷ k ∷ x ∷ more) h = stops _ _
function_law BitShiftRight [] h = stops _ _
function_law BitShiftRight (v ∷ []) h = stops _ _
function_law BitShiftRight (v ∷ k ∷ []) h = settled_law _ _ (shifted_law right_shifted v k)
function_law BitShiftRight (v ∷ k ∷ x ∷ more) h = stops _ _
function_law BitShiftSign [] h = stops _ _
function_law BitShiftSign (v ∷ []) h = stops _ _
function_law BitShiftSign (v ∷ k ∷ []) h = settled_law _ _ (shifted_law sign_shifted v k)
function_law BitShiftSign (v ∷ k ∷ x ∷ more) h = stops _ _
function_law BitConcat [] h = stops _ _
function_law BitConcat (v ∷ []) h = stops _ _
function_law BitConcat (v ∷ w ∷ ws) h = worked_of _ (λ s. Concatenates (ty_of v) (map ty_of (w ∷ ws)) s) (concatenated_worked (ty_of v) (map ty_of (w ∷ ws))) (concatenated_met (ty_of v) (map ty_of (w ∷ ws))) (λ s. refl) (concatenated_law v w ws)
function_law BitSlice [] h = stops _ _
function_law BitSlice (v ∷ []) h = stops _ _
function_law BitSlice (v ∷ l ∷ []) h = stops _ _
function_law BitSlice (v ∷ l ∷ r ∷ []) h = settled_law _ _ (sliced_law v l r)
function_law BitSlice (v ∷ l ∷ r ∷ x ∷ more) h = stops _ _
