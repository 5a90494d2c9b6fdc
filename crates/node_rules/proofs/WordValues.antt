-- The value of a call doesn't depend on which arguments are the words true and false: where it has a rule, a logical argument that stands for a number is
-- such a word.
use Rattle.std.proofs.Common.{◌≡◌, refl, ap, Bool, true, false, ℕ, List, [], ◌∷◌, map}
use Rattle.std.specs.Prelude.{ℤ, Some, None}
use Rattle.const_rules.specs.Stored.{is_exact_at, stored_at}
use Rattle.num_type.specs.Types.{NumericType}
use Rattle.fi_ops.specs.Elements.{Element}
use Rattle.fi_ops.specs.Bits.{left_shifted, right_shifted, sign_shifted, anded, ored, xored}
use Rattle.fi_rules.specs.Arguments.{whole_of}
use Rattle.fi_rules.specs.Options.{and_then, where_so}
use Rattle.fi_rules.specs.Value.{Shape, scalar, Val, Fi, Logical, Number}
use Rattle.fi_meaning.specs.Calls.{Argument, truth_number, constant_value, values_of, function_values}
use Rattle.fi_meaning.specs.Functions.{Function, Filled, Complex, Sum, BitAnd, BitOr, BitXor, BitShiftLeft, BitShiftRight, BitShiftSign, BitConcat, BitSlice, along, natural}
use Rattle.node_rules.specs.Bits.{paired_value, shifted_ruled, shifted_value, sliced_ruled, sliced_value}
use Rattle.node_rules.specs.Built.{along_or, along_in, function_met, function_ruled, function_value}
use Rattle.node_rules.specs.Calls.{number_values}
use Rattle.node_rules.specs.Concatenated.{type_in, all_put_below, concatenated_value}
use Rattle.node_rules.specs.Parted.{complex_value}
use Rattle.node_rules.specs.Parts.{parts_in}
use Rattle.node_rules.specs.Ruled as rules
use Rattle.node_rules.specs.Ruled.{Ruled, Fine, needed, fine}
use Rattle.node_rules.specs.Sums.{sum_value}
use Rattle.node_rules.specs.Types.{NodeTy, FiNode, LogicalNode, ty_of, known}
use Rattle.node_rules.proofs.Outcomes.{fine_none, fine_stops}

-- a value, and the number that it stands for where it is a word
data Worded : Val → Val → Type 0 where
  same : (v : Val) → Worded v v
  truth : (s : Shape) (b : Bool) → Worded (Logical s (b ∷ [])) (Number scalar (truth_number b ∷ []))

data AllWorded : List Val → List Val → Type 0 where
  none : AllWorded [] []
  each : {v w : Val} {vs ws : List Val} → Worded v w → AllWorded vs ws → AllWorded (v ∷ vs) (w ∷ ws)

worded : (v : Val) (w : Bool) → Worded (constant_value v w) (constant_value v true)
unfolding constant_value
worded v true = same _
worded (Logical s (b ∷ [])) false = truth s b
worded (Logical s []) false = same _
worded (Logical s (b ∷ c ∷ bs)) false = same _
worded v false = same _

all_worded : (args : List Argument) → AllWorded (map (λ (a : Argument). constant_value a.value a.is_word) args) (map (λ v. constant_value v true) (values_of args))
all_worded [] = none
all_worded (a ∷ more) = each (worded a.value a.is_word) (all_worded more)

-- ---- functions that take no number there

complex_same : (t : NodeTy) (v : Val) {k l : Val} → Worded k l → complex_value t v k ≡ complex_value t v l
unfolding complex_value parts_in
complex_same t v (same k) = refl
complex_same (FiNode t m c s) v (truth r b) = refl
complex_same t v (truth r b) = refl

paired_same : (f : Element → Element → ℤ) (t : NodeTy) (v : Val) {k l : Val} → Worded k l → paired_value f t v k ≡ paired_value f t v l
unfolding paired_value parts_in
paired_same f t v (same k) = refl
paired_same f (FiNode t m c s) v (truth r b) = refl
paired_same f t v (truth r b) = refl

put_same : {vs ws : List Val} → AllWorded vs ws → (t : NumericType) (xs : List ℤ) → all_put_below t xs vs ≡ all_put_below t xs ws
unfolding type_in parts_in
put_same none t xs = refl
put_same (each (same v) ps) t xs = put_same ps _ _
put_same (each (truth s b) ps) t xs = put_same ps _ _

concatenated_same : (t : NodeTy) (v : Val) {vs ws : List Val} → AllWorded vs ws → concatenated_value t v vs ≡ concatenated_value t v ws
unfolding concatenated_value
concatenated_same (FiNode t m c s) v ps = ap (λ zs. Fi t m s zs) (put_same ps _ _)
concatenated_same t v ps = refl

-- ---- functions that take one

along_same : {k l : Val} → Worded k l → along_in k ≡ along_in l
unfolding natural along along_or whole_of is_exact_at stored_at where_so and_then
along_same (same k) = refl
along_same (truth s true) = refl
along_same (truth s false) = refl

-- a rule that isn't met gives no type
refuted : {A B : Type 0} (c : Ruled A) (f : A → Ruled B) (g : B → Ruled NodeTy) (t : NodeTy) → fine c ≡ None → rules.bind (rules.bind c f) g ≡ Fine t → ⊥
unfolding fine
refuted c f g t n e =
    let h : fine (rules.bind (rules.bind c f) g) ≡ None = fine_stops _ _ (fine_stops _ _ n) in
    let k : fine (rules.bind (rules.bind c f) g) ≡ Some t = ap fine e in
    cc

no_shift : (u : NodeTy) (s : Shape) → fine (shifted_ruled u (LogicalNode s)) ≡ None
unfolding shifted_ruled natural known needed rules.bind fine
no_shift (FiNode t m c r) s = refl
no_shift u s = refl

shifted_same : (f : ℕ → Element → ℤ) {B : Type 0} (h : NodeTy → Ruled B) (g : B → Ruled NodeTy) (t : NodeTy) (v : Val) {k l : Val} → Worded k l
    → rules.bind (rules.bind (shifted_ruled (ty_of v) (ty_of k)) h) g ≡ Fine t → shifted_value f t v k ≡ shifted_value f t v l
unfolding ty_of
shifted_same f h g t v (same k) e = refl
shifted_same f h g t v (truth s b) e = absurd (refuted (shifted_ruled (ty_of v) (LogicalNode s)) h g t (no_shift (ty_of v) s) e)

no_slice_from : (u r : NodeTy) (s : Shape) → fine (sliced_ruled u (LogicalNode s) r) ≡ None
unfolding sliced_ruled natural known needed rules.bind fine
no_slice_from (FiNode t m c q) r s = refl
no_slice_from u r s = refl

no_slice_to : (u l : NodeTy) (s : Shape) → fine (sliced_ruled u l (LogicalNode s)) ≡ None
unfolding sliced_ruled natural known needed fine
no_slice_to (FiNode t m c q) l s = fine_none _ _ (λ n. fine_stops _ _ refl)
no_slice_to u l s = refl

sliced_same : {B : Type 0} {k l m n : Val} (h : NodeTy → Ruled B) (g : B → Ruled NodeTy) (t : NodeTy) (v : Val) → Worded k l → Worded m n
    → rules.bind (rules.bind (sliced_ruled (ty_of v) (ty_of k) (ty_of m)) h) g ≡ Fine t → sliced_value t v k m ≡ sliced_value t v l n
unfolding ty_of
sliced_same h g t v (same k) (same m) e = refl
sliced_same h g t v (same k) (truth s b) e = absurd (refuted (sliced_ruled (ty_of v) (ty_of k) (LogicalNode s)) h g t (no_slice_to (ty_of v) (ty_of k) s) e)
sliced_same {m = m} h g t v (truth s b) p e = absurd (refuted (sliced_ruled (ty_of v) (LogicalNode s) (ty_of m)) h g t (no_slice_from (ty_of v) (ty_of m) s) e)

-- ---- each of them

function_same : (f : Function) (t : NodeTy) (v : Val) {vs ws : List Val} → AllWorded vs ws → function_ruled f (ty_of v ∷ map ty_of vs) ≡ Fine t → function_value f t (v ∷ vs) ≡ function_value f t (v ∷ ws)
unfolding function_met function_value
function_same f t v none e = refl
function_same Complex t v (each p none) e = complex_same t v p
function_same Complex t v (each p (each q ps)) e = refl
function_same Sum t v (each p none) e = ap (λ l. sum_value l t v) (along_same p)
function_same Sum t v (each p (each q ps)) e = refl
function_same BitAnd t v (each p none) e = paired_same anded t v p
function_same BitAnd t v (each p (each q ps)) e = refl
function_same BitOr t v (each p none) e = paired_same ored t v p
function_same BitOr t v (each p (each q ps)) e = refl
function_same BitXor t v (each p none) e = paired_same xored t v p
function_same BitXor t v (each p (each q ps)) e = refl
function_same BitShiftLeft t v (each p none) e = shifted_same left_shifted _ _ t v p e
function_same BitShiftLeft t v (each p (each q ps)) e = refl
function_same BitShiftRight t v (each p none) e = shifted_same right_shifted _ _ t v p e
function_same BitShiftRight t v (each p (each q ps)) e = refl
function_same BitShiftSign t v (each p none) e = shifted_same sign_shifted _ _ t v p e
function_same BitShiftSign t v (each p (each q ps)) e = refl
function_same BitConcat t v ps e = concatenated_same t v ps
function_same BitSlice t v (each p none) e = refl
function_same BitSlice t v (each p (each q none)) e = sliced_same _ _ t v p q e
function_same BitSlice t v (each p (each q (each r ps))) e = refl
function_same f t v (each p ps) e = refl

pub values_same : (f : Function) (args : List Argument) (t : NodeTy) → function_ruled f (map ty_of (function_values f args)) ≡ Fine t → function_value f t (function_values f args) ≡ function_value f t (number_values (values_of args))
unfolding function_values number_values function_value
values_same (Filled z) args t e = refl
values_same f [] t e = refl
values_same f (a ∷ more) t e = function_same f t a.value (all_worded more) e
