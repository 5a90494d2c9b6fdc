-- Operations on two real fis or two logical values.
use Rattle.std.proofs.Common.{◌≡◌, ◌+◌, List, Option, Some, None, Bool, true, false, refl, ap, sym, ◌∙◌, map}
use Rattle.std.specs.Prelude.{ℤ, nat_le}
use Rattle.num_type.specs.Types.{NumericType}
use Rattle.fi_math.specs.declared.fimath.Fimath.{Fimath}
use Rattle.fi_math.specs.declared.governing.Governed.{Governed}
use Rattle.fi_ops.specs.Elements.{Element}
use Rattle.fi_ops.specs.Bits.{concatenated, word_type}
use Rattle.fi_rules.specs.Options.{and_then, where_so}
use Rattle.fi_rules.specs.Types.{same_type}
use Rattle.fi_rules.specs.Value.{Shape, Val, Fi, Logical}
use Rattle.fi_eval.specs.Operators.{pairwise}
use Rattle.fi_values.specs.Arithmetic.{governing}
use Rattle.fi_values.specs.Bits.{two_typed, concatenated_pair}
use Rattle.fi_values.specs.Logicals.{connected}
use Rattle.fi_values.specs.Shapes.{common}
use Rattle.fi_values.specs.Stores.{truths_taken}
use Rattle.std.specs.Prelude.{◌<◌, ◌≤◌}
use Rattle.std.proofs.lemmas.Bool.{le-leb, lt-leb}
use Rattle.num_type.specs.View.{type_of}
use Rattle.eval_value.specs.View.{fi_view, logical_view, shape_view}
use Rattle.eval_value.specs.declared.fi_value.FiValue.{FiValue}
use Rattle.eval_value.specs.declared.logical_value.LogicalValue.{LogicalValue}
use Rattle.eval_bits.specs.Changes.{real_fi}
use Rattle.eval_bits.specs.Joints.{beside, bits_met, connected_pair, connects, joined}
use Rattle.eval_bits.specs.declared.joint.Bitwise.{Bitwise}
use Rattle.eval_bits.specs.declared.joint.Joint.TheVariants as joint
use Rattle.eval_bits.specs.declared.logicals.Connective.{Connective}
use Rattle.eval_bits.proofs.Fis.{real_case}
use Rattle.eval_bits.proofs.Pairs.{map-pairwise}

-- ---- operands that are none

pub no_left : (f : Element → Element → ℤ) (v w : Val) → real_fi v ≡ None → two_typed f v w ≡ None
unfolding two_typed real_fi
no_left f (Fi t m s xs) w h = absurd (cc)
no_left f v w h = refl

pub no_right : (f : Element → Element → ℤ) (v w : Val) → real_fi w ≡ None → two_typed f v w ≡ None
unfolding two_typed real_fi
no_right f v (Fi t m s xs) h = absurd (cc)
no_right f (Fi t m s xs) w h = refl
no_right f v w h = refl

pub no_top : (v w : Val) → real_fi v ≡ None → concatenated_pair v w ≡ None
unfolding concatenated_pair real_fi
no_top (Fi t m s xs) w h = absurd (cc)
no_top v w h = refl

pub no_bottom : (v w : Val) → real_fi w ≡ None → concatenated_pair v w ≡ None
unfolding concatenated_pair real_fi
no_bottom v (Fi t m s xs) h = absurd (cc)
no_bottom (Fi t m s xs) w h = refl
no_bottom v w h = refl

pub no_first : (f : Bool → Bool → Bool) (v w : Val) → truths_taken v ≡ None → connected f v w ≡ None
unfolding connected truths_taken
no_first f (Logical s bs) w h = absurd (cc)
no_first f v w h = refl

pub no_second : (f : Bool → Bool → Bool) (v w : Val) → truths_taken w ≡ None → connected f v w ≡ None
unfolding connected truths_taken
no_second f v (Logical s bs) h = absurd (cc)
no_second f (Logical s bs) w h = refl
no_second f v w h = refl

-- ---- two real fis of one type

abbrev met : (Element → Element → ℤ) → NumericType → Option Fimath → List ℤ → List ℤ → Bool → Option Shape → Option Governed → Option Val
met f t m xs ys b q g =
    and_then (where_so b t) (λ t. and_then q (λ q. and_then g (λ g. Some (Fi t g.attached q (pairwise (λ x y. f (record { num = t; z = x }) (record { num = t; z = y })) xs ys)))))

met_is : (f : Element → Element → ℤ) (t u : NumericType) (m n : Option Fimath) (s r : Shape) (xs ys : List ℤ) → two_typed f (Fi t m s xs) (Fi u n r ys) ≡ met f t m xs ys (same_type t u) (common s r) (governing m n)
unfolding two_typed
met_is f t u m n s r xs ys = refl

pub both_met : (f : Element → Element → ℤ) (t u : NumericType) (m n : Option Fimath) (s r q : Shape) (g : Governed) (xs ys : List ℤ) → same_type t u ≡ true → common s r ≡ Some q → governing m n ≡ Some g
    → two_typed f (Fi t m s xs) (Fi u n r ys) ≡ Some (Fi t g.attached q (pairwise (λ x y. f (record { num = t; z = x }) (record { num = t; z = y })) xs ys))
unfolding and_then where_so
both_met f t u m n s r q g xs ys h k l = met_is f t u m n s r xs ys ∙ (λ i. met f t m xs ys (h i) (k i) (l i))

pub types_differ : (f : Element → Element → ℤ) (t u : NumericType) (m n : Option Fimath) (s r : Shape) (xs ys : List ℤ) → same_type t u ≡ false → two_typed f (Fi t m s xs) (Fi u n r ys) ≡ None
unfolding and_then where_so
types_differ f t u m n s r xs ys h = met_is f t u m n s r xs ys ∙ ap (λ b. met f t m xs ys b (common s r) (governing m n)) h

pub shapes_differ : (f : Element → Element → ℤ) (t u : NumericType) (m n : Option Fimath) (s r : Shape) (xs ys : List ℤ) → same_type t u ≡ true → common s r ≡ None → two_typed f (Fi t m s xs) (Fi u n r ys) ≡ None
unfolding and_then where_so
shapes_differ f t u m n s r xs ys h k = met_is f t u m n s r xs ys ∙ (λ i. met f t m xs ys (h i) (k i) (governing m n))

pub fimaths_differ : (f : Element → Element → ℤ) (t u : NumericType) (m n : Option Fimath) (s r q : Shape) (xs ys : List ℤ) → same_type t u ≡ true → common s r ≡ Some q → governing m n ≡ None → two_typed f (Fi t m s xs) (Fi u n r ys) ≡ None
unfolding and_then where_so
fimaths_differ f t u m n s r q xs ys h k l = met_is f t u m n s r xs ys ∙ (λ i. met f t m xs ys (h i) (k i) (l i))

-- ---- the bits of two real fis

abbrev put : NumericType → NumericType → Shape → List ℤ → List ℤ → Bool → Option Shape → Option Val
put t u s xs ys b q =
    and_then (where_so b s) (λ s. and_then q (λ q. Some (Fi (word_type (t.word + u.word)) None q (pairwise (λ x y. (concatenated (record { num = t; z = x }) (record { num = u; z = y })).z) xs ys))))

put_by : (t u : NumericType) (s r : Shape) (xs ys : List ℤ) (b : Bool)
    → and_then (where_so b s) (λ s. and_then (common s r) (λ q. Some (Fi (word_type (t.word + u.word)) None q (pairwise (λ x y. (concatenated (record { num = t; z = x }) (record { num = u; z = y })).z) xs ys)))) ≡ put t u s xs ys b (common s r)
unfolding and_then where_so
put_by t u s r xs ys true = refl
put_by t u s r xs ys false = refl

put_is : (t u : NumericType) (m n : Option Fimath) (s r : Shape) (xs ys : List ℤ) → concatenated_pair (Fi t m s xs) (Fi u n r ys) ≡ put t u s xs ys (nat_le (t.word + u.word) 64) (common s r)
unfolding concatenated_pair
put_is t u m n s r xs ys = put_by t u s r xs ys (nat_le (t.word + u.word) 64)

pub both_put : (t u : NumericType) (m n : Option Fimath) (s r q : Shape) (xs ys : List ℤ) → nat_le (t.word + u.word) 64 ≡ true → common s r ≡ Some q
    → concatenated_pair (Fi t m s xs) (Fi u n r ys) ≡ Some (Fi (word_type (t.word + u.word)) None q (pairwise (λ x y. (concatenated (record { num = t; z = x }) (record { num = u; z = y })).z) xs ys))
unfolding and_then where_so
both_put t u m n s r q xs ys h k = put_is t u m n s r xs ys ∙ (λ i. put t u s xs ys (h i) (k i))

pub too_many_bits : (t u : NumericType) (m n : Option Fimath) (s r : Shape) (xs ys : List ℤ) → nat_le (t.word + u.word) 64 ≡ false → concatenated_pair (Fi t m s xs) (Fi u n r ys) ≡ None
unfolding and_then where_so
too_many_bits t u m n s r xs ys h = put_is t u m n s r xs ys ∙ ap (λ b. put t u s xs ys b (common s r)) h

pub extents_differ : (t u : NumericType) (m n : Option Fimath) (s r : Shape) (xs ys : List ℤ) → nat_le (t.word + u.word) 64 ≡ true → common s r ≡ None → concatenated_pair (Fi t m s xs) (Fi u n r ys) ≡ None
unfolding and_then where_so
extents_differ t u m n s r xs ys h k = put_is t u m n s r xs ys ∙ (λ i. put t u s xs ys (h i) (k i))

-- ---- two logical values

pub both_connected : (f : Bool → Bool → Bool) (s t r : Shape) (bs cs : List Bool) → common s t ≡ Some r → connected f (Logical s bs) (Logical t cs) ≡ Some (Logical r (pairwise f bs cs))
unfolding connected and_then
both_connected f s t r bs cs h = ap (λ q. and_then q (λ r. Some (Logical r (pairwise f bs cs)))) h

pub none_connected : (f : Bool → Bool → Bool) (s t : Shape) (bs cs : List Bool) → common s t ≡ None → connected f (Logical s bs) (Logical t cs) ≡ None
unfolding connected and_then
none_connected f s t bs cs h = ap (λ q. and_then q (λ r. Some (Logical r (pairwise f bs cs)))) h

-- ---- of the code

pub fi_real : (v : FiValue) → v.im ≡ None → fi_view v ≡ Fi (type_of v.num) v.math (shape_view v.shape) v.re.items
fi_real v e = real_case (λ w. w ≡ Fi (type_of v.num) v.math (shape_view v.shape) v.re.items) v e refl

pub fis_met : (op : Bitwise) (a b : FiValue) (q : Shape) (g : Governed) (zs : List ℤ) → a.im ≡ None → b.im ≡ None → same_type (type_of a.num) (type_of b.num) ≡ true
    → common (shape_view a.shape) (shape_view b.shape) ≡ Some q → governing a.math b.math ≡ Some g → zs ≡ pairwise (joined (joint.Met op) (type_of a.num) (type_of a.num)) a.re.items b.re.items
    → Some (Fi (type_of a.num) g.attached q zs) ≡ two_typed (bits_met op) (fi_view a) (fi_view b)
unfolding joined
fis_met op a b q g zs ra rb h k l e =
    ap (λ xs. Some (Fi (type_of a.num) g.attached q xs)) e
    ∙ sym ((λ i. two_typed (bits_met op) (fi_real a ra i) (fi_real b rb i)) ∙ both_met (bits_met op) (type_of a.num) (type_of b.num) a.math b.math (shape_view a.shape) (shape_view b.shape) q g a.re.items b.re.items h k l)

pub fis_of_types : (op : Bitwise) (a b : FiValue) → a.im ≡ None → b.im ≡ None → same_type (type_of a.num) (type_of b.num) ≡ false → None ≡ two_typed (bits_met op) (fi_view a) (fi_view b)
fis_of_types op a b ra rb h =
    sym ((λ i. two_typed (bits_met op) (fi_real a ra i) (fi_real b rb i)) ∙ types_differ (bits_met op) (type_of a.num) (type_of b.num) a.math b.math (shape_view a.shape) (shape_view b.shape) a.re.items b.re.items h)

pub fis_of_shapes : (op : Bitwise) (a b : FiValue) → a.im ≡ None → b.im ≡ None → same_type (type_of a.num) (type_of b.num) ≡ true → common (shape_view a.shape) (shape_view b.shape) ≡ None → None ≡ two_typed (bits_met op) (fi_view a) (fi_view b)
fis_of_shapes op a b ra rb h k =
    sym ((λ i. two_typed (bits_met op) (fi_real a ra i) (fi_real b rb i)) ∙ shapes_differ (bits_met op) (type_of a.num) (type_of b.num) a.math b.math (shape_view a.shape) (shape_view b.shape) a.re.items b.re.items h k)

pub fis_of_fimaths : (op : Bitwise) (a b : FiValue) (q : Shape) → a.im ≡ None → b.im ≡ None → same_type (type_of a.num) (type_of b.num) ≡ true → common (shape_view a.shape) (shape_view b.shape) ≡ Some q → governing a.math b.math ≡ None → None ≡ two_typed (bits_met op) (fi_view a) (fi_view b)
fis_of_fimaths op a b q ra rb h k l =
    sym ((λ i. two_typed (bits_met op) (fi_real a ra i) (fi_real b rb i)) ∙ fimaths_differ (bits_met op) (type_of a.num) (type_of b.num) a.math b.math (shape_view a.shape) (shape_view b.shape) q a.re.items b.re.items h k l)

pub fis_put : (a b : FiValue) (q : Shape) (t : NumericType) (zs : List ℤ) → a.im ≡ None → b.im ≡ None → a.num.word + b.num.word ≤ 64 → common (shape_view a.shape) (shape_view b.shape) ≡ Some q → t ≡ word_type (a.num.word + b.num.word)
    → zs ≡ pairwise (joined joint.Concatenated (type_of a.num) (type_of b.num)) a.re.items b.re.items → Some (Fi t None q zs) ≡ concatenated_pair (fi_view a) (fi_view b)
unfolding joined
fis_put a b q t zs ra rb h k n e =
    (λ i. Some (Fi (n i) None q (e i)))
    ∙ sym ((λ i. concatenated_pair (fi_real a ra i) (fi_real b rb i)) ∙ both_put (type_of a.num) (type_of b.num) a.math b.math (shape_view a.shape) (shape_view b.shape) q a.re.items b.re.items (le-leb (a.num.word + b.num.word) 64 h) k)

pub fis_of_many_bits : (a b : FiValue) → a.im ≡ None → b.im ≡ None → 64 < a.num.word + b.num.word → None ≡ concatenated_pair (fi_view a) (fi_view b)
fis_of_many_bits a b ra rb h =
    sym ((λ i. concatenated_pair (fi_real a ra i) (fi_real b rb i)) ∙ too_many_bits (type_of a.num) (type_of b.num) a.math b.math (shape_view a.shape) (shape_view b.shape) a.re.items b.re.items (lt-leb (a.num.word + b.num.word) 64 h))

pub fis_of_extents : (a b : FiValue) → a.im ≡ None → b.im ≡ None → a.num.word + b.num.word ≤ 64 → common (shape_view a.shape) (shape_view b.shape) ≡ None → None ≡ concatenated_pair (fi_view a) (fi_view b)
fis_of_extents a b ra rb h k =
    sym ((λ i. concatenated_pair (fi_real a ra i) (fi_real b rb i)) ∙ extents_differ (type_of a.num) (type_of b.num) a.math b.math (shape_view a.shape) (shape_view b.shape) a.re.items b.re.items (le-leb (a.num.word + b.num.word) 64 h) k)

pub connected_elements : (op : Connective) (xs ys zs : List Bool) (ps : List (Bool × Bool)) → ps ≡ pairwise beside xs ys → zs ≡ map (connected_pair op) ps → zs ≡ pairwise (connects op) xs ys
connected_elements op xs ys zs ps p e = e ∙ ap (map (connected_pair op)) p ∙ map-pairwise (connected_pair op) beside xs ys

pub logicals_met : (op : Connective) (a b : LogicalValue) (q : Shape) (zs : List Bool) → common (shape_view a.shape) (shape_view b.shape) ≡ Some q → zs ≡ pairwise (connects op) a.truths.items b.truths.items → Some (Logical q zs) ≡ connected (connects op) (logical_view a) (logical_view b)
logicals_met op a b q zs h e = ap (λ bs. Some (Logical q bs)) e ∙ sym (both_connected (connects op) (shape_view a.shape) (shape_view b.shape) q a.truths.items b.truths.items h)

pub logicals_of_shapes : (op : Connective) (a b : LogicalValue) → common (shape_view a.shape) (shape_view b.shape) ≡ None → None ≡ connected (connects op) (logical_view a) (logical_view b)
logicals_of_shapes op a b h = sym (none_connected (connects op) (shape_view a.shape) (shape_view b.shape) a.truths.items b.truths.items h)
