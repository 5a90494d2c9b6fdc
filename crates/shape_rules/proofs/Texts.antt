-- The texts of types, taken apart.
use Rattle.std.proofs.Common.{inl, inr, ◌⊎◌, ◌≡◌, ◌≢◌, ℕ, suc, ◌<◌, ◌≤◌, ◌^◌, Bool, true, false, List, [], ◌∷◌, ◌++◌, refl, sym, ap, ◌∙◌, subst, arith, append_assoc, FitsSigned, w32}
use Rattle.std.specs.Prelude.{codes, ℤ, pos, negsuc, ◌≤ℤ◌, ◌<ℤ◌, neg_ℤ, unsigned_abs}
use Rattle.std.specs.Fmt.{decimal, signed_decimal}
use Rattle.std.specs.Str.Parse.{AllDigits, digits_value}
use Rattle.std.proofs.lemmas.Str.Parse.{digit_from_value}
use Rattle.std.proofs.lemmas.Int.{ints, fits_signed_from_abs}
use Rattle.std.proofs.Math.Nat.{le-mul_of_pos_right}
use Rattle.num_type.proofs.Decimals.{decimal_digits}
use Rattle.num_type.specs.Types.{fraction_least, fraction_most}
use Rattle.num_type.specs.View.{type_of}
use Rattle.num_type.specs.declared.num_type.NumType.{NumType}
use Rattle.shape_rules.specs.declared.shape.Shape.{Shape}
use Rattle.shape_rules.specs.declared.declared.Declared.{Declared}
use Rattle.shape_rules.specs.Shapes.{rows_of, columns_of}
use Rattle.shape_rules.specs.TypeText.{sign_letter, type_text, shape_text, complex_mark}
use Rattle.shape_rules.specs.Pieces.{Lacks}
use Rattle.shape_rules.specs.Declarations.{lengths_text, declared_text}
use Rattle.shape_rules.proofs.Splits.{same_split, no_mark, lacks_both}

-- a byte that is no digit stands in no decimal
digits_lack : (m : ℕ) (ds : List ℕ) → AllDigits 10 ds → (m < 48) ⊎ (57 < m) → Lacks m ds
digits_lack m [] d h = tt
digits_lack m (c ∷ cs) d h = (differ h, digits_lack m cs d.1 h)
  where
    differ : (m < 48) ⊎ (57 < m) → c ≢ m
    differ (inl p) e = omega (arith, digit_from_value c d.0)
    differ (inr p) e = omega (arith, digit_from_value c d.0)

pub decimal_lacks : (m n : ℕ) → n < 2 ^ 128 → (m < 48) ⊎ (57 < m) → Lacks m (decimal n)
decimal_lacks m n small h = digits_lack m (decimal n) (decimal_digits n small).0 h

pub same_decimal : (m n : ℕ) → m < 2 ^ 128 → n < 2 ^ 128 → decimal m ≡ decimal n → m ≡ n
same_decimal m n p q e = sym (decimal_digits m p).1 ∙ ap (digits_value 10) e ∙ (decimal_digits n q).1

no_minus : (n : ℕ) (ds : List ℕ) → n < 2 ^ 128 → decimal n ≡ 45 ∷ ds → ⊥
no_minus n ds small e = (subst (Lacks 45) e (decimal_lacks 45 n small (inl (omega arith)))).0 refl

pub same_signed : (y z : ℤ) → unsigned_abs y < 2 ^ 128 → unsigned_abs z < 2 ^ 128 → signed_decimal y ≡ signed_decimal z → y ≡ z
same_signed (pos m) (pos n) p q e = ap pos (same_decimal m n p q e)
same_signed (pos m) (negsuc n) p q e = absurd (no_minus m (decimal (suc n)) p e)
same_signed (negsuc m) (pos n) p q e = absurd (no_minus n (decimal (suc m)) q (sym e))
same_signed (negsuc m) (negsuc n) p q e = let h = same_decimal (suc m) (suc n) p q (cc) in ap negsuc (omega (arith, h))

pub few_bits : (z : ℤ) → fraction_least ≤ℤ z → z ≤ℤ fraction_most → unsigned_abs z < 2 ^ 128
few_bits (pos n) l m = omega (arith, ints, m)
few_bits (negsuc n) l m = omega (arith, ints, l)

pub fits_word : (z : ℤ) → fraction_least ≤ℤ z → z ≤ℤ fraction_most → FitsSigned w32 z
fits_word z l m = fits_signed_from_abs w32 z (small z l m)
  where
    small : (z : ℤ) → fraction_least ≤ℤ z → z ≤ℤ fraction_most → unsigned_abs z < 2 ^ 31
    small (pos n) l m = omega (arith, ints, m)
    small (negsuc n) l m = omega (arith, ints, l)

pub same_fraction : (f g : ℤ) → fraction_least ≤ℤ f → f ≤ℤ fraction_most → fraction_least ≤ℤ g → g ≤ℤ fraction_most → signed_decimal f ≡ signed_decimal g → f ≡ g
same_fraction f g a b c d e = same_signed f g (few_bits f a b) (few_bits g c d) e

-- Numbers

pub u32_none : (bytes : List ℕ) (n m : ℕ) → bytes ≡ decimal n → n < 2 ^ 128 → 2 ^ 32 ≤ n → m < 2 ^ 32 → bytes ≡ decimal m → ⊥
u32_none bytes n m b small big less e = omega (arith, same_decimal n m small (omega (arith, less)) (sym b ∙ e), big, less)

-- Word length and fraction length

pub lengths_are : (t : NumType) → lengths_text t ≡ decimal t.word ++ 46 ∷ signed_decimal t.fraction
lengths_are t = append_assoc (decimal t.word) (46 ∷ []) (signed_decimal t.fraction)

pub lengths_parts : (t : NumType) (w f : List ℕ) → Lacks 46 w → w ++ 46 ∷ f ≡ lengths_text t → (w ≡ decimal t.word) × (f ≡ signed_decimal t.fraction)
lengths_parts t w f l e = same_split 46 w f (decimal t.word) (signed_decimal t.fraction) l (decimal_lacks 46 t.word (omega (arith, t.bits)) (inl (omega arith))) (e ∙ lengths_are t)

pub no_lengths : (t : NumType) (bytes : List ℕ) → Lacks 46 bytes → bytes ≡ lengths_text t → ⊥
no_lengths t bytes l e = no_mark 46 (decimal t.word) (signed_decimal t.fraction) (subst (Lacks 46) (e ∙ lengths_are t) l)

-- Shapes

pub shape_is : (s : Shape) → shape_text (rows_of s) (columns_of s) ≡ decimal s.rows ++ 120 ∷ decimal s.cols
shape_is s = append_assoc (decimal s.rows) (120 ∷ []) (decimal s.cols)

pub few_rows : (s : Shape) → s.rows < 2 ^ 32
few_rows s = omega (arith, le-mul_of_pos_right s.rows s.a_column, s.few)

pub few_columns : (s : Shape) → s.cols < 2 ^ 32
few_columns s = omega (arith, le-mul_of_pos_right s.cols s.a_row, s.few)

pub shape_parts : (s : Shape) (a b : List ℕ) → Lacks 120 a → a ++ 120 ∷ b ≡ shape_text (rows_of s) (columns_of s) → (a ≡ decimal s.rows) × (b ≡ decimal s.cols)
shape_parts s a b l e = same_split 120 a b (decimal s.rows) (decimal s.cols) l (decimal_lacks 120 s.rows (omega (arith, few_rows s)) (inr (omega arith))) (e ∙ shape_is s)

pub no_shape : (s : Shape) (bytes : List ℕ) → Lacks 120 bytes → bytes ≡ shape_text (rows_of s) (columns_of s) → ⊥
no_shape s bytes l e = no_mark 120 (decimal s.rows) (decimal s.cols) (subst (Lacks 120) (e ∙ shape_is s) l)

-- Colons

fraction_lacks : (z : ℤ) → fraction_least ≤ℤ z → z ≤ℤ fraction_most → Lacks 58 (signed_decimal z)
fraction_lacks (pos n) l m = decimal_lacks 58 n (omega (arith, ints, m)) (inr (omega arith))
fraction_lacks (negsuc n) l m = ((λ e. omega (arith, e)), decimal_lacks 58 (suc n) (omega (arith, ints, l)) (inr (omega arith)))

sign_lacks : (signed : Bool) → Lacks 58 (sign_letter signed)
sign_lacks true = ((λ e. omega (arith, e)), tt)
sign_lacks false = ((λ e. omega (arith, e)), tt)

pub type_lacks : (t : NumType) → Lacks 58 (type_text (type_of t))
type_lacks t =
    let word = decimal_lacks 58 t.word (omega (arith, t.bits)) (inr (omega arith)) in
    let front = lacks_both 58 (sign_letter t.signed) (decimal t.word) (sign_lacks t.signed) word in
    let dot = lacks_both 58 (sign_letter t.signed ++ decimal t.word) (46 ∷ []) front ((λ e. omega (arith, e)), tt) in
    lacks_both 58 (sign_letter t.signed ++ decimal t.word ++ codes ".") (signed_decimal t.fraction) dot (fraction_lacks t.fraction t.least t.most)

pub shape_lacks : (s : Shape) → Lacks 58 (shape_text (rows_of s) (columns_of s))
shape_lacks s =
    let rows = decimal_lacks 58 s.rows (omega (arith, few_rows s)) (inr (omega arith)) in
    let columns = decimal_lacks 58 s.cols (omega (arith, few_columns s)) (inr (omega arith)) in
    lacks_both 58 (decimal s.rows ++ codes "x") (decimal s.cols) (lacks_both 58 (decimal s.rows) (120 ∷ []) rows ((λ e. omega (arith, e)), tt)) columns

-- Whole types

pub type_is : (t : NumType) → type_text (type_of t) ≡ sign_letter t.signed ++ lengths_text t
type_is t =
    ap (λ x. x ++ signed_decimal t.fraction) (append_assoc (sign_letter t.signed) (decimal t.word) (codes "."))
    ∙ append_assoc (sign_letter t.signed) (decimal t.word ++ codes ".") (signed_decimal t.fraction)

pub declared_is : (d : Declared) → declared_text d ≡ type_text (type_of d.num) ++ 58 ∷ (shape_text (rows_of d.shape) (columns_of d.shape) ++ complex_mark d.complex)
declared_is d =
    append_assoc (type_text (type_of d.num) ++ codes ":") (shape_text (rows_of d.shape) (columns_of d.shape)) (complex_mark d.complex)
    ∙ append_assoc (type_text (type_of d.num)) (codes ":") (shape_text (rows_of d.shape) (columns_of d.shape) ++ complex_mark d.complex)

-- Fractions out of the limits

pub far_fraction : (bytes : List ℕ) (z : ℤ) → bytes ≡ signed_decimal z → unsigned_abs z < 2 ^ 128 → (z <ℤ fraction_least) ⊎ (fraction_most <ℤ z) → (f : ℤ) → fraction_least ≤ℤ f → f ≤ℤ fraction_most → bytes ≢ signed_decimal f
far_fraction bytes z b small far f l m e = by far (same_signed z f small (few_bits f l m) (sym b ∙ e))
  where
    by : (z <ℤ fraction_least) ⊎ (fraction_most <ℤ z) → z ≡ f → ⊥
    by (inl p) q = omega (arith, ints, l, m, p, q)
    by (inr p) q = omega (arith, ints, l, m, p, q)

pub wide_far : (z : ℤ) → (z <ℤ neg_ℤ (pos (2 ^ 63))) ⊎ (pos (2 ^ 63) ≤ℤ z) → (z <ℤ fraction_least) ⊎ (fraction_most <ℤ z)
wide_far z (inl p) = inl (omega (arith, ints, p))
wide_far z (inr p) = inr (omega (arith, ints, p))
