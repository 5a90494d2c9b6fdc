-- How long the longest token is.
use Rattle.std.proofs.Common.{◌≡◌, ℕ, suc, ◌+◌, ◌<◌, ◌≤◌, Bool, true, false, ◌||◌, ◌==◌, List, [], ◌∷◌, ◌++◌, length, take, drop, refl, sym, ap, ◌∙◌, subst, cond, arith}
use Rattle.std.specs.List.{list_all, prefix_len}
use Rattle.std.proofs.lemmas.Bool.{and_parts, and_from, and_left, and_right, or_from, false≢true, false_from_ne_true}
use Rattle.fic_base.specs.Names.{is_letter, is_digit, is_name_byte}
use Rattle.c_tree.specs.CText.{is_word, is_number, is_sign, is_token, is_blank, IsLongest}
use Rattle.c_token.specs.Scan.{BeginsNone, IsLength, begins_name_byte}
use Rattle.c_token.proofs.Beginnings.{sign_short, sign_foreign, word_first, digit_first, foreign_first, word_is_token, number_is_token, sign_is_token}

-- ---- runs

-- a byte that fails comes first, or none
abbrev pub Stops : (ℕ → Bool) → List ℕ → Type 0
Stops p [] = Unit {0}
Stops p (b ∷ s) = p b ≡ false

-- so many bytes pass a test, and then none does
pub record IsRun (p : ℕ → Bool) (n : ℕ) (s : List ℕ) : Type 0 where
  pub within : n ≤ length s
  pub passes : list_all p (take n s) ≡ true
  pub stops : Stops p (drop n s)

pub run : (p : ℕ → Bool) (s : List ℕ) → IsRun p (prefix_len p s) s
run p [] = record { within = omega arith; passes = refl; stops = tt }
run p (x ∷ s) = by (p x) refl (run p s)
  where
    by : (v : Bool) → p x ≡ v → IsRun p (prefix_len p s) s → IsRun p (cond v (1 + prefix_len p s) 0) (x ∷ s)
    by true e r =
        let next : suc (prefix_len p s) ≡ 1 + prefix_len p s = omega arith in
        subst (λ n. IsRun p n (x ∷ s)) next (record { within = omega (arith, r.within); passes = and_from (p x) _ e r.passes; stops = r.stops })
    by false e r = record { within = omega arith; passes = refl; stops = e }

-- a byte more fails
one_more : (p : ℕ → Bool) (a : List ℕ) (b : ℕ) → p b ≡ false → list_all p (a ++ b ∷ []) ≡ false
one_more p [] b h = and_left (p b) true h
one_more p (x ∷ a) b h = and_right (p x) (list_all p (a ++ b ∷ [])) (one_more p a b h)

no_sign : (x : ℕ) (a : List ℕ) → is_name_byte x ≡ true → is_sign (x ∷ a) ≡ false
no_sign x a h = false_from_ne_true (is_sign (x ∷ a)) (λ e. false≢true (sym (foreign_first (is_name_byte x) (is_blank x) (sign_foreign (x ∷ a) e)).0 ∙ h))

-- ---- words and numbers

word_longest : (x : ℕ) (a r : List ℕ) → is_letter x || x == 95 ≡ true → Stops is_name_byte r → IsLongest (x ∷ a) r
word_longest x a [] h stops = tt
word_longest x a (b ∷ r) h stops =
    let first = word_first x h in
    or_from (is_word (x ∷ (a ++ b ∷ []))) _ (and_right (is_letter x || x == 95) _ (one_more is_name_byte a b stops))
    (or_from (is_number (x ∷ (a ++ b ∷ []))) _ (and_left (is_digit x) _ first.2) (no_sign x (a ++ b ∷ []) first.0))

number_longest : (x : ℕ) (a r : List ℕ) → is_digit x ≡ true → Stops is_digit r → IsLongest (x ∷ a) r
number_longest x a [] h stops = tt
number_longest x a (b ∷ r) h stops =
    let first = digit_first x h in
    or_from (is_word (x ∷ (a ++ b ∷ []))) _ (and_left (is_letter x || x == 95) _ first.2)
    (or_from (is_number (x ∷ (a ++ b ∷ []))) _ (and_right (is_digit x) _ (one_more is_digit a b stops)) (no_sign x (a ++ b ∷ []) first.0))

pub word_length : (x n : ℕ) (rest s : List ℕ) → s ≡ x ∷ rest → true ≡ (is_letter x || x == 95) → n ≡ prefix_len is_name_byte rest → IsLength (1 + n) s
word_length x n rest s e h is =
    let r = run is_name_byte rest in
    let next : suc (prefix_len is_name_byte rest) ≡ 1 + n = omega (arith, is) in
    subst (IsLength (1 + n)) (sym e) (subst (λ m. IsLength m (x ∷ rest)) next (record {
      within = omega (arith, r.within);
      none = λ z. absurd (omega (arith, z));
      token = λ some. word_is_token (x ∷ take (prefix_len is_name_byte rest) rest) (and_from (is_letter x || x == 95) _ (sym h) r.passes);
      longest = λ some. word_longest x (take (prefix_len is_name_byte rest) rest) (drop (prefix_len is_name_byte rest) rest) (sym h) r.stops;
    }))

pub number_length : (x n : ℕ) (rest s : List ℕ) → s ≡ x ∷ rest → true ≡ is_digit x → n ≡ prefix_len is_digit rest → IsLength (1 + n) s
number_length x n rest s e h is =
    let r = run is_digit rest in
    let next : suc (prefix_len is_digit rest) ≡ 1 + n = omega (arith, is) in
    subst (IsLength (1 + n)) (sym e) (subst (λ m. IsLength m (x ∷ rest)) next (record {
      within = omega (arith, r.within);
      none = λ z. absurd (omega (arith, z));
      token = λ some. number_is_token (x ∷ take (prefix_len is_digit rest) rest) (and_from (is_digit x) _ (sym h) r.passes);
      longest = λ some. number_longest x (take (prefix_len is_digit rest) rest) (drop (prefix_len is_digit rest) rest) (sym h) r.stops;
    }))

-- ---- signs

-- neither a word nor a number comes first
no_word : (x : ℕ) (a : List ℕ) → is_name_byte x ≡ false → is_word (x ∷ a) ≡ false
no_word x a h = false_from_ne_true (is_word (x ∷ a)) (λ e. false≢true (sym h ∙ (word_first x (and_parts (is_letter x || x == 95) (list_all is_name_byte a) e).0).0))

no_number : (x : ℕ) (a : List ℕ) → is_name_byte x ≡ false → is_number (x ∷ a) ≡ false
no_number x a h = false_from_ne_true (is_number (x ∷ a)) (λ e. false≢true (sym h ∙ (digit_first x (and_parts (is_digit x) (list_all is_digit a) e).0).0))

only_sign : (x : ℕ) (a : List ℕ) → is_name_byte x ≡ false → is_sign (x ∷ a) ≡ false → is_token (x ∷ a) ≡ false
only_sign x a h none = or_from (is_word (x ∷ a)) _ (no_word x a h) (or_from (is_number (x ∷ a)) _ (no_number x a h) none)

long_sign : (x y z : ℕ) (a : List ℕ) → is_sign (x ∷ y ∷ z ∷ a) ≡ false
long_sign x y z a = false_from_ne_true (is_sign (x ∷ y ∷ z ∷ a)) (λ e. false≢true (sign_short (x ∷ y ∷ z ∷ a) e))

two_longest : (x y : ℕ) (r : List ℕ) → is_name_byte x ≡ false → IsLongest (x ∷ y ∷ []) r
two_longest x y [] h = tt
two_longest x y (z ∷ r) h = only_sign x (y ∷ z ∷ []) h (long_sign x y z [])

-- fronts of one byte and of two
none_of_two : (x y : ℕ) (r : List ℕ) → is_name_byte x ≡ false → is_sign (x ∷ []) ≡ false → is_sign (x ∷ y ∷ []) ≡ false → BeginsNone (x ∷ y ∷ r)
none_of_two x y r h one two [] behind e = refl
none_of_two x y r h one two (a ∷ []) behind e =
    let first : x ≡ a = cc in
    subst (λ b. is_token (b ∷ []) ≡ false) first (only_sign x [] h one)
none_of_two x y r h one two (a ∷ b ∷ []) behind e =
    let first : x ≡ a = cc in
    let second : y ≡ b = cc in
    let none : is_token (x ∷ y ∷ []) ≡ false = only_sign x (y ∷ []) h two in
    subst (λ c. is_token (a ∷ c ∷ []) ≡ false) second (subst (λ c. is_token (c ∷ y ∷ []) ≡ false) first none)
none_of_two x y r h one two (a ∷ b ∷ c ∷ text) behind e =
    let first : x ≡ a = cc in
    only_sign a (b ∷ c ∷ text) (subst (λ d. is_name_byte d ≡ false) first h) (long_sign a b c text)

none_of_one : (x : ℕ) → is_name_byte x ≡ false → is_sign (x ∷ []) ≡ false → BeginsNone (x ∷ [])
none_of_one x h one [] behind e = refl
none_of_one x h one (a ∷ []) behind e =
    let first : x ≡ a = cc in
    subst (λ b. is_token (b ∷ []) ≡ false) first (only_sign x [] h one)
none_of_one x h one (a ∷ b ∷ text) behind e = absurd cc

pub none_of_none : BeginsNone []
none_of_none [] behind e = refl
none_of_none (x ∷ text) behind e = absurd cc

-- what a length of signs is
no_length : (s : List ℕ) → BeginsNone s → IsLength 0 s
no_length s h = record { within = omega arith; none = λ z. h; token = λ some. absurd (omega (arith, some)); longest = λ some. absurd (omega (arith, some)) }

pub length_of_none : (s : List ℕ) → length s ≡ 0 → IsLength 0 s
length_of_none [] h = no_length [] none_of_none
length_of_none (x ∷ s) h = absurd (omega (arith, h))

pub short_sign : (s : List ℕ) → begins_name_byte s ≡ false → length s < 2 → true ≡ is_sign s → IsLength (length s) s
short_sign [] h few is = no_length [] none_of_none
short_sign (x ∷ []) h few is = record { within = omega arith; none = λ z. absurd (omega (arith, z)); token = λ some. sign_is_token (x ∷ []) (sym is); longest = λ some. tt }
short_sign (x ∷ y ∷ s) h few is = absurd (omega (arith, few))

pub short_none : (s : List ℕ) → begins_name_byte s ≡ false → length s < 2 → false ≡ is_sign s → IsLength 0 s
short_none [] h few is = no_length [] none_of_none
short_none (x ∷ []) h few is = no_length (x ∷ []) (none_of_one x h (sym is))
short_none (x ∷ y ∷ s) h few is = absurd (omega (arith, few))

pub sign_of_two : (s a : List ℕ) → begins_name_byte s ≡ false → 2 ≤ length s → a ≡ take 2 s → true ≡ is_sign a → IsLength 2 s
sign_of_two [] a h many is sign = absurd (omega (arith, many))
sign_of_two (x ∷ []) a h many is sign = absurd (omega (arith, many))
sign_of_two (x ∷ y ∷ s) a h many is sign =
    record {
      within = many;
      none = λ z. absurd (omega (arith, z));
      token = λ some. sign_is_token (x ∷ y ∷ []) (ap is_sign (sym is) ∙ sym sign);
      longest = λ some. two_longest x y s h;
    }

pub sign_of_one : (s a b : List ℕ) → begins_name_byte s ≡ false → 2 ≤ length s → a ≡ take 2 s → false ≡ is_sign a → b ≡ take 1 s → true ≡ is_sign b → IsLength 1 s
sign_of_one [] a b h many is two is1 one = absurd (omega (arith, many))
sign_of_one (x ∷ []) a b h many is two is1 one = absurd (omega (arith, many))
sign_of_one (x ∷ y ∷ s) a b h many is two is1 one =
    record {
      within = omega (arith, many);
      none = λ z. absurd (omega (arith, z));
      token = λ some. sign_is_token (x ∷ []) (ap is_sign (sym is1) ∙ sym one);
      longest = λ some. only_sign x (y ∷ []) h (ap is_sign (sym is) ∙ sym two);
    }

pub no_sign_of_two : (s a b : List ℕ) → begins_name_byte s ≡ false → 2 ≤ length s → a ≡ take 2 s → false ≡ is_sign a → b ≡ take 1 s → false ≡ is_sign b → IsLength 0 s
no_sign_of_two [] a b h many is two is1 one = absurd (omega (arith, many))
no_sign_of_two (x ∷ []) a b h many is two is1 one = absurd (omega (arith, many))
no_sign_of_two (x ∷ y ∷ s) a b h many is two is1 one =
    no_length (x ∷ y ∷ s) (none_of_two x y s h (ap is_sign (sym is1) ∙ sym one) (ap is_sign (sym is) ∙ sym two))

-- what begins neither a word nor a number
pub begins_neither : (x : ℕ) (s rest : List ℕ) → s ≡ x ∷ rest → false ≡ (is_letter x || x == 95) → false ≡ is_digit x → begins_name_byte s ≡ false
begins_neither x s rest e w d = ap begins_name_byte e ∙ grind (arith, w, d)
