-- Beginnings of tokens.
use Rattle.std.proofs.Common.{◌≡◌, ◌⊎◌, inl, inr, ℕ, Bool, true, false, ◌||◌, ◌==◌, List, [], ◌∷◌, ◌++◌, refl, sym, ◌∙◌, subst, arith}
use Rattle.std.specs.Prelude.{not, bytes_eq}
use Rattle.std.specs.List.{list_all, list_any}
use Rattle.std.proofs.lemmas.Bool.{and_parts, and_from, or_cases, or_left, or_right, false≢true}
use Rattle.std.proofs.lemmas.Slice.Eq.{bytes_eq-Decides}
use Rattle.fic_base.specs.Names.{is_letter, is_digit, is_name_byte}
use Rattle.c_tree.specs.CText.{is_word, is_number, is_sign, is_token, is_blank, signs, IsLongest}
use Rattle.c_token.specs.Scan.{begins_blank}
use Rattle.c_token.proofs.Fronts.{Fronts, Same, Longer, Shorter, fronts}

-- a text that is among others passes each test that they pass
pub among : (p : List ℕ → Bool) (text : List ℕ) (xs : List (List ℕ)) → list_any (bytes_eq text) xs ≡ true → list_all p xs ≡ true → p text ≡ true
among p text [] h all = absurd (false≢true h)
among p text (x ∷ xs) h all =
    let both = and_parts (p x) (list_all p xs) all in
    by (or_cases (bytes_eq text x) (list_any (bytes_eq text) xs) h) both.0 (λ e. among p text xs e both.1)
  where
    by : (bytes_eq text x ≡ true) ⊎ (list_any (bytes_eq text) xs ≡ true) → p x ≡ true → (list_any (bytes_eq text) xs ≡ true → p text ≡ true) → p text ≡ true
    by (inl e) first rest = subst (λ t. p t ≡ true) (sym ((bytes_eq-Decides text x).0 e)) first
    by (inr e) first rest = rest e

pub front_passes : (p : ℕ → Bool) (a : List ℕ) (b : ℕ) (c : List ℕ) → list_all p (a ++ b ∷ c) ≡ true → list_all p (a ++ b ∷ []) ≡ true
front_passes p [] b c h = and_from (p b) true (and_parts (p b) (list_all p c) h).0 refl
front_passes p (x ∷ a) b c h =
    let both = and_parts (p x) (list_all p (a ++ b ∷ c)) h in
    and_from (p x) (list_all p (a ++ b ∷ [])) both.0 (front_passes p a b c both.1)

pub middle_passes : (p : ℕ → Bool) (a : List ℕ) (b : ℕ) (c : List ℕ) → list_all p (a ++ b ∷ c) ≡ true → p b ≡ true
middle_passes p [] b c h = (and_parts (p b) (list_all p c) h).0
middle_passes p (x ∷ a) b c h = middle_passes p a b c (and_parts (p x) (list_all p (a ++ b ∷ c)) h).1

-- ---- signs

-- at most two bytes
abbrev pub is_short : List ℕ → Bool
is_short [] = true
is_short (a ∷ []) = true
is_short (a ∷ b ∷ []) = true
is_short (a ∷ b ∷ c ∷ more) = false

-- a first byte that is no blank and stands in no word
abbrev pub is_foreign : List ℕ → Bool
is_foreign [] = false
is_foreign (b ∷ bytes) = not (is_name_byte b || is_blank b)

pub sign_short : (text : List ℕ) → is_sign text ≡ true → is_short text ≡ true
sign_short text h = among is_short text signs h refl

pub sign_foreign : (text : List ℕ) → is_sign text ≡ true → is_foreign text ≡ true
sign_foreign text h = among is_foreign text signs h refl

-- ---- fronts of tokens

sign_goes_on : (x : ℕ) (a : List ℕ) (b : ℕ) (c : List ℕ) → is_sign (x ∷ (a ++ b ∷ c)) ≡ true → is_short (x ∷ (a ++ b ∷ c)) ≡ true → is_sign (x ∷ (a ++ b ∷ [])) ≡ true
sign_goes_on x [] b [] h s = h
sign_goes_on x [] b (d ∷ c) h s = absurd (false≢true s)
sign_goes_on x (y ∷ []) b c h s = absurd (false≢true s)
sign_goes_on x (y ∷ z ∷ a) b c h s = absurd (false≢true s)

word_goes_on : (x : ℕ) (a : List ℕ) (b : ℕ) (c : List ℕ) → is_word (x ∷ (a ++ b ∷ c)) ≡ true → is_word (x ∷ (a ++ b ∷ [])) ≡ true
word_goes_on x a b c h =
    let both = and_parts (is_letter x || x == 95) (list_all is_name_byte (a ++ b ∷ c)) h in
    and_from (is_letter x || x == 95) (list_all is_name_byte (a ++ b ∷ [])) both.0 (front_passes is_name_byte a b c both.1)

number_goes_on : (x : ℕ) (a : List ℕ) (b : ℕ) (c : List ℕ) → is_number (x ∷ (a ++ b ∷ c)) ≡ true → is_number (x ∷ (a ++ b ∷ [])) ≡ true
number_goes_on x a b c h = front_passes is_digit (x ∷ a) b c h

pub word_is_token : (text : List ℕ) → is_word text ≡ true → is_token text ≡ true
word_is_token text h = or_left (is_word text) (is_number text || is_sign text) h

pub number_is_token : (text : List ℕ) → is_number text ≡ true → is_token text ≡ true
number_is_token text h = or_right (is_word text) (is_number text || is_sign text) (or_left (is_number text) (is_sign text) h)

pub sign_is_token : (text : List ℕ) → is_sign text ≡ true → is_token text ≡ true
sign_is_token text h = or_right (is_word text) (is_number text || is_sign text) (or_right (is_number text) (is_sign text) h)

-- what a token is
pub data Sort (text : List ℕ) : Type 0 where
  Word : is_word text ≡ true → Sort text
  Number : is_number text ≡ true → Sort text
  Sign : is_sign text ≡ true → Sort text

pub sort_of : (text : List ℕ) → is_token text ≡ true → Sort text
sort_of text h = by (or_cases (is_word text) (is_number text || is_sign text) h)
  where
    rest : (is_number text ≡ true) ⊎ (is_sign text ≡ true) → Sort text
    rest (inl e) = Number e
    rest (inr e) = Sign e

    by : (is_word text ≡ true) ⊎ (is_number text || is_sign text ≡ true) → Sort text
    by (inl e) = Word e
    by (inr e) = rest (or_cases (is_number text) (is_sign text) e)

-- a front of a token that is one byte longer than another front of it is a token
pub goes_on : (x : ℕ) (a : List ℕ) (b : ℕ) (c : List ℕ) → is_token (x ∷ (a ++ b ∷ c)) ≡ true → is_token (x ∷ (a ++ b ∷ [])) ≡ true
goes_on x a b c h = by (sort_of (x ∷ (a ++ b ∷ c)) h)
  where
    by : Sort (x ∷ (a ++ b ∷ c)) → is_token (x ∷ (a ++ b ∷ [])) ≡ true
    by (Word e) = word_is_token (x ∷ (a ++ b ∷ [])) (word_goes_on x a b c e)
    by (Number e) = number_is_token (x ∷ (a ++ b ∷ [])) (number_goes_on x a b c e)
    by (Sign e) = sign_is_token (x ∷ (a ++ b ∷ [])) (sign_goes_on x a b c e (sign_short (x ∷ (a ++ b ∷ c)) e))

longer : (a r b s : List ℕ) (c : ℕ) (d : List ℕ) → is_token a ≡ true → is_token b ≡ true → IsLongest a r → b ≡ a ++ c ∷ d → r ≡ c ∷ (d ++ s) → ⊥
longer [] r b s c d ta tb long p q = false≢true ta
longer (x ∷ a) r b s c d ta tb long p q =
    let here : IsLongest (x ∷ a) (c ∷ (d ++ s)) = subst (IsLongest (x ∷ a)) q long in
    let on : is_token (x ∷ (a ++ c ∷ d)) ≡ true = subst (λ t. is_token t ≡ true) p tb in
    false≢true (sym here ∙ goes_on x a c d on)

-- at most one longest token comes first
pub same_token : (a b r s : List ℕ) → is_token a ≡ true → is_token b ≡ true → IsLongest a r → IsLongest b s → a ++ r ≡ b ++ s → (a ≡ b) × (r ≡ s)
same_token a b r s ta tb la lb e = by (fronts a b r s e)
  where
    by : Fronts a b r s → (a ≡ b) × (r ≡ s)
    by (Same p q) = (p, q)
    by (Longer c d p q) = absurd (longer a r b s c d ta tb la p q)
    by (Shorter c d p q) = absurd (longer b s a r c d tb ta lb p q)

-- ---- blanks

more_blanks : (a r b s : List ℕ) (c : ℕ) (d : List ℕ) → list_all is_blank b ≡ true → begins_blank r ≡ false → b ≡ a ++ c ∷ d → r ≡ c ∷ (d ++ s) → ⊥
more_blanks a r b s c d all none p q =
    let blank : is_blank c ≡ true = middle_passes is_blank a c d (subst (λ t. list_all is_blank t ≡ true) p all) in
    let no : is_blank c ≡ false = subst (λ t. begins_blank t ≡ false) q none in
    false≢true (sym no ∙ blank)

-- at most one list of all blanks comes first
pub same_blanks : (a b r s : List ℕ) → list_all is_blank a ≡ true → list_all is_blank b ≡ true → begins_blank r ≡ false → begins_blank s ≡ false → a ++ r ≡ b ++ s → (a ≡ b) × (r ≡ s)
same_blanks a b r s aa ab nr ns e = by (fronts a b r s e)
  where
    by : Fronts a b r s → (a ≡ b) × (r ≡ s)
    by (Same p q) = (p, q)
    by (Longer c d p q) = absurd (more_blanks a r b s c d ab nr p q)
    by (Shorter c d p q) = absurd (more_blanks b s a r c d aa ns p q)

-- ---- first bytes

pub word_first : (b : ℕ) → is_letter b || b == 95 ≡ true → (is_name_byte b ≡ true) × (is_blank b ≡ false) × (is_digit b ≡ false)
word_first b h = (grind arith, grind arith, grind arith)

pub digit_first : (b : ℕ) → is_digit b ≡ true → (is_name_byte b ≡ true) × (is_blank b ≡ false) × (is_letter b || b == 95 ≡ false)
digit_first b h = (grind arith, grind arith, grind arith)

pub foreign_first : (n b : Bool) → not (n || b) ≡ true → (n ≡ false) × (b ≡ false)
foreign_first true b h = absurd (false≢true h)
foreign_first false true h = absurd (false≢true h)
foreign_first false false h = (refl, refl)

-- no token begins with a blank
pub token_no_blank : (text behind : List ℕ) → is_token text ≡ true → begins_blank (text ++ behind) ≡ false
token_no_blank [] behind h = absurd (false≢true h)
token_no_blank (x ∷ a) behind h = by (sort_of (x ∷ a) h)
  where
    by : Sort (x ∷ a) → is_blank x ≡ false
    by (Word e) = (word_first x (and_parts (is_letter x || x == 95) (list_all is_name_byte a) e).0).1
    by (Number e) = (digit_first x (and_parts (is_digit x) (list_all is_digit a) e).0).1
    by (Sign e) = (foreign_first (is_name_byte x) (is_blank x) (sign_foreign (x ∷ a) e)).1
