-- Texts of single tokens in a text.
use Rattle.std.proofs.Common.{◌≡◌, ℕ, zero, suc, ◌%◌, ◌/◌, Bool, true, false, ◌&&◌, ◌||◌, ◌==◌, nat_eq, List, [], ◌∷◌, ◌++◌, decimal, arith, refl, sym, ◌∙◌, ap, subst, append_assoc, if◌then◌else◌}
use Rattle.std.specs.List.{list_all}
use Rattle.std.specs.Fmt.{digits, digits_onto, digit_glyph}
use Rattle.std.proofs.lemmas.Bool.{and_parts}
use Rattle.fic_base.specs.Names.{is_letter, is_digit, is_name_byte}
use Rattle.c_tree.specs.Texts.{Text}
use Rattle.c_tree.specs.Spelling.{Texts}
use Rattle.c_tree.specs.CText.{is_word, is_number, is_sign, is_token, IsLongest, is_blank, AreTokens}

-- tokens behind blanks
pub record Spaced (texts : Texts) (bytes : List ℕ) : Type 0 where
  pub blanks : List ℕ
  pub behind : List ℕ
  pub whole : bytes ≡ blanks ++ behind
  pub blank : list_all is_blank blanks ≡ true
  pub rest : AreTokens texts behind

-- what doesn't go on a word or a number
abbrev pub Ends : List ℕ → Type 0
Ends [] = Unit {0}
Ends (b ∷ bytes) = is_name_byte b ≡ false

pub direct : {texts : Texts} → {bytes : List ℕ} → AreTokens texts bytes → Spaced texts bytes
direct {texts} {bytes} h = record { blanks = []; behind = bytes; whole = refl; blank = refl; rest = h }

pub after_blank : {texts : Texts} → {bytes : List ℕ} → (b : ℕ) → is_blank b ≡ true → Spaced texts bytes → Spaced texts (b ∷ bytes)
after_blank b h s = record { blanks = b ∷ s.blanks; behind = s.behind; whole = ap (λ l. b ∷ l) s.whole; blank = rw h s.blank; rest = s.rest }

pub token : {texts : Texts} → {bytes : List ℕ} → (text : Text) → is_token text ≡ true → IsLongest text bytes → Spaced texts bytes → AreTokens (text ∷ texts) (text ++ bytes)
token text is longest s = record {
  blanks = s.blanks;
  behind = s.behind;
  whole = ap (λ l. text ++ l) s.whole ∙ sym (append_assoc text s.blanks s.behind);
  token = is;
  longest = subst (IsLongest text) s.whole longest;
  blank = s.blank;
  rest = s.rest;
}

-- a sign of one byte that begins no other
pub single : {texts : Texts} → {bytes : List ℕ} → (s : ℕ) → is_token (s ∷ []) ≡ true → ((b : ℕ) → is_token (s ∷ b ∷ []) ≡ false) → Spaced texts bytes → Spaced ((s ∷ []) ∷ texts) (s ∷ bytes)
single {bytes = []} s is alone h = direct (token (s ∷ []) is tt h)
single {bytes = b ∷ bytes} s is alone h = direct (token (s ∷ []) is (alone b) h)

-- a sign with a blank behind it
pub apart : {texts : Texts} → {bytes : List ℕ} → (text : Text) → is_token text ≡ true → is_token (text ++ 32 ∷ []) ≡ false → Spaced texts bytes → Spaced (text ∷ texts) (text ++ 32 ∷ bytes)
apart text is longest h = direct (token text is longest (after_blank 32 refl h))

-- ---- words and numbers

all_append : (p : ℕ → Bool) (xs : List ℕ) (b : ℕ) → p b ≡ false → list_all p (xs ++ b ∷ []) ≡ false
all_append p [] b h = rw h refl
all_append p (x ∷ xs) b h = last_false (p x) (list_all p (xs ++ b ∷ [])) (all_append p xs b h)
  where
    last_false : (a c : Bool) → c ≡ false → a && c ≡ false
    last_false true c h = h
    last_false false c h = refl

differs : (c k : ℕ) → is_name_byte c ≡ true → is_name_byte k ≡ false → nat_eq c k ≡ false
differs c k ends_not ends = grind arith

no_sign : (c : ℕ) (cs : List ℕ) → is_name_byte c ≡ true → is_sign (c ∷ cs) ≡ false
no_sign c cs h =
    rw (differs c 40 h refl, differs c 41 h refl, differs c 91 h refl, differs c 93 h refl, differs c 123 h refl, differs c 125 h refl, differs c 44 h refl, differs c 59 h refl, differs c 58 h refl, differs c 63 h refl, differs c 61 h refl, differs c 33 h refl, differs c 60 h refl, differs c 62 h refl, differs c 43 h refl, differs c 45 h refl, differs c 42 h refl, differs c 38 h refl, differs c 124 h refl, differs c 94 h refl)
    refl

or_false : (a b : Bool) → a ≡ false → b ≡ false → a || b ≡ false
or_false a b h k = rw (h, k) refl

and_false : (a b : Bool) → b ≡ false → a && b ≡ false
and_false true b h = h
and_false false b h = refl

-- a first byte of a word is a name byte and no digit
begins_word : (c : ℕ) → is_letter c || c == 95 ≡ true → (is_name_byte c ≡ true) × (is_digit c ≡ false)
begins_word c h = (grind arith, grind arith)

begins_number : (c : ℕ) → is_digit c ≡ true → (is_name_byte c ≡ true) × (is_letter c || c == 95 ≡ false)
begins_number c h = (grind arith, grind arith)

digit_is_name_byte : (c : ℕ) → is_digit c ≡ true → is_name_byte c ≡ true
digit_is_name_byte c h = (begins_number c h).0

no_digit : (c : ℕ) → is_name_byte c ≡ false → is_digit c ≡ false
no_digit c h = grind arith

pub word_longest : (w : Text) → is_word w ≡ true → (bytes : List ℕ) → Ends bytes → IsLongest w bytes
word_longest [] h bytes ends = absurd cc
word_longest (c ∷ cs) h [] ends = tt
word_longest (c ∷ cs) h (b ∷ bytes) ends =
    let first = and_parts (is_letter c || c == 95) (list_all is_name_byte cs) h in
    let begins = begins_word c first.0 in
    or_false _ _ (and_false _ _ (all_append is_name_byte cs b ends))
    (or_false _ _ (rw begins.1 refl) (no_sign c (cs ++ b ∷ []) begins.0))

number_longest : (w : Text) → is_number w ≡ true → (bytes : List ℕ) → Ends bytes → IsLongest w bytes
number_longest [] h bytes ends = absurd cc
number_longest (c ∷ cs) h [] ends = tt
number_longest (c ∷ cs) h (b ∷ bytes) ends =
    let first = and_parts (is_digit c) (list_all is_digit cs) h in
    let begins = begins_number c first.0 in
    or_false _ _ (rw begins.1 refl)
    (or_false _ _ (and_false (is_digit c) _ (all_append is_digit cs b (no_digit b ends))) (no_sign c (cs ++ b ∷ []) begins.0))

pub word_is_token : (w : Text) → is_word w ≡ true → is_token w ≡ true
word_is_token w h = rw h refl

number_is_token : (w : Text) → is_number w ≡ true → is_token w ≡ true
number_is_token w h = or_true (is_word w) _ (rw h refl)
  where
    or_true : (a b : Bool) → b ≡ true → a || b ≡ true
    or_true true b h = refl
    or_true false b h = h

pub word : {texts : Texts} → {bytes : List ℕ} → (w : Text) → is_word w ≡ true → Ends bytes → Spaced texts bytes → Spaced (w ∷ texts) (w ++ bytes)
word {bytes} w h ends s = direct (token w (word_is_token w h) (word_longest w h bytes ends) s)

-- ---- decimals

glyph_is_digit : (n : ℕ) → is_digit (digit_glyph false (n % 10)) ≡ true
glyph_is_digit n = grind arith

onto_is_number : (k n : ℕ) (digits : List ℕ) → is_number digits ≡ true → is_number (digits_onto k 10 false n digits) ≡ true
onto_is_number zero n ds h = h
onto_is_number (suc k) n ds h = elim (n / 10 == 0) as (λ b. is_number (if b then digit_glyph false (n % 10) ∷ ds else digits_onto k 10 false (n / 10) (digit_glyph false (n % 10) ∷ ds)) ≡ true) [ true ↦ more n ds h | false ↦ onto_is_number k (n / 10) (digit_glyph false (n % 10) ∷ ds) (more n ds h) ]
  where
    more : (n : ℕ) (ds : List ℕ) → is_number ds ≡ true → is_number (digit_glyph false (n % 10) ∷ ds) ≡ true
    more n [] h = absurd cc
    more n (d ∷ ds) h = rw (glyph_is_digit n) h

onto_none : (k n : ℕ) → is_number (digits_onto (suc k) 10 false n []) ≡ true
onto_none k n =
    let last : is_number (digit_glyph false (n % 10) ∷ []) ≡ true = rw (glyph_is_digit n) refl in
    elim (n / 10 == 0) as (λ b. is_number (if b then digit_glyph false (n % 10) ∷ [] else digits_onto k 10 false (n / 10) (digit_glyph false (n % 10) ∷ [])) ≡ true)
    [ true ↦ last | false ↦ onto_is_number k (n / 10) (digit_glyph false (n % 10) ∷ []) last ]

pub decimal_is_number : (n : ℕ) → is_number (decimal n) ≡ true
unfolding digits
decimal_is_number = onto_none 63

digits_are_name_bytes : (ds : List ℕ) → list_all is_digit ds ≡ true → list_all is_name_byte ds ≡ true
digits_are_name_bytes [] h = refl
digits_are_name_bytes (d ∷ ds) h =
    let both = and_parts (is_digit d) (list_all is_digit ds) h in
    rw (digit_is_name_byte d both.0, digits_are_name_bytes ds both.1) refl

number_is_digits : (ds : List ℕ) → is_number ds ≡ true → list_all is_digit ds ≡ true
number_is_digits [] h = refl
number_is_digits (d ∷ ds) h = h

pub decimal_name_bytes : (n : ℕ) → list_all is_name_byte (decimal n) ≡ true
decimal_name_bytes n = digits_are_name_bytes (decimal n) (number_is_digits (decimal n) (decimal_is_number n))

pub number : {texts : Texts} → {bytes : List ℕ} → (n : ℕ) → Ends bytes → Spaced texts bytes → Spaced (decimal n ∷ texts) (decimal n ++ bytes)
number {bytes} n ends s =
    direct (token (decimal n) (number_is_token (decimal n) (decimal_is_number n)) (number_longest (decimal n) (decimal_is_number n) bytes ends) s)

-- ---- pieces of a text

-- pieces and what follows
abbrev pub flat : List Text → List ℕ → List ℕ
flat [] bytes = bytes
flat (p ∷ more) bytes = p ++ flat more bytes

-- pieces behind a first one
abbrev pub joined : Text → List Text → Text
joined first [] = first
joined first (p ∷ more) = joined (first ++ p) more

pub joined_flat : (first : Text) (more : List Text) (bytes : List ℕ) → joined first more ++ bytes ≡ first ++ flat more bytes
joined_flat first [] bytes = refl
joined_flat first (p ∷ more) bytes = joined_flat (first ++ p) more bytes ∙ append_assoc first p (flat more bytes)

pub laid : (first : Text) (more : List Text) (bytes : List ℕ) → {texts : Texts} → Spaced texts (first ++ flat more bytes) → Spaced texts (joined first more ++ bytes)
laid first more bytes {texts} h = subst (Spaced texts) (sym (joined_flat first more bytes)) h
