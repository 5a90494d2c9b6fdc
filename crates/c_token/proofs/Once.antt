-- Bytes have at most one list of tokens.
use Rattle.std.proofs.Common.{◌≡◌, ℕ, ◌+◌, false, List, [], ◌∷◌, ◌++◌, length, refl, sym, ap, ◌∙◌, subst, append_assoc, length-append, arith}
use Rattle.std.proofs.lemmas.Bool.{false≢true}
use Rattle.std.proofs.lemmas.List.{nil_from_length}
use Rattle.c_tree.specs.Spelling.{Texts}
use Rattle.c_tree.specs.CText.{AreTokens}
use Rattle.c_token.specs.Scan.{Lexeme, begins_blank, BeginsNone, Leads, AreLexed, texts_of}
use Rattle.c_token.proofs.Beginnings.{same_token, same_blanks, token_no_blank}

led_not_none : (at : ℕ) (u : Lexeme) (Rest : ℕ → List ℕ → Type 0) (bytes : List ℕ) → BeginsNone bytes → Leads at u Rest bytes → ⊥
led_not_none at u Rest bytes none h = false≢true (sym (none u.text (h.blanks ++ h.behind) h.whole) ∙ h.token)

pub lexed_once : (at : ℕ) (bytes : List ℕ) (ts us : List Lexeme) (m n : ℕ) → AreLexed at ts m bytes → AreLexed at us n bytes → (ts ≡ us) × (m ≡ n)
lexed_once at bytes [] [] m n h k = (refl, h.0 ∙ sym k.0)
lexed_once at bytes [] (u ∷ us) m n h k = absurd (led_not_none at u _ bytes h.1 k)
lexed_once at bytes (t ∷ ts) [] m n h k = absurd (led_not_none at t _ bytes k.1 h)
lexed_once at bytes (t ∷ ts) (u ∷ us) m n h k =
    let texts = same_token t.text u.text (h.blanks ++ h.behind) (k.blanks ++ k.behind) h.token k.token h.longest k.longest (sym h.whole ∙ k.whole) in
    let rest = same_blanks h.blanks k.blanks h.behind k.behind h.blank k.blank h.all_blanks k.all_blanks texts.1 in
    let next : at + length u.text + length k.blanks ≡ at + length t.text + length h.blanks = λ i. at + length (sym texts.0 i) + length (sym rest.0 i) in
    let moved = subst (λ x. AreLexed x us n k.behind) next k.rest in
    let more = lexed_once (at + length t.text + length h.blanks) h.behind ts us m n h.rest (subst (AreLexed (at + length t.text + length h.blanks) us n) (sym rest.1) moved) in
    let same : t ≡ u = λ i. record { offset = (h.offset ∙ sym k.offset) i; text = texts.0 i } in
    (λ i. same i ∷ more.0 i, more.1)

-- ---- tokens of a whole text

-- the tokens with their places
pub record Lexing (at : ℕ) (texts : Texts) (bytes : List ℕ) : Type 0 where
  pub lexemes : List Lexeme
  pub lexed : AreLexed at lexemes (at + length bytes) bytes
  pub same : texts_of lexemes ≡ texts

none_begins : BeginsNone []
none_begins [] behind e = refl
none_begins (x ∷ text) behind e = absurd cc

tokens_no_blank : (texts : Texts) (bytes : List ℕ) → AreTokens texts bytes → begins_blank bytes ≡ false
tokens_no_blank [] bytes h = ap begins_blank h
tokens_no_blank (text ∷ texts) bytes h =
    ap begins_blank (h.whole ∙ append_assoc text h.blanks h.behind) ∙ token_no_blank text (h.blanks ++ h.behind) h.token

pub lexing : (at : ℕ) (texts : Texts) (bytes : List ℕ) → AreTokens texts bytes → Lexing at texts bytes
lexing at [] bytes h =
    let none : length bytes ≡ 0 = ap length h in
    record { lexemes = []; lexed = (omega (arith, none), subst BeginsNone (sym h) none_begins); same = refl }
lexing at (text ∷ texts) bytes h =
    let whole : bytes ≡ text ++ (h.blanks ++ h.behind) = h.whole ∙ append_assoc text h.blanks h.behind in
    let sizes : length bytes ≡ length text + (length h.blanks + length h.behind) =
    ap length whole ∙ length-append text (h.blanks ++ h.behind) ∙ ap (λ n. length text + n) (length-append h.blanks h.behind) in
    let more = lexing (at + length text + length h.blanks) texts h.behind h.rest in
    let stop : at + length text + length h.blanks + length h.behind ≡ at + length bytes = omega (arith, sizes) in
    record {
      lexemes = record { offset = at; text = text } ∷ more.lexemes;
      lexed = record {
        blanks = h.blanks;
        behind = h.behind;
        offset = refl;
        whole = whole;
        token = h.token;
        longest = h.longest;
        blank = h.blank;
        all_blanks = tokens_no_blank texts h.behind h.rest;
        rest = subst (λ n. AreLexed (at + length text + length h.blanks) more.lexemes n h.behind) stop more.lexed;
      };
      same = ap (λ l. text ∷ l) more.same;
    }

pub one_token_list : (bytes : List ℕ) (xs ys : Texts) → AreTokens xs bytes → AreTokens ys bytes → xs ≡ ys
one_token_list bytes xs ys h k =
    let a = lexing 0 xs bytes h in
    let b = lexing 0 ys bytes k in
    sym a.same ∙ ap texts_of (lexed_once 0 bytes a.lexemes b.lexemes (0 + length bytes) (0 + length bytes) a.lexed b.lexed).0 ∙ b.same

-- the tokens of a whole text are those that are lexed
pub tokens_lexed : (bytes : List ℕ) (texts : Texts) (at : ℕ) (ts : List Lexeme) (stop : ℕ) → AreTokens texts bytes → AreLexed at ts stop bytes → (texts_of ts ≡ texts) × (stop ≡ at + length bytes)
tokens_lexed bytes texts at ts stop h k =
    let a = lexing at texts bytes h in
    let same = lexed_once at bytes ts a.lexemes stop (at + length bytes) k a.lexed in
    (ap texts_of same.0 ∙ a.same, same.1)

-- what is lexed up to the end are the tokens of the whole text
pub lexed_tokens : (at : ℕ) (bytes : List ℕ) (ts : List Lexeme) (stop : ℕ) → stop ≡ at + length bytes → AreLexed at ts stop bytes → AreTokens (texts_of ts) bytes
lexed_tokens at bytes [] stop e h = nil_from_length bytes (omega (arith, e, h.0))
lexed_tokens at bytes (t ∷ ts) stop e h =
    let sizes : length bytes ≡ length t.text + (length h.blanks + length h.behind) =
    ap length h.whole ∙ length-append t.text (h.blanks ++ h.behind) ∙ ap (λ n. length t.text + n) (length-append h.blanks h.behind) in
    record {
      blanks = h.blanks;
      behind = h.behind;
      whole = h.whole ∙ sym (append_assoc t.text h.blanks h.behind);
      token = h.token;
      longest = h.longest;
      blank = h.blank;
      rest = lexed_tokens (at + length t.text + length h.blanks) h.behind ts stop (omega (arith, e, sizes)) h.rest;
    }
