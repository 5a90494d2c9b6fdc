-- One token after another.
use Rattle.std.proofs.Common.{◌≡◌, ℕ, ◌+◌, ◌<◌, false, List, [], ◌∷◌, ◌++◌, length, take, drop, refl, sym, ap, ◌∙◌, subst, append_assoc, append-nil, arith}
use Rattle.std.specs.List.{prefix_len}
use Rattle.std.proofs.lemmas.List.{take-append-drop, drop-drop, length-take-le, map_push}
use Rattle.c_tree.specs.CText.{is_blank, IsLongest}
use Rattle.c_token.specs.declared.scan.CToken.{CToken}
use Rattle.c_token.specs.Scan.{Lexeme, begins_blank, AreLexed, IsLength, lexeme_of, lexemes_of}
use Rattle.c_token.proofs.Lengths.{Stops, IsRun, run}

no_blank : (s : List ℕ) → Stops is_blank s → begins_blank s ≡ false
no_blank [] h = refl
no_blank (b ∷ s) h = h

led : (at len n : ℕ) (x y z : List ℕ) (ts : List Lexeme) (stop : ℕ) → y ≡ drop len x → z ≡ drop n y → IsLength len x → 0 < len → n ≡ prefix_len is_blank y →
    AreLexed (at + len + n) ts stop z → AreLexed at (record { offset = at; text = take len x } ∷ ts) stop x
led at len n x y z ts stop ey ez h some is more =
    let r = subst (λ k. IsRun is_blank k y) (sym is) (run is_blank y) in
    let behind : take n y ++ drop n y ≡ drop len x = take-append-drop n y ∙ ey in
    let size : at + len + n ≡ at + length (take len x) + length (take n y) = omega (arith, length-take-le len x h.within, length-take-le n y r.within) in
    record {
      blanks = take n y;
      behind = drop n y;
      offset = refl;
      whole = sym (take-append-drop len x) ∙ ap (λ l. take len x ++ l) (sym behind);
      token = h.token some;
      longest = subst (IsLongest (take len x)) (sym behind) (h.longest some);
      blank = r.passes;
      all_blanks = no_blank (drop n y) r.stops;
      rest = subst (λ k. AreLexed k ts stop (drop n y)) size (subst (AreLexed (at + len + n) ts stop) ez more);
    }

-- tokens so far, and what the rest gives
abbrev pub Joins : List ℕ → List CToken → ℕ → Type 0
Joins bytes items at = (ts : List Lexeme) (stop : ℕ) → AreLexed at ts stop (drop at bytes) → AreLexed 0 (lexemes_of bytes items ++ ts) stop bytes

pub went : (bytes : List ℕ) (at len n next : ℕ) (items more : List CToken) (t : CToken) → t.offset ≡ at → t.len ≡ len → more ≡ items ++ t ∷ [] → IsLength len (drop at bytes) → 0 < len →
    n ≡ prefix_len is_blank (drop (at + len) bytes) → next ≡ at + len + n → Joins bytes items at → Joins bytes more next
went bytes at len n next items more t is_at is_len is_more h some is is_next joins ts stop goes =
    let x = drop at bytes in
    let y = drop (at + len) bytes in
    let lexeme : Lexeme = record { offset = at; text = take len x } in
    let same : lexeme_of bytes t ≡ lexeme = λ i. record { offset = is_at i; text = take (is_len i) (drop (is_at i) bytes) } in
    let one : AreLexed at (lexeme ∷ ts) stop x =
    led at len n x y (drop next bytes) ts stop (sym (drop-drop len at bytes)) (ap (λ k. drop k bytes) is_next ∙ sym (drop-drop n (at + len) bytes)) h some is
    (subst (λ k. AreLexed k ts stop (drop next bytes)) is_next goes) in
    let listed : lexemes_of bytes items ++ lexeme ∷ ts ≡ lexemes_of bytes more ++ ts =
    ap (λ l. lexemes_of bytes items ++ l ∷ ts) (sym same) ∙ sym (append_assoc (lexemes_of bytes items) (lexeme_of bytes t ∷ []) ts)
    ∙ ap (λ l. l ++ ts) (sym (map_push (lexeme_of bytes) items t)) ∙ ap (λ l. lexemes_of bytes l ++ ts) (sym is_more) in
    subst (λ l. AreLexed 0 l stop bytes) listed (joins (lexeme ∷ ts) stop one)

pub ended : (bytes : List ℕ) (at len : ℕ) (items : List CToken) → len ≡ 0 → IsLength len (drop at bytes) → Joins bytes items at → AreLexed 0 (lexemes_of bytes items) at bytes
ended bytes at len items none h joins =
    subst (λ l. AreLexed 0 l at bytes) (append-nil (lexemes_of bytes items)) (joins [] at (refl, h.none none))

pub started : (bytes : List ℕ) → Joins bytes [] 0
started bytes ts stop goes = goes
