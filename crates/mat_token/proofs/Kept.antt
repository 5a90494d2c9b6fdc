-- A token list keeps what it should.
use Rattle.std.proofs.lemmas.Bool.{cases_lt}
use Rattle.std.proofs.lemmas.List.{length-drop, length-take-le, drop-drop}
use Rattle.std.specs.List.{AllByRecursion}
use Rattle.std.proofs.Common.{◌≡◌, ◌≢◌, ℕ, ◌+◌, ◌-◌, ◌≤◌, Bool, true, false, List, [], ◌∷◌, ◌++◌, length, take, drop, refl, sym, ap, ◌∙◌, subst, Option, Some, None, inl, inr, arith, ◌<◌}
use Rattle.std.specs.Prelude.{if◌then◌else◌, ◌==◌, codes}
use Rattle.fic_base.specs.declared.place.Place.{Place}
use Rattle.fic_base.specs.declared.code.Code.TheVariants.{Unclosed}
use Rattle.fic_base.specs.declared.refusal.Refusal.{Refusal}
use Rattle.fic_base.specs.Names.{IsName}
use Rattle.mat_token.specs.declared.token.Kind.{Kind}
use Rattle.mat_token.specs.declared.token.Kind.TheVariants as kind
use Rattle.mat_token.specs.declared.token.Token.{Token}
use Rattle.mat_token.specs.declared.rule.Rule.{Rule}
use Rattle.mat_token.specs.declared.rule.Rule.TheVariants.{Block, Newline, Blank, Comment, Continued, Word, Number, Words, Op}
use Rattle.mat_token.specs.declared.rule.Context.{Context}
use Rattle.mat_token.specs.Lexeme.{text_of}
use Rattle.fic_base.specs.Names.{is_keyword}
use Rattle.mat_token.specs.Rules.{rule_at, kind_of, word_kind}
use Rattle.mat_token.specs.Texts.{IsOf, IsPiece}
use Rattle.mat_token.specs.Reads.{Outcome, Gives, Refuses, Reads, Ends, Stops, GoesOn, ReadsWhole, first_context, first_place, next_place, place_after, tokens_of, token_of, preceded}
use Rattle.mat_token.specs.Brackets.{separated, with_separator, separator_at, is_separated, open_after}
use Rattle.mat_token.specs.Rules.{ends_operand}
use Rattle.mat_token.specs.Outcome.{IsOutcome, with_separators, too_long}
use Rattle.mat_token.specs.Kept.{IsNumberText, IsTokenOf, EndsOnce, AreTokensOf}
use Rattle.mat_token.proofs.Decimals.{number_text}
use Rattle.mat_token.proofs.Names.{name_text}

gives_same : (xs ys : List Token) → Gives xs ≡ Gives ys → xs ≡ ys
gives_same xs ys e = cc

never : (r : Refusal) (xs : List Token) → Gives xs ≡ Refuses r → ⊥
never r xs e = cc

offset_after : (at : Place) (text : List ℕ) → (place_after at text).offset ≡ at.offset + length text
offset_after at [] = omega arith
offset_after at (b ∷ text) = let more = offset_after (next_place at b) text in omega (arith, more)

kind_same : (j k : Kind) → Some j ≡ Some k → j ≡ k
kind_same j k e = cc

word_no_number_cases : (v : Bool) → (if v then kind.Keyword else kind.Name) ≡ kind.Number → ⊥
word_no_number_cases true e = cc
word_no_number_cases false e = cc

word_no_number : (text : List ℕ) (k : Kind) → Some (word_kind text) ≡ Some k → k ≡ kind.Number → ⊥
word_no_number text k e is = word_no_number_cases (is_keyword text) (kind_same _ _ e ∙ is)

-- only the rule of numbers gives a number
number_rule : (rule : Rule) (text : List ℕ) (k : Kind) → kind_of rule text ≡ Some k → k ≡ kind.Number → rule ≡ Number
number_rule Number text k e is = refl
number_rule Block text k e is = absurd cc
number_rule Newline text k e is = absurd cc
number_rule Blank text k e is = absurd cc
number_rule Comment text k e is = absurd cc
number_rule Continued text k e is = absurd cc
number_rule Word text k e is = absurd (word_no_number text k e is)
number_rule Words text k e is = absurd cc
number_rule Op text k e is = absurd cc

number_token : (c : Context) (s : List ℕ) (n : ℕ) (k : Kind) → IsPiece c s n → kind_of (rule_at c s) (take n s) ≡ Some k → k ≡ kind.Number → IsNumberText (take n s)
number_token c s n k p e is =
    number_text s n p.longest.within (subst (λ (r : Rule). IsOf c r s n) (number_rule (rule_at c s) (take n s) k e is) p.longest.is)

some_bytes : (s : List ℕ) → s ≢ [] → 0 < length s
some_bytes [] h = absurd (h refl)
some_bytes (b ∷ s) h = omega arith

-- the tokens of one piece
piece_kept : (bytes : List ℕ) (c : Context) (at : Place) (s : List ℕ) (n : ℕ) (o : Option Kind) →
    s ≡ drop at.offset bytes → at.offset + n ≤ length bytes → ((k : Kind) → o ≡ Some k → k ≡ kind.Number → IsNumberText (take n s)) →
    ((k : Kind) → o ≡ Some k → k ≡ kind.Name → IsName (take n s)) →
    AllByRecursion (IsTokenOf bytes) (tokens_of c at n o)
piece_kept bytes c at s n None same low number name = tt
piece_kept bytes c at s n (Some k) same low number name =
    (record { within = low; number = λ is. subst (λ (t : List ℕ). IsNumberText (take n t)) same (number k refl is); name = λ is. subst (λ (t : List ℕ). IsName (take n t)) same (name k refl is) }, tt)

all_joined : (P : Token → Type 0) (xs ys : List Token) → AllByRecursion P xs → AllByRecursion P ys → AllByRecursion P (xs ++ ys)
all_joined P [] ys h k = k
all_joined P (x ∷ xs) ys h k = (h.0, all_joined P xs ys h.1 k)

end_kept : (bytes : List ℕ) (c : Context) (at : Place) (ts : List Token) (v : Bool) → at.offset ≤ length bytes →
    Gives ts ≡ (if v then Gives (token_of c at kind.Finish 0 ∷ []) else Refuses (record { code = Unclosed; place = c.opening; shown = codes "%{" })) →
    AllByRecursion (IsTokenOf bytes) ts × EndsOnce ts
end_kept bytes c at ts true low e =
    let P : List Token → Type 0 = λ us. AllByRecursion (IsTokenOf bytes) us × EndsOnce us in
    subst P (sym (gives_same _ _ e)) ((record { within = omega (arith, low); number = λ is. absurd cc; name = λ is. absurd cc }, tt), refl)
end_kept bytes c at ts false low e = absurd (never _ _ e)

word_no_finish : (v : Bool) → (if v then kind.Keyword else kind.Name) ≡ kind.Finish → ⊥
word_no_finish true e = cc
word_no_finish false e = cc

-- a token that is not the last one before a list that ends
no_finish : (rule : Rule) (text : List ℕ) (k : Kind) → kind_of rule text ≡ Some k → k ≢ kind.Finish
no_finish Number text k e is = absurd cc
no_finish Block text k e is = absurd cc
no_finish Newline text k e is = absurd cc
no_finish Blank text k e is = absurd cc
no_finish Comment text k e is = absurd cc
no_finish Continued text k e is = absurd cc
no_finish Word text k e is = word_no_finish (is_keyword text) (kind_same _ _ e ∙ is)
no_finish Words text k e is = absurd cc
no_finish Op text k e is = absurd cc

ends_before : (t : Token) (ts : List Token) → t.kind ≢ kind.Finish → EndsOnce ts → EndsOnce (t ∷ ts)
ends_before t [] h e = absurd e
ends_before t (u ∷ us) h e = (h, e)

ends_joined : (c : Context) (at : Place) (n : ℕ) (o : Option Kind) (ts : List Token) → ((k : Kind) → o ≡ Some k → k ≢ kind.Finish) → EndsOnce ts → EndsOnce (tokens_of c at n o ++ ts)
ends_joined c at n None ts h e = e
ends_joined c at n (Some k) ts h e = ends_before (token_of c at k n) ts (h k refl) e

abbrev Kept : List ℕ → List Token → Type 0
Kept bytes ts = AllByRecursion (IsTokenOf bytes) ts × EndsOnce ts

after_kept : (bytes : List ℕ) (c : Context) (at : Place) (s : List ℕ) (n : ℕ) (ts : List Token) (rest : Outcome) →
    0 < length s → IsPiece c s n → s ≡ drop at.offset bytes → at.offset ≤ length bytes → ((us : List Token) → rest ≡ Gives us → Kept bytes us) →
    Gives ts ≡ preceded (tokens_of c at n (kind_of (rule_at c s) (take n s))) rest → Kept bytes ts
after_kept bytes c at s n ts (Refuses r) some p same low kept e = absurd (never r ts e)
after_kept bytes c at s n ts (Gives us) some p same low kept e =
    let size : length s ≡ length bytes - at.offset = ap length same ∙ length-drop at.offset bytes in
    let more = kept us refl in
    let P : List Token → Type 0 = λ xs. Kept bytes xs in
    subst P (sym (gives_same _ _ e)) (
      all_joined (IsTokenOf bytes) (tokens_of c at n (kind_of (rule_at c s) (take n s))) us
          (piece_kept bytes c at s n (kind_of (rule_at c s) (take n s)) same (omega (arith, size, low, p.longest.within)) (λ k. number_token c s n k p) (λ k. name_text c s n k some p)) more.0,
      ends_joined c at n (kind_of (rule_at c s) (take n s)) us (no_finish (rule_at c s) (take n s)) more.1,
    )

rest_is : (bytes : List ℕ) (at : Place) (s : List ℕ) (n : ℕ) → n ≤ length s → s ≡ drop at.offset bytes → drop n s ≡ drop (place_after at (take n s)).offset bytes
rest_is bytes at s n within same =
    let off : (place_after at (take n s)).offset ≡ at.offset + n = offset_after at (take n s) ∙ ap (λ (j : ℕ). at.offset + j) (length-take-le n s within) in
    ap (drop n) same ∙ drop-drop n at.offset bytes ∙ ap (λ (j : ℕ). drop j bytes) (sym off)

rest_low : (bytes : List ℕ) (at : Place) (s : List ℕ) (n : ℕ) → n ≤ length s → s ≡ drop at.offset bytes → at.offset ≤ length bytes → (place_after at (take n s)).offset ≤ length bytes
rest_low bytes at s n within same low =
    let off = offset_after at (take n s) in
    let size : length s ≡ length bytes - at.offset = ap length same ∙ length-drop at.offset bytes in
    omega (arith, off, size, length-take-le n s within, within, low)

read_kept : (bytes : List ℕ) (c : Context) (at : Place) (s : List ℕ) (o : Outcome) → Reads c at s o → s ≡ drop at.offset bytes → at.offset ≤ length bytes →
    (ts : List Token) → o ≡ Gives ts → Kept bytes ts
read_kept bytes c at s o (Ends c1 at1 s1 o1 empty is) same low ts e = end_kept bytes c at ts (c.depth == 0) low (sym e ∙ is)
read_kept bytes c at s o (Stops c1 at1 s1 o1 full none is) same low ts e = absurd (never _ ts (sym e ∙ is))
read_kept bytes c at s o (GoesOn c1 at1 s1 o1 n rest full p goes is) same low ts e =
    after_kept bytes c at s n ts rest (some_bytes s full) p same low
    (read_kept bytes _ _ _ rest goes (rest_is bytes at s n p.longest.within same) (rest_low bytes at s n p.longest.within same low))
    (sym e ∙ is)

with_separator_kept : (bytes : List ℕ) (v : Bool) (t : Token) → IsTokenOf bytes t → AllByRecursion (IsTokenOf bytes) (with_separator v t)
with_separator_kept bytes true t h = (record { within = omega (arith, h.within); number = λ is. absurd cc; name = λ is. absurd cc }, (h, tt))
with_separator_kept bytes false t h = (h, tt)

separated_kept : (bytes brackets : List ℕ) (operand : Bool) (ts : List Token) → AllByRecursion (IsTokenOf bytes) ts → AllByRecursion (IsTokenOf bytes) (separated bytes brackets operand ts)
separated_kept bytes brackets operand [] h = tt
separated_kept bytes brackets operand (t ∷ ts) h =
    all_joined (IsTokenOf bytes) (with_separator (is_separated bytes brackets operand t) t) _ (with_separator_kept bytes (is_separated bytes brackets operand t) t h.0)
    (separated_kept bytes (open_after brackets (text_of bytes t)) (ends_operand t.kind (text_of bytes t)) ts h.1)

no_separator : (at : Place) → (separator_at at).kind ≢ kind.Finish
no_separator at e = cc

last_ends : (v : Bool) (t : Token) → t.kind ≡ kind.Finish → EndsOnce (with_separator v t ++ [])
last_ends true t h = (no_separator t.place, h)
last_ends false t h = h

before_ends : (v : Bool) (t : Token) (ts : List Token) → t.kind ≢ kind.Finish → EndsOnce ts → EndsOnce (with_separator v t ++ ts)
before_ends true t ts h e = (no_separator t.place, ends_before t ts h e)
before_ends false t ts h e = ends_before t ts h e

separated_ends : (bytes brackets : List ℕ) (operand : Bool) (ts : List Token) → EndsOnce ts → EndsOnce (separated bytes brackets operand ts)
separated_ends bytes brackets operand [] e = e
separated_ends bytes brackets operand (t ∷ []) e = last_ends (is_separated bytes brackets operand t) t e
separated_ends bytes brackets operand (t ∷ u ∷ ts) e =
    before_ends (is_separated bytes brackets operand t) t _ e.0
    (separated_ends bytes (open_after brackets (text_of bytes t)) (ends_operand t.kind (text_of bytes t)) (u ∷ ts) e.1)

whole_kept : (bytes : List ℕ) (ts : List Token) (raw : Outcome) → ReadsWhole bytes raw → Gives ts ≡ with_separators bytes raw → Kept bytes ts
whole_kept bytes ts (Refuses r) reads e = absurd (never r ts e)
whole_kept bytes ts (Gives us) reads e =
    let kept = read_kept bytes first_context first_place bytes (Gives us) reads refl (omega arith) us refl in
    let P : List Token → Type 0 = λ xs. Kept bytes xs in
    subst P (sym (gives_same _ _ e)) (separated_kept bytes [] false us kept.0, separated_ends bytes [] false us kept.1)

pub tokens_kept : (bytes : List ℕ) (ts : List Token) → IsOutcome bytes (Gives ts) → AreTokensOf bytes ts
tokens_kept bytes ts h =
    let short : length bytes ≤ 1048576 = elim (cases_lt 1048576 (length bytes)) as (λ _. length bytes ≤ 1048576) [ inl long ↦ absurd (never too_long ts (h.long long)) | inr le ↦ le ] in
    let raw = h.short short in
    let kept = whole_kept bytes ts raw.0 raw.1 raw.2 in
    record { short = short; each = kept.0; finish = kept.1 }
