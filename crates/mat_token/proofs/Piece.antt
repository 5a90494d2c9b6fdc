-- The computed length is that of the piece that comes first, and there is none where none is computed.
use Rattle.std.proofs.lemmas.Bool.{false≢true}
use Rattle.std.proofs.lemmas.Bool.Decides.{nat_tests, Decides-eqb}
use Rattle.std.proofs.Common.{◌≡◌, ◌≢◌, ℕ, ◌<◌, ◌≤◌, Bool, true, false, List, length, refl, sym, subst, inl, inr, Some, None, arith}
use Rattle.std.specs.Prelude.{if◌then◌else◌, ◌==◌, not, ◌&&◌, ◌||◌, nat_lt, slice_index}
use Rattle.mat_token.specs.declared.rule.Rule.{Rule}
use Rattle.mat_token.specs.declared.rule.Rule.TheVariants.{Block, Newline, Blank, Comment, Continued, Word, Number, Words, Op}
use Rattle.mat_token.specs.declared.rule.Context.{Context}
use Rattle.mat_token.specs.Bytes.{is_digit, is_letter, starts_blank, starts_dots, starts_mark}
use Rattle.mat_token.specs.Pieces.{word_len, name_len, piece_len}
use Rattle.mat_token.specs.Rules.{rule_at, rule_of_token, rule_of_comment}
use Rattle.mat_token.specs.Texts.{Longest, IsPiece}
use Rattle.mat_token.proofs.Longest.{comment_longest, word_longest, continued_longest, block_longest, operator_longest, operator_none, text_longest, text_none, some_is, none_some}
use Rattle.mat_token.proofs.Numbers.{StartsNumber, both, number_longest}

-- what the first bytes of some rules are known to be
abbrev Begins : List ℕ → Rule → Type 0
Begins s Number = StartsNumber s
Begins s Words = slice_index s 0 ≢ 0
Begins s Word = is_letter (slice_index s 0) ≡ true
Begins s _ = Unit {0}

chosen : (P : Rule → Type 0) (v : Bool) (x y : Rule) → (v ≡ true → P x) → (v ≡ false → P y) → P (if v then x else y)
chosen P true x y f g = f refl
chosen P false x y f g = g refl

starts_cases : (s : List ℕ) (v : Bool) → is_digit (slice_index s 0) ≡ v → (v || (slice_index s 0 == 46 && is_digit (slice_index s 1))) ≡ true → StartsNumber s
starts_cases s true e h = inl e
starts_cases s false e h =
    let parts = both (slice_index s 0 == 46) (is_digit (slice_index s 1)) h in
    inr (e, (Decides-eqb (slice_index s 0) 46).0 parts.0, parts.1)

quote_there : (s : List ℕ) (operand : Bool) → (slice_index s 0 == 34 || (slice_index s 0 == 39 && not operand)) ≡ true → slice_index s 0 ≢ 0
quote_there s operand h zero = false≢true (subst (λ (b : ℕ). (b == 34 || (b == 39 && not operand)) ≡ true) zero h)

begins_token : (c : Context) (s : List ℕ) → Begins s (rule_of_token c s)
begins_token c s =
    chosen (Begins s) (is_letter (slice_index s 0)) Word _ (λ e. e) (λ _.
    chosen (Begins s) (is_digit (slice_index s 0) || (slice_index s 0 == 46 && is_digit (slice_index s 1))) Number _ (starts_cases s _ refl) (λ _.
    chosen (Begins s) (slice_index s 0 == 34 || (slice_index s 0 == 39 && not c.operand)) Words Op (quote_there s c.operand) (λ _. tt)))

-- the rules from the last one up
abbrev from_dots : Context → List ℕ → Rule
from_dots c s = if starts_dots s then Continued else rule_of_token c s

abbrev from_comment : Context → List ℕ → Rule
from_comment c s = if slice_index s 0 == 37 then rule_of_comment c s else from_dots c s

abbrev from_blank : Context → List ℕ → Rule
from_blank c s = if starts_blank s then Blank else from_comment c s

abbrev from_newline : Context → List ℕ → Rule
from_newline c s = if slice_index s 0 == 10 then Newline else from_blank c s

begins : (c : Context) (s : List ℕ) → Begins s (rule_at c s)
begins c s =
    chosen (Begins s) (nat_lt 0 c.depth) Block (from_newline c s) (λ _. tt) (λ _.
    chosen (Begins s) (slice_index s 0 == 10) Newline (from_blank c s) (λ _. tt) (λ _.
    chosen (Begins s) (starts_blank s) Blank (from_comment c s) (λ _. tt) (λ _.
    chosen (Begins s) (slice_index s 0 == 37) (rule_of_comment c s) (from_dots c s)
    (λ _. chosen (Begins s) (c.fresh && starts_mark 123 s) Block Comment (λ _. tt) (λ _. tt)) (λ _.
    chosen (Begins s) (starts_dots s) Continued (rule_of_token c s) (λ _. tt) (λ _. begins_token c s)))))

pub word_begins : (c : Context) (s : List ℕ) → rule_at c s ≡ Word → is_letter (slice_index s 0) ≡ true
word_begins c s e = subst (Begins s) e (begins c s)

one_byte : (c : Context) (s : List ℕ) (n : ℕ) → n ≤ length s → Some 1 ≡ Some n → Longest c Newline s n
one_byte c s n within e = record { within = within; is = some_is 1 n (Some 1) refl e; most = λ m fits is. omega (arith, is, some_is 1 n (Some 1) refl e) }

one_blank : (c : Context) (s : List ℕ) (n : ℕ) → n ≤ length s → Some 1 ≡ Some n → Longest c Blank s n
one_blank c s n within e = record { within = within; is = some_is 1 n (Some 1) refl e; most = λ m fits is. omega (arith, is, some_is 1 n (Some 1) refl e) }

moved : (c : Context) (rule : Rule) (s : List ℕ) (m n : ℕ) → Some m ≡ Some n → Longest c rule s m → Longest c rule s n
moved c rule s m n e h = subst (Longest c rule s) (sym (some_is m n (Some m) refl e)) h

-- a name that is not too long
name_is : (s : List ℕ) (n : ℕ) → name_len s ≡ Some n → (n ≡ word_len s) × (n ≤ 63)
name_is s n h =
    elim (nat_lt 63 (word_len s)) as (λ v. nat_lt 63 (word_len s) ≡ v → (if v then None else Some (word_len s)) ≡ Some n → (n ≡ word_len s) × (n ≤ 63)) [
      | true ↦ λ e k. absurd (none_some n None refl k)
      | false ↦ λ e k. let same = some_is (word_len s) n (Some (word_len s)) refl k in let low : word_len s ≤ 63 = grind (arith, nat_tests) in (same, omega (arith, same, low))
    ] refl h

name_none : (s : List ℕ) → name_len s ≡ None → 63 < word_len s
name_none s h =
    elim (nat_lt 63 (word_len s)) as (λ v. nat_lt 63 (word_len s) ≡ v → (if v then None else Some (word_len s)) ≡ None → 63 < word_len s) [
      | true ↦ λ e k. grind (arith, nat_tests)
      | false ↦ λ e k. absurd (none_some (word_len s) (Some (word_len s)) k refl)
    ] refl h

longest : (c : Context) (s : List ℕ) (n : ℕ) (rule : Rule) → 0 < length s → n ≤ length s → Begins s rule → piece_len c rule s ≡ Some n → Longest c rule s n
longest c s n Block some within b e = moved c Block s _ n e (block_longest c s some)
longest c s n Newline some within b e = one_byte c s n within e
longest c s n Blank some within b e = one_blank c s n within e
longest c s n Comment some within b e = moved c Comment s _ n e (comment_longest c s some)
longest c s n Continued some within b e = moved c Continued s _ n e (continued_longest c s)
longest c s n Word some within b e = subst (Longest c Word s) (sym (name_is s n e).0) (word_longest c s some)
longest c s n Number some within b e =
    moved c Number s _ n e (number_longest c s b (let same = some_is _ n _ refl e in omega (arith, same, within)))
longest c s n Words some within b e = text_longest c s n b within e
longest c s n Op some within b e = operator_longest c s n within e

short_name : (c : Context) (s : List ℕ) (n : ℕ) (rule : Rule) → piece_len c rule s ≡ Some n → rule ≡ Word → n ≤ 63
short_name c s n rule e is = (name_is s n (subst (λ (r : Rule). piece_len c r s ≡ Some n) is e)).1

pub piece : (c : Context) (s : List ℕ) (n : ℕ) → 0 < length s → n ≤ length s → piece_len c (rule_at c s) s ≡ Some n → IsPiece c s n
piece c s n some within e = record { longest = longest c s n (rule_at c s) some within (begins c s) e; name = short_name c s n (rule_at c s) e }

none : (c : Context) (s : List ℕ) (n : ℕ) (rule : Rule) → 0 < length s → Begins s rule → piece_len c rule s ≡ None →
    Longest c rule s n → (rule ≡ Word → n ≤ 63) → ⊥
none c s n Block some b e h short = none_some _ _ e refl
none c s n Newline some b e h short = none_some _ _ e refl
none c s n Blank some b e h short = none_some _ _ e refl
none c s n Comment some b e h short = none_some _ _ e refl
none c s n Continued some b e h short = none_some _ _ e refl
none c s n Word some b e h short =
    let w = word_longest c s some in
    absurd (omega (arith, name_none s e, h.most (word_len s) w.within w.is, short refl))
none c s n Number some b e h short = none_some _ _ e refl
none c s n Words some b e h short = text_none s n b e h.is
none c s n Op some b e h short = operator_none c s n e h.is

pub no_piece : (c : Context) (s : List ℕ) → 0 < length s → piece_len c (rule_at c s) s ≡ None → (n : ℕ) → IsPiece c s n → ⊥
no_piece c s some e n h = none c s n (rule_at c s) some (begins c s) e h.longest h.name

pub piece_once : (c : Context) (s : List ℕ) (m n : ℕ) → IsPiece c s m → IsPiece c s n → m ≡ n
piece_once c s m n h k =
    omega (arith, h.longest.most n k.longest.within k.longest.is, k.longest.most m h.longest.within h.longest.is)
