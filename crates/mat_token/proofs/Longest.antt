-- Each computed length is that of the longest text of its rule.
use Rattle.std.proofs.lemmas.Bool.{false≢true}
use Rattle.std.proofs.lemmas.Bool.Decides.{Decides-eqb}
use Rattle.std.proofs.Common.{◌≡◌, ◌≢◌, ℕ, ◌+◌, ◌-◌, ◌<◌, ◌≤◌, Bool, true, false, eqb, List, [], ◌∷◌, length, drop, refl, sym, ap, ◌∙◌, subst, ◌⊎◌, inl, inr, Option, Some, None, arith, zero-add}
use Rattle.std.specs.Prelude.{if◌then◌else◌, option_map, slice_index}
use Rattle.mat_token.specs.declared.rule.Rule.TheVariants.{Block, Comment, Continued, Word, Words, Op}
use Rattle.mat_token.specs.declared.rule.Context.{Context}
use Rattle.mat_token.specs.Bytes.{is_name_byte, is_line_byte, is_printable}
use Rattle.mat_token.specs.Pieces.{line_len, full_line_len, comment_len, word_len, block_len, closing_len, text_len, operator_len}
use Rattle.mat_token.specs.Rules.{depth_after}
use Rattle.mat_token.specs.Texts.{is_operator, is_long_operator, AllPassIn, BlockTo, Last, More, ClosesTo, Closed, Doubled, Inside, TextTo, OperatorTo, Short, Long, Longest}
use Rattle.mat_token.proofs.Runs.{run_end, run_all, run_most, run_most_within, run_within}

pub some_is : (m n : ℕ) (o : Option ℕ) → o ≡ Some m → o ≡ Some n → n ≡ m
some_is m n o h k = cc

pub none_some : (n : ℕ) (o : Option ℕ) → o ≡ None → o ≡ Some n → ⊥
none_some n o h k = cc

mapped : (o : Option ℕ) (j n : ℕ) → option_map (λ i. j + i) o ≡ Some n → (k : ℕ) × (o ≡ Some k) × (n ≡ j + k)
mapped (Some k) j n h = (k, refl, some_is (j + k) n (Some n) (sym h) refl)
mapped None j n h = absurd (none_some n None refl h)

pub comment_longest : (c : Context) (s : List ℕ) → 0 < length s → Longest c Comment s (comment_len s)
comment_longest c s some = record {
  within = run_within is_line_byte s 1 some;
  is = run_all is_line_byte s 1;
  most = run_most_within is_line_byte s 1;
}

pub word_longest : (c : Context) (s : List ℕ) → 0 < length s → Longest c Word s (word_len s)
word_longest c s some = record {
  within = run_within is_name_byte s 1 some;
  is = run_all is_name_byte s 1;
  most = λ m within all. run_most is_name_byte s 1 m refl all;
}

first_run : (s : List ℕ) → run_end is_line_byte s 0 ≡ line_len s
first_run s = zero-add (line_len s)

full_within : (s : List ℕ) → full_line_len s ≤ length s
full_within s = omega arith

full_is : (s : List ℕ) → AllPassIn is_line_byte s 0 (full_line_len s - 1)
full_is s k from to = run_all is_line_byte s 0 k from (omega (arith, first_run s))

full_most : (s : List ℕ) (m : ℕ) → m ≤ length s → AllPassIn is_line_byte s 0 (m - 1) → m ≤ full_line_len s
full_most s m within all =
    let h : m - 1 ≤ run_end is_line_byte s 0 = run_most_within is_line_byte s 0 (m - 1) (omega arith) all in
    omega (arith, h, first_run s)

pub continued_longest : (c : Context) (s : List ℕ) → Longest c Continued s (full_line_len s)
continued_longest c s = record { within = full_within s; is = full_is s; most = full_most s }

block_most_last : (depth : ℕ) (s : List ℕ) (m : ℕ) → depth_after depth s ≡ 0 → m ≤ length s → BlockTo depth s m → m ≤ comment_len s
block_most_last depth s m zero within (Last e all) = run_most_within is_line_byte s 1 m within all
block_most_last depth s m zero within (More ne all) = absurd (ne zero)

block_most_more : (depth : ℕ) (s : List ℕ) (m : ℕ) → depth_after depth s ≢ 0 → m ≤ length s → BlockTo depth s m → m ≤ full_line_len s
block_most_more depth s m more within (Last e all) = absurd (more e)
block_most_more depth s m more within (More ne all) = full_most s m within all

no_zero : (n : ℕ) → eqb n 0 ≡ false → n ≢ 0
no_zero n h e = false≢true (sym h ∙ (Decides-eqb n 0).1 e)

pub block_longest : (c : Context) (s : List ℕ) → 0 < length s → Longest c Block s (block_len c.depth s)
block_longest c s some =
    elim (eqb (depth_after c.depth s) 0) as (λ v. eqb (depth_after c.depth s) 0 ≡ v → Longest c Block s (if v then comment_len s else full_line_len s)) [
      | true ↦ λ e. record {
        within = run_within is_line_byte s 1 some;
        is = Last ((Decides-eqb (depth_after c.depth s) 0).0 e) (run_all is_line_byte s 1);
        most = λ m. block_most_last c.depth s m ((Decides-eqb (depth_after c.depth s) 0).0 e);
      }
      | false ↦ λ e. record {
        within = full_within s;
        is = More (no_zero _ e) (full_is s);
        most = λ m. block_most_more c.depth s m (no_zero _ e);
      }
    ] refl

short_most : (s : List ℕ) (m : ℕ) → is_long_operator (slice_index s 0) (slice_index s 1) ≡ false → OperatorTo s m → m ≤ 1
short_most s m isnt (Short is e) = omega (arith, e)
short_most s m isnt (Long is e) = absurd (false≢true (sym isnt ∙ is))

long_most : (s : List ℕ) (m : ℕ) → OperatorTo s m → m ≤ 2
long_most s m (Short is e) = omega (arith, e)
long_most s m (Long is e) = omega (arith, e)

no_operator : (s : List ℕ) (m : ℕ) → is_long_operator (slice_index s 0) (slice_index s 1) ≡ false → is_operator (slice_index s 0) ≡ false → OperatorTo s m → ⊥
no_operator s m isnt none (Short is e) = false≢true (sym none ∙ is)
no_operator s m isnt none (Long is e) = false≢true (sym isnt ∙ is)

operator_at : Bool → Bool → Option ℕ
operator_at long short = if long then Some 2 else (if short then Some 1 else None)

abbrev operator_claim : Context → List ℕ → Option ℕ → Type 0
operator_claim c s None = (m : ℕ) → OperatorTo s m → ⊥
operator_claim c s (Some n) = n ≤ length s → Longest c Op s n

operator_cases : (c : Context) (s : List ℕ) (long short : Bool) → is_long_operator (slice_index s 0) (slice_index s 1) ≡ long → is_operator (slice_index s 0) ≡ short →
    operator_claim c s (operator_at long short)
unfolding operator_at
operator_cases c s true short is_long is_short = λ within. record { within = within; is = Long is_long refl; most = λ m fits. long_most s m }
operator_cases c s false true is_long is_short = λ within. record { within = within; is = Short is_short refl; most = λ m fits. short_most s m is_long }
operator_cases c s false false is_long is_short = λ m. no_operator s m is_long is_short

operator_all : (c : Context) (s : List ℕ) → operator_claim c s (operator_len s)
unfolding operator_at
operator_all c s = operator_cases c s _ _ refl refl

pub operator_longest : (c : Context) (s : List ℕ) (n : ℕ) → n ≤ length s → operator_len s ≡ Some n → Longest c Op s n
operator_longest c s n within e = subst (operator_claim c s) e (operator_all c s) within

pub operator_none : (c : Context) (s : List ℕ) (m : ℕ) → operator_len s ≡ None → OperatorTo s m → ⊥
operator_none c s m e = subst (operator_claim c s) e (operator_all c s) m

-- what the rest of a text is where a quote stands before it
abbrev Half : ℕ → List ℕ → ℕ → Type 0
Half quote s n = ((n ≡ 0) × (slice_index s 0 ≢ quote)) ⊎ ((m : ℕ) × (n ≡ 1 + m) × (slice_index s 0 ≡ quote) × ClosesTo quote (drop 1 s) m)

abbrev Sound : ℕ → List ℕ → Type 0
Sound quote s = ((n : ℕ) → closing_len quote false s ≡ Some n → ClosesTo quote s n) × ((n : ℕ) → closing_len quote true s ≡ Some n → Half quote s n)

differs : (b q : ℕ) → eqb b q ≡ false → b ≢ q
differs b q h e = false≢true (sym h ∙ (Decides-eqb b q).1 e)

from_half : (quote b : ℕ) (s : List ℕ) (n k : ℕ) → b ≡ quote → n ≡ 1 + k → Half quote s k → ClosesTo quote (b ∷ s) n
from_half quote b s n k first is (inl h) = Closed (b ∷ s) n first h.1 (omega (arith, h.0, is))
from_half quote b s n k first is (inr h) = Doubled (b ∷ s) n h.0 first h.2 h.3 (omega (arith, h.1, is))

inside_sound : (quote b : ℕ) (s : List ℕ) (n : ℕ) (v : Bool) → b ≢ quote → is_printable b ≡ v → ((k : ℕ) → closing_len quote false s ≡ Some k → ClosesTo quote s k) →
    (if v then option_map (λ i. 1 + i) (closing_len quote false s) else None) ≡ Some n → ClosesTo quote (b ∷ s) n
inside_sound quote b s n true other plain more h =
    let k = mapped (closing_len quote false s) 1 n h in
    Inside (b ∷ s) n k.0 other plain (more k.0 k.1) k.2
inside_sound quote b s n false other plain more h = absurd (none_some n None refl h)

sound_cases : (quote b : ℕ) (s : List ℕ) (v : Bool) → eqb b quote ≡ v → Sound quote s →
    ((n : ℕ) → (if v then option_map (λ i. 1 + i) (closing_len quote true s) else (if is_printable b then option_map (λ i. 1 + i) (closing_len quote false s) else None)) ≡ Some n → ClosesTo quote (b ∷ s) n)
    × ((n : ℕ) → (if v then option_map (λ i. 1 + i) (closing_len quote false s) else Some 0) ≡ Some n → Half quote (b ∷ s) n)
sound_cases quote b s true e more = (
  λ n h. let k = mapped (closing_len quote true s) 1 n h in from_half quote b s n k.0 ((Decides-eqb b quote).0 e) k.2 (more.1 k.0 k.1),
  λ n h. let k = mapped (closing_len quote false s) 1 n h in inr (k.0, k.2, (Decides-eqb b quote).0 e, more.0 k.0 k.1),
)
sound_cases quote b s false e more = (
  λ n h. inside_sound quote b s n _ (differs b quote e) refl more.0 h,
  λ n h. inl (some_is 0 n (Some 0) refl h, differs b quote e),
)

closing_sound : (quote : ℕ) → quote ≢ 0 → (s : List ℕ) → Sound quote s
closing_sound quote nz [] = (λ n h. absurd (none_some n None refl h), λ n h. inl (some_is 0 n (Some 0) refl h, λ e. nz (sym e)))
closing_sound quote nz (b ∷ s) = sound_cases quote b s _ refl (closing_sound quote nz s)

half_closed : (quote : ℕ) (s : List ℕ) → slice_index s 0 ≢ quote → closing_len quote true s ≡ Some 0
half_closed quote [] h = refl
half_closed quote (b ∷ s) h =
    elim (eqb b quote) as (λ v. eqb b quote ≡ v → (if v then option_map (λ i. 1 + i) (closing_len quote false s) else Some 0) ≡ Some 0) [
      | true ↦ λ e. absurd (h ((Decides-eqb b quote).0 e))
      | false ↦ λ e. refl
    ] refl

at_quote : (quote b : ℕ) (x y : Option ℕ) → b ≡ quote → (if eqb b quote then x else y) ≡ x
at_quote quote b x y e = ap (λ (v : Bool). if v then x else y) ((Decides-eqb b quote).1 e)

no_quote : (quote b : ℕ) → b ≢ quote → eqb b quote ≡ false
no_quote quote b h =
    elim (eqb b quote) as (λ v. eqb b quote ≡ v → v ≡ false) [ true ↦ λ e. absurd (h ((Decides-eqb b quote).0 e)) | false ↦ λ e. refl ] refl

closing_complete : (quote : ℕ) → quote ≢ 0 → (s : List ℕ) (m : ℕ) → ClosesTo quote s m → closing_len quote false s ≡ Some m
closing_complete quote nz [] m (Closed s2 to2 first next is) = absurd (nz (sym first))
closing_complete quote nz [] m (Doubled s2 to2 more first next rest is) = absurd (nz (sym first))
closing_complete quote nz [] m (Inside s2 to2 more first plain rest is) = absurd (false≢true plain)
closing_complete quote nz (b ∷ s) m (Closed s2 to2 first next is) =
    at_quote quote b _ _ first ∙ ap (option_map (λ i. 1 + i)) (half_closed quote s next) ∙ ap Some (sym is)
closing_complete quote nz (b ∷ []) m (Doubled s2 to2 more first next rest is) = absurd (nz (sym next))
closing_complete quote nz (b ∷ d ∷ s) m (Doubled s2 to2 more first next rest is) =
    at_quote quote b _ _ first
    ∙ ap (option_map (λ i. 1 + i)) (at_quote quote d _ _ next ∙ ap (option_map (λ i. 1 + i)) (closing_complete quote nz s more rest))
    ∙ ap Some (omega (arith, is))
closing_complete quote nz (b ∷ s) m (Inside s2 to2 more first plain rest is) =
    ap (λ (v : Bool). if v then option_map (λ i. 1 + i) (closing_len quote true s) else (if is_printable b then option_map (λ i. 1 + i) (closing_len quote false s) else None)) (no_quote quote b first)
    ∙ ap (λ (v : Bool). if v then option_map (λ i. 1 + i) (closing_len quote false s) else None) plain
    ∙ ap (option_map (λ i. 1 + i)) (closing_complete quote nz s more rest) ∙ ap Some (sym is)

text_complete : (s : List ℕ) → slice_index s 0 ≢ 0 → (m : ℕ) → TextTo s m → text_len s ≡ Some m
text_complete s nz m t =
    ap (option_map (λ i. 1 + i)) (closing_complete (slice_index s 0) nz (drop 1 s) t.0 t.1) ∙ ap Some (sym t.2)

pub text_longest : (c : Context) (s : List ℕ) (n : ℕ) → slice_index s 0 ≢ 0 → n ≤ length s → text_len s ≡ Some n → Longest c Words s n
text_longest c s n nz within e =
    let k = mapped (closing_len (slice_index s 0) false (drop 1 s)) 1 n e in
    record {
      within = within;
      is = (k.0, (closing_sound (slice_index s 0) nz (drop 1 s)).0 k.0 k.1, k.2);
      most = λ m fits t. let same : m ≡ n = some_is n m (text_len s) e (text_complete s nz m t) in omega (arith, same);
    }

pub text_none : (s : List ℕ) (m : ℕ) → slice_index s 0 ≢ 0 → text_len s ≡ None → TextTo s m → ⊥
text_none s m nz e t = none_some m (text_len s) e (text_complete s nz m t)
