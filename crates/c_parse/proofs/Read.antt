-- Reading words with the machine: their program, or where they are refused.
use Rattle.std.proofs.Common.{◌≡◌, ◌≢◌, ℕ, suc, ◌+◌, ◌<◌, ◌≤◌, [], ◌∷◌, ◌++◌, take, drop, length, get_or, arith, refl, ap, sym, ◌∙◌, subst, Some, None}
use Rattle.std.specs.Prelude.{◌↔◌}
use Rattle.std.proofs.Math.Seq.{drop-cons}
use Rattle.std.proofs.lemmas.List.{take_more, take_all, take-append-drop}
use Rattle.num_type.specs.declared.memory.Stop.{Stop}
use Rattle.num_type.specs.declared.memory.Stop.TheVariants as stop
use Rattle.c_tree.specs.declared.array_names.Arrays.{Arrays}
use Rattle.c_tree.specs.Tree.{Signature, Program}
use Rattle.c_tree.specs.WellFormed.{IsInterface}
use Rattle.c_grammar.specs.declared.word.CWordToken.{CWordToken}
use Rattle.c_grammar.specs.declared.word.CWordToken.TheVariants as word
use Rattle.c_grammar.specs.Sentence.{Words}
use Rattle.c_grammar.specs.Live.{IsSentence, IsLive, IsRefused}
use Rattle.c_grammar.specs.Words.{parameters_of}
use Rattle.c_grammar.specs.Machine.{Past, State, Fixed, Whole, Stuck, owe, made, step, steps, start, state, finish}
use Rattle.c_parse.specs.declared.bad.BadWord.{BadWord}
use Rattle.c_parse.specs.Refused.{RefusesOnly}
use Rattle.c_parts.specs.declared.pending.Reading.{Reading}
use Rattle.c_parts.specs.declared.pending.Reading.TheVariants as reading
use Rattle.c_parts.specs.declared.pending.Reader.{Reader}
use Rattle.c_parts.specs.View.{reading_view, reader_view}

-- what the machine finds, as the laws of the grammar say it
abbrev pub Finds : Type 0
Finds = (i : Signature) (p : Program) (ws : Words) → IsInterface i → IsSentence i p ws ↔ (finish i (state i ws) ≡ Some p)

-- where it goes on, as they say it
abbrev pub GoesOn : Type 0
GoesOn = (i : Signature) (ws : Words) → IsInterface i → IsLive i ws ↔ (state i ws ≢ Stuck)

steps_append : (i : Signature) (q : State) (xs ys : Words) → steps i q (xs ++ ys) ≡ steps i (steps i q xs) ys
steps_append i q [] ys = refl
steps_append i q (x ∷ xs) ys = steps_append i (step (parameters_of i) q x) xs ys

stuck_stays : (i : Signature) (xs : Words) → steps i Stuck xs ≡ Stuck
stuck_stays i [] = refl
stuck_stays i (x ∷ xs) = stuck_stays i xs

owed : (ws : Words) (q : State) → q ≢ Stuck → owe ws q ≢ Stuck
owed [] q n = n
owed (w ∷ ws) q n = λ e. absurd cc

reading_on : (r : Reading) → reading_view r ≢ Stuck
unfolding reading_view
reading_on (reading.Need w p) e = cc
reading_on _ e = cc

pub never_stuck : (r : Reader) → reader_view r ≢ Stuck
unfolding reader_view
never_stuck r = owed (drop r.at r.words) (reading_view r.reading) (reading_on r.reading)

pub state_more : (i : Signature) (ws : Words) (n : ℕ) (d : CWordToken) → n < length ws → state i (take (n + 1) ws) ≡ step (parameters_of i) (state i (take n ws)) (get_or ws n d)
state_more i ws n d h = ap (state i) (take_more ws n d h) ∙ steps_append i (start i) (take n ws) (get_or ws n d ∷ [])

stuck_whole : (i : Signature) (ws : Words) (n : ℕ) → state i (take n ws) ≡ Stuck → state i ws ≡ Stuck
stuck_whole i ws n h =
    ap (state i) (sym (take-append-drop n ws)) ∙ steps_append i (start i) (take n ws) (drop n ws)
    ∙ ap (λ q. steps i q (drop n ws)) h ∙ stuck_stays i (drop n ws)

one_more : (n : ℕ) → suc n ≡ n + 1
one_more n = omega arith

-- a word with which the machine is stuck
pub refused_at : (i : Signature) → IsInterface i → Finds → GoesOn → (ws : Words) (n : ℕ) → n < length ws → state i (take n ws) ≢ Stuck → state i (take (n + 1) ws) ≡ Stuck → IsRefused i ws n
refused_at i it finds on ws n within before with_it = record {
  within = omega (arith, within);
  live = (on i (take n ws) it).1 before;
  next = λ m l. (on i (take (n + 1) ws) it).0 (subst (λ k. IsLive i (take k ws)) (one_more n) l) with_it;
  none = λ p s. let e : None ≡ Some p = sym (ap (finish i) (stuck_whole i ws (n + 1) with_it)) ∙ (finds i p ws it).0 s in absurd cc;
}

not_whole : (i : Signature) (q : State) (p : Program) → ((v : Past) → q ≡ Whole v → ⊥) → finish i q ≡ Some p → ⊥
not_whole i (Whole v) p n e = n v refl
not_whole i Stuck p n e = absurd cc
not_whole i _ p n e = absurd cc

-- all words are read, and more have to come
pub refused_at_end : (i : Signature) → IsInterface i → Finds → GoesOn → (ws : Words) (n : ℕ) → n ≡ length ws → state i ws ≢ Stuck → ((v : Past) → state i ws ≡ Whole v → ⊥) → IsRefused i ws n
refused_at_end i it finds on ws n e before unfinished = record {
  within = omega (arith, e);
  live = (on i (take n ws) it).1 (λ s. before (ap (state i) (sym (take_all n ws (omega (arith, e)))) ∙ s));
  next = λ m l. let none : ⊥ = omega (arith, e, m) in absurd none;
  none = λ p s. not_whole i (state i ws) p unfinished ((finds i p ws it).0 s);
}

-- all words are read, and they are a program's
pub read_whole : (i : Signature) → IsInterface i → Finds → (ws : Words) (v : Past) → state i ws ≡ Whole v → IsSentence i (made i v) ws
read_whole i it finds ws v e = (finds i (made i v) ws it).1 (ap (finish i) e)

-- the word behind so many, where the code's step refuses it
pub step_refused : (s : Stop BadWord) (i : Signature) → IsInterface i → Finds → GoesOn → (all : Arrays) (ws : Words) (n : ℕ) (d : CWordToken) (r : Reader)
    → all ≡ parameters_of i → n < length ws → reader_view r ≡ state i (take n ws)
    → RefusesOnly s (λ bad. (bad.at ≡ n) × (Stuck ≡ step all (reader_view r) (get_or ws n d))) → RefusesOnly s (λ bad. IsRefused i ws bad.at)
step_refused (stop.Refused bad) i it finds on all ws n d r a within e h =
    subst (IsRefused i ws) (sym h.0)
    (refused_at i it finds on ws n within (λ s. never_stuck r (e ∙ s))
    (state_more i ws n d within ∙ ap (λ q. step (parameters_of i) q (get_or ws n d)) (sym e)
    ∙ ap (λ x. step x (reader_view r) (get_or ws n d)) (sym a) ∙ sym h.1))
step_refused stop.Memory i it finds on all ws n d r a within e h = tt

pub step_read : (i : Signature) (all : Arrays) (ws : Words) (n : ℕ) (d : CWordToken) (r next : Reader)
    → all ≡ parameters_of i → n < length ws → reader_view r ≡ state i (take n ws)
    → reader_view next ≡ step all (reader_view r) (get_or ws n d) → reader_view next ≡ state i (take (n + 1) ws)
step_read i all ws n d r next a within e h =
    h ∙ ap (λ x. step x (reader_view r) (get_or ws n d)) a ∙ ap (λ q. step (parameters_of i) q (get_or ws n d)) e ∙ sym (state_more i ws n d within)

all_read : (i : Signature) (ws : Words) (n : ℕ) (r : Reader) → length ws ≤ n → reader_view r ≡ state i (take n ws) → reader_view r ≡ state i ws
all_read i ws n r h e = e ∙ ap (state i) (take_all n ws h)

pub end_refused : (i : Signature) → IsInterface i → Finds → GoesOn → (ws : Words) (n : ℕ) (r : Reader) → n ≤ length ws → length ws ≤ n
    → reader_view r ≡ state i (take n ws) → ((v : Past) → reader_view r ≡ Whole v → ⊥) → IsRefused i ws n
end_refused i it finds on ws n r within done e unfinished =
    let is : reader_view r ≡ state i ws = all_read i ws n r done e in
    refused_at_end i it finds on ws n (omega (arith, within, done)) (λ s. never_stuck r (is ∙ s)) (λ v w. unfinished v (is ∙ w))

pub end_read : (i : Signature) → IsInterface i → Finds → (ws : Words) (n : ℕ) (r : Reader) (v : Past) → length ws ≤ n
    → reader_view r ≡ state i (take n ws) → reader_view r ≡ Whole v → IsSentence i (made i v) ws
end_read i it finds ws n r v done e w = read_whole i it finds ws v (sym (all_read i ws n r done e) ∙ w)

owes : (ws rest : Words) (w : CWordToken) (q : State) (v : Past) → ws ≡ w ∷ rest → owe ws q ≡ Whole v → ⊥
owes ws rest w q v e h = let none : Fixed w rest q ≡ Whole v = sym (ap (λ l. owe l q) e) ∙ h in absurd cc

-- nothing is whole while words have to come
pub still_owed : (r : Reader) → r.at < length r.words → (v : Past) → reader_view r ≡ Whole v → ⊥
unfolding reader_view
still_owed r h v = owes (drop r.at r.words) (drop (suc r.at) r.words) (get_or r.words r.at word.Other) (reading_view r.reading) v (drop-cons r.words r.at word.Other h)
