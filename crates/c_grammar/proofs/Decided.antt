-- Every list of words is a program's, or is refused at one place.
use Rattle.std.proofs.Common.{◌≡◌, ◌≢◌, ℕ, zero, suc, ◌<◌, ◌≤◌, [], ◌∷◌, ◌++◌, length, take, refl, sym, ap, ◌∙◌, arith, subst, append_assoc, inl, inr, ⊎_elim}
use Rattle.std.specs.Prelude.{◌⊎◌, Some}
use Rattle.c_tree.specs.Tree.{Signature, Program}
use Rattle.c_tree.specs.WellFormed.{IsInterface}
use Rattle.c_grammar.specs.declared.word.CWordToken.{CWordToken}
use Rattle.c_grammar.specs.Sentence.{Words}
use Rattle.c_grammar.specs.Live.{IsSentence, IsLive, IsRefused}
use Rattle.c_grammar.specs.Machine.{Past, made, finish, State, Fixed, Declare, Within, Status, Need, Digits, Opened, Casting, Have, Whole, Stuck, state}
use Rattle.c_grammar.proofs.ApartProgram.{one_program}
use Rattle.c_grammar.proofs.Complete.{past_of, is_made, complete}
use Rattle.c_grammar.proofs.Reached.{sound, live, unlive}

-- ---- one program

pub one_sentence : (i : Signature) (p q : Program) (ws : Words) → IsSentence i p ws → IsSentence i q ws → p ≡ q
one_sentence i p q ws h k = one_program p q (h.interface ∙ sym k.interface) (h.words ∙ sym k.words)

-- ---- fronts of a list

front_is : (pre post : Words) → take (length pre) (pre ++ post) ≡ pre
front_is [] [] = refl
front_is [] (x ∷ xs) = refl
front_is (w ∷ pre) post = ap (λ l. w ∷ l) (front_is pre post)

front_next : (pre : Words) (x : CWordToken) (xs : Words) → take (suc (length pre)) (pre ++ x ∷ xs) ≡ pre ++ x ∷ []
front_next [] x [] = refl
front_next [] x (y ∷ ys) = refl
front_next (w ∷ pre) x xs = ap (λ l. w ∷ l) (front_next pre x xs)

pub longer : (i : Signature) (pre post : Words) → IsLive i (pre ++ post) → IsLive i pre
longer i pre post h = record { more = post ++ h.more; program = h.program; sentence = subst (IsSentence i h.program) (append_assoc pre post h.more) h.sentence }

record Front (k n : ℕ) (ws : Words) : Type 0 where
  rest : Words
  whole : take k ws ++ rest ≡ take n ws

front_of : (k n : ℕ) (ws : Words) → k ≤ n → Front k n ws
front_of zero n [] h = record { rest = take n []; whole = refl }
front_of zero n (w ∷ ws) h = record { rest = take n (w ∷ ws); whole = refl }
front_of (suc k) zero ws h = let none : ⊥ = omega arith in absurd none
front_of (suc k) (suc n) [] h = record { rest = []; whole = refl }
front_of (suc k) (suc n) (w ∷ ws) h =
    let it = front_of k n ws (omega arith) in record { rest = it.rest; whole = ap (λ l. w ∷ l) it.whole }

shorter : (i : Signature) (k n : ℕ) (ws : Words) → k ≤ n → IsLive i (take n ws) → IsLive i (take k ws)
shorter i k n ws h l = let it = front_of k n ws h in longer i (take k ws) it.rest (subst (IsLive i) (sym it.whole) l)

-- ---- one place

not_below : (i : Signature) (ws : Words) (m n : ℕ) → IsRefused i ws m → IsRefused i ws n → m < n → ⊥
not_below i ws m n h k l = h.next (let w = k.within in omega arith) (shorter i (suc m) n ws (omega arith) k.live)

pub one_refusal : (i : Signature) (ws : Words) (m n : ℕ) → IsRefused i ws m → IsRefused i ws n → m ≡ n
one_refusal i ws m n h k = let a = not_below i ws m n h k in let b = not_below i ws n m k h in omega (arith, a, b)

-- ---- every list

abbrev pub Decision : Signature → Words → Type 0
Decision i ws = ((p : Program) × IsSentence i p ws) ⊎ ((n : ℕ) × IsRefused i ws n)

whole_or_not : (q : State) → ((v : Past) × (q ≡ Whole v)) ⊎ ((v : Past) → q ≡ Whole v → ⊥)
whole_or_not (Whole v) = inl (v, refl)
whole_or_not (Fixed w ws q) = inr (λ p e. absurd cc)
whole_or_not (Declare words) = inr (λ p e. absurd cc)
whole_or_not (Within v) = inr (λ p e. absurd cc)
whole_or_not (Status v) = inr (λ p e. absurd cc)
whole_or_not (Need w st h v) = inr (λ p e. absurd cc)
whole_or_not (Digits t st h v) = inr (λ p e. absurd cc)
whole_or_not (Opened w st h v) = inr (λ p e. absurd cc)
whole_or_not (Casting t st h v) = inr (λ p e. absurd cc)
whole_or_not (Have e t st h v) = inr (λ p e. absurd cc)
whole_or_not Stuck = inr (λ p e. absurd cc)

stuck_or_not : (q : State) → (q ≡ Stuck) ⊎ (q ≢ Stuck)
stuck_or_not Stuck = inl refl
stuck_or_not (Whole p) = inr (λ e. absurd cc)
stuck_or_not (Fixed w ws q) = inr (λ e. absurd cc)
stuck_or_not (Declare words) = inr (λ e. absurd cc)
stuck_or_not (Within v) = inr (λ e. absurd cc)
stuck_or_not (Status v) = inr (λ e. absurd cc)
stuck_or_not (Need w st h v) = inr (λ e. absurd cc)
stuck_or_not (Digits t st h v) = inr (λ e. absurd cc)
stuck_or_not (Opened w st h v) = inr (λ e. absurd cc)
stuck_or_not (Casting t st h v) = inr (λ e. absurd cc)
stuck_or_not (Have e t st h v) = inr (λ e. absurd cc)

-- all words are read, and they are no program's
pub refused_at_end : (i : Signature) → IsInterface i → (ws : Words) → state i ws ≢ Stuck → ((v : Past) → state i ws ≡ Whole v → ⊥) → IsRefused i ws (length ws)
refused_at_end i it ws n unfinished = record {
  within = omega arith;
  live = live i it (take (length ws) ws) (λ e. n (ap (state i) (sym (whole_front ws)) ∙ e));
  next = λ m l. let none : ⊥ = omega arith in absurd none;
  none = λ p s. unfinished (past_of p) (complete i p ws s);
}
  where
    whole_front : (ws : Words) → take (length ws) ws ≡ ws
    whole_front [] = refl
    whole_front (w ∷ ws) = ap (λ l. w ∷ l) (whole_front ws)

-- a word with which the state is stuck
pub refused_at_word : (i : Signature) → IsInterface i → (pre : Words) (x : CWordToken) (xs : Words) → state i pre ≢ Stuck → state i (pre ++ x ∷ []) ≡ Stuck → IsRefused i (pre ++ x ∷ xs) (length pre)
refused_at_word i it pre x xs n s =
    let dead : IsLive i (pre ++ x ∷ []) → ⊥ = λ l. unlive i (pre ++ x ∷ []) l s in
    record {
      within = short pre x xs;
      live = live i it (take (length pre) (pre ++ x ∷ xs)) (λ e. n (ap (state i) (sym (front_is pre (x ∷ xs))) ∙ e));
      next = λ m l. dead (subst (IsLive i) (front_next pre x xs) l);
      none = λ p h. dead (longer i (pre ++ x ∷ []) xs (subst (IsLive i) (sym (append_assoc pre (x ∷ []) xs)) (record { more = []; program = p; sentence = subst (IsSentence i p) (sym (append_none (pre ++ x ∷ xs))) h })));
    }
  where
    append_none : (ws : Words) → ws ++ [] ≡ ws
    append_none [] = refl
    append_none (w ∷ ws) = ap (λ l. w ∷ l) (append_none ws)

    short : (pre : Words) (x : CWordToken) (xs : Words) → length pre ≤ length (pre ++ x ∷ xs)
    short [] x xs = omega arith
    short (w ∷ pre) x xs = let h = short pre x xs in omega arith

decide : (i : Signature) → IsInterface i → (pre post : Words) → state i pre ≢ Stuck → Decision i (pre ++ post)
decide i it pre [] n = subst (Decision i) (sym (append_none pre)) (⊎_elim
    (λ (w : (v : Past) × (state i pre ≡ Whole v)). inl (made i w.0, sound i it w.0 pre w.1))
    (λ (w : (v : Past) → state i pre ≡ Whole v → ⊥). inr (length pre, refused_at_end i it pre n w))
    (whole_or_not (state i pre)))
  where
    append_none : (ws : Words) → ws ++ [] ≡ ws
    append_none [] = refl
    append_none (w ∷ ws) = ap (λ l. w ∷ l) (append_none ws)
decide i it pre (x ∷ xs) n = ⊎_elim
    (λ (s : state i (pre ++ x ∷ []) ≡ Stuck). inr (length pre, refused_at_word i it pre x xs n s))
    (λ (s : state i (pre ++ x ∷ []) ≢ Stuck). subst (Decision i) (append_assoc pre (x ∷ []) xs) (decide i it (pre ++ x ∷ []) xs s))
    (stuck_or_not (state i (pre ++ x ∷ [])))

not_stuck_at_first : (i : Signature) → state i [] ≢ Stuck
not_stuck_at_first i e = absurd cc

pub decided : (i : Signature) → IsInterface i → (ws : Words) → Decision i ws
decided i it ws = decide i it [] ws (not_stuck_at_first i)

-- ---- what the machine finds

pub finished : (i : Signature) (p : Program) (ws : Words) → IsSentence i p ws → finish i (state i ws) ≡ Some p
finished i p ws h = ap (finish i) (complete i p ws h) ∙ ap (λ q. Some q) (sym (is_made i p h.interface h.built))

pub finish_is : (i : Signature) → IsInterface i → (p : Program) (ws : Words) → finish i (state i ws) ≡ Some p → IsSentence i p ws
finish_is i it p ws h = ⊎_elim
    (λ (w : (v : Past) × (state i ws ≡ Whole v)).
    let e : Some (made i w.0) ≡ Some p = sym (ap (finish i) w.1) ∙ h in
    let same : made i w.0 ≡ p = cc in
    subst (λ q. IsSentence i q ws) same (sound i it w.0 ws w.1))
    (λ (w : (v : Past) → state i ws ≡ Whole v → ⊥). absurd (never (state i ws) w h))
    (whole_or_not (state i ws))
  where
    never : (q : State) → ((v : Past) → q ≡ Whole v → ⊥) → finish i q ≡ Some p → ⊥
    never (Whole v) n e = n v refl
    never (Fixed w us q) n e = absurd cc
    never (Declare words) n e = absurd cc
    never (Within v) n e = absurd cc
    never (Status v) n e = absurd cc
    never (Need w st k v) n e = absurd cc
    never (Digits t st k v) n e = absurd cc
    never (Opened w st k v) n e = absurd cc
    never (Casting t st k v) n e = absurd cc
    never (Have x t st k v) n e = absurd cc
    never Stuck n e = absurd cc
