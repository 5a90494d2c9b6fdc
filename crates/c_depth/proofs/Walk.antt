-- Stacks of numbers, and the depths of the words that are left.
use Rattle.std.proofs.Common.{◌≡◌, ℕ, zero, suc, ◌+◌, ◌<◌, ◌≤◌, Bool, true, false, List, [], ◌∷◌, ◌++◌, length, drop, get_or, refl, sym, ap, ◌∙◌, arith, drop-cons, inl, inr, ⊎_elim}
use Rattle.std.specs.Prelude.{◌⊎◌, OnOk, Result, Ok, Err}
use Rattle.std.proofs.lemmas.List.{get_or_past}
use Rattle.c_grammar.specs.declared.word.CWordToken.{CWordToken}
use Rattle.c_grammar.specs.Sentence.{Words}
use Rattle.c_tree.specs.Depths.{Depths}
use Rattle.c_depth.specs.declared.level.Before.TheVariants as before
use Rattle.c_depth.specs.Read.{Nest, top, below, see, word_depth, read_depths, word_depths}
use Rattle.c_depth.specs.View.{onto, innermost_first}

onto_last : (bs : List ℕ) (b : ℕ) (st : List ℕ) → onto (bs ++ b ∷ []) st ≡ b ∷ onto bs st
onto_last [] b st = refl
onto_last (c ∷ bs) b st = onto_last bs b (c ∷ st)

pub pushed : (old new : List ℕ) (b : ℕ) → new ≡ old ++ b ∷ [] → innermost_first new ≡ b ∷ innermost_first old
pushed old new b e = ap innermost_first e ∙ onto_last old b []

pub top_of : (old new : List ℕ) (b : ℕ) → old ≡ new ++ b ∷ [] → b ≡ top (innermost_first old)
top_of old new b e = let whole = pushed new old b e in let at : top (innermost_first old) ≡ b = ap top whole in cc

pub below_top : (old new : List ℕ) (b : ℕ) → old ≡ new ++ b ∷ [] → innermost_first new ≡ below (innermost_first old)
below_top old new b e = let whole = pushed new old b e in let at : below (innermost_first old) ≡ innermost_first new = ap below whole in cc

pub on_ok : {X E P Q : Type 0} (r : Result X E) → (P → Q) → OnOk r P → OnOk r Q
on_ok (Ok x) f h = f h
on_ok (Err e) f h = h

head_there : (ds : Depths) (k x : ℕ) (xs : Depths) → drop k ds ≡ x ∷ xs → get_or ds k 0 ≡ x
head_there [] zero x xs e = absurd cc
head_there [] (suc k) x xs e = absurd cc
head_there (d ∷ ds) zero x xs e = cc
head_there (d ∷ ds) (suc k) x xs e = head_there ds k x xs e

rest_there : (ds : Depths) (k x : ℕ) (xs : Depths) → drop k ds ≡ x ∷ xs → drop (suc k) ds ≡ xs
rest_there [] zero x xs e = absurd cc
rest_there [] (suc k) x xs e = absurd cc
rest_there (d ∷ []) zero x xs e = cc
rest_there (d ∷ c ∷ ds) zero x xs e = cc
rest_there (d ∷ ds) (suc k) x xs e = rest_there ds k x xs e

word_first : (ws : Words) (ds : Depths) (n : Nest) (k : ℕ) (d : CWordToken) → k < length ws → drop k ds ≡ read_depths n (drop k ws)
    → drop k ds ≡ word_depth (get_or ws k d) n ∷ read_depths (see (get_or ws k d) n) (drop (suc k) ws)
word_first ws ds n k d h e = e ∙ ap (read_depths n) (drop-cons ws k d h)

-- the depth of the word that comes first
pub depth_there : (ws : Words) (ds : Depths) (n : Nest) (k : ℕ) (d : CWordToken) → k < length ws → drop k ds ≡ read_depths n (drop k ws) → get_or ds k 0 ≡ word_depth (get_or ws k d) n
depth_there ws ds n k d h e = head_there ds k _ _ (word_first ws ds n k d h e)

-- the depths behind it
pub depths_behind : (ws : Words) (ds : Depths) (n next : Nest) (k : ℕ) (d : CWordToken) → k < length ws → drop k ds ≡ read_depths n (drop k ws)
    → next ≡ see (get_or ws k d) n → drop (k + 1) ds ≡ read_depths next (drop (k + 1) ws)
depths_behind ws ds n next k d h e f =
    let one : suc k ≡ k + 1 = omega arith in
    ap (λ j. drop j ds) (sym one) ∙ rest_there ds k _ _ (word_first ws ds n k d h e) ∙ ap (λ j. read_depths (see (get_or ws k d) n) (drop j ws)) one
    ∙ ap (λ x. read_depths x (drop (k + 1) ws)) (sym f)

pub first_nest : (bs : List ℕ) (ws : Words) → bs ≡ [] → word_depths ws ≡ read_depths (record { before = before.Other; depth = 0; base = 0; outer = innermost_first bs }) ws
first_nest bs ws e = ap (λ l. read_depths (record { before = before.Other; depth = 0; base = 0; outer = innermost_first l }) ws) (sym e)

pub as_many : (n : Nest) (ws : Words) → length (read_depths n ws) ≡ length ws
as_many n [] = refl
as_many n (w ∷ ws) = ap suc (as_many (see w n) ws)

-- below, or not
either : (a b : ℕ) → (a < b) ⊎ (b ≤ a)
either a zero = inr (omega arith)
either zero (suc b) = inl (omega arith)
either (suc a) (suc b) = ⊎_elim (λ (h : a < b). inl (omega arith)) (λ (h : b ≤ a). inr (omega arith)) (either a b)

-- a word that isn't found too deep
pub not_deeper : (b : Bool) (limit d : ℕ) → (limit < d → b ≡ true) → b ≡ false → d ≤ limit
not_deeper b limit d h e = ⊎_elim (λ (k : limit < d). absurd (clash (h k))) (λ (k : d ≤ limit). k) (either limit d)
  where
    clash : b ≡ true → ⊥
    clash k = cc

-- one more word that isn't deep
pub more_shallow : (ds : Depths) (limit k d : ℕ) → ((j : ℕ) → j < k → get_or ds j 0 ≤ limit) → get_or ds k 0 ≡ d → d ≤ limit → (j : ℕ) → j < k + 1 → get_or ds j 0 ≤ limit
more_shallow ds limit k d before e here j h =
    ⊎_elim (λ (m : j < k). before j m)
    (λ (m : k ≤ j). let n : j ≡ k = omega arith in let f : get_or ds j 0 ≡ d = ap (λ n. get_or ds n 0) n ∙ e in omega arith)
    (either j k)

-- no word is deep
pub all_shallow : (ds : Depths) (limit n : ℕ) → length ds ≤ n → ((j : ℕ) → j < n → get_or ds j 0 ≤ limit) → (j : ℕ) → get_or ds j 0 ≤ limit
all_shallow ds limit n h before j =
    ⊎_elim (λ (m : j < n). before j m) (λ (m : n ≤ j). let e : get_or ds j 0 ≡ 0 = get_or_past ds j 0 (omega arith) in omega arith) (either j n)

-- a deep word is found
pub deep_there : (ws : Words) (ds : Depths) (limit : ℕ) (n : Nest) (k : ℕ) (d : CWordToken) → k < length ws → drop k ds ≡ read_depths n (drop k ws)
    → limit < word_depth (get_or ws k d) n → limit < get_or ds k 0
deep_there ws ds limit n k d h e m = let f = depth_there ws ds n k d h e in omega arith
