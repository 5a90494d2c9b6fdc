-- Two parts one after the other.
use Rattle.std.proofs.Common.{◌≡◌, ℕ, zero, suc, ◌+◌, ◌<◌, ◌≤◌, max, Bool, true, false, ◌&&◌, List, [], ◌∷◌, ◌++◌, length, map, ℤ, Option, Some, refl, sym, ap, ◌∙◌, subst, arith, length-append}
use Rattle.std.specs.Prelude.{slice_get, All}
use Rattle.std.proofs.lemmas.List.Elements.{All-nil, All-cons, All-head, All-tail}
use Rattle.num_type.specs.Types.{IsInRange}
use Rattle.c_tree.specs.declared.tree.CWord.{CWord}
use Rattle.c_tree.specs.Tree.{Exp, Sta, Set, Store, If, IfElse, For, While, Break, Continue, Return, Block, Done, Next}
use Rattle.c_tree.specs.Tokens.{sta_tokens}
use Rattle.c_tree.specs.Depth.{exp_depth, sta_depth, block_depth}
use Rattle.c_tree.specs.View.{block_of}
use Rattle.c_tree.specs.WellFormed.{Scope, is_fit, are_fit, type_of_exp}
use Rattle.c_tree.specs.Outcome.{Outcome, Completes, PastBound, UndefinedAt, ◌>>=◌, bind}
use Rattle.c_tree.specs.Meaning.{Word, State, Flow, Went, Broke, Continued, Returned, run_sta, run_block, then_run, with_word, value}
use Rattle.lower_scalar.specs.Part.{Part, Operand, Stands, AllStand, IsTyped, word, word_for, kind_of, reach, deepest, AreDeclared, AreInOrder, IsAfter, Does, on_one, on_two}
use Rattle.lower_scalar.specs.Operators.{behind, joined_part}
use Rattle.lower_scalar.proofs.Says.{Says}
use Rattle.lower_scalar.proofs.Typed.{Typed}
use Rattle.lower_scalar.proofs.Words.{Holds}
use Rattle.lower_scalar.proofs.Frames.{Agree, same_value}
use Rattle.lower_scalar.proofs.Runs.{Runs, Stop, Step, run_of, after_of, holds_set, holds_later, types_set, set_fits, kind_of_word}
use Rattle.lower_scalar.proofs.Formed.{Declares}
use Rattle.lower_scalar.proofs.Sizes.{IsSized}
use Rattle.lower_scalar.proofs.Within.{IsPartWithin}

-- ---- lists

in_order_both : (k j : ℕ) (xs ys : List Sta) → AreInOrder k xs → j ≡ k + length xs → AreInOrder j ys → AreInOrder k (xs ++ ys)
in_order_both k j [] ys h e g = subst (λ i. AreInOrder i ys) (let q : j ≡ k = omega (arith, e) in q) g
in_order_both k j (Set i v ∷ xs) ys h e g = (h.0, h.1, in_order_both (suc k) j xs ys h.2 (omega (arith, e)) g)
in_order_both k j (Store a i v ∷ xs) ys h e g = absurd h
in_order_both k j (If t b ∷ xs) ys h e g = absurd h
in_order_both k j (IfElse t b c ∷ xs) ys h e g = absurd h
in_order_both k j (For c n b ∷ xs) ys h e g = absurd h
in_order_both k j (While t b ∷ xs) ys h e g = absurd h
in_order_both k j (Break ∷ xs) ys h e g = absurd h
in_order_both k j (Continue ∷ xs) ys h e g = absurd h
in_order_both k j (Return n ∷ xs) ys h e g = absurd h

declared_first : (k : ℕ) (ws vs all : List CWord) → AreDeclared k (ws ++ vs) all → AreDeclared k ws all
declared_first k [] vs all h = tt
declared_first k (w ∷ ws) vs all h = (h.0, declared_first (suc k) ws vs all h.1)

declared_second : (k j : ℕ) (ws vs all : List CWord) → AreDeclared k (ws ++ vs) all → j ≡ k + length ws → AreDeclared j vs all
declared_second k j [] vs all h e = subst (λ i. AreDeclared i vs all) (let q : k ≡ j = omega (arith, e) in q) h
declared_second k j (w ∷ ws) vs all h e = declared_second (suc k) j ws vs all h.1 (omega (arith, e))

fit_both : (c : Scope) (xs ys : List Sta) → are_fit c false (block_of xs) ≡ true → are_fit c false (block_of ys) ≡ true → are_fit c false (block_of (xs ++ ys)) ≡ true
fit_both c [] ys h g = g
fit_both c (x ∷ xs) ys h g =
    let both = and_parts (is_fit c false x) (are_fit c false (block_of xs)) h in
    λ i. both.0 i && fit_both c xs ys both.1 g i
  where
    and_parts : (a b : Bool) → (a && b) ≡ true → (a ≡ true) × (b ≡ true)
    and_parts true b e = (refl, e)
    and_parts false b e = absurd (cc)

depth_both : (xs ys : List Sta) (d : ℕ) → block_depth (block_of xs) ≤ d → block_depth (block_of ys) ≤ d → block_depth (block_of (xs ++ ys)) ≤ d
depth_both [] ys d h g = g
depth_both (x ∷ xs) ys d h g =
    let r = depth_both xs ys d (omega (arith, h)) g in
    omega (arith, h, r)

-- ---- runs

-- where the first statements end, the others go on
run_both : (xs ys : List Sta) (st mid : State) (n at : ℕ) → run_block (block_of xs) n st at ≡ Completes (Went mid) → (to : ℕ) × (run_block (block_of (xs ++ ys)) n st at ≡ run_block (block_of ys) n mid to)
unfolding bind
run_both [] ys st mid n at h = let e : st ≡ mid = cc in (at, ap (λ s. run_block (block_of ys) n s at) e)
run_both (x ∷ xs) ys st mid n at h = by (λ s g. run_both xs ys s mid n (at + sta_tokens x) g) (run_sta x n st at) refl h
  where
    by : ((s : State) → run_block (block_of xs) n s (at + sta_tokens x) ≡ Completes (Went mid) → (to : ℕ) × (run_block (block_of (xs ++ ys)) n s (at + sta_tokens x) ≡ run_block (block_of ys) n mid to)) → (o : Outcome Flow) → run_sta x n st at ≡ o → (o >>= (λ flow. then_run flow (λ s. run_block (block_of xs) n s (at + sta_tokens x)))) ≡ Completes (Went mid)
        → (to : ℕ) × ((run_sta x n st at >>= (λ flow. then_run flow (λ s. run_block (block_of (xs ++ ys)) n s (at + sta_tokens x)))) ≡ run_block (block_of ys) n mid to)
    by rest PastBound e h = absurd (cc)
    by rest (UndefinedAt k) e h = absurd (cc)
    by rest (Completes (Went s)) e h =
        let r = rest s h in
        (r.0, ap (λ o. o >>= (λ flow. then_run flow (λ s. run_block (block_of (xs ++ ys)) n s (at + sta_tokens x)))) e ∙ r.1)
    by rest (Completes (Broke s)) e h = absurd (cc)
    by rest (Completes (Continued s)) e h = absurd (cc)
    by rest (Completes (Returned k s)) e h = absurd (cc)

-- a state behind assignments from a number on agrees below it
agree_after : (k n : ℕ) (st after : State) → IsAfter k n st after → Agree k after.words st.words
agree_after k n st after a = λ i h. a.below i h

-- an expression gives the same behind assignments to variables that it doesn't read
says_after : (k n : ℕ) (e : Exp) (st after : State) (w : Word) → reach e ≤ k → IsAfter k n st after → Says e st w → Says e after w
says_after k n e st after w h a p = record {
  says = λ at. ap (λ s. value e s at) a.rest ∙ same_value e st after.words k h (agree_after k n st after a) at ∙ p.says at;
}

-- with other values of all variables
abbrev with_words : State → List Word → State
with_words s ws = record s { words = ws }

after_both : (k n m : ℕ) (st mid after : State) → IsAfter k n st mid → IsAfter (k + n) m mid after → IsAfter k (n + m) st after
after_both k n m st mid after p q = record {
  rest = q.rest ∙ ap (λ (s : State). with_words s after.words) p.rest;
  types = q.types ∙ p.types;
  below = λ i h. q.below i (omega (arith, h)) ∙ p.below i h;
  above = λ i h. q.above i (omega (arith, h)) ∙ p.above i (omega (arith, h));
}

pub stands_after : (k n : ℕ) (o : Operand) (st after : State) (z : ℤ) → reach o.exp ≤ k → IsAfter k n st after → Stands st o z → Stands after o z
stands_after k n o st after z h a s = record {
  in_range = s.in_range;
  gives = (says_after k n o.exp st after (word o.num.signed z) h a (record { says = s.gives })).says;
}

-- ---- the part

-- the types of both parts' variables and of two more
lengths : (xs ys : List CWord) (w : CWord) → length (xs ++ (ys ++ (w ∷ w ∷ []))) ≡ length xs + (length ys + 2)
lengths xs ys w = length-append xs (ys ++ (w ∷ w ∷ [])) ∙ ap (λ n. length xs + n) (length-append ys (w ∷ w ∷ []))

joined_does : (st : State) (fresh : ℕ) (s : Bool) (p q : Part) (e : Exp) (t : Bool) (y z r : ℤ)
    → AreDeclared fresh (p.words ++ (q.words ++ (word_for s ∷ word_for s ∷ []))) (map kind_of st.words)
    → Does fresh s y p st
    → ((mid : State) → IsAfter fresh (length p.words) st mid → Does (fresh + length p.words) s z q mid)
    → reach p.value ≤ fresh + length p.words → reach q.value ≤ fresh + length p.words + length q.words
    → ((a : State) → Holds a (behind fresh p q) s y → Holds a (suc (behind fresh p q)) s z → Says e a (word t r))
    → Does fresh t r (joined_part fresh s p q e) st
joined_does st fresh s p q e t y z r d dp dq rp rq ev =
    let m : ℕ = fresh + length p.words in
    let k : ℕ = behind fresh p q in
    let w : CWord = word_for s in
    let ww : List CWord = word_for s ∷ word_for s ∷ [] in
    let mid : State = dp.after in
    let two = dq dp.after dp.same in
    let end : State = two.after in
    let both : IsAfter fresh (length p.words + length q.words) st end = after_both fresh (length p.words) (length q.words) st mid end dp.same two.same in
    let dk : AreDeclared (behind fresh p q) (word_for s ∷ word_for s ∷ []) (map kind_of st.words) =
    declared_second (fresh + length p.words) (behind fresh p q) q.words (word_for s ∷ word_for s ∷ []) (map kind_of st.words)
    (declared_second fresh (fresh + length p.words) p.words (q.words ++ (word_for s ∷ word_for s ∷ [])) (map kind_of st.words) d refl) refl in
    let de : AreDeclared (behind fresh p q) (word_for s ∷ word_for s ∷ []) (map kind_of end.words) = subst (AreDeclared (behind fresh p q) (word_for s ∷ word_for s ∷ [])) (sym both.types) dk in
    let first : Says p.value end (word s y) = says_after (fresh + length p.words) (length q.words) p.value mid end (word s y) rp two.same (record { says = dp.gives }) in
    let end1 : State = with_word end (behind fresh p q) (word s y) in
    let one : Runs (behind fresh p q) end (Set (behind fresh p q) p.value ∷ []) (word_for s ∷ []) end1 = Step (behind fresh p q) (word s y) refl first (kind_of_word s y) Stop in
    let step = after_of (behind fresh p q) end end1 (Set (behind fresh p q) p.value ∷ []) (word_for s ∷ []) one (de.0, tt) in
    let second : Says q.value end1 (word s z) = says_after (behind fresh p q) 1 q.value end end1 (word s z) rq step (record { says = two.gives }) in
    let end2 : State = with_word end1 (suc (behind fresh p q)) (word s z) in
    let sets : List Sta = Set (behind fresh p q) p.value ∷ Set (suc (behind fresh p q)) q.value ∷ [] in
    let run : Runs (behind fresh p q) end (Set (behind fresh p q) p.value ∷ Set (suc (behind fresh p q)) q.value ∷ []) (word_for s ∷ word_for s ∷ []) end2 =
    Step (behind fresh p q) (word s y) refl first (kind_of_word s y) (Step (suc (behind fresh p q)) (word s z) refl second (kind_of_word s z) Stop) in
    let last = after_of (behind fresh p q) end end2 sets ww run de in
    let hy1 : Holds end1 (behind fresh p q) s y = holds_set end (behind fresh p q) s y (word_for s) de.0 in
    let hy : Holds end2 (behind fresh p q) s y = holds_later end1 (behind fresh p q) (suc (behind fresh p q)) (word s z) s y (omega arith) hy1 in
    let d1 : slice_get (map kind_of end1.words) (suc (behind fresh p q)) ≡ Some (word_for s) = ap (λ l. slice_get l (suc (behind fresh p q))) (types_set end (behind fresh p q) s y de.0) ∙ de.1.0 in
    let hz : Holds end2 (suc (behind fresh p q)) s z = holds_set end1 (suc (behind fresh p q)) s z (word_for s) d1 in
    record {
      after = end2;
      runs = λ n at.
          let a = run_both p.before (q.before ++ sets) st mid n at (dp.runs n at) in
          let b = run_both q.before sets mid end n a.0 (two.runs n a.0) in
          a.1 ∙ b.1 ∙ run_of (behind fresh p q) end end2 sets ww run de n b.0;
      same =
          let all = after_both fresh (length p.words + length q.words) 2 st end end2 both (subst (λ i. IsAfter i 2 end end2) (let i : behind fresh p q ≡ fresh + (length p.words + length q.words) = omega arith in i) last) in
          subst (λ n. IsAfter fresh n st end2) (let i : length p.words + length q.words + 2 ≡ length (p.words ++ (q.words ++ (word_for s ∷ word_for s ∷ []))) = omega (arith, lengths p.words q.words (word_for s)) in i) all;
      gives = (ev end2 hy hz).says;
    }

-- two parts over one operand each, and an expression over their values
pub joined_is_part : (a b : Operand) (fresh : ℕ) (s t : Bool) (f g : ℤ → ℤ) (r : ℤ → ℤ → ℤ) (p q : Part) (e : Exp) (more : ℕ) → 20 ≤ more → length p.words ≤ 100 → length q.words ≤ 100 → reach b.exp ≤ fresh
    → IsPartWithin more (a ∷ []) fresh s (on_one f) p → IsPartWithin more (b ∷ []) (fresh + length p.words) s (on_one g) q
    → IsSized e 20 (suc (suc (behind fresh p q))) → ((c : Scope) → Declares c (behind fresh p q) s → Declares c (suc (behind fresh p q)) s → Typed c e (word_for t))
    → ((st : State) (x y : ℤ) → IsInRange a.num x → IsInRange b.num y → Holds st (behind fresh p q) s (f x) → Holds st (suc (behind fresh p q)) s (g y) → Says e st (word t (r x y)))
    → IsPartWithin more (a ∷ b ∷ []) fresh t (on_two r) (joined_part fresh s p q e)
joined_is_part a b fresh s t f g r p q e more least few_p few_q low wp wq size typed says = record {
  in_order = in_order_both fresh (fresh + length p.words) p.before (q.before ++ last) wp.in_order (omega (arith, cp))
      (in_order_both (fresh + length p.words) (behind fresh p q) q.before last wq.in_order (omega (arith, cq)) (refl, wp_reads, (refl, wq_reads, tt)));
  count = length-append p.before (q.before ++ last) ∙ ap (λ n. length p.before + n) (length-append q.before last) ∙ counts ∙ sym (lengths p.words q.words (word_for s));
  few = let n = lengths p.words q.words (word_for s) in omega (arith, n, few_p, few_q);
  reads = let n = lengths p.words q.words (word_for s) in omega (arith, n, size.reads);
  fits = λ c d h.
      let da = declared_first fresh p.words (q.words ++ ww) c.words d in
      let rest = declared_second fresh (fresh + length p.words) p.words (q.words ++ ww) c.words d refl in
      let db = declared_first (fresh + length p.words) q.words ww c.words rest in
      let dw = declared_second (fresh + length p.words) (behind fresh p q) q.words ww c.words rest refl in
      let ta : All (IsTyped c) (a ∷ []) = All-cons (IsTyped c) a [] (All-head (IsTyped c) a (b ∷ []) h) (All-nil (IsTyped c)) in
      let tb : All (IsTyped c) (b ∷ []) = All-tail (IsTyped c) a (b ∷ []) h in
      let one : Typed c p.value (word_for s) = record { is = wp.typed c da ta } in
      let two : Typed c q.value (word_for s) = record { is = wq.typed c db tb } in
      let sets : are_fit c false (block_of last) ≡ true = λ i. set_fits c (behind fresh p q) p.value (word_for s) dw.0 one i && (set_fits c (suc (behind fresh p q)) q.value (word_for s) dw.1.0 two i && true) in
      fit_both c p.before (q.before ++ last) (wp.fits c da ta) (fit_both c q.before last (wq.fits c db tb) sets);
  typed = λ c d h.
      let rest = declared_second fresh (fresh + length p.words) p.words (q.words ++ ww) c.words d refl in
      let dw = declared_second (fresh + length p.words) (behind fresh p q) q.words ww c.words rest refl in
      (typed c dw.0 dw.1.0).is;
  shallow =
      let sa = wp.shallow in
      let sb = wq.shallow in
      let va = wp.shallow_value in
      let vb = wq.shallow_value in
      depth_both p.before (q.before ++ last) (deepest (a ∷ b ∷ []) + more) (omega arith) (depth_both q.before last (deepest (a ∷ b ∷ []) + more) (omega arith) (omega arith));
  shallow_value = let v = size.depth in omega (arith, v, least);
  does = does;
}
  where
    ww : List CWord
    ww = word_for s ∷ word_for s ∷ []

    last : List Sta
    last = Set (behind fresh p q) p.value ∷ Set (suc (behind fresh p q)) q.value ∷ []

    cp : length p.before ≡ length p.words
    cp = wp.count

    cq : length q.before ≡ length q.words
    cq = wq.count

    wp_reads : reach p.value ≤ behind fresh p q
    wp_reads = let h = wp.reads in omega (arith, h)

    wq_reads : reach q.value ≤ suc (behind fresh p q)
    wq_reads = let h = wq.reads in omega (arith, h)

    counts : length p.before + (length q.before + 2) ≡ length p.words + (length q.words + 2)
    counts = omega (arith, cp, cq)

    does : (st : State) (zs : List ℤ) → AreDeclared fresh (p.words ++ (q.words ++ (word_for s ∷ word_for s ∷ []))) (map kind_of st.words) → AllStand st (a ∷ b ∷ []) zs → Does fresh t (on_two r zs) (joined_part fresh s p q e) st
    does st [] d h = absurd h
    does st (x ∷ []) d h = absurd h.1
    does st (x ∷ y ∷ []) d h =
        let da = declared_first fresh p.words (q.words ++ (word_for s ∷ word_for s ∷ [])) (map kind_of st.words) d in
        let rest = declared_second fresh (fresh + length p.words) p.words (q.words ++ (word_for s ∷ word_for s ∷ [])) (map kind_of st.words) d refl in
        let db = declared_first (fresh + length p.words) q.words (word_for s ∷ word_for s ∷ []) (map kind_of st.words) rest in
        joined_does st fresh s p q e t (f x) (g y) (r x y) d (wp.does st (x ∷ []) da (h.0, tt))
        (λ mid after. wq.does mid (y ∷ []) (subst (AreDeclared (fresh + length p.words) q.words) (sym after.types) db) (stands_after fresh (length p.words) b st mid y low after h.1.0, tt))
        wp.reads wq.reads (λ at hx hy. says at x y h.0.in_range h.1.0.in_range hx hy)
    does st (x ∷ y ∷ z ∷ zs) d h = absurd h.1.1
