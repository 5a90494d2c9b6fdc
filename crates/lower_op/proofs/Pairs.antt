-- Parts over two variables that hold two operands, and over a third one.
use Rattle.std.proofs.Common.{◌≡◌, ℕ, suc, ◌+◌, ◌≤◌, Bool, true, ◌&&◌, List, [], ◌∷◌, map, ℤ, Some, refl, sym, ap, ◌∙◌, subst, arith}
use Rattle.std.specs.Prelude.{slice_get, All}
use Rattle.std.proofs.lemmas.List.Elements.{All-head, All-tail}
use Rattle.num_type.specs.Types.{IsInRange}
use Rattle.c_tree.specs.declared.tree.CWord.{CWord}
use Rattle.c_tree.specs.declared.tree.CWord.TheVariants.{I64}
use Rattle.c_tree.specs.Tree.{Exp, Sta, Set}
use Rattle.c_tree.specs.WellFormed.{Scope}
use Rattle.c_tree.specs.Meaning.{Int64, State, with_word}
use Rattle.lower_scalar.specs.Part.{Part, Operand, Stands, AllStand, IsTyped, word, word_for, kind_of, reach, AreDeclared, Does, on_two}
use Rattle.lower_scalar.proofs.Says.{Says}
use Rattle.lower_scalar.proofs.Typed.{Typed}
use Rattle.lower_scalar.proofs.Words.{Holds}
use Rattle.lower_scalar.proofs.Runs.{Runs, Stop, Step, run_of, after_of, holds_set, holds_later, types_set, set_fits, kind_of_word}
use Rattle.lower_scalar.proofs.Formed.{Declares}
use Rattle.lower_scalar.proofs.Sizes.{IsSized}
use Rattle.lower_scalar.proofs.Within.{IsPartWithin}
use Rattle.lower_scalar.proofs.QuantiseParts.{stands_says}
use Rattle.lower_scalar.proofs.Both.{stands_after}
use Rattle.lower_op.specs.CompareShapes.{over_both, over_both_and}

next_is : (x : ℕ) → x + 1 ≡ suc x
next_is x = omega arith

third_is : (x : ℕ) → x + 2 ≡ suc (suc x)
third_is x = omega arith

-- ---- two variables

-- the state behind the first two assignments
record HeldBoth (st : State) (a b : Operand) (x : ℕ) (z y : ℤ) : Type 0 where
  mid : State
  end : State
  mid_is : mid ≡ with_word st x (word a.num.signed z)
  end_is : end ≡ with_word mid (suc x) (word b.num.signed y)
  second : Says b.exp mid (word b.num.signed y)
  left : Holds end x a.num.signed z
  right : Holds end (suc x) b.num.signed y
  types : map kind_of end.words ≡ map kind_of st.words

held_both : (st : State) (a b : Operand) (x : ℕ) (z y : ℤ) → reach b.exp ≤ x → slice_get (map kind_of st.words) x ≡ Some (word_for a.num.signed) → slice_get (map kind_of st.words) (suc x) ≡ Some (word_for b.num.signed) → Stands st a z → Stands st b y
    → HeldBoth st a b x z y
held_both st a b x z y low dx dy ha hb =
    let mid : State = with_word st x (word a.num.signed z) in
    let one : Runs x st (Set x a.exp ∷ []) (word_for a.num.signed ∷ []) mid = Step x (word a.num.signed z) refl (stands_says st a z ha) (kind_of_word a.num.signed z) Stop in
    let step = after_of x st mid (Set x a.exp ∷ []) (word_for a.num.signed ∷ []) one (dx, tt) in
    let h1 : Holds mid x a.num.signed z = holds_set st x a.num.signed z (word_for a.num.signed) dx in
    let types1 : map kind_of mid.words ≡ map kind_of st.words = types_set st x a.num.signed z dx in
    let d1 : slice_get (map kind_of mid.words) (suc x) ≡ Some (word_for b.num.signed) = ap (λ l. slice_get l (suc x)) types1 ∙ dy in
    record {
      mid = mid;
      end = with_word mid (suc x) (word b.num.signed y);
      mid_is = refl;
      end_is = refl;
      second = stands_says mid b y (stands_after x 1 b st mid y low step hb);
      left = holds_later mid x (suc x) (word b.num.signed y) a.num.signed z (omega arith) h1;
      right = holds_set mid (suc x) b.num.signed y (word_for b.num.signed) d1;
      types = types_set mid (suc x) b.num.signed y d1 ∙ types1;
    }

both_does : (st : State) (a b : Operand) (x : ℕ) (e : Exp) (z y q : ℤ) → reach b.exp ≤ x → AreDeclared x (word_for a.num.signed ∷ word_for b.num.signed ∷ []) (map kind_of st.words) → Stands st a z → Stands st b y
    → ((s : State) → Holds s x a.num.signed z → Holds s (x + 1) b.num.signed y → Says e s (Int64 q)) → Does x true q (over_both a.num.signed a.exp b.num.signed b.exp x e) st
both_does st a b x e z y q low d ha hb f =
    let h = held_both st a b x z y low d.0 d.1.0 ha hb in
    let mid : State = with_word st x (word a.num.signed z) in
    let end : State = with_word mid (suc x) (word b.num.signed y) in
    let same : h.end ≡ end = h.end_is ∙ ap (λ (s : State). with_word s (suc x) (word b.num.signed y)) h.mid_is in
    let ss : List Sta = Set x a.exp ∷ Set (x + 1) b.exp ∷ [] in
    let ws : List CWord = word_for a.num.signed ∷ word_for b.num.signed ∷ [] in
    let run : Runs x st ss ws end =
    Step x (word a.num.signed z) refl (stands_says st a z ha) (kind_of_word a.num.signed z)
    (Step (x + 1) (word b.num.signed y) (next_is x) (subst (λ (s : State). Says b.exp s (word b.num.signed y)) h.mid_is h.second) (kind_of_word b.num.signed y) Stop) in
    record {
      after = end;
      runs = run_of x st end ss ws run d;
      same = after_of x st end ss ws run d;
      gives = (f end (subst (λ (s : State). Holds s x a.num.signed z) same h.left)
          (subst (λ i. Holds end i b.num.signed y) (sym (next_is x)) (subst (λ (s : State). Holds s (suc x) b.num.signed y) same h.right))).says;
    }

both_and_does : (st : State) (a b : Operand) (x : ℕ) (u : Bool) (third e : Exp) (z y c q : ℤ) → reach b.exp ≤ x
    → AreDeclared x (word_for a.num.signed ∷ word_for b.num.signed ∷ word_for u ∷ []) (map kind_of st.words) → Stands st a z → Stands st b y
    → ((s : State) → Holds s x a.num.signed z → Holds s (x + 1) b.num.signed y → Says third s (word u c))
    → ((s : State) → Holds s x a.num.signed z → Holds s (x + 1) b.num.signed y → Holds s (x + 2) u c → Says e s (Int64 q))
    → Does x true q (over_both_and a.num.signed a.exp b.num.signed b.exp x u third e) st
both_and_does st a b x u third e z y c q low d ha hb g f =
    let h = held_both st a b x z y low d.0 d.1.0 ha hb in
    let mid : State = with_word st x (word a.num.signed z) in
    let two : State = with_word mid (suc x) (word b.num.signed y) in
    let end : State = with_word two (suc (suc x)) (word u c) in
    let same : h.end ≡ two = h.end_is ∙ ap (λ (s : State). with_word s (suc x) (word b.num.signed y)) h.mid_is in
    let left : Holds two x a.num.signed z = subst (λ (s : State). Holds s x a.num.signed z) same h.left in
    let right : Holds two (suc x) b.num.signed y = subst (λ (s : State). Holds s (suc x) b.num.signed y) same h.right in
    let types : map kind_of two.words ≡ map kind_of st.words = subst (λ (s : State). map kind_of s.words ≡ map kind_of st.words) same h.types in
    let d2 : slice_get (map kind_of two.words) (suc (suc x)) ≡ Some (word_for u) = ap (λ l. slice_get l (suc (suc x))) types ∙ d.1.1.0 in
    let floor : Says third two (word u c) = g two left (subst (λ i. Holds two i b.num.signed y) (sym (next_is x)) right) in
    let ss : List Sta = Set x a.exp ∷ Set (x + 1) b.exp ∷ Set (x + 2) third ∷ [] in
    let ws : List CWord = word_for a.num.signed ∷ word_for b.num.signed ∷ word_for u ∷ [] in
    let run : Runs x st ss ws end =
    Step x (word a.num.signed z) refl (stands_says st a z ha) (kind_of_word a.num.signed z)
    (Step (x + 1) (word b.num.signed y) (next_is x) (subst (λ (s : State). Says b.exp s (word b.num.signed y)) h.mid_is h.second) (kind_of_word b.num.signed y)
    (Step (x + 2) (word u c) (third_is x) floor (kind_of_word u c) Stop)) in
    let left3 : Holds end x a.num.signed z = holds_later two x (suc (suc x)) (word u c) a.num.signed z (omega arith) left in
    let right3 : Holds end (suc x) b.num.signed y = holds_later two (suc x) (suc (suc x)) (word u c) b.num.signed y (omega arith) right in
    let third3 : Holds end (suc (suc x)) u c = holds_set two (suc (suc x)) u c (word_for u) d2 in
    record {
      after = end;
      runs = run_of x st end ss ws run d;
      same = after_of x st end ss ws run d;
      gives = (f end left3 (subst (λ i. Holds end i b.num.signed y) (sym (next_is x)) right3) (subst (λ i. Holds end i u c) (sym (third_is x)) third3)).says;
    }

-- ---- parts

typed_left : (c : Scope) (a b : Operand) → All (IsTyped c) (a ∷ b ∷ []) → Typed c a.exp (word_for a.num.signed)
typed_left c a b h = record { is = (All-head (IsTyped c) a (b ∷ []) h).typed }

typed_right : (c : Scope) (a b : Operand) → All (IsTyped c) (a ∷ b ∷ []) → Typed c b.exp (word_for b.num.signed)
typed_right c a b h = record { is = (All-head (IsTyped c) b [] (All-tail (IsTyped c) a (b ∷ []) h)).typed }

-- what a part does with the integers of two operands
does_two : {st : State} {a b : Operand} {x : ℕ} {p : Part} (f : ℤ → ℤ → ℤ) → ((z y : ℤ) → Stands st a z → Stands st b y → Does x true (f z y) p st) → (zs : List ℤ) → AllStand st (a ∷ b ∷ []) zs → Does x true (on_two f zs) p st
does_two f g [] h = absurd h
does_two f g (z ∷ []) h = absurd h.1
does_two f g (z ∷ y ∷ []) h = g z y h.0 h.1.0
does_two f g (z ∷ y ∷ w ∷ zs) h = absurd h.1.1

pub both_part : (a b : Operand) (x : ℕ) (e : Exp) (r : ℤ → ℤ → ℤ) → reach a.exp ≤ x → reach b.exp ≤ x → IsSized e 20 (suc (x + 1)) → ((c : Scope) → Declares c x a.num.signed → Declares c (x + 1) b.num.signed → Typed c e I64)
    → ((st : State) (z y : ℤ) → IsInRange a.num z → IsInRange b.num y → Holds st x a.num.signed z → Holds st (x + 1) b.num.signed y → Says e st (Int64 (r z y)))
    → IsPartWithin 20 (a ∷ b ∷ []) x true (on_two r) (over_both a.num.signed a.exp b.num.signed b.exp x e)
both_part a b x e r la lb size typed says = record {
  in_order = (refl, la, (next_is x, omega (arith, lb), tt));
  count = refl;
  few = omega arith;
  reads = omega (arith, size.reads);
  fits = λ c d h.
      let second : Declares c (x + 1) b.num.signed = subst (λ i. slice_get c.words i ≡ Some (word_for b.num.signed)) (sym (next_is x)) d.1.0 in
      λ i. set_fits c x a.exp (word_for a.num.signed) d.0 (typed_left c a b h) i && (set_fits c (x + 1) b.exp (word_for b.num.signed) second (typed_right c a b h) i && true);
  typed = λ c d h. (typed c d.0 (subst (λ i. slice_get c.words i ≡ Some (word_for b.num.signed)) (sym (next_is x)) d.1.0)).is;
  shallow = omega arith;
  shallow_value = let v = size.depth in omega arith;
  does = λ st zs d h. does_two r (λ z y ha hb. both_does st a b x e z y (r z y) lb d ha hb (λ s g j. says s z y ha.in_range hb.in_range g j)) zs h;
}

pub both_and_part : (a b : Operand) (x : ℕ) (u : Bool) (third e : Exp) (r : ℤ → ℤ → ℤ) → reach a.exp ≤ x → reach b.exp ≤ x → IsSized third 20 (suc (x + 1)) → IsSized e 20 (suc (x + 2))
    → ((c : Scope) → Declares c x a.num.signed → Declares c (x + 1) b.num.signed → Typed c third (word_for u))
    → ((c : Scope) → Declares c x a.num.signed → Declares c (x + 1) b.num.signed → Declares c (x + 2) u → Typed c e I64)
    → ((z y : ℤ) → IsInRange a.num z → IsInRange b.num y → (c : ℤ) × ((st : State) → Holds st x a.num.signed z → Holds st (x + 1) b.num.signed y → Says third st (word u c))
    × ((st : State) → Holds st x a.num.signed z → Holds st (x + 1) b.num.signed y → Holds st (x + 2) u c → Says e st (Int64 (r z y))))
    → IsPartWithin 20 (a ∷ b ∷ []) x true (on_two r) (over_both_and a.num.signed a.exp b.num.signed b.exp x u third e)
both_and_part a b x u third e r la lb small size typed_third typed says = record {
  in_order = (refl, la, (next_is x, omega (arith, lb), (third_is x, omega (arith, small.reads), tt)));
  count = refl;
  few = omega arith;
  reads = omega (arith, size.reads);
  fits = λ c d h.
      let second : Declares c (x + 1) b.num.signed = subst (λ i. slice_get c.words i ≡ Some (word_for b.num.signed)) (sym (next_is x)) d.1.0 in
      let last : Declares c (x + 2) u = subst (λ i. slice_get c.words i ≡ Some (word_for u)) (sym (third_is x)) d.1.1.0 in
      λ i. set_fits c x a.exp (word_for a.num.signed) d.0 (typed_left c a b h) i
      && (set_fits c (x + 1) b.exp (word_for b.num.signed) second (typed_right c a b h) i && (set_fits c (x + 2) third (word_for u) last (typed_third c d.0 second) i && true));
  typed = λ c d h.
      (typed c d.0 (subst (λ i. slice_get c.words i ≡ Some (word_for b.num.signed)) (sym (next_is x)) d.1.0)
      (subst (λ i. slice_get c.words i ≡ Some (word_for u)) (sym (third_is x)) d.1.1.0)).is;
  shallow = let v = small.depth in omega arith;
  shallow_value = let v = size.depth in omega arith;
  does = λ st zs d h.
      does_two r (λ z y ha hb.
      let g = says z y ha.in_range hb.in_range in
      both_and_does st a b x u third e z y g.0 (r z y) lb d ha hb g.1 g.2) zs h;
}
