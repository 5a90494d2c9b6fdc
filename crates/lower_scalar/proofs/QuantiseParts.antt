-- A part that quantises.
use Rattle.std.proofs.Common.{◌≡◌, ℕ, zero, suc, ◌+◌, ◌-◌, ◌*◌, ◌<◌, ◌≤◌, Bool, true, false, List, [], ◌∷◌, length, map, ℤ, pos, negsuc, ◌+ℤ◌, ◌*ℤ◌, ◌≤ℤ◌, ◌^◌, Some, refl, sym, ap, ◌∙◌, subst, arith, if◌then◌else◌}
use Rattle.std.specs.Prelude.{◌-ℤ◌, slice_get, max, ◌&&◌, All, nat_lt, nat_le, nat_eq}
use Rattle.std.proofs.lemmas.Bool.{ltb-true, ltb-false, leb-true, eqb-true}
use Rattle.std.proofs.lemmas.Nat.{pow_pos, pow-add}
use Rattle.std.proofs.Math.Pow.{pow_mono}
use Rattle.std.proofs.Math.Nat.{mul-le-mul_right, mul-lt-mul_of_pos_right}
use Rattle.std.proofs.lemmas.Int.{ints}
use Rattle.std.proofs.lemmas.List.Elements.{All-head}
use Rattle.num_type.specs.declared.methods.Rounding.{Rounding}
use Rattle.num_type.specs.declared.methods.Overflow.{Overflow}
use Rattle.num_type.specs.declared.methods.Overflow.TheVariants.{Saturate, Wrap}
use Rattle.num_type.specs.Types.{NumericType, IsInRange, least_of, greatest_of}
use Rattle.fi_quant.specs.Round.{IsRounded}
use Rattle.fi_quant.specs.Fit.{IsFit, IsQuantised}
use Rattle.fi_quant.specs.Numbers.{quantised, rounded, floor_of}
use Rattle.fi_quant.proofs.Once.{rounded_once, quantised_once}
use Rattle.fi_quant.proofs.Exist.{rounded_is, quantised_is}
use Rattle.fi_quant.proofs.Signs.{neg-mul}
use Rattle.fi_quant.proofs.Exact.{quantised_exact}
use Rattle.c_tree.specs.declared.tree.CWord.{CWord}
use Rattle.c_tree.specs.Tree.{Exp, Sta, Set}
use Rattle.c_tree.specs.Depth.{exp_depth, block_depth}
use Rattle.c_tree.specs.View.{block_of}
use Rattle.c_tree.specs.WellFormed.{Scope, are_fit, is_set, type_of_exp}
use Rattle.c_tree.specs.Meaning.{Word, State, with_word}
use Rattle.lower_scalar.specs.Part.{Part, Operand, Stands, AllStand, IsTyped, word, word_for, kind_of, reach, deepest, AreDeclared, AreInOrder, IsAfter, Does, on_one, Quantises}
use Rattle.lower_scalar.specs.Shapes.{resigned, floor_shift, round_shift, round_far, fitted, raised, raised_fitted, holds_raised, alone, over_one, over_two, over_three, raised_part, lowered_part, quantised_by, quantised_part}
use Rattle.lower_scalar.proofs.Within.{IsPartWithin, is_part}
use Rattle.lower_scalar.proofs.Says.{Says}
use Rattle.lower_scalar.proofs.Typed.{Typed}
use Rattle.lower_scalar.proofs.Words.{IsWord, Holds, resigned_says, floor_word}
use Rattle.lower_scalar.proofs.RoundShapes.{SaysRounded, floor_says, round_says, far_says}
use Rattle.lower_scalar.proofs.FitShapes.{IsFitIn, SaysFit, range_word, fitted_says}
use Rattle.lower_scalar.proofs.Raised.{times_one, factor_word, raised_says, raised_fitted_says}
use Rattle.lower_scalar.proofs.Formed.{Declares, t_floor, t_round, t_far, t_fitted, t_raised, t_resigned, t_raised_fitted}
use Rattle.lower_scalar.proofs.Sizes.{IsSized, floor_sized, round_sized, far_sized, fitted_sized, raised_sized, resigned_sized, raised_fitted_sized}
use Rattle.lower_scalar.proofs.Runs.{Runs, Stop, Step, run_of, after_of, holds_set, holds_later, types_set, set_fits, kind_of_word}

-- an operand that stands says its word
pub stands_says : (st : State) (o : Operand) (z : ℤ) → Stands st o z → Says o.exp st (word o.num.signed z)
stands_says st o z h = record { says = h.gives }

-- ---- what an expression over variables does

alone_does : (st : State) (fresh : ℕ) (t : Bool) (q : ℤ) (e : Exp) → Says e st (word t q) → Does fresh t q (alone e) st
alone_does st fresh t q e p = record {
  after = st;
  runs = λ n at. refl;
  same = record { rest = refl; types = refl; below = λ k h. refl; above = λ k h. refl };
  gives = p.says;
}

one_does : (st : State) (s : Bool) (e : Exp) (x : ℕ) (v : Exp) (t : Bool) (z q : ℤ) → AreDeclared x (word_for s ∷ []) (map kind_of st.words) → Says e st (word s z)
    → ((a : State) → Holds a x s z → Says v a (word t q)) → Does x t q (over_one s e x v) st
one_does st s e x v t z q d p f =
    let st1 : State = with_word st x (word s z) in
    let r : Runs x st (Set x e ∷ []) (word_for s ∷ []) st1 = Step x (word s z) refl p (kind_of_word s z) Stop in
    record {
      after = st1;
      runs = run_of x st st1 (Set x e ∷ []) (word_for s ∷ []) r d;
      same = after_of x st st1 (Set x e ∷ []) (word_for s ∷ []) r d;
      gives = (f st1 (holds_set st x s z (word_for s) d.0)).says;
    }

next_is : (x : ℕ) → x + 1 ≡ suc x
next_is x = omega arith

two_does : (st : State) (s : Bool) (e : Exp) (x : ℕ) (u v : Exp) (t : Bool) (z y q : ℤ) → AreDeclared x (word_for s ∷ word_for s ∷ []) (map kind_of st.words) → Says e st (word s z)
    → ((a : State) → Holds a x s z → Says u a (word s y))
    → ((a : State) → Holds a (x + 1) s y → Says v a (word t q)) → Does x t q (over_two s e x u v) st
two_does st s e x u v t z y q d p f g =
    let st1 : State = with_word st x (word s z) in
    let h1 : Holds st1 x s z = holds_set st x s z (word_for s) d.0 in
    let st2 : State = with_word st1 (suc x) (word s y) in
    let types : map kind_of st1.words ≡ map kind_of st.words = types_set st x s z d.0 in
    let d1 : slice_get (map kind_of st1.words) (suc x) ≡ Some (word_for s) = ap (λ l. slice_get l (suc x)) types ∙ d.1.0 in
    let h2 : Holds st2 (suc x) s y = holds_set st1 (suc x) s y (word_for s) d1 in
    let r : Runs x st (Set x e ∷ Set (x + 1) u ∷ []) (word_for s ∷ word_for s ∷ []) st2 =
    Step x (word s z) refl p (kind_of_word s z) (Step (x + 1) (word s y) (next_is x) (f st1 h1) (kind_of_word s y) Stop) in
    record {
      after = st2;
      runs = run_of x st st2 (Set x e ∷ Set (x + 1) u ∷ []) (word_for s ∷ word_for s ∷ []) r d;
      same = after_of x st st2 (Set x e ∷ Set (x + 1) u ∷ []) (word_for s ∷ word_for s ∷ []) r d;
      gives = (g st2 (subst (λ i. Holds st2 i s y) (sym (next_is x)) h2)).says;
    }

third_is : (x : ℕ) → x + 2 ≡ suc (suc x)
third_is x = omega arith

three_does : (st : State) (s : Bool) (e : Exp) (x : ℕ) (u r v : Exp) (t : Bool) (z y c q : ℤ) → AreDeclared x (word_for s ∷ word_for s ∷ word_for s ∷ []) (map kind_of st.words) → Says e st (word s z)
    → ((a : State) → Holds a x s z → Says u a (word s y))
    → ((a : State) → Holds a x s z → Holds a (x + 1) s y → Says r a (word s c))
    → ((a : State) → Holds a (x + 2) s c → Says v a (word t q)) → Does x t q (over_three s e x u r v) st
three_does st s e x u r v t z y c q d p f g j =
    let st1 : State = with_word st x (word s z) in
    let h1 : Holds st1 x s z = holds_set st x s z (word_for s) d.0 in
    let st2 : State = with_word st1 (suc x) (word s y) in
    let types : map kind_of st1.words ≡ map kind_of st.words = types_set st x s z d.0 in
    let d1 : slice_get (map kind_of st1.words) (suc x) ≡ Some (word_for s) = ap (λ l. slice_get l (suc x)) types ∙ d.1.0 in
    let h2 : Holds st2 (suc x) s y = holds_set st1 (suc x) s y (word_for s) d1 in
    let h1' : Holds st2 x s z = holds_later st1 x (suc x) (word s y) s z (omega arith) h1 in
    let st3 : State = with_word st2 (suc (suc x)) (word s c) in
    let types2 : map kind_of st2.words ≡ map kind_of st1.words = types_set st1 (suc x) s y d1 in
    let d2 : slice_get (map kind_of st2.words) (suc (suc x)) ≡ Some (word_for s) = ap (λ l. slice_get l (suc (suc x))) (types2 ∙ types) ∙ d.1.1.0 in
    let h3 : Holds st3 (suc (suc x)) s c = holds_set st2 (suc (suc x)) s c (word_for s) d2 in
    let ss : List Sta = Set x e ∷ Set (x + 1) u ∷ Set (x + 2) r ∷ [] in
    let ws : List CWord = word_for s ∷ word_for s ∷ word_for s ∷ [] in
    let run : Runs x st ss ws st3 =
    Step x (word s z) refl p (kind_of_word s z) (Step (x + 1) (word s y) (next_is x) (f st1 h1) (kind_of_word s y)
    (Step (x + 2) (word s c) (third_is x) (g st2 h1' (subst (λ i. Holds st2 i s y) (sym (next_is x)) h2)) (kind_of_word s c) Stop)) in
    record {
      after = st3;
      runs = run_of x st st3 ss ws run d;
      same = after_of x st st3 ss ws run d;
      gives = (j st3 (subst (λ i. Holds st3 i s c) (sym (third_is x)) h3)).says;
    }

-- ---- parts over one operand

-- the operand
abbrev pub of : NumericType → Exp → List Operand
of from e = record { num = from; exp = e } ∷ []

typed_operand : (c : Scope) (from : NumericType) (e : Exp) → All (IsTyped c) (of from e) → Typed c e (word_for from.signed)
typed_operand c from e h = record { is = (All-head (IsTyped c) (record { num = from; exp = e }) [] h).typed }

-- a number that the definition of quantising admits
quantised_says : (m : Rounding) (a : Overflow) (t from : NumericType) (z q : ℤ) (e : Exp) (st : State) → 1 ≤ t.word → IsQuantised m a t z from.fraction q → Says e st (word t.signed q) → Says e st (word t.signed (quantised m a t z from.fraction))
quantised_says m a t from z q e st one h p =
    let same : q ≡ quantised m a t z from.fraction = quantised_once m a t z from.fraction q (quantised m a t z from.fraction) one h (quantised_is m a t z from.fraction one) in
    subst (λ (v : ℤ). Says e st (word t.signed v)) same p

up_is : (m : Rounding) (a : Overflow) (t from : NumericType) (z q : ℤ) (n : ℕ) → t.fraction -ℤ from.fraction ≡ pos n → IsFitIn a t.signed t.word (z *ℤ pos (2 ^ n)) q → IsQuantised m a t z from.fraction q
up_is m a t from z q n d h = record {
  widened = λ i e. let same : n ≡ i = omega (arith, ints) in fit a (z *ℤ pos (2 ^ i)) (subst (λ (v : ℕ). IsFitIn a t.signed t.word (z *ℤ pos (2 ^ v)) q) same h);
  narrowed = λ k e l. absurd (omega (arith, ints));
}
  where
    fit : (a : Overflow) (y : ℤ) → IsFitIn a t.signed t.word y q → IsFit a t y q
    fit Saturate y h = h
    fit Wrap y h = h

down_is : (m : Rounding) (a : Overflow) (t from : NumericType) (z r q : ℤ) (k : ℕ) → from.fraction ≡ t.fraction +ℤ pos k → 1 ≤ k → IsRounded m z k r → IsFitIn a t.signed t.word r q → IsQuantised m a t z from.fraction q
down_is m a t from z r q k d one g h = record {
  widened = λ i e. absurd (omega (arith, ints));
  narrowed = λ i e l. let same : k ≡ i = omega (arith, ints) in (r, subst (λ (v : ℕ). IsRounded m z v r) same g, fit a h);
}
  where
    fit : (a : Overflow) → IsFitIn a t.signed t.word r q → IsFit a t r q
    fit Saturate h = h
    fit Wrap h = h

-- what a part does with the integer of one operand
does_one : {st : State} {o : Operand} {x : ℕ} {t : Bool} {p : Part} (f : ℤ → ℤ) → ((z : ℤ) → Stands st o z → Does x t (f z) p st) → (zs : List ℤ) → AllStand st (o ∷ []) zs → Does x t (on_one f zs) p st
does_one f g [] h = absurd h
does_one f g (z ∷ []) h = g z h.0
does_one f g (z ∷ y ∷ zs) h = absurd h.1

pub alone_part : (from : NumericType) (e : Exp) (x : ℕ) (v : Exp) (t : Bool) (f : ℤ → ℤ) → IsSized v (exp_depth e + 20) x → ((c : Scope) → Typed c e (word_for from.signed) → Typed c v (word_for t))
    → ((st : State) (z : ℤ) → Stands st (record { num = from; exp = e }) z → Says v st (word t (f z))) → IsPartWithin 20 (of from e) x t (on_one f) (alone v)
alone_part from e x v t f size typed says = record {
  in_order = tt;
  count = refl;
  few = omega arith;
  reads = omega (arith, size.reads);
  fits = λ c d h. refl;
  typed = λ c d h. (typed c (typed_operand c from e h)).is;
  shallow = omega arith;
  shallow_value = let a = size.depth in omega arith;
  does = λ st zs d h. does_one f (λ z s. alone_does st x t (f z) v (says st z s)) zs h;
}

pub one_part : (from : NumericType) (e : Exp) (x : ℕ) (v : Exp) (t : Bool) (f : ℤ → ℤ) → reach e ≤ x → IsSized v 20 (suc x) → ((c : Scope) → Declares c x from.signed → Typed c v (word_for t))
    → ((st : State) (z : ℤ) → IsInRange from z → Holds st x from.signed z → Says v st (word t (f z))) → IsPartWithin 20 (of from e) x t (on_one f) (over_one from.signed e x v)
one_part from e x v t f low size typed says = record {
  in_order = (refl, low, tt);
  count = refl;
  few = omega arith;
  reads = omega (arith, size.reads);
  fits = λ c d h. λ i. set_fits c x e (word_for from.signed) d.0 (typed_operand c from e h) i && true;
  typed = λ c d h. (typed c d.0).is;
  shallow = omega arith;
  shallow_value = let a = size.depth in omega arith;
  does = λ st zs d h. does_one f (λ z s. one_does st from.signed e x v t z (f z) d (stands_says st (record { num = from; exp = e }) z s) (λ a g. says a z s.in_range g)) zs h;
}

two_part : (from : NumericType) (e : Exp) (x : ℕ) (u v : Exp) (t : Bool) (f : ℤ → ℤ) → reach e ≤ x → IsSized u 20 (suc x) → IsSized v 20 (suc (x + 1))
    → ((c : Scope) → Declares c x from.signed → Typed c u (word_for from.signed)) → ((c : Scope) → Declares c (x + 1) from.signed → Typed c v (word_for t))
    → ((z : ℤ) → IsInRange from z → (y : ℤ) × ((st : State) → Holds st x from.signed z → Says u st (word from.signed y)) × ((st : State) → Holds st (x + 1) from.signed y → Says v st (word t (f z))))
    → IsPartWithin 20 (of from e) x t (on_one f) (over_two from.signed e x u v)
two_part from e x u v t f low small size typed_u typed says = record {
  in_order = (refl, low, (next_is x, small.reads, tt));
  count = refl;
  few = omega arith;
  reads = omega (arith, size.reads);
  fits = λ c d h.
      let second : slice_get c.words (x + 1) ≡ Some (word_for from.signed) = subst (λ i. slice_get c.words i ≡ Some (word_for from.signed)) (sym (next_is x)) d.1.0 in
      λ i. set_fits c x e (word_for from.signed) d.0 (typed_operand c from e h) i && (set_fits c (x + 1) u (word_for from.signed) second (typed_u c d.0) i && true);
  typed = λ c d h. (typed c (subst (λ i. slice_get c.words i ≡ Some (word_for from.signed)) (sym (next_is x)) d.1.0)).is;
  shallow = let a = small.depth in omega arith;
  shallow_value = let a = size.depth in omega arith;
  does = λ st zs d h.
      does_one f (λ z s.
      let g = says z s.in_range in
      two_does st from.signed e x u v t z g.0 (f z) d (stands_says st (record { num = from; exp = e }) z s) g.1 g.2) zs h;
}

three_part : (from : NumericType) (e : Exp) (x : ℕ) (u r v : Exp) (t : Bool) (f : ℤ → ℤ) → reach e ≤ x → IsSized u 20 (suc x) → IsSized r 20 (suc (suc x)) → IsSized v 20 (suc (x + 2))
    → ((c : Scope) → Declares c x from.signed → Typed c u (word_for from.signed))
    → ((c : Scope) → Declares c x from.signed → Declares c (x + 1) from.signed → Typed c r (word_for from.signed))
    → ((c : Scope) → Declares c (x + 2) from.signed → Typed c v (word_for t))
    → ((z : ℤ) → IsInRange from z → (y c : ℤ) × ((st : State) → Holds st x from.signed z → Says u st (word from.signed y)) × ((st : State) → Holds st x from.signed z → Holds st (x + 1) from.signed y → Says r st (word from.signed c))
    × ((st : State) → Holds st (x + 2) from.signed c → Says v st (word t (f z))))
    → IsPartWithin 20 (of from e) x t (on_one f) (over_three from.signed e x u r v)
three_part from e x u r v t f low small middle size typed_u typed_r typed says = record {
  in_order = (refl, low, (next_is x, small.reads, (third_is x, middle.reads, tt)));
  count = refl;
  few = omega arith;
  reads = omega (arith, size.reads);
  fits = λ c d h.
      let second : Declares c (x + 1) from.signed = subst (λ i. slice_get c.words i ≡ Some (word_for from.signed)) (sym (next_is x)) d.1.0 in
      let third : Declares c (x + 2) from.signed = subst (λ i. slice_get c.words i ≡ Some (word_for from.signed)) (sym (third_is x)) d.1.1.0 in
      λ i. set_fits c x e (word_for from.signed) d.0 (typed_operand c from e h) i
      && (set_fits c (x + 1) u (word_for from.signed) second (typed_u c d.0) i && (set_fits c (x + 2) r (word_for from.signed) third (typed_r c d.0 second) i && true));
  typed = λ c d h. (typed c (subst (λ i. slice_get c.words i ≡ Some (word_for from.signed)) (sym (third_is x)) d.1.1.0)).is;
  shallow = let a = small.depth in let b = middle.depth in omega arith;
  shallow_value = let a = size.depth in omega arith;
  does = λ st zs d h.
      does_one f (λ z s.
      let g = says z s.in_range in
      three_does st from.signed e x u r v t z g.0 g.1 (f z) d (stands_says st (record { num = from; exp = e }) z s) g.2 g.3 g.4) zs h;
}

-- ---- quantising

-- the integers of a type are words
pub type_word : (t : NumericType) (z : ℤ) → t.word ≤ 64 → IsInRange t z → IsWord t.signed z
type_word t z h i = range_word t.signed t.word z h i.least i.most

-- ---- the rounded number is a word

abbrev any_state : List Word → State
any_state ws = record { words = ws; counts = record { groups = []; barriers = []; sources = []; turns = [] }; inputs = []; outputs = []; locals = [] }

rounded_says : (m : Rounding) (st : State) (s : Bool) (k : ℕ) (z : ℤ) (e : Exp) → SaysRounded m st s k z e → Says e st (word s (rounded m z k))
rounded_says m st s k z e r = subst (λ (v : ℤ). Says e st (word s v)) (rounded_once m z k r.number (rounded m z k) r.is (rounded_is m z k)) r.says

word_rounded : (m : Rounding) (st : State) (s : Bool) (k : ℕ) (z : ℤ) (e : Exp) → SaysRounded m st s k z e → IsWord s (rounded m z k)
word_rounded m st s k z e r = subst (IsWord s) (rounded_once m z k r.number (rounded m z k) r.is (rounded_is m z k)) r.is_word

near_word : (m : Rounding) (s : Bool) (z : ℤ) (k : ℕ) → 1 ≤ k → k < 64 → IsWord s z → IsWord s (rounded m z k)
near_word m s z k some near i =
    let st : State = any_state (word s z ∷ word s (floor_of z (2 ^ k)) ∷ []) in
    word_rounded m st s k z (round_shift m s 0 1 k) (round_says m st s 0 1 k z (record { number = refl; floor = refl; is_word = i; some = some; most = near }))

far_word : (m : Rounding) (s : Bool) (z : ℤ) (k : ℕ) → 64 ≤ k → IsWord s z → IsWord s (rounded m z k)
far_word m s z k far i =
    let st : State = any_state (word s z ∷ []) in
    word_rounded m st s k z (round_far m s 0 k) (far_says m st s 0 k z far i refl)

-- ---- what the type holds, raised

pub raised_most : (m i j n : ℕ) → m < 2 ^ i → i + n ≤ j → m * 2 ^ n < 2 ^ j
raised_most m i j n h l =
    let a : m * 2 ^ n < 2 ^ i * 2 ^ n = mul-lt-mul_of_pos_right h (pow_pos n) in
    let b : 2 ^ (i + n) ≤ 2 ^ j = pow_mono l in
    omega (arith, a, b, pow-add 2 i n)

raised_least : (m i j n : ℕ) → m ≤ 2 ^ i → i + n ≤ j → m * 2 ^ n ≤ 2 ^ j
raised_least m i j n h l =
    let a : m * 2 ^ n ≤ 2 ^ i * 2 ^ n = mul-le-mul_right (2 ^ n) h in
    let b : 2 ^ (i + n) ≤ 2 ^ j = pow_mono l in
    omega (arith, a, b, pow-add 2 i n)

held_both : (v w n : ℕ) (z : ℤ) → 1 ≤ v → v + n ≤ w → least_of true v ≤ℤ z → z ≤ℤ greatest_of true v → (least_of true w ≤ℤ (z *ℤ pos (2 ^ n))) × ((z *ℤ pos (2 ^ n)) ≤ℤ greatest_of true w)
held_both v w n (pos m) one l a b = let c = raised_most m (v - 1) (w - 1) n (omega (arith, ints, b, pow_pos (v - 1))) (omega arith) in (omega (arith, ints), omega (arith, ints, c))
held_both v w n (negsuc m) one l a b = let c = raised_least (suc m) (v - 1) (w - 1) n (omega (arith, ints, a)) (omega arith) in (omega (arith, ints, c, neg-mul (suc m) (2 ^ n)), omega (arith, ints, neg-mul (suc m) (2 ^ n)))

held : (t : Bool) (w : ℕ) (s : Bool) (v n : ℕ) (z : ℤ) → 1 ≤ v → holds_raised t w s v n ≡ true → least_of s v ≤ℤ z → z ≤ℤ greatest_of s v → (least_of t w ≤ℤ (z *ℤ pos (2 ^ n))) × ((z *ℤ pos (2 ^ n)) ≤ℤ greatest_of t w)
held true w true v n z one h a b = held_both v w n z one (leb-true (v + n) w h) a b
held true w false v n (pos m) one h a b =
    let l : v + n < w = ltb-true (v + n) w h in
    let c = raised_most m v (w - 1) n (omega (arith, ints, b, pow_pos v)) (omega (arith, l)) in
    (omega (arith, ints), omega (arith, ints, c))
held true w false v n (negsuc m) one h a b = absurd (omega (arith, ints, a))
held false w true v n z one h a b = absurd (let e : false ≡ true = h in cc)
held false w false v n (pos m) one h a b =
    let l : v + n ≤ w = leb-true (v + n) w h in
    let c = raised_most m v w n (omega (arith, ints, b, pow_pos v)) l in
    (omega (arith, ints), omega (arith, ints, c))
held false w false v n (negsuc m) one h a b = absurd (omega (arith, ints, a))

held_far : (t : Bool) (w : ℕ) (s : Bool) (v n : ℕ) → 1 ≤ v → w ≤ 64 → holds_raised t w s v n ≡ true → n < 64
held_far true w true v n one lim h = let l = leb-true (v + n) w h in omega (arith, l)
held_far true w false v n one lim h = let l = ltb-true (v + n) w h in omega (arith, l)
held_far false w true v n one lim h = absurd (let e : false ≡ true = h in cc)
held_far false w false v n one lim h = let l = leb-true (v + n) w h in omega (arith, l)

-- the same at the depth that it has
abbrev pub QuantisesWithin : ℕ → Rounding → Overflow → NumericType → NumericType → Exp → ℕ → Part → Type 0
QuantisesWithin more m a t from e x p = IsPartWithin more (of from e) x t.signed (on_one (λ z. quantised m a t z from.fraction)) p

raised_is_part : (m : Rounding) (a : Overflow) (t from : NumericType) (e : Exp) (n x : ℕ) → 1 ≤ t.word → t.word ≤ 64 → 1 ≤ from.word → from.word ≤ 64 → reach e ≤ x → t.fraction -ℤ from.fraction ≡ pos n → QuantisesWithin 20 m a t from e x (raised_part a t from e n x)
unfolding raised_part
raised_is_part m a t from e n x one lim fone flim low d = by (holds_raised t.signed t.word from.signed from.word n) (nat_eq n 0) refl refl
  where
    f : ℤ → ℤ
    f z = quantised m a t z from.fraction

    by : (b c : Bool) → holds_raised t.signed t.word from.signed from.word n ≡ b → nat_eq n 0 ≡ c
        → QuantisesWithin 20 m a t from e x (if b then alone (raised t.signed n (resigned from.signed t.signed e)) else (if c then over_one from.signed e x (fitted a t.signed t.word from.signed x) else over_one from.signed e x (raised_fitted a t.signed t.word from.signed x n)))
    by true c h k =
        let far : n < 64 = held_far t.signed t.word from.signed from.word n fone lim h in
        let plain : IsSized e (exp_depth e) x = record { depth = omega arith; reads = low } in
        let size = raised_sized t.signed n (exp_depth e + 1) x (resigned from.signed t.signed e) (resigned_sized from.signed t.signed (exp_depth e) x e plain) in
        alone_part from e x (raised t.signed n (resigned from.signed t.signed e)) t.signed f (record { depth = omega (arith, size.depth); reads = size.reads })
        (λ s g. t_raised t.signed n far (t_resigned from.signed t.signed g))
        (λ st z s.
        let i = s.in_range in
        let r = held t.signed t.word from.signed from.word n z fone h i.least i.most in
        let w : IsWord t.signed (z *ℤ pos (2 ^ n)) = range_word t.signed t.word (z *ℤ pos (2 ^ n)) lim r.0 r.1 in
        let exact : f z ≡ z *ℤ pos (2 ^ n) = quantised_exact m a t z from.fraction n one (omega (arith, ints, d)) (record { least = r.0; most = r.1 }) in
        subst (λ (v : ℤ). Says (raised t.signed n (resigned from.signed t.signed e)) st (word t.signed v)) (sym exact)
        (raised_says t.signed n z w (resigned_says from.signed t.signed z (type_word from z flim i) (factor_word t.signed z n w) (stands_says st (record { num = from; exp = e }) z s))))
    by false true h k =
        let zero_n : n ≡ 0 = eqb-true n 0 k in
        one_part from e x (fitted a t.signed t.word from.signed x) t.signed f low (fitted_sized a t.signed t.word from.signed x)
        (λ c g. t_fitted a c t.signed t.word from.signed x lim g)
        (λ st z i g.
        let r = fitted_says a st t.signed t.word from.signed x z one lim (type_word from z flim i) g in
        let same : z ≡ z *ℤ pos (2 ^ n) = sym (ap (λ (j : ℕ). z *ℤ pos (2 ^ j)) zero_n ∙ times_one z) in
        quantised_says m a t from z r.number (fitted a t.signed t.word from.signed x) st one (up_is m a t from z r.number n d (subst (λ (v : ℤ). IsFitIn a t.signed t.word v r.number) same r.is)) r.says)
    by false false h k =
        one_part from e x (raised_fitted a t.signed t.word from.signed x n) t.signed f low (raised_fitted_sized a t.signed t.word from.signed x n)
        (λ c g. t_raised_fitted a c t.signed t.word from.signed x n (some n k) lim g)
        (λ st z i g.
        let r = raised_fitted_says a st t.signed t.word from.signed x n z one lim (type_word from z flim i) g in
        quantised_says m a t from z r.number (raised_fitted a t.signed t.word from.signed x n) st one (up_is m a t from z r.number n d r.is) r.says)
      where
        some : (n : ℕ) → nat_eq n 0 ≡ false → 1 ≤ n
        some zero k = absurd (let e : true ≡ false = k in cc)
        some (suc n) k = omega arith

lowered_is_part : (m : Rounding) (a : Overflow) (t from : NumericType) (e : Exp) (k x : ℕ) → 1 ≤ t.word → t.word ≤ 64 → from.word ≤ 64 → reach e ≤ x → 1 ≤ k → from.fraction ≡ t.fraction +ℤ pos k → QuantisesWithin 20 m a t from e x (lowered_part m a t from e k x)
unfolding lowered_part
lowered_is_part m a t from e k x one lim flim low some d = by (nat_lt k 64) refl
  where
    f : ℤ → ℤ
    f z = quantised m a t z from.fraction

    last : (j : ℕ) (z : ℤ) → IsInRange from z → IsWord from.signed (rounded m z k) → (st : State) → Holds st j from.signed (rounded m z k) → Says (fitted a t.signed t.word from.signed j) st (word t.signed (f z))
    last j z i w st g =
        let r = fitted_says a st t.signed t.word from.signed j (rounded m z k) one lim w g in
        quantised_says m a t from z r.number (fitted a t.signed t.word from.signed j) st one (down_is m a t from z (rounded m z k) r.number k d some (rounded_is m z k) r.is) r.says

    by : (b : Bool) → nat_lt k 64 ≡ b
        → QuantisesWithin 20 m a t from e x (if b then over_three from.signed e x (floor_shift from.signed x k) (round_shift m from.signed x (x + 1) k) (fitted a t.signed t.word from.signed (x + 2)) else over_two from.signed e x (round_far m from.signed x k) (fitted a t.signed t.word from.signed (x + 1)))
    by true h =
        let near : k < 64 = ltb-true k 64 h in
        three_part from e x (floor_shift from.signed x k) (round_shift m from.signed x (x + 1) k) (fitted a t.signed t.word from.signed (x + 2)) t.signed f low
        (floor_sized from.signed x k) (round_sized m from.signed x (x + 1) k (suc (suc x)) (omega arith) (omega arith)) (fitted_sized a t.signed t.word from.signed (x + 2))
        (λ c g. t_floor c x from.signed k (omega (arith, near)) g)
        (λ c g j. t_round m c x (x + 1) from.signed k some (omega (arith, near)) g j)
        (λ c g. t_fitted a c t.signed t.word from.signed (x + 2) lim g)
        (λ z i. steps z i near)
      where
        steps : (z : ℤ) → IsInRange from z → k < 64 → (y c : ℤ) × ((st : State) → Holds st x from.signed z → Says (floor_shift from.signed x k) st (word from.signed y)) × ((st : State) → Holds st x from.signed z → Holds st (x + 1) from.signed y → Says (round_shift m from.signed x (x + 1) k) st (word from.signed c))
            × ((st : State) → Holds st (x + 2) from.signed c → Says (fitted a t.signed t.word from.signed (x + 2)) st (word t.signed (f z)))
        steps z i near =
            let iz : IsWord from.signed z = type_word from z flim i in
            let c : ℤ = rounded m z k in (
              floor_of z (2 ^ k),
              c,
              (λ st g. floor_says st x from.signed z k near iz g),
              (λ st g j. rounded_says m st from.signed k z (round_shift m from.signed x (x + 1) k) (round_says m st from.signed x (x + 1) k z (record { number = g; floor = j; is_word = iz; some = some; most = near }))),
              (λ st g. last (x + 2) z i (near_word m from.signed z k some near iz) st g),
            )
    by false h =
        let far : 64 ≤ k = ltb-false k 64 h in
        two_part from e x (round_far m from.signed x k) (fitted a t.signed t.word from.signed (x + 1)) t.signed f low
        (far_sized m from.signed x k) (fitted_sized a t.signed t.word from.signed (x + 1))
        (λ c g. t_far m c x from.signed k g)
        (λ c g. t_fitted a c t.signed t.word from.signed (x + 1) lim g)
        (λ z i.
        let iz : IsWord from.signed z = type_word from z flim i in (
          rounded m z k,
          (λ st g. rounded_says m st from.signed k z (round_far m from.signed x k) (far_says m st from.signed x k z far iz g)),
          (λ st g. last (x + 1) z i (far_word m from.signed z k far iz) st g),
        ))

-- quantising by any fraction lengths
by_difference : (d : ℤ) (m : Rounding) (a : Overflow) (t from : NumericType) (e : Exp) (x : ℕ) → 1 ≤ t.word → t.word ≤ 64 → 1 ≤ from.word → from.word ≤ 64 → reach e ≤ x → t.fraction -ℤ from.fraction ≡ d → QuantisesWithin 20 m a t from e x (quantised_by d m a t from e x)
unfolding quantised_by
by_difference (pos n) m a t from e x one lim fone flim low d = raised_is_part m a t from e n x one lim fone flim low d
by_difference (negsuc j) m a t from e x one lim fone flim low d = lowered_is_part m a t from e (suc j) x one lim flim low (omega arith) (omega (arith, ints, d))

pub quantised_within : (m : Rounding) (a : Overflow) (t from : NumericType) (e : Exp) (x : ℕ) → 1 ≤ t.word → t.word ≤ 64 → 1 ≤ from.word → from.word ≤ 64 → reach e ≤ x → QuantisesWithin 20 m a t from e x (quantised_part m a t from e x)
quantised_within m a t from e x one lim fone flim low = by_difference (t.fraction -ℤ from.fraction) m a t from e x one lim fone flim low refl

pub quantised_is_part : (m : Rounding) (a : Overflow) (t from : NumericType) (e : Exp) (x : ℕ) → 1 ≤ t.word → t.word ≤ 64 → 1 ≤ from.word → from.word ≤ 64 → reach e ≤ x → Quantises m a t from e x (quantised_part m a t from e x)
quantised_is_part m a t from e x one lim fone flim low =
    is_part 20 (of from e) x t.signed (on_one (λ z. quantised m a t z from.fraction)) (quantised_part m a t from e x) (omega arith) (quantised_within m a t from e x one lim fone flim low)

-- ---- what the code emits

pub part_up : (m : Rounding) (a : Overflow) (t from : NumericType) (e : Exp) (n x : ℕ) → t.fraction ≡ from.fraction +ℤ pos n → raised_part a t from e n x ≡ quantised_part m a t from e x
unfolding quantised_by
part_up m a t from e n x h = ap (λ d. quantised_by d m a t from e x) (let k : pos n ≡ t.fraction -ℤ from.fraction = omega (arith, ints) in k)

pub part_down : (m : Rounding) (a : Overflow) (t from : NumericType) (e : Exp) (k x : ℕ) → from.fraction ≡ t.fraction +ℤ pos k → 1 ≤ k → lowered_part m a t from e k x ≡ quantised_part m a t from e x
unfolding quantised_by
part_down m a t from e k x h one = by k h one
  where
    by : (k : ℕ) → from.fraction ≡ t.fraction +ℤ pos k → 1 ≤ k → lowered_part m a t from e k x ≡ quantised_part m a t from e x
    by zero h one = absurd (omega (arith, one))
    by (suc j) h one = ap (λ d. quantised_by d m a t from e x) (let i : negsuc j ≡ t.fraction -ℤ from.fraction = omega (arith, ints, h) in i)
