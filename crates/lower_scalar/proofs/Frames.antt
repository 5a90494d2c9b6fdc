-- An expression gives the same in two states that agree on what it reads.
use Rattle.std.proofs.Common.{◌≡◌, ℕ, suc, ◌+◌, ◌<◌, ◌≤◌, List, refl, sym, ap, ◌∙◌, subst, arith, Bool, true, false, Option}
use Rattle.std.specs.Prelude.{slice_get, max, pos}
use Rattle.c_tree.specs.declared.tree.CArray.{CArray}
use Rattle.c_tree.specs.declared.tree.CArray.TheVariants as array
use Rattle.c_tree.specs.Tree.{Exp, Signed, Unsigned, Var, Count, Element, Cast, Truth, Neg, Binary, Choose, Test, Compare}
use Rattle.c_tree.specs.Tokens.{tokens, test_tokens}
use Rattle.c_tree.specs.Outcome.{Outcome, Completes, ◌>>=◌, bind, choose, when◌then◌else◌, found_at}
use Rattle.c_tree.specs.Meaning.{Word, Int64, Uint64, Cells, State, value, holds, operated, negated, converted, compared, element, number_of, cells_in, count_in}
use Rattle.lower_scalar.specs.Part.{reach, test_reach}

-- the variables below a number have the same values
abbrev pub Agree : ℕ → List Word → List Word → Type 0
Agree r ws vs = (k : ℕ) → k < r → slice_get ws k ≡ slice_get vs k

same_cells : (st : State) (ws : List Word) (a : CArray) → cells_in (record st { words = ws }) a ≡ cells_in st a
same_cells st ws (array.Input k) = refl
same_cells st ws (array.Output k) = refl
same_cells st ws (array.Local k) = refl

mutual
  pub same_value : (e : Exp) (st : State) (ws : List Word) (r : ℕ) → reach e ≤ r → Agree r ws st.words → (at : ℕ) → value e (record st { words = ws }) at ≡ value e st at
  same_value (Signed n) st ws r h a at = refl
  same_value (Unsigned n) st ws r h a at = refl
  same_value (Var k) st ws r h a at = ap (found_at at) (a k (omega (arith, h)))
  same_value (Count c) st ws r h a at = refl
  same_value (Element array sub) st ws r h a at =
      ap (λ o. found_at (at + 3) o >>= (λ cells. value sub (record st { words = ws }) (at + 5) >>= (λ k. element (at + 4) cells k))) (same_cells st ws array)
      ∙ ap (λ g. found_at (at + 3) (cells_in st array) >>= (λ cells. g >>= (λ k. element (at + 4) cells k))) (same_value sub st ws r h a (at + 5))
  same_value (Cast to e) st ws r h a at = ap (λ g. g >>= (λ w. converted at to w)) (same_value e st ws r h a (at + 3))
  same_value (Truth t) st ws r h a at = ap (λ g. g >>= (λ b. Completes (Int64 (number_of b)))) (same_holds t st ws r h a (at + 4))
  same_value (Neg e) st ws r h a at = ap (λ g. g >>= (λ w. negated (at + 1) w)) (same_value e st ws r h a (at + 2))
  same_value (Binary o x y) st ws r h a at =
      ap (λ g. g >>= (λ v. value y (record st { words = ws }) (at + 2 + tokens x) >>= (λ w. operated (at + 1 + tokens x) o v w))) (same_value x st ws r (omega (arith, h)) a (at + 1))
      ∙ ap (λ g. value x st (at + 1) >>= (λ v. g >>= (λ w. operated (at + 1 + tokens x) o v w))) (same_value y st ws r (omega (arith, h)) a (at + 2 + tokens x))
  same_value (Choose t x y) st ws r h a at =
      ap (λ g. g >>= (λ c. when c then value x (record st { words = ws }) (at + 2 + test_tokens t) else value y (record st { words = ws }) (at + 3 + test_tokens t + tokens x))) (same_holds t st ws r (omega (arith, h)) a (at + 1))
      ∙ ap (λ g. holds t st (at + 1) >>= (λ c. when c then g else value y (record st { words = ws }) (at + 3 + test_tokens t + tokens x))) (same_value x st ws r (omega (arith, h)) a (at + 2 + test_tokens t))
      ∙ ap (λ g. holds t st (at + 1) >>= (λ c. when c then value x st (at + 2 + test_tokens t) else g)) (same_value y st ws r (omega (arith, h)) a (at + 3 + test_tokens t + tokens x))

  pub same_holds : (t : Test) (st : State) (ws : List Word) (r : ℕ) → test_reach t ≤ r → Agree r ws st.words → (at : ℕ) → holds t (record st { words = ws }) at ≡ holds t st at
  same_holds (Compare c x y) st ws r h a at =
      ap (λ g. g >>= (λ v. value y (record st { words = ws }) (at + 1 + tokens x) >>= (λ w. compared (at + tokens x) c v w))) (same_value x st ws r (omega (arith, h)) a at)
      ∙ ap (λ g. value x st at >>= (λ v. g >>= (λ w. compared (at + tokens x) c v w))) (same_value y st ws r (omega (arith, h)) a (at + 1 + tokens x))
