-- Parts that are less deep than they may be, and what they are made of.
use Rattle.std.proofs.Common.{◌≡◌, ℕ, suc, ◌+◌, ◌<◌, ◌≤◌, Bool, true, false, List, [], ◌∷◌, length, map, ℤ, Some, refl, sym, ap, ◌∙◌, subst, arith}
use Rattle.std.specs.Prelude.{max, All}
use Rattle.std.proofs.lemmas.List.Elements.{All-nil, All-cons}
use Rattle.c_tree.specs.Tree.{Exp}
use Rattle.c_tree.specs.Depth.{exp_depth, block_depth}
use Rattle.c_tree.specs.View.{block_of}
use Rattle.c_tree.specs.WellFormed.{Scope, are_fit, type_of_exp}
use Rattle.c_tree.specs.Meaning.{State}
use Rattle.lower_scalar.specs.Part.{Part, Operand, Stands, AllStand, IsTyped, word_for, kind_of, reach, deepest, AreDeclared, AreInOrder, Does, IsPart, on_one, own_limit}

-- a part at most so much deeper than its operands
pub record IsPartWithin (more : ℕ) (os : List Operand) (fresh : ℕ) (signed : Bool) (result : List ℤ → ℤ) (p : Part) : Type 0 where
  pub in_order : AreInOrder fresh p.before
  pub count : length p.before ≡ length p.words
  pub few : length p.words ≤ own_limit
  pub reads : reach p.value ≤ fresh + length p.words
  pub fits : (s : Scope) → AreDeclared fresh p.words s.words → All (IsTyped s) os → are_fit s false (block_of p.before) ≡ true
  pub typed : (s : Scope) → AreDeclared fresh p.words s.words → All (IsTyped s) os → type_of_exp s p.value ≡ Some (word_for signed)
  pub shallow : block_depth (block_of p.before) ≤ deepest os + more
  pub shallow_value : exp_depth p.value ≤ deepest os + more
  pub does : (st : State) (zs : List ℤ) → AreDeclared fresh p.words (map kind_of st.words) → AllStand st os zs → Does fresh signed (result zs) p st

pub is_part : (more : ℕ) (os : List Operand) (fresh : ℕ) (signed : Bool) (result : List ℤ → ℤ) (p : Part) → more ≤ 100 → IsPartWithin more os fresh signed result p → IsPart os fresh signed result p
is_part more os fresh signed result p h w = record {
  in_order = w.in_order;
  count = w.count;
  few = w.few;
  reads = w.reads;
  fits = w.fits;
  typed = w.typed;
  shallow = let a = w.shallow in omega (arith, h, a);
  shallow_value = let a = w.shallow_value in omega (arith, h, a);
  does = w.does;
}

-- what stands for one operand that is computed from others
pub record IsMadeOf (os : List Operand) (o : Operand) (g : List ℤ → ℤ) : Type 0 where
  pub typed : (s : Scope) → All (IsTyped s) os → IsTyped s o
  pub stands : (st : State) (zs : List ℤ) → AllStand st os zs → Stands st o (g zs)

-- a part over such an operand is a part over the others
pub made_part : (more extra : ℕ) (os : List Operand) (o : Operand) (f : ℤ → ℤ) (g : List ℤ → ℤ) (x : ℕ) (t : Bool) (p : Part) → exp_depth o.exp ≤ deepest os + extra → IsMadeOf os o g → IsPartWithin more (o ∷ []) x t (on_one f) p → IsPartWithin (extra + more) os x t (λ zs. f (g zs)) p
made_part more extra os o f g x t p h m w = record {
  in_order = w.in_order;
  count = w.count;
  few = w.few;
  reads = w.reads;
  fits = λ s d a. w.fits s d (All-cons (IsTyped s) o [] (m.typed s a) (none s));
  typed = λ s d a. w.typed s d (All-cons (IsTyped s) o [] (m.typed s a) (none s));
  shallow = let a = w.shallow in omega (arith, h, a);
  shallow_value = let a = w.shallow_value in omega (arith, h, a);
  does = λ st zs d a. w.does st (g zs ∷ []) d (m.stands st zs a, tt);
}
  where
    none : (s : Scope) → All (IsTyped s) []
    none s = All-nil (IsTyped s)

-- the same result by another name
pub same_part : (more : ℕ) (os : List Operand) (x : ℕ) (t : Bool) (f g : List ℤ → ℤ) (p : Part) → ((st : State) (zs : List ℤ) → AllStand st os zs → f zs ≡ g zs) → IsPartWithin more os x t f p → IsPartWithin more os x t g p
same_part more os x t f g p e w = record {
  in_order = w.in_order;
  count = w.count;
  few = w.few;
  reads = w.reads;
  fits = w.fits;
  typed = w.typed;
  shallow = w.shallow;
  shallow_value = w.shallow_value;
  does = λ st zs d a. subst (λ v. Does x t v p st) (e st zs a) (w.does st zs d a);
}
