-- The group loops of a well-formed program are no more than its counters of group loops.
use Rattle.std.proofs.Common.{◌≡◌, ◌≢◌, ℕ, suc, ◌+◌, ◌<◌, ◌≤◌, ◌^◌, Bool, true, false, ◌&&◌, ◌||◌, ◌⊎◌, inl, inr, nat_lt, eqb, List, [], ◌∷◌, ◌++◌, length, get_or, arith, refl, sym, ◌∙◌, ap, append_assoc, length-append}
use Rattle.std.specs.Prelude.{AllPairs}
use Rattle.std.specs.List.{list_all, list_any, IsDistinct, AllByRecursion}
use Rattle.std.proofs.lemmas.Bool.{and_parts, and_from}
use Rattle.std.proofs.lemmas.List.Folds.{list_all-append}
use Rattle.std.proofs.lemmas.Map.Steps.{length-le_from_distinct_below}
use Rattle.c_tree.specs.declared.tree.Counter.{Counter}
use Rattle.c_tree.specs.declared.tree.CounterKind.{CounterKind}
use Rattle.c_tree.specs.declared.tree.CounterKind.TheVariants as counter
use Rattle.c_tree.specs.Tree.{Sta, Set, Store, If, IfElse, For, While, Break, Continue, Return, Block, Done, Next, Program}
use Rattle.c_tree.specs.Counted.{group_loop, group_loops, all_group_loops}
use Rattle.c_tree.specs.WellFormed.{Scope, scope_of, is_declared, is_test, is_fit, are_fit, loop_counters, all_loop_counters, IsWellFormed}

-- the number of a counter of group loops
number_of : CounterKind → ℕ → List ℕ
number_of counter.Group n = n ∷ []
number_of counter.Barrier n = []
number_of counter.Source n = []
number_of counter.Turn n = []

numbers : List Counter → List ℕ
numbers [] = []
numbers (c ∷ cs) = number_of c.kind c.number ++ numbers cs

numbers_append : (xs ys : List Counter) → numbers (xs ++ ys) ≡ numbers xs ++ numbers ys
unfolding numbers
numbers_append [] ys = refl
numbers_append (c ∷ xs) ys = ap (λ l. number_of c.kind c.number ++ l) (numbers_append xs ys) ∙ sym (append_assoc (number_of c.kind c.number) (numbers xs) (numbers ys))

number_length : (k : CounterKind) (n : ℕ) → length (number_of k n) ≡ group_loop k
unfolding number_of
number_length counter.Group n = refl
number_length counter.Barrier n = refl
number_length counter.Source n = refl
number_length counter.Turn n = refl

lengths : (xs ys : List ℕ) → length (xs ++ ys) ≡ length xs + length ys
lengths = length-append

mutual
  unfolding numbers

  sta_numbers : (x : Sta) → length (numbers (loop_counters x)) ≡ group_loops x
  sta_numbers (If t body) = all_numbers body
  sta_numbers (IfElse t body other) =
      ap length (numbers_append (all_loop_counters body) (all_loop_counters other)) ∙ omega (arith, lengths (numbers (all_loop_counters body)) (numbers (all_loop_counters other)), all_numbers body, all_numbers other)
  sta_numbers (For c count body) = omega (arith, lengths (number_of c.kind c.number) (numbers (all_loop_counters body)), number_length c.kind c.number, all_numbers body)
  sta_numbers (While t body) = all_numbers body
  sta_numbers (Set k value) = refl
  sta_numbers (Store array at value) = refl
  sta_numbers Break = refl
  sta_numbers Continue = refl
  sta_numbers (Return status) = refl

  all_numbers : (b : Block) → length (numbers (all_loop_counters b)) ≡ all_group_loops b
  all_numbers Done = refl
  all_numbers (Next x more) =
      ap length (numbers_append (loop_counters x) (all_loop_counters more)) ∙ omega (arith, lengths (numbers (loop_counters x)) (numbers (all_loop_counters more)), sta_numbers x, all_numbers more)

-- each counter of a loop is declared
mutual
  sta_declared : (s : Scope) (loop : Bool) (x : Sta) → is_fit s loop x ≡ true → list_all (is_declared s) (loop_counters x) ≡ true
  sta_declared s loop (Set k value) h = refl
  sta_declared s loop (Store array at value) h = refl
  sta_declared s loop (If t body) h = all_declared s loop body (and_parts (is_test s t) (are_fit s loop body) h).1
  sta_declared s loop (IfElse t body other) h =
      let part = and_parts (is_test s t) (are_fit s loop body && are_fit s loop other) h in
      let arms = and_parts (are_fit s loop body) (are_fit s loop other) part.1 in
      list_all-append (is_declared s) (all_loop_counters body) (all_loop_counters other)
      ∙ and_from (list_all (is_declared s) (all_loop_counters body)) (list_all (is_declared s) (all_loop_counters other)) (all_declared s loop body arms.0) (all_declared s loop other arms.1)
  sta_declared s loop (For c count body) h =
      let part = and_parts (is_declared s c && nat_lt count (2 ^ 63)) (are_fit s true body) h in
      let left = and_parts (is_declared s c) (nat_lt count (2 ^ 63)) part.0 in
      and_from (is_declared s c) (list_all (is_declared s) (all_loop_counters body)) left.0 (all_declared s true body part.1)
  sta_declared s loop (While t body) h = all_declared s true body (and_parts (is_test s t) (are_fit s true body) h).1
  sta_declared s loop Break h = refl
  sta_declared s loop Continue h = refl
  sta_declared s loop (Return status) h = refl

  all_declared : (s : Scope) (loop : Bool) (b : Block) → are_fit s loop b ≡ true → list_all (is_declared s) (all_loop_counters b) ≡ true
  all_declared s loop Done h = refl
  all_declared s loop (Next x more) h =
      let part = and_parts (is_fit s loop x) (are_fit s loop more) h in
      list_all-append (is_declared s) (loop_counters x) (all_loop_counters more)
      ∙ and_from (list_all (is_declared s) (loop_counters x)) (list_all (is_declared s) (all_loop_counters more)) (sta_declared s loop x part.0) (all_declared s loop more part.1)

either : (a b : Bool) → a || b ≡ true → (a ≡ true) ⊎ (b ≡ true)
either true b h = inl refl
either false b h = inr h

number_below : (s : Scope) (k : CounterKind) (n : ℕ) (rest : List ℕ) (q : ℕ) → nat_lt n (s.counters k) ≡ true → ((q : ℕ) → list_any (eqb q) rest ≡ true → q < s.counters counter.Group) → list_any (eqb q) (number_of k n ++ rest) ≡ true → q < s.counters counter.Group
unfolding number_of
number_below s counter.Group n rest q h more e =
    elim (either (eqb q n) (list_any (eqb q) rest) e) [ inl same ↦ grind (arith, same, h) | inr later ↦ more q later ]
number_below s counter.Barrier n rest q h more e = more q e
number_below s counter.Source n rest q h more e = more q e
number_below s counter.Turn n rest q h more e = more q e

-- a number among those of group loops is below their count
below : (s : Scope) (cs : List Counter) → list_all (is_declared s) cs ≡ true → (q : ℕ) → list_any (eqb q) (numbers cs) ≡ true → q < s.counters counter.Group
unfolding numbers
below s [] h q e = absurd cc
below s (c ∷ cs) h q e =
    let part = and_parts (is_declared s c) (list_all (is_declared s) cs) h in
    number_below s c.kind c.number (numbers cs) q part.0 (below s cs part.1) e

same_counter : (c d : Counter) → c.kind ≡ d.kind → c.number ≡ d.number → c ≡ d
same_counter c d e f =
    let by_kind : CounterKind → Counter = λ k. record { kind = k; number = c.number } in
    let by_number : ℕ → Counter = λ n. record { kind = d.kind; number = n } in
    ap by_kind e ∙ ap by_number f

Absent : ℕ → List ℕ → Type 0
Absent n = AllByRecursion (λ m. eqb n m ≡ false)

other_number : (c d : Counter) → c.kind ≡ counter.Group → d.kind ≡ counter.Group → c ≢ d → eqb c.number d.number ≡ false
other_number c d e f apart = decided (eqb c.number d.number) refl
  where
    decided : (b : Bool) → eqb c.number d.number ≡ b → eqb c.number d.number ≡ false
    decided false h = h
    decided true h = absurd (apart (same_counter c d (e ∙ sym f) (grind (arith, h))))

absent : (c : Counter) → c.kind ≡ counter.Group → (cs : List Counter) → ((i : ℕ) (d : Counter) → i < length cs → c ≢ get_or cs i d) → Absent c.number (numbers cs)
unfolding numbers number_of Absent
absent c e [] h = tt
absent c e (d ∷ cs) h = by_kind (absent c e cs (λ i x lt. h (suc i) x (omega arith))) d.kind refl
  where
    by_kind : Absent c.number (numbers cs) → (k : CounterKind) → d.kind ≡ k → Absent c.number (number_of k d.number ++ numbers cs)
    by_kind rest counter.Group f = (other_number c d e f (h 0 d (omega arith)), rest)
    by_kind rest counter.Barrier f = rest
    by_kind rest counter.Source f = rest
    by_kind rest counter.Turn f = rest

number_distinct : (k : CounterKind) (n : ℕ) (rest : List ℕ) → (k ≡ counter.Group → Absent n rest) → IsDistinct eqb rest → IsDistinct eqb (number_of k n ++ rest)
unfolding number_of Absent IsDistinct
number_distinct counter.Group n rest h more = (h refl, more)
number_distinct counter.Barrier n rest h more = more
number_distinct counter.Source n rest h more = more
number_distinct counter.Turn n rest h more = more

-- counters of group loops that differ have numbers that differ
distinct : (cs : List Counter) → AllPairs (λ c d. c ≢ d) cs → IsDistinct eqb (numbers cs)
unfolding numbers IsDistinct
distinct [] h = tt
distinct (c ∷ cs) h =
    number_distinct c.kind c.number (numbers cs) (λ e. absent c e cs (λ i d lt. h 0 (suc i) d (omega arith) (omega arith)))
    (distinct cs (λ i j d lt lj. h (suc i) (suc j) d (omega arith) (omega arith)))

pub few_group_loops : (p : Program) → IsWellFormed p → all_group_loops p.body ≤ p.groups
few_group_loops p h =
    let cs = all_loop_counters p.body in
    omega (arith, all_numbers p.body, length-le_from_distinct_below (numbers cs) p.groups (distinct cs h.counters_serve_once) (below (scope_of p) cs (all_declared (scope_of p) false p.body h.statements)))
