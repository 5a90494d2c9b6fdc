-- The greatest depth of a program's tokens is the program's depth, and each token has one.
use Rattle.std.proofs.Common.{◌≡◌, ℕ, zero, suc, ◌+◌, ◌*◌, ◌-◌, ◌≤◌, max, true, List, [], ◌∷◌, length, arith}
use Rattle.c_tree.specs.declared.tree.CWord.{CWord}
use Rattle.c_tree.specs.declared.tree.LocalArray.{LocalArray}
use Rattle.c_tree.specs.declared.array_names.Array.{Array}
use Rattle.c_tree.specs.Names.{input_arrays, output_arrays}
use Rattle.c_tree.specs.Tree.{Exp, Signed, Unsigned, Var, Count, Element, Cast, Truth, Neg, Binary, Choose, Test, Compare, Sta, Set, Store, If, IfElse, For, While, Break, Continue, Return, Block, Done, Next, Program}
use Rattle.c_tree.specs.WellFormed.{last_is_return, IsWellFormed}
use Rattle.c_tree.specs.Tokens.{tokens, test_tokens, sta_tokens, block_tokens, header_tokens, declaration_tokens}
use Rattle.c_tree.specs.Spelling.{spelled}
use Rattle.c_tree.specs.Depth.{exp_depth, test_depth, sta_depth, block_depth, depth}
use Rattle.c_tree.specs.Depths.{Depths, constant_depths, exp_depths, test_depths, sta_depths, block_depths, output_depths, input_depths, parameter_depths, header_depths, local_depths, variable_depths, counter_depths, declaration_depths, depths, greatest}
use Rattle.c_tree.proofs.Count.{spelled_length}

-- tokens at a depth d are up to k deeper, and the greatest of them and of those that follow is x where that of those that follow is y
record Adds (d k x y : ℕ) : Type 0 where
  is : max d x ≡ max (d + k) y

-- a token that opens nothing
flat : (d k x y : ℕ) → Adds d k x y → Adds d k (max 0 x) y
flat d k x y h = record { is = let e = h.is in omega arith }

-- one behind them
behind : (d k x y : ℕ) → Adds d k x (max 0 y) → Adds d k x y
behind d k x y h = record { is = let e = h.is in omega arith }

-- one that opens
opens : (d k x y : ℕ) → Adds (suc d) k x y → Adds d (1 + k) (max (suc d) x) y
opens d k x y h = record { is = let e = h.is in omega arith }

none : (d x : ℕ) → Adds d 0 x x
none d x = record { is = omega arith }

-- one part, and then another
both : (d a b x y z : ℕ) → Adds d a x y → Adds d b y z → Adds d (max a b) x z
both d a b x y z h k = record { is = let e = h.is in let f = k.is in omega arith }

along : (d k m x y : ℕ) → k ≡ m → Adds d k x y → Adds d m x y
along d k m x y e h = record { is = let f = h.is in omega arith }

constant_adds : (d : ℕ) (rest : Depths) → Adds d 1 (greatest (constant_depths d rest)) (greatest rest)
constant_adds d rest = record { is = omega arith }

mutual
  exp_adds : (d : ℕ) (e : Exp) (rest : Depths) → Adds d (exp_depth e) (greatest (exp_depths d e rest)) (greatest rest)
  exp_adds d (Signed n) rest = constant_adds d rest
  exp_adds d (Unsigned n) rest = constant_adds d rest
  exp_adds d (Var k) rest = flat d 0 _ _ (none d _)
  exp_adds d (Count c) rest = flat d 0 _ _ (none d _)
  exp_adds d (Element array at) rest =
      let inner = exp_adds (suc (suc d)) at (0 ∷ rest) in
      record { is = let e = inner.is in omega arith }
  exp_adds d (Cast to e) rest = opens d _ _ _ (flat _ _ _ _ (flat _ _ _ _ (exp_adds (suc d) e rest)))
  exp_adds d (Truth t) rest =
      let inner = test_adds (suc (suc d)) t (0 ∷ rest) in
      record { is = let e = inner.is in omega arith }
  exp_adds d (Neg e) rest = opens d _ _ _ (flat _ _ _ _ (behind _ _ _ _ (exp_adds (suc d) e (0 ∷ rest))))
  exp_adds d (Binary op a b) rest =
      opens d _ _ _ (both (suc d) _ _ _ _ _ (behind _ _ _ _ (exp_adds (suc d) a (0 ∷ exp_depths (suc d) b (0 ∷ rest)))) (behind _ _ _ _ (exp_adds (suc d) b (0 ∷ rest))))
  exp_adds d (Choose t a b) rest =
      opens d _ _ _ (both (suc d) _ _ _ _ _ (behind _ _ _ _ (test_adds (suc d) t (0 ∷ exp_depths (suc d) a (0 ∷ exp_depths (suc d) b (0 ∷ rest)))))
      (both (suc d) _ _ _ _ _ (behind _ _ _ _ (exp_adds (suc d) a (0 ∷ exp_depths (suc d) b (0 ∷ rest)))) (behind _ _ _ _ (exp_adds (suc d) b (0 ∷ rest)))))

  test_adds : (d : ℕ) (t : Test) (rest : Depths) → Adds d (test_depth t) (greatest (test_depths d t rest)) (greatest rest)
  test_adds d (Compare rel a b) rest =
      both d _ _ _ _ _ (behind _ _ _ _ (exp_adds d a (0 ∷ exp_depths d b rest))) (exp_adds d b rest)

-- a body in its braces
mutual
  sta_adds : (d : ℕ) (s : Sta) (rest : Depths) → Adds d (sta_depth s) (greatest (sta_depths d s rest)) (greatest rest)
  sta_adds d (Set k value) rest = flat _ _ _ _ (flat _ _ _ _ (behind _ _ _ _ (exp_adds d value (0 ∷ rest))))
  sta_adds d (Store array at value) rest =
      let cast = suc d ∷ 0 ∷ 0 ∷ exp_depths (suc d) value (0 ∷ rest) in
      let place = exp_adds (suc d) at (0 ∷ 0 ∷ cast) in
      let stored = behind _ _ _ _ (exp_adds (suc d) value (0 ∷ rest)) in
      record { is = let e = place.is in let f = stored.is in omega arith }
  sta_adds d (If t body) rest =
      let test = test_adds (suc d) t (0 ∷ suc d ∷ block_depths (suc d) body (0 ∷ rest)) in
      let inner = behind _ _ _ _ (block_adds (suc d) body (0 ∷ rest)) in
      record { is = let e = test.is in let f = inner.is in omega arith }
  sta_adds d (IfElse t body other) rest =
      let last = suc d ∷ block_depths (suc d) other (0 ∷ rest) in
      let test = test_adds (suc d) t (0 ∷ suc d ∷ block_depths (suc d) body (0 ∷ 0 ∷ last)) in
      let inner = block_adds (suc d) body (0 ∷ 0 ∷ last) in
      let second = behind _ _ _ _ (block_adds (suc d) other (0 ∷ rest)) in
      record { is = let e = test.is in let f = inner.is in let g = second.is in omega arith }
  sta_adds d (For c count body) rest =
      let inner = behind _ _ _ _ (block_adds (suc d) body (0 ∷ rest)) in
      record { is = let e = inner.is in omega arith }
  sta_adds d (While t body) rest =
      let test = test_adds (suc d) t (0 ∷ suc d ∷ block_depths (suc d) body (0 ∷ rest)) in
      let inner = behind _ _ _ _ (block_adds (suc d) body (0 ∷ rest)) in
      record { is = let e = test.is in let f = inner.is in omega arith }
  sta_adds d Break rest = flat _ _ _ _ (flat _ _ _ _ (none d _))
  sta_adds d Continue rest = flat _ _ _ _ (flat _ _ _ _ (none d _))
  sta_adds d (Return status) rest = flat _ _ _ _ (behind _ _ _ _ (constant_adds d (0 ∷ rest)))

  block_adds : (d : ℕ) (b : Block) (rest : Depths) → Adds d (block_depth b) (greatest (block_depths d b rest)) (greatest rest)
  block_adds d Done rest = none d _
  block_adds d (Next s more) rest = both d _ _ _ _ _ (sta_adds d s (block_depths d more rest)) (block_adds d more rest)

-- ---- declarations: no token is more than two deep

-- these tokens are two deep at most
record Two (x y : ℕ) : Type 0 where
  least : y ≤ x
  is : max 2 x ≡ max 2 y

outputs_two : (xs : List Array) (rest : Depths) → Two (greatest (output_depths xs rest)) (greatest rest)
outputs_two [] rest = record { least = omega arith; is = omega arith }
outputs_two (a ∷ more) rest = let h = outputs_two more rest in let m = h.least in let e = h.is in record { least = omega arith; is = omega arith }

inputs_two : (xs : List Array) (rest : Depths) → Two (greatest (input_depths xs rest)) (greatest rest)
inputs_two [] rest = record { least = omega arith; is = omega arith }
inputs_two (a ∷ more) rest = let h = inputs_two more rest in let m = h.least in let e = h.is in record { least = omega arith; is = omega arith }

parameters_two : (xs ys : List Array) (rest : Depths) → Two (greatest (parameter_depths xs ys rest)) (greatest rest)
parameters_two [] [] rest = record { least = omega arith; is = omega arith }
parameters_two [] (a ∷ ys) rest = let h = outputs_two ys rest in let m = h.least in let e = h.is in record { least = omega arith; is = omega arith }
parameters_two (a ∷ xs) ys rest =
    let h = inputs_two xs (output_depths ys rest) in let k = outputs_two ys rest in let m = h.least in let n = k.least in let e = h.is in let f = k.is in record { least = omega arith; is = omega arith }

locals_two : (xs : List LocalArray) (rest : Depths) → Two (greatest (local_depths xs rest)) (greatest rest)
locals_two [] rest = record { least = omega arith; is = omega arith }
locals_two (a ∷ more) rest = let h = locals_two more rest in let m = h.least in let e = h.is in record { least = omega arith; is = omega arith }

variables_two : (xs : List CWord) (rest : Depths) → Two (greatest (variable_depths xs rest)) (greatest rest)
variables_two [] rest = record { least = omega arith; is = omega arith }
variables_two (w ∷ more) rest = let h = variables_two more rest in let m = h.least in let e = h.is in record { least = omega arith; is = omega arith }

counters_two : (n : ℕ) (rest : Depths) → Two (greatest (counter_depths n rest)) (greatest rest)
counters_two zero rest = record { least = omega arith; is = omega arith }
counters_two (suc n) rest = let h = counters_two n rest in let m = h.least in let e = h.is in record { least = omega arith; is = omega arith }

through : (x y z : ℕ) → Two x y → Two y z → Two x z
through x y z h k = let m = h.least in let n = k.least in let e = h.is in let f = k.is in record { least = omega arith; is = omega arith }

declarations_two : (p : Program) (rest : Depths) → Two (greatest (declaration_depths p rest)) (greatest rest)
declarations_two p rest =
    through _ _ _ (locals_two p.arrays _) (through _ _ _ (variables_two p.words _) (through _ _ _ (counters_two p.groups _) (
    through _ _ _ (counters_two p.barriers _) (through _ _ _ (counters_two p.sources _) (counters_two p.turns rest)))))

-- a return is one deep
returns_within : (b : Block) → last_is_return b ≡ true → 1 ≤ block_depth b
returns_within Done h = absurd cc
returns_within (Next (Return status) Done) h = omega arith
returns_within (Next (Set k value) Done) h = absurd cc
returns_within (Next (Store array at value) Done) h = absurd cc
returns_within (Next (If t body) Done) h = absurd cc
returns_within (Next (IfElse t body other) Done) h = absurd cc
returns_within (Next (For c count body) Done) h = absurd cc
returns_within (Next (While t body) Done) h = absurd cc
returns_within (Next Break Done) h = absurd cc
returns_within (Next Continue Done) h = absurd cc
returns_within (Next s (Next x more)) h = let e = returns_within (Next x more) h in omega arith

pub deepest : (p : Program) → IsWellFormed p → greatest (depths p) ≡ depth p
deepest p w =
    let body = block_depths 1 p.body (0 ∷ []) in
    let inside = block_adds 1 p.body (0 ∷ []) in
    let declared = declarations_two p body in
    let header = parameters_two (input_arrays p.interface) (output_arrays p.interface) (0 ∷ 1 ∷ declaration_depths p body) in
    let least = returns_within p.body w.returns in
    let e = inside.is in
    let f = declared.is in
    let g = header.is in
    let m = declared.least in
    let n = header.least in
    omega arith

-- ---- each token has a depth

mutual
  exp_length : (d : ℕ) (e : Exp) (rest : Depths) → length (exp_depths d e rest) ≡ tokens e + length rest
  exp_length d (Signed n) rest = omega arith
  exp_length d (Unsigned n) rest = omega arith
  exp_length d (Var k) rest = omega arith
  exp_length d (Count c) rest = omega arith
  exp_length d (Element array at) rest = omega (arith, exp_length (suc (suc d)) at)
  exp_length d (Cast to e) rest = omega (arith, exp_length (suc d) e)
  exp_length d (Truth t) rest = omega (arith, test_length (suc (suc d)) t)
  exp_length d (Neg e) rest = omega (arith, exp_length (suc d) e)
  exp_length d (Binary op a b) rest = omega (arith, exp_length (suc d) a, exp_length (suc d) b)
  exp_length d (Choose t a b) rest = omega (arith, test_length (suc d) t, exp_length (suc d) a, exp_length (suc d) b)

  test_length : (d : ℕ) (t : Test) (rest : Depths) → length (test_depths d t rest) ≡ test_tokens t + length rest
  test_length d (Compare rel a b) rest = omega (arith, exp_length d a, exp_length d b)

mutual
  sta_length : (d : ℕ) (s : Sta) (rest : Depths) → length (sta_depths d s rest) ≡ sta_tokens s + length rest
  sta_length d (Set k value) rest = omega (arith, exp_length d value)
  sta_length d (Store array at value) rest = omega (arith, exp_length (suc d) at, exp_length (suc d) value)
  sta_length d (If t body) rest = omega (arith, test_length (suc d) t, block_length (suc d) body)
  sta_length d (IfElse t body other) rest = omega (arith, test_length (suc d) t, block_length (suc d) body, block_length (suc d) other)
  sta_length d (For c count body) rest = omega (arith, block_length (suc d) body)
  sta_length d (While t body) rest = omega (arith, test_length (suc d) t, block_length (suc d) body)
  sta_length d Break rest = omega arith
  sta_length d Continue rest = omega arith
  sta_length d (Return status) rest = omega arith

  block_length : (d : ℕ) (b : Block) (rest : Depths) → length (block_depths d b rest) ≡ block_tokens b + length rest
  block_length d Done rest = omega arith
  block_length d (Next s more) rest = omega (arith, sta_length d s, block_length d more)

outputs_length : (arrays : List Array) (rest : Depths) → length (output_depths arrays rest) ≡ 6 * length arrays + length rest
outputs_length [] rest = omega arith
outputs_length (a ∷ more) rest = omega (arith, outputs_length more rest)

inputs_length : (arrays : List Array) (rest : Depths) → length (input_depths arrays rest) ≡ 7 * length arrays + length rest
inputs_length [] rest = omega arith
inputs_length (a ∷ more) rest = omega (arith, inputs_length more rest)

parameters_length : (inputs outputs : List Array) (rest : Depths) → length (parameter_depths inputs outputs rest) ≡ 6 * length inputs + 5 * length outputs + (length inputs + length outputs - 1) + length rest
parameters_length [] [] rest = omega arith
parameters_length [] (a ∷ outputs) rest = omega (arith, outputs_length outputs)
parameters_length (a ∷ inputs) outputs rest = omega (arith, inputs_length inputs, outputs_length outputs)

locals_length : (arrays : List LocalArray) (rest : Depths) → length (local_depths arrays rest) ≡ 10 * length arrays + length rest
locals_length [] rest = omega arith
locals_length (a ∷ more) rest = omega (arith, locals_length more rest)

variables_length : (words : List CWord) (rest : Depths) → length (variable_depths words rest) ≡ 8 * length words + length rest
variables_length [] rest = omega arith
variables_length (w ∷ more) rest = omega (arith, variables_length more rest)

counters_length : (n : ℕ) (rest : Depths) → length (counter_depths n rest) ≡ 8 * n + length rest
counters_length zero rest = omega arith
counters_length (suc n) rest = omega (arith, counters_length n rest)

declarations_length : (p : Program) (rest : Depths) → length (declaration_depths p rest) ≡ declaration_tokens p + length rest
declarations_length p rest =
    omega (arith, locals_length p.arrays, variables_length p.words, counters_length p.groups, counters_length p.barriers, counters_length p.sources, counters_length p.turns)

header_length : (p : Program) (rest : Depths) → length (header_depths p.interface rest) ≡ header_tokens p + length rest
header_length p rest = omega (arith, parameters_length (input_arrays p.interface) (output_arrays p.interface))

pub each_depth : (p : Program) → length (depths p) ≡ length (spelled p)
each_depth p = omega (arith, header_length p, declarations_length p, block_length 1 p.body, spelled_length p)
