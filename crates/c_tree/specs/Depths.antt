-- How deep each token of a program is, in the order of its tokens: the depth of an opening brace, parenthesis or square bracket is the
-- number of those that are open after it, and of the casts before it whose operand hasn't ended; that of every other token is 0. The cast of
-- a store ends at its semicolon. Each function takes the depth round its tree, and the depths of the tokens that follow.
use Rattle.std.specs.Prelude.{ℕ, zero, suc, max, List, [], ◌∷◌}
use Rattle.c_tree.specs.declared.tree.CWord.{CWord}
use Rattle.c_tree.specs.declared.tree.LocalArray.{LocalArray}
use Rattle.c_tree.specs.declared.array_names.Array.{Array}
use Rattle.c_tree.specs.Names.{input_arrays, output_arrays}
use Rattle.c_tree.specs.Tree.{Signature, Exp, Signed, Unsigned, Var, Count, Element, Cast, Truth, Neg, Binary, Choose, Test, Compare, Sta, Set, Store, If, IfElse, For, While, Break, Continue, Return, Block, Done, Next, Program}

-- depths in order
abbrev pub Depths : Type 0
Depths = List ℕ

-- a constant in its macro
abbrev pub constant_depths : ℕ → Depths → Depths
constant_depths d rest = 0 ∷ suc d ∷ 0 ∷ 0 ∷ rest

-- expressions
abbrev mutual
  pub exp_depths : ℕ → Exp → Depths → Depths
  exp_depths d (Signed n) rest = constant_depths d rest
  exp_depths d (Unsigned n) rest = constant_depths d rest
  exp_depths d (Var k) rest = 0 ∷ rest
  exp_depths d (Count c) rest = 0 ∷ rest
  exp_depths d (Element array at) rest = suc d ∷ 0 ∷ 0 ∷ 0 ∷ suc (suc d) ∷ exp_depths (suc (suc d)) at (0 ∷ rest)
  exp_depths d (Cast to e) rest = suc d ∷ 0 ∷ 0 ∷ exp_depths (suc d) e rest
  exp_depths d (Truth t) rest = suc d ∷ 0 ∷ 0 ∷ suc (suc d) ∷ test_depths (suc (suc d)) t (0 ∷ rest)
  exp_depths d (Neg e) rest = suc d ∷ 0 ∷ exp_depths (suc d) e (0 ∷ rest)
  exp_depths d (Binary op a b) rest = suc d ∷ exp_depths (suc d) a (0 ∷ exp_depths (suc d) b (0 ∷ rest))
  exp_depths d (Choose t a b) rest =
      suc d ∷ test_depths (suc d) t (0 ∷ exp_depths (suc d) a (0 ∷ exp_depths (suc d) b (0 ∷ rest)))

  pub test_depths : ℕ → Test → Depths → Depths
  test_depths d (Compare rel a b) rest = exp_depths d a (0 ∷ exp_depths d b rest)

-- the head of a loop that counts from 0
abbrev pub for_depths : ℕ → Depths → Depths
for_depths d rest =
    0 ∷ suc d ∷ 0 ∷ 0 ∷ constant_depths (suc d) (0 ∷ 0 ∷ 0 ∷ constant_depths (suc d) (
    0 ∷ 0 ∷ 0 ∷ suc (suc d) ∷ 0 ∷ 0 ∷ constant_depths (suc (suc d)) (0 ∷ 0 ∷ rest)))

-- statements
abbrev mutual
  pub sta_depths : ℕ → Sta → Depths → Depths
  sta_depths d (Set k value) rest = 0 ∷ 0 ∷ exp_depths d value (0 ∷ rest)
  sta_depths d (Store array at value) rest =
      0 ∷ suc d ∷ exp_depths (suc d) at (0 ∷ 0 ∷ suc d ∷ 0 ∷ 0 ∷ exp_depths (suc d) value (0 ∷ rest))
  sta_depths d (If t body) rest =
      0 ∷ suc d ∷ test_depths (suc d) t (0 ∷ suc d ∷ block_depths (suc d) body (0 ∷ rest))
  sta_depths d (IfElse t body other) rest =
      0 ∷ suc d ∷ test_depths (suc d) t (0 ∷ suc d ∷ block_depths (suc d) body (
      0 ∷ 0 ∷ suc d ∷ block_depths (suc d) other (0 ∷ rest)))
  sta_depths d (For c count body) rest = for_depths d (suc d ∷ block_depths (suc d) body (0 ∷ rest))
  sta_depths d (While t body) rest =
      0 ∷ suc d ∷ test_depths (suc d) t (0 ∷ suc d ∷ block_depths (suc d) body (0 ∷ rest))
  sta_depths d Break rest = 0 ∷ 0 ∷ rest
  sta_depths d Continue rest = 0 ∷ 0 ∷ rest
  sta_depths d (Return status) rest = 0 ∷ constant_depths d (0 ∷ rest)

  pub block_depths : ℕ → Block → Depths → Depths
  block_depths d Done rest = rest
  block_depths d (Next s more) rest = sta_depths d s (block_depths d more rest)

-- an array with its type and extent
abbrev pub array_depths : Depths → Depths
array_depths rest = 0 ∷ 0 ∷ 2 ∷ 0 ∷ 0 ∷ rest

-- the outputs that come behind a parameter
abbrev pub output_depths : List Array → Depths → Depths
output_depths [] rest = rest
output_depths (a ∷ more) rest = 0 ∷ array_depths (output_depths more rest)

-- the inputs that come behind a parameter
abbrev pub input_depths : List Array → Depths → Depths
input_depths [] rest = rest
input_depths (a ∷ more) rest = 0 ∷ 0 ∷ array_depths (input_depths more rest)

-- the parameters
abbrev pub parameter_depths : List Array → List Array → Depths → Depths
parameter_depths [] [] rest = rest
parameter_depths [] (a ∷ outputs) rest = array_depths (output_depths outputs rest)
parameter_depths (a ∷ inputs) outputs rest = 0 ∷ array_depths (input_depths inputs (output_depths outputs rest))

-- up to the opening brace of the function
abbrev pub header_depths : Signature → Depths → Depths
header_depths i rest = 0 ∷ 0 ∷ 1 ∷ parameter_depths (input_arrays i) (output_arrays i) (0 ∷ 1 ∷ rest)

-- local arrays
abbrev pub local_depths : List LocalArray → Depths → Depths
local_depths [] rest = rest
local_depths (a ∷ more) rest = array_depths (0 ∷ 2 ∷ 0 ∷ 0 ∷ 0 ∷ local_depths more rest)

-- a variable or a counter, which starts at 0
abbrev pub start_depths : Depths → Depths
start_depths rest = 0 ∷ 0 ∷ 0 ∷ constant_depths 1 (0 ∷ rest)

-- variables
abbrev pub variable_depths : List CWord → Depths → Depths
variable_depths [] rest = rest
variable_depths (w ∷ more) rest = start_depths (variable_depths more rest)

-- so many counters
abbrev pub counter_depths : ℕ → Depths → Depths
counter_depths zero rest = rest
counter_depths (suc n) rest = start_depths (counter_depths n rest)

-- the declarations in their order
abbrev pub declaration_depths : Program → Depths → Depths
declaration_depths p rest =
    local_depths p.arrays (variable_depths p.words (
    counter_depths p.groups (counter_depths p.barriers (counter_depths p.sources (counter_depths p.turns rest)))))

-- the depths of a program's tokens
abbrev pub depths : Program → Depths
depths p = header_depths p.interface (declaration_depths p (block_depths 1 p.body (0 ∷ [])))

-- the greatest of numbers, and 0 where there is none
abbrev pub greatest : List ℕ → ℕ
greatest [] = 0
greatest (d ∷ ds) = max d (greatest ds)
