-- How deep a program is: the depth of an opening brace, parenthesis or square bracket is the number of those that are open after it, and
-- of the casts before it whose operand hasn't ended. Of a tree it is the greatest one, counted within the tree, and 0 where there is none.
use Rattle.std.specs.Prelude.{ℕ, ◌+◌, max}
use Rattle.c_tree.specs.Tree.{Exp, Signed, Unsigned, Var, Count, Element, Cast, Truth, Neg, Binary, Choose, Test, Compare, Sta, Set, Store, If, IfElse, For, While, Break, Continue, Return, Block, Done, Next, Program}

abbrev mutual
  pub exp_depth : Exp → ℕ
  exp_depth (Signed n) = 1
  exp_depth (Unsigned n) = 1
  exp_depth (Var k) = 0
  exp_depth (Count c) = 0
  exp_depth (Element array at) = 2 + exp_depth at
  exp_depth (Cast to e) = 1 + exp_depth e
  exp_depth (Truth t) = 2 + test_depth t
  exp_depth (Neg e) = 1 + exp_depth e
  exp_depth (Binary op a b) = 1 + max (exp_depth a) (exp_depth b)
  exp_depth (Choose t a b) = 1 + max (test_depth t) (max (exp_depth a) (exp_depth b))

  pub test_depth : Test → ℕ
  test_depth (Compare rel a b) = max (exp_depth a) (exp_depth b)

-- the cast of a store ends at its semicolon, and the head of a `for` is three deep
abbrev mutual
  pub sta_depth : Sta → ℕ
  sta_depth (Set k value) = exp_depth value
  sta_depth (Store array at value) = 1 + max (exp_depth at) (exp_depth value)
  sta_depth (If t body) = 1 + max (test_depth t) (block_depth body)
  sta_depth (IfElse t body other) = 1 + max (test_depth t) (max (block_depth body) (block_depth other))
  sta_depth (For c count body) = max 3 (1 + block_depth body)
  sta_depth (While t body) = 1 + max (test_depth t) (block_depth body)
  sta_depth Break = 0
  sta_depth Continue = 0
  sta_depth (Return status) = 1

  pub block_depth : Block → ℕ
  block_depth Done = 0
  block_depth (Next s more) = max (sta_depth s) (block_depth more)

-- parameters and declarations are two deep
abbrev pub depth : Program → ℕ
depth p = max 2 (1 + block_depth p.body)

-- the greatest depth that a reader of texts takes
abbrev pub depth_limit : ℕ
depth_limit = 500
