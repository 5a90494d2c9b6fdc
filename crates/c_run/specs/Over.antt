-- By how much the numbers of a tree pass their limits: 0 for what is well formed.
use Rattle.std.specs.Prelude.{ℕ, ◌+◌, ◌-◌, ◌^◌}
use Rattle.c_tree.specs.Tree.{Exp, Signed, Unsigned, Var, Count, Element, Cast, Truth, Neg, Binary, Choose, Test, Compare, Sta, Set, Store, If, IfElse, For, While, Break, Continue, Return, Block, Done, Next}

abbrev mutual
  -- the constants of int64_t
  pub over : Exp → ℕ
  over (Signed n) = n - (2 ^ 63 - 1)
  over (Unsigned n) = 0
  over (Var k) = 0
  over (Count c) = 0
  over (Element array at) = over at
  over (Cast to e) = over e
  over (Truth t) = test_over t
  over (Neg e) = over e
  over (Binary op a b) = over a + over b
  over (Choose t a b) = test_over t + over a + over b

  pub test_over : Test → ℕ
  test_over (Compare rel a b) = over a + over b

abbrev mutual
  -- the constants, the counts of loops, and the statuses
  pub sta_over : Sta → ℕ
  sta_over (Set k e) = over e
  sta_over (Store array at e) = over at + over e
  sta_over (If t body) = test_over t + block_over body
  sta_over (IfElse t body other) = test_over t + block_over body + block_over other
  sta_over (For c count body) = count - (2 ^ 63 - 1) + block_over body
  sta_over (While t body) = test_over t + block_over body
  sta_over Break = 0
  sta_over Continue = 0
  sta_over (Return status) = status - (2 ^ 31 - 1)

  pub block_over : Block → ℕ
  block_over Done = 0
  block_over (Next s more) = sta_over s + block_over more
