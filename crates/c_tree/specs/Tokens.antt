-- How many tokens a program has. They count from 0 at the function's first int32_t.
use Rattle.std.specs.Prelude.{ℕ, ◌+◌, ◌-◌, ◌*◌, length}
use Rattle.c_tree.specs.Tree.{Exp, Signed, Unsigned, Var, Count, Element, Cast, Truth, Neg, Binary, Choose, Test, Compare, Sta, Set, Store, If, IfElse, For, While, Break, Continue, Return, Block, Done, Next, Program}
use Rattle.c_tree.specs.declared.array_names.Arrays.{Arrays}
use Rattle.c_tree.specs.Names.{arrays_of}

abbrev mutual
  pub tokens : Exp → ℕ
  tokens (Signed n) = 4
  tokens (Unsigned n) = 4
  tokens (Var k) = 1
  tokens (Count c) = 1
  tokens (Element array at) = 6 + tokens at
  tokens (Cast to e) = 3 + tokens e
  tokens (Truth t) = 5 + test_tokens t
  tokens (Neg e) = 3 + tokens e
  tokens (Binary op a b) = 3 + tokens a + tokens b
  tokens (Choose t a b) = 4 + test_tokens t + tokens a + tokens b

  pub test_tokens : Test → ℕ
  test_tokens (Compare rel a b) = 1 + tokens a + tokens b

abbrev mutual
  pub sta_tokens : Sta → ℕ
  sta_tokens (Set k value) = 3 + tokens value
  sta_tokens (Store array at value) = 8 + tokens at + tokens value
  sta_tokens (If t body) = 5 + test_tokens t + block_tokens body
  sta_tokens (IfElse t body other) = 8 + test_tokens t + block_tokens body + block_tokens other
  sta_tokens (For c count body) = 29 + block_tokens body
  sta_tokens (While t body) = 5 + test_tokens t + block_tokens body
  sta_tokens Break = 2
  sta_tokens Continue = 2
  sta_tokens (Return status) = 6

  pub block_tokens : Block → ℕ
  block_tokens Done = 0
  block_tokens (Next s more) = sta_tokens s + block_tokens more

-- an input takes six tokens, an output five, and a comma stands between two parameters
abbrev pub parameter_tokens : Arrays → ℕ
parameter_tokens all = 6 * length all.inputs + 5 * length all.outputs + (length all.inputs + length all.outputs - 1)

-- up to the function's opening brace
abbrev pub header_tokens : Program → ℕ
header_tokens p = 5 + parameter_tokens (arrays_of p)

-- a local array takes ten tokens, a variable or a counter eight
abbrev pub declaration_tokens : Program → ℕ
declaration_tokens p = 10 * length p.arrays + 8 * (length p.words + p.groups + p.barriers + p.sources + p.turns)

-- the number of the first token of the statements
abbrev pub body_token : Program → ℕ
body_token p = header_tokens p + declaration_tokens p

-- the number of the function's closing brace
abbrev pub closing_token : Program → ℕ
closing_token p = body_token p + block_tokens p.body

-- all tokens of the function
abbrev pub program_tokens : Program → ℕ
program_tokens p = closing_token p + 1
