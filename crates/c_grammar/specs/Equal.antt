-- When two words are one.
use Rattle.std.specs.Prelude.{ℕ, ◌+◌, Bool, ◌&&◌, ◌==◌}
use Rattle.c_tree.specs.Counted.{container_number}
use Rattle.c_tree.specs.declared.tree.CounterKind.{CounterKind}
use Rattle.c_tree.specs.declared.tree.CounterKind.TheVariants as counter
use Rattle.c_tree.specs.declared.tree.CArray.TheVariants as array
use Rattle.c_tree.specs.declared.tree.CRel.{CRel}
use Rattle.c_tree.specs.declared.tree.CRel.TheVariants as rel
use Rattle.c_tree.specs.declared.tree.COp.{COp}
use Rattle.c_tree.specs.declared.tree.COp.TheVariants as op
use Rattle.c_grammar.specs.declared.word.CKeyword.{CKeyword}
use Rattle.c_grammar.specs.declared.word.CKeyword.TheVariants as keyword
use Rattle.c_grammar.specs.declared.word.CMacro.{CMacro}
use Rattle.c_grammar.specs.declared.word.CMacro.TheVariants as macro
use Rattle.c_grammar.specs.declared.word.CSign.{CSign}
use Rattle.c_grammar.specs.declared.word.CSign.TheVariants as sign
use Rattle.c_grammar.specs.declared.word.CWordToken.{CWordToken}
use Rattle.c_grammar.specs.declared.word.CWordToken.TheVariants as word

-- the place of a kind of counters among all of them
abbrev pub counter_number : CounterKind → ℕ
counter_number counter.Group = 0
counter_number counter.Barrier = 1
counter_number counter.Source = 2
counter_number counter.Turn = 3

-- the place of a macro among all of them
abbrev pub macro_number : CMacro → ℕ
macro_number macro.I32 = 0
macro_number macro.I64 = 1
macro_number macro.U64 = 2

-- the place of a keyword among all of them
abbrev pub keyword_number : CKeyword → ℕ
keyword_number keyword.Const = 0
keyword_number keyword.If = 1
keyword_number keyword.Else = 2
keyword_number keyword.For = 3
keyword_number keyword.While = 4
keyword_number keyword.Break = 5
keyword_number keyword.Continue = 6
keyword_number keyword.Return = 7

-- the place of a relation among all of them
abbrev pub rel_number : CRel → ℕ
rel_number rel.Eq = 0
rel_number rel.Ne = 1
rel_number rel.Lt = 2
rel_number rel.Le = 3
rel_number rel.Gt = 4
rel_number rel.Ge = 5

-- the place of an operator among all of them
abbrev pub op_number : COp → ℕ
op_number op.Add = 0
op_number op.Sub = 1
op_number op.Mul = 2
op_number op.And = 3
op_number op.Or = 4
op_number op.Xor = 5
op_number op.Shl = 6
op_number op.Shr = 7

-- the place of a sign among all of them
abbrev pub sign_number : CSign → ℕ
sign_number sign.Open = 0
sign_number sign.Close = 1
sign_number sign.OpenSquare = 2
sign_number sign.CloseSquare = 3
sign_number sign.OpenBrace = 4
sign_number sign.CloseBrace = 5
sign_number sign.Comma = 6
sign_number sign.Semicolon = 7
sign_number sign.Colon = 8
sign_number sign.Question = 9
sign_number sign.Assign = 10

-- what a word is, but for its own number
abbrev pub kind_number : CWordToken → ℕ
kind_number word.Other = 0
kind_number word.Function = 1
kind_number (word.Number n) = 2
kind_number (word.Var k) = 3
kind_number (word.Array (array.Input k)) = 4
kind_number (word.Array (array.Output k)) = 5
kind_number (word.Array (array.Local k)) = 6
kind_number (word.Counter c) = 7 + counter_number c.kind
kind_number (word.Type c) = 11 + container_number c
kind_number (word.Macro m) = 19 + macro_number m
kind_number (word.Keyword k) = 22 + keyword_number k
kind_number (word.Rel r) = 30 + rel_number r
kind_number (word.Op o) = 36 + op_number o
kind_number (word.Sign s) = 44 + sign_number s

-- a word's own number, and 0 where it has none
abbrev pub own_number : CWordToken → ℕ
own_number (word.Number n) = n
own_number (word.Var k) = k
own_number (word.Array (array.Input k)) = k
own_number (word.Array (array.Output k)) = k
own_number (word.Array (array.Local k)) = k
own_number (word.Counter c) = c.number
own_number _ = 0

-- whether two words are one
abbrev pub same_word : CWordToken → CWordToken → Bool
same_word v w = kind_number v == kind_number w && own_number v == own_number w
