-- The words of a program's function. Each function takes the words that follow.
use Rattle.std.specs.Prelude.{ℕ, zero, suc, List, [], ◌∷◌, Option, Some, None}
use Rattle.num_type.specs.declared.container.Container.TheVariants as container
use Rattle.c_tree.specs.declared.tree.Counter.{Counter}
use Rattle.c_tree.specs.declared.tree.CounterKind.{CounterKind}
use Rattle.c_tree.specs.declared.tree.CounterKind.TheVariants as counter
use Rattle.c_tree.specs.declared.tree.CArray.{CArray}
use Rattle.c_tree.specs.declared.tree.CArray.TheVariants as array
use Rattle.c_tree.specs.declared.tree.CWord.{CWord}
use Rattle.c_tree.specs.declared.tree.CWord.TheVariants.{I64, U64}
use Rattle.c_tree.specs.declared.tree.CRel.TheVariants as rel
use Rattle.c_tree.specs.declared.tree.COp.TheVariants as op
use Rattle.c_tree.specs.declared.tree.LocalArray.{LocalArray}
use Rattle.c_tree.specs.declared.array_names.Array.{Array}
use Rattle.c_tree.specs.declared.array_names.Arrays.{Arrays}
use Rattle.c_tree.specs.Names.{arrays_of, array_at, word_of, input_arrays, output_arrays}
use Rattle.c_tree.specs.Tree.{Signature, Exp, Signed, Unsigned, Var, Count, Element, Cast, Truth, Neg, Binary, Choose, Test, Compare, Sta, Set, Store, If, IfElse, For, While, Break, Continue, Return, Block, Done, Next, Program}
use Rattle.c_grammar.specs.declared.word.CKeyword.TheVariants as keyword
use Rattle.c_grammar.specs.declared.word.CMacro.{CMacro}
use Rattle.c_grammar.specs.declared.word.CMacro.TheVariants as macro
use Rattle.c_grammar.specs.declared.word.CSign.TheVariants as sign
use Rattle.c_grammar.specs.declared.word.CWordToken.{CWordToken}
use Rattle.c_grammar.specs.declared.word.CWordToken.TheVariants as word

-- words in order
abbrev pub Words : Type 0
Words = List CWordToken

-- the type of a variable or an expression
abbrev pub type_word : CWord → CWordToken
type_word I64 = word.Type container.I64
type_word U64 = word.Type container.U64

-- the macro for its constants
abbrev pub macro_of : CWord → CMacro
macro_of I64 = macro.I64
macro_of U64 = macro.U64

-- the type of an element that is read
abbrev pub read_of : Option Array → CWordToken
read_of None = word.Other
read_of (Some a) = type_word (word_of a.container)

-- the type of an element that is stored
abbrev pub store_of : Option Array → CWordToken
store_of None = word.Other
store_of (Some a) = word.Type a.container

-- a constant
abbrev pub constant_words : CMacro → ℕ → Words → Words
constant_words m n rest = word.Macro m ∷ word.Sign sign.Open ∷ word.Number n ∷ word.Sign sign.Close ∷ rest

abbrev mutual
  pub exp_words : Arrays → Exp → Words → Words
  exp_words all (Signed n) rest = constant_words macro.I64 n rest
  exp_words all (Unsigned n) rest = constant_words macro.U64 n rest
  exp_words all (Var k) rest = word.Var k ∷ rest
  exp_words all (Count c) rest = word.Counter c ∷ rest
  exp_words all (Element a at) rest =
      word.Sign sign.Open ∷ read_of (array_at all a) ∷ word.Sign sign.Close ∷ word.Array a ∷ word.Sign sign.OpenSquare
      ∷ exp_words all at (word.Sign sign.CloseSquare ∷ rest)
  exp_words all (Cast to e) rest = word.Sign sign.Open ∷ type_word to ∷ word.Sign sign.Close ∷ exp_words all e rest
  exp_words all (Truth t) rest =
      word.Sign sign.Open ∷ type_word I64 ∷ word.Sign sign.Close ∷ word.Sign sign.Open ∷ test_words all t (word.Sign sign.Close ∷ rest)
  exp_words all (Neg e) rest = word.Sign sign.Open ∷ word.Op op.Sub ∷ exp_words all e (word.Sign sign.Close ∷ rest)
  exp_words all (Binary o a b) rest =
      word.Sign sign.Open ∷ exp_words all a (word.Op o ∷ exp_words all b (word.Sign sign.Close ∷ rest))
  exp_words all (Choose t a b) rest =
      word.Sign sign.Open ∷ test_words all t (word.Sign sign.Question ∷ exp_words all a (word.Sign sign.Colon
      ∷ exp_words all b (word.Sign sign.Close ∷ rest)))

  pub test_words : Arrays → Test → Words → Words
  test_words all (Compare r a b) rest = exp_words all a (word.Rel r ∷ exp_words all b rest)

-- the head of a loop that counts from 0
abbrev pub for_words : Counter → ℕ → Words → Words
for_words c count rest =
    word.Keyword keyword.For ∷ word.Sign sign.Open ∷ word.Counter c ∷ word.Sign sign.Assign ∷ constant_words macro.I64 0 (
    word.Sign sign.Semicolon ∷ word.Counter c ∷ word.Rel rel.Lt ∷ constant_words macro.I64 count (
    word.Sign sign.Semicolon ∷ word.Counter c ∷ word.Sign sign.Assign ∷ word.Sign sign.Open ∷ word.Counter c ∷ word.Op op.Add
    ∷ constant_words macro.I64 1 (word.Sign sign.Close ∷ word.Sign sign.Close ∷ rest)))

abbrev mutual
  pub sta_words : Arrays → Sta → Words → Words
  sta_words all (Set k value) rest =
      word.Var k ∷ word.Sign sign.Assign ∷ exp_words all value (word.Sign sign.Semicolon ∷ rest)
  sta_words all (Store a at value) rest =
      word.Array a ∷ word.Sign sign.OpenSquare ∷ exp_words all at (word.Sign sign.CloseSquare ∷ word.Sign sign.Assign
      ∷ word.Sign sign.Open ∷ store_of (array_at all a) ∷ word.Sign sign.Close ∷ exp_words all value (word.Sign sign.Semicolon ∷ rest))
  sta_words all (If t body) rest =
      word.Keyword keyword.If ∷ word.Sign sign.Open ∷ test_words all t (word.Sign sign.Close ∷ word.Sign sign.OpenBrace
      ∷ block_words all body (word.Sign sign.CloseBrace ∷ rest))
  sta_words all (IfElse t body other) rest =
      word.Keyword keyword.If ∷ word.Sign sign.Open ∷ test_words all t (word.Sign sign.Close ∷ word.Sign sign.OpenBrace
      ∷ block_words all body (word.Sign sign.CloseBrace ∷ word.Keyword keyword.Else ∷ word.Sign sign.OpenBrace
      ∷ block_words all other (word.Sign sign.CloseBrace ∷ rest)))
  sta_words all (For c count body) rest =
      for_words c count (word.Sign sign.OpenBrace ∷ block_words all body (word.Sign sign.CloseBrace ∷ rest))
  sta_words all (While t body) rest =
      word.Keyword keyword.While ∷ word.Sign sign.Open ∷ test_words all t (word.Sign sign.Close ∷ word.Sign sign.OpenBrace
      ∷ block_words all body (word.Sign sign.CloseBrace ∷ rest))
  sta_words all Break rest = word.Keyword keyword.Break ∷ word.Sign sign.Semicolon ∷ rest
  sta_words all Continue rest = word.Keyword keyword.Continue ∷ word.Sign sign.Semicolon ∷ rest
  sta_words all (Return status) rest =
      word.Keyword keyword.Return ∷ constant_words macro.I32 status (word.Sign sign.Semicolon ∷ rest)

  pub block_words : Arrays → Block → Words → Words
  block_words all Done rest = rest
  block_words all (Next s more) rest = sta_words all s (block_words all more rest)

-- an array of this number with its type and extent
abbrev pub array_words : CArray → Array → Words → Words
array_words at a rest =
    word.Type a.container ∷ word.Array at ∷ word.Sign sign.OpenSquare ∷ word.Number a.extent ∷ word.Sign sign.CloseSquare ∷ rest

-- outputs behind a parameter, from a number on
abbrev pub output_words : ℕ → List Array → Words → Words
output_words k [] rest = rest
output_words k (a ∷ more) rest = word.Sign sign.Comma ∷ array_words (array.Output k) a (output_words (suc k) more rest)

-- inputs behind a parameter, from a number on
abbrev pub input_words : ℕ → List Array → Words → Words
input_words k [] rest = rest
input_words k (a ∷ more) rest =
    word.Sign sign.Comma ∷ word.Keyword keyword.Const ∷ array_words (array.Input k) a (input_words (suc k) more rest)

-- the parameters, with a comma between two: the inputs are const
abbrev pub parameter_words : List Array → List Array → Words → Words
parameter_words [] [] rest = rest
parameter_words [] (a ∷ outputs) rest = array_words (array.Output 0) a (output_words 1 outputs rest)
parameter_words (a ∷ inputs) outputs rest =
    word.Keyword keyword.Const ∷ array_words (array.Input 0) a (input_words 1 inputs (output_words 0 outputs rest))

-- up to the opening brace of the function
abbrev pub header_words : Signature → Words → Words
header_words i rest =
    word.Type container.I32 ∷ word.Function ∷ word.Sign sign.Open ∷ parameter_words (input_arrays i) (output_arrays i) (
    word.Sign sign.Close ∷ word.Sign sign.OpenBrace ∷ rest)

-- local arrays, from a number on
abbrev pub local_words : ℕ → List LocalArray → Words → Words
local_words k [] rest = rest
local_words k (a ∷ more) rest =
    word.Type a.container ∷ word.Array (array.Local k) ∷ word.Sign sign.OpenSquare ∷ word.Number a.count ∷ word.Sign sign.CloseSquare
    ∷ word.Sign sign.Assign ∷ word.Sign sign.OpenBrace ∷ word.Number 0 ∷ word.Sign sign.CloseBrace ∷ word.Sign sign.Semicolon
    ∷ local_words (suc k) more rest

-- a variable or a counter, which starts at 0
abbrev pub start_words : CWord → CWordToken → Words → Words
start_words w name rest =
    type_word w ∷ name ∷ word.Sign sign.Assign ∷ constant_words (macro_of w) 0 (word.Sign sign.Semicolon ∷ rest)

-- variables, from a number on
abbrev pub variable_words : ℕ → List CWord → Words → Words
variable_words k [] rest = rest
variable_words k (w ∷ more) rest = start_words w (word.Var k) (variable_words (suc k) more rest)

-- so many counters of a kind, from a number on
abbrev pub counter_words : CounterKind → ℕ → ℕ → Words → Words
counter_words kind k zero rest = rest
counter_words kind k (suc n) rest =
    start_words I64 (word.Counter (record { kind = kind; number = k })) (counter_words kind (suc k) n rest)

-- the declarations in their order
abbrev pub declaration_words : Program → Words → Words
declaration_words p rest =
    local_words 0 p.arrays (variable_words 0 p.words (
    counter_words counter.Group 0 p.groups (counter_words counter.Barrier 0 p.barriers (
    counter_words counter.Source 0 p.sources (counter_words counter.Turn 0 p.turns rest)))))

-- the words of a program's function
abbrev pub words_of : Program → Words
words_of p =
    header_words p.interface (declaration_words p (block_words (arrays_of p) p.body (word.Sign sign.CloseBrace ∷ [])))
