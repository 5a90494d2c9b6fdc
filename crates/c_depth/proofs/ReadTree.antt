-- The depths that are read off the words of a program are those of its tokens.
use Rattle.std.proofs.Common.{◌≡◌, ℕ, zero, suc, List, [], ◌∷◌, refl, ap, ◌∙◌}
use Rattle.std.specs.Prelude.{Option, Some, None}
use Rattle.c_tree.specs.declared.tree.CounterKind.{CounterKind}
use Rattle.c_tree.specs.declared.tree.CounterKind.TheVariants as counter
use Rattle.c_tree.specs.declared.tree.CWord.{CWord}
use Rattle.c_tree.specs.declared.tree.CWord.TheVariants.{I64, U64}
use Rattle.c_tree.specs.declared.tree.LocalArray.{LocalArray}
use Rattle.c_tree.specs.declared.array_names.Array.{Array}
use Rattle.c_tree.specs.declared.array_names.Arrays.{Arrays}
use Rattle.c_tree.specs.Names.{array_at, word_of, arrays_of, input_arrays, output_arrays}
use Rattle.c_tree.specs.Tree.{Exp, Signed, Unsigned, Var, Count, Element, Cast, Truth, Neg, Binary, Choose, Test, Compare, Sta, Set, Store, If, IfElse, For, While, Break, Continue, Return, Block, Done, Next, Program}
use Rattle.c_tree.specs.Depths.{exp_depths, test_depths, for_depths, sta_depths, block_depths, array_depths, output_depths, input_depths, parameter_depths, header_depths, local_depths, start_depths, variable_depths, counter_depths, declaration_depths, depths}
use Rattle.c_grammar.specs.declared.word.CKeyword.TheVariants as keyword
use Rattle.c_grammar.specs.declared.word.CSign.TheVariants as sign
use Rattle.c_grammar.specs.declared.word.CWordToken.TheVariants as word
use Rattle.c_grammar.specs.Sentence.{Words, type_word, read_of, store_of, exp_words, test_words, sta_words, block_words, output_words, input_words, parameter_words, local_words, variable_words, counter_words, declaration_words, words_of}
use Rattle.c_depth.specs.declared.level.Before.{Before}
use Rattle.c_depth.specs.declared.level.Before.TheVariants as before
use Rattle.c_depth.specs.Read.{Nest, read_depths, word_depths}

abbrev nest : Before → ℕ → ℕ → List ℕ → Nest
nest what d b st = record { before = what; depth = d; base = b; outer = st }

-- behind a tree nothing is open that wasn't before it, and casts before it have ended
abbrev within : ℕ → List ℕ → Nest
within b st = nest before.Other b b st

-- the type of a cast, and the parenthesis that closes it
type_read : (t : CWord) (d e b : ℕ) (st : List ℕ) (rest : Words) → read_depths (nest before.Open d e (b ∷ st)) (type_word t ∷ word.Sign sign.Close ∷ rest) ≡ 0 ∷ 0 ∷ read_depths (nest before.Other d b st) rest
type_read I64 d e b st rest = refl
type_read U64 d e b st rest = refl

element_read : (o : Option Array) (d e b : ℕ) (st : List ℕ) (rest : Words) → read_depths (nest before.Open d e (b ∷ st)) (read_of o ∷ word.Sign sign.Close ∷ rest) ≡ 0 ∷ 0 ∷ read_depths (nest before.Other d b st) rest
element_read None d e b st rest = refl
element_read (Some a) d e b st rest = type_read (word_of a.container) d e b st rest

store_read : (o : Option Array) (d e b : ℕ) (st : List ℕ) (rest : Words) → read_depths (nest before.Open d e (b ∷ st)) (store_of o ∷ word.Sign sign.Close ∷ rest) ≡ 0 ∷ 0 ∷ read_depths (nest before.Other d b st) rest
store_read None d e b st rest = refl
store_read (Some a) d e b st rest = refl

-- ---- expressions

mutual
  exp_read : (all : Arrays) (e : Exp) (what : Before) (d b : ℕ) (st : List ℕ) (rest : Words)
      → read_depths (nest what d b st) (exp_words all e rest) ≡ exp_depths d e (read_depths (within b st) rest)
  exp_read all (Signed n) what d b st rest = refl
  exp_read all (Unsigned n) what d b st rest = refl
  exp_read all (Var k) what d b st rest = refl
  exp_read all (Count c) what d b st rest = refl
  exp_read all (Element a at) what d b st rest =
      ap (λ ds. suc d ∷ ds) (element_read (array_at all a) (suc d) (suc d) b st (word.Array a ∷ word.Sign sign.OpenSquare ∷ exp_words all at (word.Sign sign.CloseSquare ∷ rest)))
      ∙ ap (λ ds. suc d ∷ 0 ∷ 0 ∷ 0 ∷ suc (suc d) ∷ ds) (exp_read all at before.Other (suc (suc d)) (suc (suc d)) (b ∷ st) (word.Sign sign.CloseSquare ∷ rest))
  exp_read all (Cast to e) what d b st rest =
      ap (λ ds. suc d ∷ ds) (type_read to (suc d) (suc d) b st (exp_words all e rest))
      ∙ ap (λ ds. suc d ∷ 0 ∷ 0 ∷ ds) (exp_read all e before.Other (suc d) b st rest)
  exp_read all (Truth t) what d b st rest =
      ap (λ ds. suc d ∷ 0 ∷ 0 ∷ suc (suc d) ∷ ds) (test_read all t before.Open (suc (suc d)) (b ∷ st) (word.Sign sign.Close ∷ rest))
  exp_read all (Neg e) what d b st rest =
      ap (λ ds. suc d ∷ 0 ∷ ds) (exp_read all e before.Other (suc d) (suc d) (b ∷ st) (word.Sign sign.Close ∷ rest))
  exp_read all (Binary o x y) what d b st rest =
      let last = word.Sign sign.Close ∷ rest in
      ap (λ ds. suc d ∷ ds) (exp_read all x before.Open (suc d) (suc d) (b ∷ st) (word.Op o ∷ exp_words all y last))
      ∙ ap (λ ds. suc d ∷ exp_depths (suc d) x (0 ∷ ds)) (exp_read all y before.Other (suc d) (suc d) (b ∷ st) last)
  exp_read all (Choose t x y) what d b st rest =
      let last = word.Sign sign.Close ∷ rest in
      let arms = exp_words all x (word.Sign sign.Colon ∷ exp_words all y last) in
      ap (λ ds. suc d ∷ ds) (test_read all t before.Open (suc d) (b ∷ st) (word.Sign sign.Question ∷ arms))
      ∙ ap (λ ds. suc d ∷ test_depths (suc d) t (0 ∷ ds)) (exp_read all x before.Other (suc d) (suc d) (b ∷ st) (word.Sign sign.Colon ∷ exp_words all y last))
      ∙ ap (λ ds. suc d ∷ test_depths (suc d) t (0 ∷ exp_depths (suc d) x (0 ∷ ds))) (exp_read all y before.Other (suc d) (suc d) (b ∷ st) last)

  test_read : (all : Arrays) (t : Test) (what : Before) (d : ℕ) (st : List ℕ) (rest : Words)
      → read_depths (nest what d d st) (test_words all t rest) ≡ test_depths d t (read_depths (within d st) rest)
  test_read all (Compare r x y) what d st rest =
      exp_read all x what d d st (word.Rel r ∷ exp_words all y rest)
      ∙ ap (λ ds. exp_depths d x (0 ∷ ds)) (exp_read all y before.Other d d st rest)

-- ---- statements

mutual
  sta_read : (all : Arrays) (s : Sta) (d : ℕ) (st : List ℕ) (rest : Words) → read_depths (within d st) (sta_words all s rest) ≡ sta_depths d s (read_depths (within d st) rest)
  sta_read all (Set k value) d st rest =
      ap (λ ds. 0 ∷ 0 ∷ ds) (exp_read all value before.Other d d st (word.Sign sign.Semicolon ∷ rest))
  sta_read all (Store a at value) d st rest =
      let last = exp_words all value (word.Sign sign.Semicolon ∷ rest) in
      let cast = word.Sign sign.Open ∷ store_of (array_at all a) ∷ word.Sign sign.Close ∷ last in
      ap (λ ds. 0 ∷ suc d ∷ ds) (exp_read all at before.Other (suc d) (suc d) (d ∷ st) (word.Sign sign.CloseSquare ∷ word.Sign sign.Assign ∷ cast))
      ∙ ap (λ ds. 0 ∷ suc d ∷ exp_depths (suc d) at (0 ∷ 0 ∷ suc d ∷ ds)) (store_read (array_at all a) (suc d) (suc d) d st last)
      ∙ ap (λ ds. 0 ∷ suc d ∷ exp_depths (suc d) at (0 ∷ 0 ∷ suc d ∷ 0 ∷ 0 ∷ ds)) (exp_read all value before.Other (suc d) d st (word.Sign sign.Semicolon ∷ rest))
  sta_read all (If t body) d st rest =
      let inner = block_words all body (word.Sign sign.CloseBrace ∷ rest) in
      ap (λ ds. 0 ∷ suc d ∷ ds) (test_read all t before.Open (suc d) (d ∷ st) (word.Sign sign.Close ∷ word.Sign sign.OpenBrace ∷ inner))
      ∙ ap (λ ds. 0 ∷ suc d ∷ test_depths (suc d) t (0 ∷ suc d ∷ ds)) (block_read all body (suc d) (d ∷ st) (word.Sign sign.CloseBrace ∷ rest))
  sta_read all (IfElse t body other) d st rest =
      let second = block_words all other (word.Sign sign.CloseBrace ∷ rest) in
      let turn = word.Sign sign.CloseBrace ∷ word.Keyword keyword.Else ∷ word.Sign sign.OpenBrace ∷ second in
      ap (λ ds. 0 ∷ suc d ∷ ds) (test_read all t before.Open (suc d) (d ∷ st) (word.Sign sign.Close ∷ word.Sign sign.OpenBrace ∷ block_words all body turn))
      ∙ ap (λ ds. 0 ∷ suc d ∷ test_depths (suc d) t (0 ∷ suc d ∷ ds)) (block_read all body (suc d) (d ∷ st) turn)
      ∙ ap (λ ds. 0 ∷ suc d ∷ test_depths (suc d) t (0 ∷ suc d ∷ block_depths (suc d) body (0 ∷ 0 ∷ suc d ∷ ds))) (block_read all other (suc d) (d ∷ st) (word.Sign sign.CloseBrace ∷ rest))
  sta_read all (For c count body) d st rest =
      ap (λ ds. for_depths d (suc d ∷ ds)) (block_read all body (suc d) (d ∷ st) (word.Sign sign.CloseBrace ∷ rest))
  sta_read all (While t body) d st rest =
      let inner = block_words all body (word.Sign sign.CloseBrace ∷ rest) in
      ap (λ ds. 0 ∷ suc d ∷ ds) (test_read all t before.Open (suc d) (d ∷ st) (word.Sign sign.Close ∷ word.Sign sign.OpenBrace ∷ inner))
      ∙ ap (λ ds. 0 ∷ suc d ∷ test_depths (suc d) t (0 ∷ suc d ∷ ds)) (block_read all body (suc d) (d ∷ st) (word.Sign sign.CloseBrace ∷ rest))
  sta_read all Break d st rest = refl
  sta_read all Continue d st rest = refl
  sta_read all (Return status) d st rest = refl

  block_read : (all : Arrays) (b : Block) (d : ℕ) (st : List ℕ) (rest : Words) → read_depths (within d st) (block_words all b rest) ≡ block_depths d b (read_depths (within d st) rest)
  block_read all Done d st rest = refl
  block_read all (Next s more) d st rest =
      sta_read all s d st (block_words all more rest) ∙ ap (sta_depths d s) (block_read all more d st rest)

-- ---- parameters and declarations

abbrev header : Nest
header = within 1 (0 ∷ [])

outputs_read : (k : ℕ) (xs : List Array) (rest : Words) → read_depths header (output_words k xs rest) ≡ output_depths xs (read_depths header rest)
outputs_read k [] rest = refl
outputs_read k (a ∷ more) rest = ap (λ ds. 0 ∷ array_depths ds) (outputs_read (suc k) more rest)

inputs_read : (k : ℕ) (xs : List Array) (rest : Words) → read_depths header (input_words k xs rest) ≡ input_depths xs (read_depths header rest)
inputs_read k [] rest = refl
inputs_read k (a ∷ more) rest = ap (λ ds. 0 ∷ 0 ∷ array_depths ds) (inputs_read (suc k) more rest)

-- the parameters with the parenthesis behind them
parameters_read : (xs ys : List Array) (rest : Words)
    → read_depths (nest before.Open 1 1 (0 ∷ [])) (parameter_words xs ys (word.Sign sign.Close ∷ rest)) ≡ parameter_depths xs ys (0 ∷ read_depths (within 0 []) rest)
parameters_read [] [] rest = refl
parameters_read [] (a ∷ ys) rest = ap array_depths (outputs_read 1 ys (word.Sign sign.Close ∷ rest))
parameters_read (a ∷ xs) ys rest =
    ap (λ ds. 0 ∷ array_depths ds) (inputs_read 1 xs (output_words 0 ys (word.Sign sign.Close ∷ rest)) ∙ ap (input_depths xs) (outputs_read 0 ys (word.Sign sign.Close ∷ rest)))

locals_read : (k : ℕ) (xs : List LocalArray) (rest : Words) → read_depths header (local_words k xs rest) ≡ local_depths xs (read_depths header rest)
locals_read k [] rest = refl
locals_read k (a ∷ more) rest = ap (λ ds. array_depths (0 ∷ 2 ∷ 0 ∷ 0 ∷ 0 ∷ ds)) (locals_read (suc k) more rest)

variables_read : (k : ℕ) (xs : List CWord) (rest : Words) → read_depths header (variable_words k xs rest) ≡ variable_depths xs (read_depths header rest)
variables_read k [] rest = refl
variables_read k (I64 ∷ more) rest = ap start_depths (variables_read (suc k) more rest)
variables_read k (U64 ∷ more) rest = ap start_depths (variables_read (suc k) more rest)

counters_read : (kind : CounterKind) (k n : ℕ) (rest : Words) → read_depths header (counter_words kind k n rest) ≡ counter_depths n (read_depths header rest)
counters_read kind k zero rest = refl
counters_read kind k (suc n) rest = ap start_depths (counters_read kind (suc k) n rest)

declarations_read : (p : Program) (rest : Words) → read_depths header (declaration_words p rest) ≡ declaration_depths p (read_depths header rest)
declarations_read p rest =
    let turns = counter_words counter.Turn 0 p.turns rest in
    let sources = counter_words counter.Source 0 p.sources turns in
    let barriers = counter_words counter.Barrier 0 p.barriers sources in
    let groups = counter_words counter.Group 0 p.groups barriers in
    locals_read 0 p.arrays (variable_words 0 p.words groups)
    ∙ ap (local_depths p.arrays) (variables_read 0 p.words groups
    ∙ ap (variable_depths p.words) (counters_read counter.Group 0 p.groups barriers
    ∙ ap (counter_depths p.groups) (counters_read counter.Barrier 0 p.barriers sources
    ∙ ap (counter_depths p.barriers) (counters_read counter.Source 0 p.sources turns
    ∙ ap (counter_depths p.sources) (counters_read counter.Turn 0 p.turns rest)))))

pub depths_read : (p : Program) → word_depths (words_of p) ≡ depths p
depths_read p =
    let body = block_words (arrays_of p) p.body (word.Sign sign.CloseBrace ∷ []) in
    ap (λ ds. 0 ∷ 0 ∷ 1 ∷ ds) (parameters_read (input_arrays p.interface) (output_arrays p.interface) (word.Sign sign.OpenBrace ∷ declaration_words p body))
    ∙ ap (λ ds. header_depths p.interface ds) (declarations_read p body ∙ ap (declaration_depths p) (block_read (arrays_of p) p.body 1 (0 ∷ []) (word.Sign sign.CloseBrace ∷ [])))
