-- The number of tokens is the length of the list of their texts.
use Rattle.std.proofs.Common.{◌≡◌, ℕ, zero, suc, ◌+◌, ◌-◌, ◌*◌, List, [], ◌∷◌, codes, length, arith}
use Rattle.c_tree.specs.declared.tree.CWord.{CWord}
use Rattle.c_tree.specs.declared.tree.LocalArray.{LocalArray}
use Rattle.c_tree.specs.declared.array_names.Array.{Array}
use Rattle.c_tree.specs.declared.array_names.Arrays.{Arrays}
use Rattle.c_tree.specs.Tree.{Exp, Signed, Unsigned, Var, Count, Element, Cast, Truth, Neg, Binary, Choose, Test, Compare, Sta, Set, Store, If, IfElse, For, While, Break, Continue, Return, Block, Done, Next, Program}
use Rattle.c_tree.specs.Names.{locals_from, arrays_of}
use Rattle.c_tree.specs.Tokens.{tokens, test_tokens, sta_tokens, block_tokens, parameter_tokens, header_tokens, declaration_tokens, program_tokens}
use Rattle.c_tree.specs.Texts.{Text}
use Rattle.c_tree.specs.Spelling.{Texts, spell, spell_test, spell_sta, spell_block, spell_inputs, spell_outputs, spell_parameters, spell_locals, spell_words, spell_counters, spell_declarations, spell_header, spelled}

mutual
  pub spell_length : (all : Arrays) (e : Exp) (rest : Texts) → length (spell all e rest) ≡ tokens e + length rest
  spell_length all (Signed n) rest = omega arith
  spell_length all (Unsigned n) rest = omega arith
  spell_length all (Var k) rest = omega arith
  spell_length all (Count c) rest = omega arith
  spell_length all (Element array at) rest = omega (arith, spell_length all at)
  spell_length all (Cast to e) rest = omega (arith, spell_length all e)
  spell_length all (Truth t) rest = omega (arith, test_length all t)
  spell_length all (Neg e) rest = omega (arith, spell_length all e)
  spell_length all (Binary op a b) rest = omega (arith, spell_length all a, spell_length all b)
  spell_length all (Choose t a b) rest = omega (arith, test_length all t, spell_length all a, spell_length all b)

  pub test_length : (all : Arrays) (t : Test) (rest : Texts) → length (spell_test all t rest) ≡ test_tokens t + length rest
  test_length all (Compare rel a b) rest = omega (arith, spell_length all a, spell_length all b)

mutual
  pub sta_length : (all : Arrays) (s : Sta) (rest : Texts) → length (spell_sta all s rest) ≡ sta_tokens s + length rest
  sta_length all (Set k value) rest = omega (arith, spell_length all value)
  sta_length all (Store array at value) rest = omega (arith, spell_length all at, spell_length all value)
  sta_length all (If t body) rest = omega (arith, test_length all t, block_length all body)
  sta_length all (IfElse t body other) rest = omega (arith, test_length all t, block_length all body, block_length all other)
  sta_length all (For c count body) rest = omega (arith, block_length all body)
  sta_length all (While t body) rest = omega (arith, test_length all t, block_length all body)
  sta_length all Break rest = omega arith
  sta_length all Continue rest = omega arith
  sta_length all (Return status) rest = omega arith

  pub block_length : (all : Arrays) (b : Block) (rest : Texts) → length (spell_block all b rest) ≡ block_tokens b + length rest
  block_length all Done rest = omega arith
  block_length all (Next s more) rest = omega (arith, sta_length all s, block_length all more)

outputs_length : (arrays : List Array) (rest : Texts) → length (spell_outputs arrays rest) ≡ 6 * length arrays + length rest
outputs_length [] rest = omega arith
outputs_length (a ∷ more) rest = omega (arith, outputs_length more rest)

inputs_length : (arrays : List Array) (rest : Texts) → length (spell_inputs arrays rest) ≡ 7 * length arrays + length rest
inputs_length [] rest = omega arith
inputs_length (a ∷ more) rest = omega (arith, inputs_length more rest)

parameters_length : (all : Arrays) (rest : Texts) → length (spell_parameters all.inputs all.outputs rest) ≡ parameter_tokens all + length rest
parameters_length all rest = both_length all.inputs all.outputs rest
  where
    both_length : (inputs outputs : List Array) (rest : Texts) → length (spell_parameters inputs outputs rest) ≡ 6 * length inputs + 5 * length outputs + (length inputs + length outputs - 1) + length rest
    both_length [] [] rest = omega arith
    both_length [] (a ∷ outputs) rest = omega (arith, outputs_length outputs)
    both_length (a ∷ inputs) outputs rest = omega (arith, inputs_length inputs, outputs_length outputs)

locals_length : (k : ℕ) (arrays : List LocalArray) (rest : Texts) → length (spell_locals (locals_from k arrays) rest) ≡ 10 * length arrays + length rest
locals_length k [] rest = omega arith
locals_length k (a ∷ more) rest = omega (arith, locals_length (suc k) more rest)

words_length : (k : ℕ) (words : List CWord) (rest : Texts) → length (spell_words k words rest) ≡ 8 * length words + length rest
words_length k [] rest = omega arith
words_length k (w ∷ more) rest = omega (arith, words_length (k + 1) more rest)

counters_length : (letter : Text) (k n : ℕ) (rest : Texts) → length (spell_counters letter k n rest) ≡ 8 * n + length rest
counters_length letter k zero rest = omega arith
counters_length letter k (suc n) rest = omega (arith, counters_length letter (k + 1) n rest)

declarations_length : (p : Program) (rest : Texts) → length (spell_declarations p rest) ≡ declaration_tokens p + length rest
declarations_length p rest =
    omega (arith, locals_length 0 p.arrays, words_length 0 p.words, counters_length (codes "g") 0 p.groups, counters_length (codes "b") 0 p.barriers, counters_length (codes "k") 0 p.sources, counters_length (codes "w") 0 p.turns)

header_length : (p : Program) (rest : Texts) → length (spell_header p rest) ≡ header_tokens p + length rest
header_length p rest = omega (arith, parameters_length (arrays_of p))

pub spelled_length : (p : Program) → length (spelled p) ≡ program_tokens p
spelled_length p = omega (arith, header_length p, declarations_length p, block_length (arrays_of p) p.body)
