-- The tokens of a program's function, as texts. Each function takes the tokens that follow.
use Rattle.std.specs.Prelude.{ℕ, zero, suc, ◌+◌, List, [], ◌∷◌, ◌++◌, codes, decimal}
use Rattle.c_tree.specs.declared.tree.Counter.{Counter}
use Rattle.c_tree.specs.declared.tree.CWord.{CWord}
use Rattle.c_tree.specs.declared.tree.CWord.TheVariants.{I64, U64}
use Rattle.c_tree.specs.Tree.{Exp, Signed, Unsigned, Var, Count, Element, Cast, Truth, Neg, Binary, Choose, Test, Compare, Sta, Set, Store, If, IfElse, For, While, Break, Continue, Return, Block, Done, Next, Program}
use Rattle.c_tree.specs.declared.array_names.Array.{Array}
use Rattle.c_tree.specs.declared.array_names.Arrays.{Arrays}
use Rattle.c_tree.specs.Names.{arrays_of}
use Rattle.c_tree.specs.Texts.{Text, word_text, container_text, rel_text, op_text, var_text, counter_text, macro_text, array_text, read_text, store_text, function_name}

-- tokens in order
abbrev pub Texts : Type 0
Texts = List Text

-- a constant (7.18.4.1)
abbrev pub spell_constant : Text → ℕ → Texts → Texts
spell_constant macro n rest = macro ∷ codes "(" ∷ decimal n ∷ codes ")" ∷ rest

-- expressions (6.5)
abbrev mutual
  pub spell : Arrays → Exp → Texts → Texts
  spell all (Signed n) rest = spell_constant (macro_text I64) n rest
  spell all (Unsigned n) rest = spell_constant (macro_text U64) n rest
  spell all (Var k) rest = var_text k ∷ rest
  spell all (Count c) rest = counter_text c ∷ rest
  spell all (Element array at) rest =
      codes "(" ∷ read_text all array ∷ codes ")" ∷ array_text all array ∷ codes "[" ∷ spell all at (codes "]" ∷ rest)
  spell all (Cast to e) rest = codes "(" ∷ word_text to ∷ codes ")" ∷ spell all e rest
  spell all (Truth t) rest = codes "(" ∷ word_text I64 ∷ codes ")" ∷ codes "(" ∷ spell_test all t (codes ")" ∷ rest)
  spell all (Neg e) rest = codes "(" ∷ codes "-" ∷ spell all e (codes ")" ∷ rest)
  spell all (Binary op a b) rest = codes "(" ∷ spell all a (op_text op ∷ spell all b (codes ")" ∷ rest))
  spell all (Choose t a b) rest = codes "(" ∷ spell_test all t (codes "?" ∷ spell all a (codes ":" ∷ spell all b (codes ")" ∷ rest)))

  pub spell_test : Arrays → Test → Texts → Texts
  spell_test all (Compare rel a b) rest = spell all a (rel_text rel ∷ spell all b rest)

-- the head of a loop that counts from 0 (6.8.5.3)
abbrev pub spell_for : Counter → ℕ → Texts → Texts
spell_for c count rest =
    codes "for" ∷ codes "(" ∷ counter_text c ∷ codes "=" ∷ spell_constant (macro_text I64) 0 (codes ";" ∷
    counter_text c ∷ codes "<" ∷ spell_constant (macro_text I64) count (codes ";" ∷
    counter_text c ∷ codes "=" ∷ codes "(" ∷ counter_text c ∷ codes "+" ∷ spell_constant (macro_text I64) 1 (codes ")" ∷ codes ")" ∷ rest)))

-- statements (6.8)
abbrev mutual
  pub spell_sta : Arrays → Sta → Texts → Texts
  spell_sta all (Set k value) rest = var_text k ∷ codes "=" ∷ spell all value (codes ";" ∷ rest)
  spell_sta all (Store array at value) rest =
      array_text all array ∷ codes "[" ∷ spell all at (codes "]" ∷ codes "=" ∷
      codes "(" ∷ store_text all array ∷ codes ")" ∷ spell all value (codes ";" ∷ rest))
  spell_sta all (If t body) rest =
      codes "if" ∷ codes "(" ∷ spell_test all t (codes ")" ∷ codes "{" ∷ spell_block all body (codes "}" ∷ rest))
  spell_sta all (IfElse t body other) rest =
      codes "if" ∷ codes "(" ∷ spell_test all t (codes ")" ∷ codes "{" ∷ spell_block all body (codes "}" ∷
      codes "else" ∷ codes "{" ∷ spell_block all other (codes "}" ∷ rest)))
  spell_sta all (For c count body) rest = spell_for c count (codes "{" ∷ spell_block all body (codes "}" ∷ rest))
  spell_sta all (While t body) rest =
      codes "while" ∷ codes "(" ∷ spell_test all t (codes ")" ∷ codes "{" ∷ spell_block all body (codes "}" ∷ rest))
  spell_sta all Break rest = codes "break" ∷ codes ";" ∷ rest
  spell_sta all Continue rest = codes "continue" ∷ codes ";" ∷ rest
  spell_sta all (Return status) rest = codes "return" ∷ spell_constant (codes "INT32_C") status (codes ";" ∷ rest)

  pub spell_block : Arrays → Block → Texts → Texts
  spell_block all Done rest = rest
  spell_block all (Next s more) rest = spell_sta all s (spell_block all more rest)

-- an array with its type and extent (6.7.5.2)
abbrev pub spell_array : Array → Texts → Texts
spell_array a rest = container_text a.container ∷ a.name ∷ codes "[" ∷ decimal a.extent ∷ codes "]" ∷ rest

-- the parameters that come behind the first one
abbrev pub spell_outputs : List Array → Texts → Texts
spell_outputs [] rest = rest
spell_outputs (a ∷ more) rest = codes "," ∷ spell_array a (spell_outputs more rest)

-- the inputs that come behind the first one
abbrev pub spell_inputs : List Array → Texts → Texts
spell_inputs [] rest = rest
spell_inputs (a ∷ more) rest = codes "," ∷ codes "const" ∷ spell_array a (spell_inputs more rest)

-- the parameters, with a comma between two: the inputs are const
abbrev pub spell_parameters : List Array → List Array → Texts → Texts
spell_parameters [] [] rest = rest
spell_parameters [] (a ∷ outputs) rest = spell_array a (spell_outputs outputs rest)
spell_parameters (a ∷ inputs) outputs rest = codes "const" ∷ spell_array a (spell_inputs inputs (spell_outputs outputs rest))

-- local arrays, which start with zeros (6.7.8)
abbrev pub spell_locals : List Array → Texts → Texts
spell_locals [] rest = rest
spell_locals (a ∷ more) rest =
    spell_array a (codes "=" ∷ codes "{" ∷ codes "0" ∷ codes "}" ∷ codes ";" ∷ spell_locals more rest)

-- a variable or a counter, which starts at 0
abbrev pub spell_start : CWord → Text → Texts → Texts
spell_start w name rest = word_text w ∷ name ∷ codes "=" ∷ spell_constant (macro_text w) 0 (codes ";" ∷ rest)

-- variables, from a number on
abbrev pub spell_words : ℕ → List CWord → Texts → Texts
spell_words k [] rest = rest
spell_words k (w ∷ more) rest = spell_start w (var_text k) (spell_words (k + 1) more rest)

-- so many counters, from a number on
abbrev pub spell_counters : Text → ℕ → ℕ → Texts → Texts
spell_counters letter k zero rest = rest
spell_counters letter k (suc n) rest = spell_start I64 (letter ++ decimal k) (spell_counters letter (k + 1) n rest)

-- the declarations in their order
abbrev pub spell_declarations : Program → Texts → Texts
spell_declarations p rest =
    spell_locals (arrays_of p).locals (spell_words 0 p.words (
    spell_counters (codes "g") 0 p.groups (spell_counters (codes "b") 0 p.barriers (
    spell_counters (codes "k") 0 p.sources (spell_counters (codes "w") 0 p.turns rest)))))

-- up to the opening brace of the function
abbrev pub spell_header : Program → Texts → Texts
spell_header p rest =
    codes "int32_t" ∷ function_name p.interface.entry ∷ codes "(" ∷
    spell_parameters (arrays_of p).inputs (arrays_of p).outputs (codes ")" ∷ codes "{" ∷ rest)

-- the tokens of a program's function
abbrev pub spelled : Program → Texts
spelled p = spell_header p (spell_declarations p (spell_block (arrays_of p) p.body (codes "}" ∷ [])))
