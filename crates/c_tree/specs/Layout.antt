-- The layout of a program's text: a declaration, a statement or a closing brace a line, two blanks for each brace that is open.
use Rattle.std.specs.Prelude.{ℕ, zero, suc, ◌+◌, Bool, true, false, List, [], ◌∷◌, ◌++◌, flat_map, codes, decimal}
use Rattle.c_tree.specs.declared.tree.Counter.{Counter}
use Rattle.c_tree.specs.declared.tree.CArray.{CArray}
use Rattle.c_tree.specs.declared.tree.CWord.{CWord}
use Rattle.c_tree.specs.declared.tree.CWord.TheVariants.{I64, U64}
use Rattle.c_tree.specs.Tree.{Exp, Signed, Unsigned, Var, Count, Element, Cast, Truth, Neg, Binary, Choose, Test, Compare, Sta, Set, Store, If, IfElse, For, While, Break, Continue, Return, Block, Done, Next, Program}
use Rattle.c_tree.specs.declared.array_names.Array.{Array}
use Rattle.c_tree.specs.declared.array_names.Arrays.{Arrays}
use Rattle.c_tree.specs.Names.{arrays_of}
use Rattle.c_tree.specs.Texts.{word_text, container_text, rel_text, op_text, var_text, counter_text, macro_text, array_text, read_text, store_text, function_name}
use Rattle.c_tree.specs.Interface.{include_line, interface_line}

-- a constant of a type
abbrev pub constant_text : CWord → ℕ → List ℕ
constant_text w n = macro_text w ++ codes "(" ++ decimal n ++ codes ")"

abbrev mutual
  pub exp_text : Arrays → Exp → List ℕ
  exp_text all (Signed n) = constant_text I64 n
  exp_text all (Unsigned n) = constant_text U64 n
  exp_text all (Var k) = var_text k
  exp_text all (Count c) = counter_text c
  exp_text all (Element array at) =
      codes "(" ++ read_text all array ++ codes ")" ++ array_text all array ++ codes "[" ++ exp_text all at ++ codes "]"
  exp_text all (Cast to e) = codes "(" ++ word_text to ++ codes ")" ++ exp_text all e
  exp_text all (Truth t) = codes "(int64_t)(" ++ test_text all t ++ codes ")"
  exp_text all (Neg e) = codes "(-" ++ exp_text all e ++ codes ")"
  exp_text all (Binary op a b) = codes "(" ++ exp_text all a ++ codes " " ++ op_text op ++ codes " " ++ exp_text all b ++ codes ")"
  exp_text all (Choose t a b) =
      codes "(" ++ test_text all t ++ codes " ? " ++ exp_text all a ++ codes " : " ++ exp_text all b ++ codes ")"

  pub test_text : Arrays → Test → List ℕ
  test_text all (Compare rel a b) = exp_text all a ++ codes " " ++ rel_text rel ++ codes " " ++ exp_text all b

-- two blanks for each brace that is open
abbrev pub indent : ℕ → List ℕ
indent zero = []
indent (suc n) = codes "  " ++ indent n

-- the start of a loop that counts
abbrev pub start_text : Counter → List ℕ
start_text c = codes "for (" ++ counter_text c ++ codes " = INT64_C(0); "

-- its limit
abbrev pub limit_text : Counter → ℕ → List ℕ
limit_text c count = counter_text c ++ codes " < " ++ constant_text I64 count ++ codes "; "

-- its step, up to the brace
abbrev pub step_text : Counter → List ℕ
step_text c = counter_text c ++ codes " = (" ++ counter_text c ++ codes " + INT64_C(1))) {\n"

-- the head of a loop that counts
abbrev pub for_text : Counter → ℕ → List ℕ
for_text c count = start_text c ++ limit_text c count ++ step_text c

-- the head of an if or a while
abbrev pub head_text : Arrays → List ℕ → Test → List ℕ
head_text all word t = word ++ codes " (" ++ test_text all t ++ codes ") {\n"

-- the element that a store writes
abbrev pub target_text : Arrays → CArray → Exp → List ℕ
target_text all array at = array_text all array ++ codes "[" ++ exp_text all at ++ codes "] = "

-- the lines of a statement where so many braces are open
abbrev mutual
  pub sta_text : Arrays → ℕ → Sta → List ℕ
  sta_text all depth (Set k value) = indent depth ++ var_text k ++ codes " = " ++ exp_text all value ++ codes ";\n"
  sta_text all depth (Store array at value) =
      indent depth ++ target_text all array at ++ codes "(" ++ store_text all array ++ codes ")" ++ exp_text all value ++ codes ";\n"
  sta_text all depth (If t body) =
      indent depth ++ head_text all (codes "if") t ++ block_text all (suc depth) body ++ indent depth ++ codes "}\n"
  sta_text all depth (IfElse t body other) =
      indent depth ++ head_text all (codes "if") t ++ block_text all (suc depth) body
      ++ indent depth ++ codes "} else {\n" ++ block_text all (suc depth) other ++ indent depth ++ codes "}\n"
  sta_text all depth (For c count body) =
      indent depth ++ for_text c count ++ block_text all (suc depth) body ++ indent depth ++ codes "}\n"
  sta_text all depth (While t body) =
      indent depth ++ head_text all (codes "while") t ++ block_text all (suc depth) body ++ indent depth ++ codes "}\n"
  sta_text all depth Break = indent depth ++ codes "break;\n"
  sta_text all depth Continue = indent depth ++ codes "continue;\n"
  sta_text all depth (Return status) = indent depth ++ codes "return " ++ codes "INT32_C(" ++ decimal status ++ codes ");\n"

  pub block_text : Arrays → ℕ → Block → List ℕ
  block_text all depth Done = []
  block_text all depth (Next s more) = sta_text all depth s ++ block_text all depth more

-- an array with its type and extent
abbrev pub declared_text : Array → List ℕ
declared_text a = container_text a.container ++ codes " " ++ a.name ++ codes "[" ++ decimal a.extent ++ codes "]"

-- a comma, unless it is the first parameter
abbrev pub comma_unless : Bool → List ℕ
comma_unless true = []
comma_unless false = codes ", "

-- parameters behind a word, a comma before each but the first of all
abbrev pub parameters_text : Bool → List ℕ → List Array → List ℕ
parameters_text first word [] = []
parameters_text first word (a ∷ more) = comma_unless first ++ word ++ declared_text a ++ parameters_text false word more

-- whether there is no array
abbrev pub is_none : List Array → Bool
is_none [] = true
is_none (a ∷ more) = false

-- the type that a function gives back
unfoldable pub function_front : List ℕ
function_front = codes "int32_t "

-- up to the opening brace of the function
abbrev pub header_text : Program → List ℕ
header_text p =
    function_front ++ function_name p.interface.entry ++ codes "("
    ++ parameters_text true (codes "const ") (arrays_of p).inputs ++ parameters_text (is_none (arrays_of p).inputs) [] (arrays_of p).outputs
    ++ codes ") {\n"

-- a local array, which starts with zeros
abbrev pub local_text : Array → List ℕ
local_text a = codes "  " ++ declared_text a ++ codes " = {0};\n"

-- a variable or a counter, which starts at 0
unfoldable pub zero_text : CWord → List ℕ
zero_text w = codes " = " ++ constant_text w 0 ++ codes ";\n"

-- the line of a variable or a counter
abbrev pub start_line : CWord → List ℕ → List ℕ
start_line w name = codes "  " ++ word_text w ++ codes " " ++ name ++ zero_text w

-- variables, from a number on
abbrev pub words_text : ℕ → List CWord → List ℕ
words_text k [] = []
words_text k (w ∷ more) = start_line w (var_text k) ++ words_text (k + 1) more

-- so many counters, from a number on
abbrev pub counters_text : List ℕ → ℕ → ℕ → List ℕ
counters_text letter k zero = []
counters_text letter k (suc n) = start_line I64 (letter ++ decimal k) ++ counters_text letter (k + 1) n

-- the declarations in their order
abbrev pub declarations_text : Program → List ℕ
declarations_text p =
    flat_map local_text (arrays_of p).locals ++ words_text 0 p.words
    ++ counters_text (codes "g") 0 p.groups ++ counters_text (codes "b") 0 p.barriers
    ++ counters_text (codes "k") 0 p.sources ++ counters_text (codes "w") 0 p.turns

-- the text of the function
abbrev pub function_text : Program → List ℕ
function_text p = header_text p ++ declarations_text p ++ block_text (arrays_of p) 1 p.body ++ codes "}\n"

-- the layout of a program's text
abbrev pub layout : Program → List ℕ
layout p = include_line ++ interface_line p.interface ++ function_text p
