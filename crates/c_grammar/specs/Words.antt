-- The text of each word.
use Rattle.std.specs.Prelude.{◌≡◌, ◌<◌, ◌^◌, true, [], ◌++◌, codes, decimal, is_some, slice_get}
use Rattle.c_tree.specs.declared.tree.CArray.{CArray}
use Rattle.c_tree.specs.declared.tree.CArray.TheVariants as array
use Rattle.c_tree.specs.Tree.{Signature}
use Rattle.c_tree.specs.declared.array_names.Arrays.{Arrays}
use Rattle.c_tree.specs.Names.{input_arrays, output_arrays}
use Rattle.c_tree.specs.Texts.{Text, container_text, rel_text, op_text, var_text, counter_text, array_text, function_name}
use Rattle.c_grammar.specs.declared.word.CKeyword.{CKeyword}
use Rattle.c_grammar.specs.declared.word.CKeyword.TheVariants as keyword
use Rattle.c_grammar.specs.declared.word.CMacro.{CMacro}
use Rattle.c_grammar.specs.declared.word.CMacro.TheVariants as macro
use Rattle.c_grammar.specs.declared.word.CSign.{CSign}
use Rattle.c_grammar.specs.declared.word.CSign.TheVariants as sign
use Rattle.c_grammar.specs.declared.word.CWordToken.{CWordToken}
use Rattle.c_grammar.specs.declared.word.CWordToken.TheVariants as word

-- a macro for constants (7.18.4.1)
abbrev pub macro_name : CMacro → Text
macro_name macro.I32 = codes "INT32_C"
macro_name macro.I64 = codes "INT64_C"
macro_name macro.U64 = codes "UINT64_C"

-- a keyword (6.4.1)
abbrev pub keyword_text : CKeyword → Text
keyword_text keyword.Const = codes "const"
keyword_text keyword.If = codes "if"
keyword_text keyword.Else = codes "else"
keyword_text keyword.For = codes "for"
keyword_text keyword.While = codes "while"
keyword_text keyword.Break = codes "break"
keyword_text keyword.Continue = codes "continue"
keyword_text keyword.Return = codes "return"

-- a sign (6.4.6)
abbrev pub sign_text : CSign → Text
sign_text sign.Open = codes "("
sign_text sign.Close = codes ")"
sign_text sign.OpenSquare = codes "["
sign_text sign.CloseSquare = codes "]"
sign_text sign.OpenBrace = codes "{"
sign_text sign.CloseBrace = codes "}"
sign_text sign.Comma = codes ","
sign_text sign.Semicolon = codes ";"
sign_text sign.Colon = codes ":"
sign_text sign.Question = codes "?"
sign_text sign.Assign = codes "="

-- the parameters of an interface
abbrev pub parameters_of : Signature → Arrays
parameters_of i = record { inputs = input_arrays i; outputs = output_arrays i; locals = [] }

-- the name of an array: a local array's goes by its number alone
abbrev pub name_of : Signature → CArray → Text
name_of i (array.Input k) = array_text (parameters_of i) (array.Input k)
name_of i (array.Output k) = array_text (parameters_of i) (array.Output k)
name_of i (array.Local k) = codes "m" ++ decimal k

-- the text of a word beside an interface, and none for a word that is no token of it
abbrev pub text_of : Signature → CWordToken → Text
text_of i (word.Type c) = container_text c
text_of i word.Function = function_name i.entry
text_of i (word.Number n) = decimal n
text_of i (word.Var k) = var_text k
text_of i (word.Counter c) = counter_text c
text_of i (word.Array a) = name_of i a
text_of i (word.Macro m) = macro_name m
text_of i (word.Keyword k) = keyword_text k
text_of i (word.Rel r) = rel_text r
text_of i (word.Op o) = op_text o
text_of i (word.Sign s) = sign_text s
text_of i word.Other = []

-- an array of the interface, or a local array with a number below their limit
abbrev pub IsArrayOf : Signature → CArray → Type 0
IsArrayOf i (array.Input k) = is_some (slice_get (input_arrays i) k) ≡ true
IsArrayOf i (array.Output k) = is_some (slice_get (output_arrays i) k) ≡ true
IsArrayOf i (array.Local k) = k < 2 ^ 32

-- a word that is a token of some program of the interface: its number is below the limit, and its array is one of them
abbrev pub IsToken : Signature → CWordToken → Type 0
IsToken i (word.Number n) = n < 2 ^ 64
IsToken i (word.Var k) = k < 2 ^ 32
IsToken i (word.Counter c) = c.number < 2 ^ 32
IsToken i (word.Array a) = IsArrayOf i a
IsToken i word.Other = ⊥
IsToken i _ = Unit {0}
