-- The texts of single tokens.
use Rattle.std.specs.Prelude.{ℕ, List, [], ◌++◌, codes, decimal, Option, Some, None}
use Rattle.num_type.specs.declared.container.Container.{Container}
use Rattle.num_type.specs.declared.container.Container.TheVariants as container
use Rattle.c_tree.specs.declared.tree.Counter.{Counter}
use Rattle.c_tree.specs.declared.tree.CounterKind.{CounterKind}
use Rattle.c_tree.specs.declared.tree.CounterKind.TheVariants as counter
use Rattle.c_tree.specs.declared.tree.CArray.{CArray}
use Rattle.c_tree.specs.declared.tree.CWord.{CWord}
use Rattle.c_tree.specs.declared.tree.CWord.TheVariants as word
use Rattle.c_tree.specs.declared.tree.CRel.{CRel}
use Rattle.c_tree.specs.declared.tree.CRel.TheVariants as rel
use Rattle.c_tree.specs.declared.tree.COp.{COp}
use Rattle.c_tree.specs.declared.tree.COp.TheVariants as op
use Rattle.c_tree.specs.declared.array_names.Array.{Array}
use Rattle.c_tree.specs.declared.array_names.Arrays.{Arrays}
use Rattle.c_tree.specs.Names.{array_at, word_of}

-- the bytes of a token
abbrev pub Text : Type 0
Text = List ℕ

-- the name of a word type (7.18.1.1)
abbrev pub word_text : CWord → Text
word_text word.I64 = codes "int64_t"
word_text word.U64 = codes "uint64_t"

-- the name of a container (7.18.1.1)
abbrev pub container_text : Container → Text
container_text container.I8 = codes "int8_t"
container_text container.I16 = codes "int16_t"
container_text container.I32 = codes "int32_t"
container_text container.I64 = codes "int64_t"
container_text container.U8 = codes "uint8_t"
container_text container.U16 = codes "uint16_t"
container_text container.U32 = codes "uint32_t"
container_text container.U64 = codes "uint64_t"

-- a relational or equality operator (6.5.8, 6.5.9)
abbrev pub rel_text : CRel → Text
rel_text rel.Eq = codes "=="
rel_text rel.Ne = codes "!="
rel_text rel.Lt = codes "<"
rel_text rel.Le = codes "<="
rel_text rel.Gt = codes ">"
rel_text rel.Ge = codes ">="

-- a binary operator (6.5.5 to 6.5.7, 6.5.10 to 6.5.12)
abbrev pub op_text : COp → Text
op_text op.Add = codes "+"
op_text op.Sub = codes "-"
op_text op.Mul = codes "*"
op_text op.And = codes "&"
op_text op.Or = codes "|"
op_text op.Xor = codes "^"
op_text op.Shl = codes "<<"
op_text op.Shr = codes ">>"

-- a variable
abbrev pub var_text : ℕ → Text
var_text k = codes "v" ++ decimal k

-- the letter of a kind of counters
abbrev pub letter_of : CounterKind → Text
letter_of counter.Group = codes "g"
letter_of counter.Barrier = codes "b"
letter_of counter.Source = codes "k"
letter_of counter.Turn = codes "w"

-- a counter
abbrev pub counter_text : Counter → Text
counter_text c = letter_of c.kind ++ decimal c.number

-- the macro for constants of a type (7.18.4.1)
abbrev pub macro_text : CWord → Text
macro_text word.I64 = codes "INT64_C"
macro_text word.U64 = codes "UINT64_C"

-- a text of an array, and none where there is no such array
abbrev pub text_or_none : (Array → Text) → Option Array → Text
text_or_none f None = []
text_or_none f (Some a) = f a

-- the name of an array
abbrev pub array_text : Arrays → CArray → Text
array_text all a = text_or_none (λ a. a.name) (array_at all a)

-- the type of an element that is read
abbrev pub read_text : Arrays → CArray → Text
read_text all a = text_or_none (λ a. word_text (word_of a.container)) (array_at all a)

-- the type of an element that is stored
abbrev pub store_text : Arrays → CArray → Text
store_text all a = text_or_none (λ a. container_text a.container) (array_at all a)

-- the name of the function
abbrev pub function_name : List ℕ → Text
function_name entry = codes "fic_" ++ entry
