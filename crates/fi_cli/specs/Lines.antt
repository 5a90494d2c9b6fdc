-- The lines on the error stream.
use Rattle.std.specs.Prelude.{ℕ, List, ◌++◌, codes, decimal, Option, Some, None}
use Rattle.fic_base.specs.declared.code.Code.{Code}
use Rattle.fic_base.specs.declared.code.Code.TheVariants as code
use Rattle.fic_base.specs.declared.refusal.Refusal.{Refusal}
use Rattle.c_read.specs.declared.refusal.CBad.{CBad}
use Rattle.c_read.specs.declared.refusal.CBad.TheVariants as text
use Rattle.c_read.specs.declared.refusal.CRefusal.{CRefusal}
use Rattle.case_io.specs.declared.refusal.CaseBad.{CaseBad}
use Rattle.case_io.specs.declared.refusal.CaseBad.TheVariants as case
use Rattle.case_io.specs.declared.refusal.CaseRefusal.{CaseRefusal}

-- the number of a code, as E01
unfoldable pub code_text : Code → List ℕ
code_text code.BadByte = codes "E01"
code_text code.Unclosed = codes "E02"
code_text code.Syntax = codes "E03"
code_text code.NoEntry = codes "E04"
code_text code.ArgCount = codes "E05"
code_text code.UnknownName = codes "E06"
code_text code.NotAssigned = codes "E07"
code_text code.FloatOperand = codes "E08"
code_text code.Division = codes "E09"
code_text code.TypeChange = codes "E10"
code_text code.SizeMismatch = codes "E11"
code_text code.DynamicSize = codes "E12"
code_text code.FimathDiffers = codes "E13"
code_text code.TooWide = codes "E14"
code_text code.FractionOut = codes "E15"
code_text code.LiteralInexact = codes "E16"
code_text code.Recursion = codes "E17"
code_text code.BadArgument = codes "E18"
code_text code.Unsupported = codes "E19"
code_text code.Limit = codes "E20"
code_text code.ComplexOrder = codes "E21"
code_text code.LoopVariable = codes "E22"

-- a refused source, as 2:7 E19 -
unfoldable pub refusal_line : Refusal → List ℕ
refusal_line r = decimal r.place.line ++ codes ":" ++ decimal r.place.col ++ codes " " ++ code_text r.code ++ codes " " ++ r.shown ++ codes "\n"

-- what of a C text is refused
unfoldable pub text_kind : CBad → List ℕ
text_kind text.Include = codes "Include"
text_kind text.Interface = codes "Interface"
text_kind text.Token = codes "Token"
text_kind text.Limit = codes "Limit"

-- a refused C text, as byte 91 Token
unfoldable pub text_line : CRefusal → List ℕ
text_line r = codes "byte " ++ decimal r.offset ++ codes " " ++ text_kind r.kind ++ codes "\n"

-- why cases are refused
unfoldable pub case_kind : CaseBad → List ℕ
case_kind case.Form = codes "Form"
case_kind case.Value = codes "Value"

-- the number of a case, where there is one
unfoldable pub case_index : Option ℕ → List ℕ
case_index (Some n) = decimal n
case_index None = codes "-"

-- refused cases, as case 0 Value
unfoldable pub case_line : CaseRefusal → List ℕ
case_line r = codes "case " ++ case_index r.index ++ codes " " ++ case_kind r.kind ++ codes "\n"

-- a name that could not be read
unfoldable pub read_line : List ℕ → List ℕ
read_line name = codes "read " ++ name ++ codes "\n"

-- words without a form, by the first position at which none goes on
unfoldable pub word_line : ℕ → List ℕ
word_line n = codes "word " ++ decimal n ++ codes "\n"

-- want of memory
unfoldable pub memory_line : List ℕ
memory_line = codes "memory\n"

-- a failed write
unfoldable pub write_line : List ℕ
write_line = codes "write\n"
