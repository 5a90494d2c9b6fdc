-- What arguments and functions of the code stand for.
use Rattle.std.specs.Prelude.{ℕ, min, Bool, true, false, [], ◌∷◌, Option, Some, None}
use Rattle.fi_rules.specs.Checked.{Checked, Fine, Missing}
use Rattle.fi_rules.specs.Value.{Val, Logical}
use Rattle.fi_values.specs.Numbers.{nought, one}
use Rattle.fi_meaning.specs.Calls.{Argument}
use Rattle.fi_meaning.specs.Functions as functions
use Rattle.eval_value.specs.View.{value_view}
use Rattle.eval_call.specs.declared.argument.Argument as code_argument
use Rattle.eval_call.specs.declared.function.Function as code_function
use Rattle.eval_call.specs.declared.function.Function.TheVariants as function

abbrev pub argument_view : code_argument.Argument → Argument
argument_view a = record { value = value_view a.value; is_word = a.is_word }

-- what the word true or false itself is
unfoldable pub word_truth : Val → Bool → Option Bool
word_truth (Logical s (b ∷ [])) true = Some b
word_truth v w = None

-- a natural number, or the greatest one that the code tells from others
abbrev pub capped : ℕ → ℕ
capped n = min n 65536

abbrev pub function_view : code_function.Function → functions.Function
function_view function.Zeros = functions.Filled nought
function_view function.Ones = functions.Filled one
function_view function.Numel = functions.Numel
function_view function.Length = functions.Length
function_view function.Size = functions.Size
function_view function.True = functions.Truth true
function_view function.False = functions.Truth false
function_view function.Real = functions.Real
function_view function.Imag = functions.Imag
function_view function.Conj = functions.Conj
function_view function.Complex = functions.Complex
function_view function.Sum = functions.Sum
function_view function.BitAnd = functions.BitAnd
function_view function.BitOr = functions.BitOr
function_view function.BitXor = functions.BitXor
function_view function.BitCmp = functions.BitCmp
function_view function.BitShiftLeft = functions.BitShiftLeft
function_view function.BitShiftRight = functions.BitShiftRight
function_view function.BitShiftSign = functions.BitShiftSign
function_view function.BitConcat = functions.BitConcat
function_view function.BitSlice = functions.BitSlice

-- a function of so many values, and not of any number
abbrev pub IsCounted : code_function.Function → Type 0
IsCounted function.Zeros = ⊥
IsCounted function.Ones = ⊥
IsCounted function.BitConcat = ⊥
IsCounted f = Unit {0}

-- what conditions come to, where none is missing
unfoldable pub found : {A : Type 0} → Checked A → Option A
found (Fine x) = Some x
found (Missing code shown) = None
