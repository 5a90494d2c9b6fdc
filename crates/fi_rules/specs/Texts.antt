-- Types and fimaths in shown texts, and what a refusal shows.
use Rattle.std.specs.Prelude.{ℕ, Bool, if◌then◌else◌, List, [], ◌++◌, codes, decimal, Option, Some, None}
use Rattle.std.specs.Fmt.{signed_decimal}
use Rattle.num_type.specs.declared.methods.Rounding.{Rounding}
use Rattle.num_type.specs.declared.methods.Rounding.TheVariants.{Ceiling, Floor, Zero, Nearest, Round, Convergent}
use Rattle.num_type.specs.declared.methods.Overflow.{Overflow}
use Rattle.num_type.specs.declared.methods.Overflow.TheVariants.{Saturate, Wrap}
use Rattle.shape_rules.specs.TypeText.{type_text, shape_text}
use Rattle.fi_math.specs.declared.fimath.Mode.{Mode}
use Rattle.fi_math.specs.declared.fimath.Mode.TheVariants.{FullPrecision, KeepLSB, KeepMSB, SpecifyPrecision}
use Rattle.fi_math.specs.declared.fimath.Fimath.{Fimath}
use Rattle.fi_rules.specs.Checked.{Shown, Itself, LeftConstant, RightConstant, Counts, Whole, Differs}
use Rattle.fi_rules.specs.Decimals.{whole_text}
use Rattle.fi_rules.specs.Types.{Ty, FiTy, NumberTy, TextTy, MathTy, TypeTy, OtherTy}

abbrev pub rounding_text : Rounding → List ℕ
rounding_text Ceiling = codes "Ceiling"
rounding_text Floor = codes "Floor"
rounding_text Zero = codes "Zero"
rounding_text Nearest = codes "Nearest"
rounding_text Round = codes "Round"
rounding_text Convergent = codes "Convergent"

abbrev pub overflow_text : Overflow → List ℕ
overflow_text Saturate = codes "Saturate"
overflow_text Wrap = codes "Wrap"

abbrev pub mode_text : Mode → List ℕ
mode_text FullPrecision = codes "FullPrecision"
mode_text KeepLSB = codes "KeepLSB"
mode_text KeepMSB = codes "KeepMSB"
mode_text SpecifyPrecision = codes "SpecifyPrecision"

abbrev pub truth_text : Bool → List ℕ
truth_text b = if b then codes "true" else codes "false"

-- the nine properties of a fimath, joined by commas
unfoldable pub math_text : Fimath → List ℕ
math_text m =
    rounding_text m.rounding ++ codes "," ++ overflow_text m.overflow ++ codes "," ++ mode_text m.product_mode ++ codes ","
    ++ decimal m.product_word ++ codes "," ++ signed_decimal m.product_fraction ++ codes "," ++ mode_text m.sum_mode ++ codes ","
    ++ decimal m.sum_word ++ codes "," ++ signed_decimal m.sum_fraction ++ codes "," ++ truth_text m.cast_before_sum

unfoldable pub attached_text : Option Fimath → List ℕ
attached_text None = []
attached_text (Some m) = codes ":" ++ math_text m

-- a type in a shown text
unfoldable pub ty_text : Ty → List ℕ
ty_text (FiTy t m) = type_text t ++ codes ":" ++ shape_text 1 1 ++ attached_text m
ty_text (NumberTy s cs) = codes "number:" ++ shape_text s.rows s.columns
ty_text (TextTy text) = codes "text"
ty_text (MathTy m) = codes "fimath"
ty_text (TypeTy t) = codes "numerictype"
ty_text OtherTy = []

abbrev pub counts_text : ℕ → ℕ → List ℕ
counts_text have want = decimal have ++ codes " for " ++ decimal want

-- what stands in the source: the operator or the name, and the constants beside it
pub record Around : Type 0 where
  pub itself : List ℕ
  pub left : List ℕ
  pub right : List ℕ

unfoldable pub shown_text : Around → Shown → List ℕ
shown_text around Itself = around.itself
shown_text around LeftConstant = around.left
shown_text around RightConstant = around.right
shown_text around (Counts have want) = counts_text have want
shown_text around (Whole z) = whole_text z
shown_text around (Differs m n) = math_text m ++ codes " differs from " ++ math_text n
