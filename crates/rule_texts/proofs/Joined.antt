-- Texts that are appended one behind the other.
use Rattle.std.proofs.Common.{◌≡◌, ℕ, List, ◌++◌, append_assoc}
use Rattle.std.specs.Prelude.{ℤ, codes, decimal}
use Rattle.std.specs.Fmt.{signed_decimal}
use Rattle.fi_math.specs.declared.fimath.Mode.{Mode}
use Rattle.fi_math.specs.declared.fimath.Fimath.{Fimath}
use Rattle.fi_rules.specs.Texts.{math_text, rounding_text, overflow_text, mode_text, truth_text}

-- nine texts with one between each two, appended in four parts
parts : (out between a b c d e f g h i : List ℕ) →
    (((out ++ (a ++ between ++ b ++ between)) ++ (c ++ between ++ d ++ between ++ e ++ between)) ++ (f ++ between ++ g ++ between ++ h ++ between)) ++ i
    ≡ out ++ (a ++ between ++ b ++ between ++ c ++ between ++ d ++ between ++ e ++ between ++ f ++ between ++ g ++ between ++ h ++ between ++ i)
parts out between a b c d e f g h i = simp append_assoc

abbrev pub methods_text : Fimath → List ℕ
methods_text m = rounding_text m.rounding ++ codes "," ++ overflow_text m.overflow ++ codes ","

abbrev pub sized_text : Mode → ℕ → ℤ → List ℕ
sized_text mode word fraction = mode_text mode ++ codes "," ++ decimal word ++ codes "," ++ signed_decimal fraction ++ codes ","

-- a fimath behind what stands there
pub math_behind : (out : List ℕ) (m : Fimath) →
    (((out ++ methods_text m) ++ sized_text m.product_mode m.product_word m.product_fraction) ++ sized_text m.sum_mode m.sum_word m.sum_fraction)
    ++ truth_text m.cast_before_sum
    ≡ out ++ math_text m
unfolding math_text
math_behind out m =
    parts out (codes ",") (rounding_text m.rounding) (overflow_text m.overflow) (mode_text m.product_mode) (decimal m.product_word)
    (signed_decimal m.product_fraction) (mode_text m.sum_mode) (decimal m.sum_word) (signed_decimal m.sum_fraction) (truth_text m.cast_before_sum)
