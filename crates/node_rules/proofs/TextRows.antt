-- Worked rows of shown texts, by computing.
use Rattle.std.proofs.Common.{◌≡◌, refl, false, true, []}
use Rattle.std.specs.Prelude.{pos, codes, Some, None}
use Rattle.std.specs.Fmt.{digits}
use Rattle.fi_math.specs.declared.fimath.Fimath.{Fimath}
use Rattle.fi_math.specs.declared.fimath.Mode.TheVariants.{FullPrecision}
use Rattle.num_type.specs.Types.{NumericType}
use Rattle.num_type.specs.declared.methods.Rounding.TheVariants.{Nearest}
use Rattle.num_type.specs.declared.methods.Overflow.TheVariants.{Saturate}
use Rattle.fi_rules.specs.Checked.{Counts}
use Rattle.fi_rules.specs.Decimals.{size_text}
use Rattle.fi_rules.specs.Texts.{Around, attached_text, math_text, shown_text}
use Rattle.fi_rules.specs.Value.{Shape, scalar}
use Rattle.node_rules.specs.Ruled.{Shows, Misfit, Most, Into}
use Rattle.node_rules.specs.Texts.{ty_text, why_text}
use Rattle.node_rules.specs.Types.{FiNode, LogicalNode, NumberNode, IndexNode}

abbrev row_of_four : Shape
row_of_four = record { rows = 1; columns = 4 }

abbrev s16 : NumericType
s16 = record { signed = true; word = 16; fraction = pos 15 }

abbrev plain : Fimath
plain = record {
  rounding = Nearest;
  overflow = Saturate;
  product_mode = FullPrecision;
  product_word = 32;
  product_fraction = pos 30;
  sum_mode = FullPrecision;
  sum_word = 32;
  sum_fraction = pos 30;
  cast_before_sum = true;
}

abbrev here : Around
here = record { itself = codes "+"; left = codes "1"; right = codes "2" }

fixed : ty_text (FiNode s16 None false row_of_four) ≡ codes "s16.15:1x4"
unfolding ty_text attached_text digits
fixed = refl

complex : ty_text (FiNode s16 None true row_of_four) ≡ codes "s16.15:1x4:c"
unfolding ty_text attached_text digits
complex = refl

attached : ty_text (FiNode s16 (Some plain) true scalar) ≡ codes "s16.15:1x1:c:Nearest,Saturate,FullPrecision,32,30,FullPrecision,32,30,true"
unfolding ty_text attached_text math_text digits
attached = refl

logical : ty_text (LogicalNode scalar) ≡ codes "b:1x1"
unfolding ty_text digits
logical = refl

number : ty_text (NumberNode row_of_four [] None) ≡ codes "number:1x4"
unfolding ty_text digits
number = refl

shapes : why_text here (Misfit scalar row_of_four) ≡ codes "1x1 with 1x4"
unfolding why_text digits
shapes = refl

limit : why_text here (Most 4096) ≡ codes "4096"
unfolding why_text size_text
limit = refl

change : why_text here (Into (LogicalNode scalar) (IndexNode (pos 1) (pos 2))) ≡ codes "b:1x1 into index"
unfolding why_text ty_text digits
change = refl

counts : why_text here (Shows (Counts 3 2)) ≡ codes "3 for 2"
unfolding why_text shown_text digits
counts = refl
