-- Functions on bits: their conditions in the order of the codes, the types of their results, and their values.
use Rattle.std.specs.Prelude.{ℕ, ◌+◌, ◌-◌, ◌&&◌, ℤ, false, nat_le, nat_lt, Option, Some, None}
use Rattle.fic_base.specs.declared.code.Code.TheVariants as code
use Rattle.fi_ops.specs.Elements.{Element}
use Rattle.fi_ops.specs.Bits.{complemented, sliced, word_type}
use Rattle.fi_rules.specs.Checked.{Itself}
use Rattle.fi_rules.specs.Value.{Val, Fi, ComplexFi}
use Rattle.fi_eval.specs.Operators.{pairwise}
use Rattle.fi_meaning.specs.Functions.{natural}
use Rattle.fi_values.specs.Arithmetic.{Parts, fi_value}
use Rattle.fi_values.specs.Bits.{each}
use Rattle.node_rules.specs.Parts.{no_parts, parts_in, both_lists}
use Rattle.node_rules.specs.Ruled.{Ruled, Fine, Missing, Shows, ◌>>=◌, needed, tested}
use Rattle.node_rules.specs.TypedPairs.{typed_pair_met, typed_pair_worked}
use Rattle.node_rules.specs.Types.{NodeTy, FiNode, known}

-- a real constant of one element, whole and not below 0
abbrev pub natural_ruled : NodeTy → Ruled ℕ
natural_ruled k = needed code.BadArgument (Shows Itself) (natural (known k))

unfoldable pub number_or_nought : Option ℕ → ℕ
number_or_nought None = 0
number_or_nought (Some n) = n

abbrev pub natural_in : Val → ℕ
natural_in k = number_or_nought (natural k)

-- ---- bitand, bitor, bitxor

-- two real fis of one type
abbrev pub bits_paired : NodeTy → NodeTy → Ruled NodeTy
bits_paired x y = typed_pair_met x y >>= typed_pair_worked false

unfoldable pub paired_value : (Element → Element → ℤ) → NodeTy → Val → Val → Val
paired_value f (FiNode t m c s) v w =
    Fi t m s (pairwise (λ x y. f (record { num = t; z = x }) (record { num = t; z = y })) (parts_in v).re (parts_in w).re)
paired_value f t v w = known t

-- ---- bitcmp

unfoldable pub complemented_ruled : NodeTy → Ruled NodeTy
complemented_ruled (FiNode t m c s) = Fine (FiNode t m c s)
complemented_ruled t = Missing code.BadArgument (Shows Itself)

-- part by part in its own type
unfoldable pub each_value : (Element → ℤ) → NodeTy → Val → Val
each_value f (FiNode t m c s) v = fi_value t m s (both_lists (each t f) (parts_in v))
each_value f t v = known t

abbrev pub complemented_value : NodeTy → Val → Val
complemented_value t v = each_value complemented t v

-- ---- bitsll, bitsrl, bitsra

-- by fewer bits than the word has
unfoldable pub shifted_ruled : NodeTy → NodeTy → Ruled NodeTy
shifted_ruled (FiNode t m c s) k =
    natural_ruled k >>= (λ n. tested code.BadArgument (Shows Itself) (nat_lt n t.word) n >>= (λ n. Fine (FiNode t m c s)))
shifted_ruled t k = Missing code.BadArgument (Shows Itself)

abbrev pub shifted_value : (ℕ → Element → ℤ) → NodeTy → Val → Val → Val
shifted_value f t v k = each_value (f (natural_in k)) t v

-- ---- bitsliceget

-- the bits l down to r, 1 the least
unfoldable pub sliced_ruled : NodeTy → NodeTy → NodeTy → Ruled NodeTy
sliced_ruled (FiNode t m c s) l r =
    natural_ruled l
    >>= (λ l. natural_ruled r
    >>= (λ r. tested code.BadArgument (Shows Itself) (nat_le 1 r && (nat_le r l && nat_le l t.word)) l
    >>= (λ l. Fine (FiNode (word_type (l - r + 1)) None c s))))
sliced_ruled t l r = Missing code.BadArgument (Shows Itself)

-- the elements of the operand have a type of their own
unfoldable pub sliced_parts : ℕ → ℕ → Val → Parts
sliced_parts l r (Fi t m s xs) = record { re = each t (λ a. (sliced l r a).z) xs; im = None }
sliced_parts l r (ComplexFi t m s xs ys) = record { re = each t (λ a. (sliced l r a).z) xs; im = Some (each t (λ a. (sliced l r a).z) ys) }
sliced_parts l r v = no_parts

unfoldable pub sliced_value : NodeTy → Val → Val → Val → Val
sliced_value (FiNode t m c s) v l r = fi_value t m s (sliced_parts (natural_in l) (natural_in r) v)
sliced_value t v l r = known t
