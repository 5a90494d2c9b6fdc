-- `bitconcat` of a first operand and others: its conditions in the order of the codes, the type of its result, and its value.
use Rattle.std.specs.Prelude.{ℕ, ◌+◌, ◌&&◌, Bool, true, false, nat_le, ℤ, pos, List, [], ◌∷◌, None}
use Rattle.fic_base.specs.declared.code.Code.TheVariants as code
use Rattle.num_type.specs.Types.{NumericType}
use Rattle.fi_ops.specs.Bits.{concatenated, word_type}
use Rattle.fi_rules.specs.Checked.{Itself, Whole}
use Rattle.fi_rules.specs.Value.{Shape, Val, Fi, ComplexFi}
use Rattle.fi_eval.specs.Operators.{pairwise}
use Rattle.node_rules.specs.Pairs.{fits}
use Rattle.node_rules.specs.Parts.{parts_in}
use Rattle.node_rules.specs.Ruled.{Ruled, Fine, Shows, ◌>>=◌, tested}
use Rattle.node_rules.specs.Types.{NodeTy, FiNode, shape_of, known}

-- ---- before the node is counted

unfoldable pub is_real_fi : NodeTy → Bool
is_real_fi (FiNode t m false s) = true
is_real_fi t = false

abbrev pub all_real : List NodeTy → Bool
all_real [] = true
all_real (t ∷ ts) = is_real_fi t && all_real ts

-- from left to right; the first that is no scalar is shown with the later one that doesn't fit
abbrev pub all_fit : Shape → List NodeTy → Ruled Shape
all_fit s [] = Fine s
all_fit s (t ∷ ts) = fits s (shape_of t) >>= (λ r. all_fit r ts)

abbrev pub concatenated_met : NodeTy → List NodeTy → Ruled Shape
concatenated_met t ts = tested code.BadArgument (Shows Itself) (all_real (t ∷ ts)) (shape_of t) >>= (λ s. all_fit s ts)

-- ---- behind the counts

unfoldable pub word_length : NodeTy → ℕ
word_length (FiNode t m c s) = t.word
word_length t = 0

-- so many bits and those of these
abbrev pub words_added : ℕ → List NodeTy → ℕ
words_added n [] = n
words_added n (t ∷ ts) = words_added (n + word_length t) ts

abbrev pub total_word : NodeTy → List NodeTy → ℕ
total_word t ts = words_added (word_length t) ts

abbrev pub concatenated_worked : NodeTy → List NodeTy → Shape → Ruled NodeTy
concatenated_worked t ts s =
    tested code.TooWide (Shows (Whole (pos (total_word t ts)))) (nat_le (total_word t ts) 64) (FiNode (word_type (total_word t ts)) None false s)

abbrev pub concatenated_ruled : NodeTy → List NodeTy → Ruled NodeTy
concatenated_ruled t ts = concatenated_met t ts >>= concatenated_worked t ts

-- ---- values

-- the type of a fi; of another value any
unfoldable pub type_in : Val → NumericType
type_in (Fi t m s xs) = t
type_in (ComplexFi t m s xs ys) = t
type_in v = word_type 0

-- the bits of the elements so far, of this type, on top of those of a fi
abbrev pub put_below : NumericType → List ℤ → NumericType → List ℤ → List ℤ
put_below t xs u ys = pairwise (λ x y. (concatenated (record { num = t; z = x }) (record { num = u; z = y })).z) xs ys

abbrev pub all_put_below : NumericType → List ℤ → List Val → List ℤ
all_put_below t xs [] = xs
all_put_below t xs (w ∷ ws) = all_put_below (word_type (t.word + (type_in w).word)) (put_below t xs (type_in w) (parts_in w).re) ws

unfoldable pub concatenated_value : NodeTy → Val → List Val → Val
concatenated_value (FiNode t m c s) v ws = Fi t m s (all_put_below (type_in v) (parts_in v).re ws)
concatenated_value t v ws = known t
