-- The parts that lowering emits for comparisons. Words of signedness s and t stand in variables x and y.
use Rattle.std.specs.Prelude.{ℕ, zero, suc, ◌+◌, ℤ, pos, negsuc, ◌-ℤ◌, Bool, true, false, if◌then◌else◌, nat_lt, [], ◌∷◌}
use Rattle.std.specs.declared.cmp.Ordering.TheVariants.{Less, Greater}
use Rattle.c_tree.specs.declared.tree.CWord.TheVariants.{U64}
use Rattle.c_tree.specs.declared.tree.CRel.{CRel}
use Rattle.c_tree.specs.declared.tree.CRel.TheVariants as rel
use Rattle.c_tree.specs.Tree.{Exp, Signed, Unsigned, Var, Cast, Truth, Choose, Compare, Set}
use Rattle.lower_scalar.specs.Part.{Part, Operand, word_for}
use Rattle.lower_scalar.specs.Shapes.{bits_of, is_less, floor_shift, low_bits, far_floor}
use Rattle.lower_op.specs.Comparisons.{holds_in}

-- ---- relations

-- the same relation with its sides exchanged
abbrev pub turned : CRel → CRel
turned rel.Eq = rel.Eq
turned rel.Ne = rel.Ne
turned rel.Lt = rel.Gt
turned rel.Le = rel.Ge
turned rel.Gt = rel.Lt
turned rel.Ge = rel.Le

-- a truth value as a number
abbrev pub digit : Bool → ℕ
digit true = 1
digit false = 0

-- ---- whole numbers

-- 1 where a relation holds between two expressions of one type, and else 0
abbrev pub truth_of : CRel → Exp → Exp → Exp
truth_of r a b = Truth (Compare r a b)

-- the word in x beside that in y: a negative one is below each that has no sign
abbrev pub compare_words : CRel → Bool → ℕ → Bool → ℕ → Exp
compare_words r true x true y = truth_of r (Var x) (Var y)
compare_words r true x false y = Choose (is_less (Var x) (Signed 0)) (Signed (digit (holds_in r Less))) (truth_of r (Cast U64 (Var x)) (Var y))
compare_words r false x true y = Choose (is_less (Var y) (Signed 0)) (Signed (digit (holds_in r Greater))) (truth_of r (Var x) (Cast U64 (Var y)))
compare_words r false x false y = truth_of r (Var x) (Var y)

-- a number between the word in x and the next one, beside the word in y
abbrev pub compare_above : CRel → Bool → ℕ → Bool → ℕ → Exp
compare_above rel.Eq s x t y = Signed 0
compare_above rel.Ne s x t y = Signed 1
compare_above rel.Lt s x t y = compare_words rel.Lt s x t y
compare_above rel.Le s x t y = compare_words rel.Lt s x t y
compare_above rel.Gt s x t y = compare_words rel.Ge s x t y
compare_above rel.Ge s x t y = compare_words rel.Ge s x t y

-- ---- numbers at two fraction lengths

-- x / 2 ^ k, rounded down
abbrev pub floor_at : Bool → ℕ → ℕ → Exp
floor_at s x k = if nat_lt k 64 then floor_shift s x k else far_floor s x

-- what x is above that, as a uint64_t: 0 where it is 0, and more where it is more
abbrev pub rest_at : Bool → ℕ → ℕ → Exp
rest_at s x k = if nat_lt k 64 then low_bits s x k else bits_of s (Var x)

-- one number where something is left behind the floor, and else another
abbrev pub where_rest : Bool → ℕ → ℕ → Exp → Exp → Exp
where_rest s x k some none = Choose (is_less (Unsigned 0) (rest_at s x k)) some none

-- x / 2 ^ k, whose floor stands in f, beside the word in y
unfoldable pub compare_floor : CRel → Bool → ℕ → ℕ → ℕ → Bool → ℕ → Exp
compare_floor rel.Eq s x k f t y = where_rest s x k (Signed 0) (compare_words rel.Eq s f t y)
compare_floor rel.Ne s x k f t y = where_rest s x k (Signed 1) (compare_words rel.Ne s f t y)
compare_floor rel.Lt s x k f t y = compare_words rel.Lt s f t y
compare_floor rel.Le s x k f t y = where_rest s x k (compare_words rel.Lt s f t y) (compare_words rel.Le s f t y)
compare_floor rel.Gt s x k f t y = where_rest s x k (compare_words rel.Ge s f t y) (compare_words rel.Gt s f t y)
compare_floor rel.Ge s x k f t y = compare_words rel.Ge s f t y

-- ---- parts

-- an expression over two variables that hold a and b
abbrev pub over_both : Bool → Exp → Bool → Exp → ℕ → Exp → Part
over_both s a t b x e = record { words = word_for s ∷ word_for t ∷ []; before = Set x a ∷ Set (x + 1) b ∷ []; value = e }

-- and over a third one, of signedness u
abbrev pub over_both_and : Bool → Exp → Bool → Exp → ℕ → Bool → Exp → Exp → Part
over_both_and s a t b x u third e = record {
  words = word_for s ∷ word_for t ∷ word_for u ∷ [];
  before = Set x a ∷ Set (x + 1) b ∷ Set (x + 2) third ∷ [];
  value = e;
}

-- at one fraction length
abbrev pub level_part : CRel → Operand → Operand → ℕ → Part
level_part r a b x = over_both a.num.signed a.exp b.num.signed b.exp x (compare_words r a.num.signed x b.num.signed (x + 1))

-- a is finer by k bits
abbrev pub left_finer_part : CRel → Operand → Operand → ℕ → ℕ → Part
left_finer_part r a b x k =
    over_both_and a.num.signed a.exp b.num.signed b.exp x a.num.signed (floor_at a.num.signed x k)
    (compare_floor r a.num.signed x k (x + 2) b.num.signed (x + 1))

-- b is finer by k bits
abbrev pub right_finer_part : CRel → Operand → Operand → ℕ → ℕ → Part
right_finer_part r a b x k =
    over_both_and a.num.signed a.exp b.num.signed b.exp x b.num.signed (floor_at b.num.signed (x + 1) k)
    (compare_floor (turned r) b.num.signed (x + 1) k (x + 2) a.num.signed x)

-- by how many bits a is finer
unfoldable pub compared_by : ℤ → CRel → Operand → Operand → ℕ → Part
compared_by (pos zero) r a b x = level_part r a b x
compared_by (pos (suc k)) r a b x = left_finer_part r a b x (suc k)
compared_by (negsuc k) r a b x = right_finer_part r a b x (suc k)

abbrev pub compared_part : CRel → Operand → Operand → ℕ → Part
compared_part r a b x = compared_by (a.num.fraction -ℤ b.num.fraction) r a b x
