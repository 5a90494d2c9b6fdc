-- Operators with two operands: their conditions in the order of the codes, and the types of their results.
use Rattle.std.specs.Prelude.{ℤ, pos, negsuc, ◌&&◌, List, [], ◌∷◌, map, Option, Some, None, Result, Ok, Err}
use Rattle.fic_base.specs.declared.code.Code.TheVariants as code
use Rattle.mat_ast.specs.declared.tree.BinOp.{BinOp}
use Rattle.mat_ast.specs.declared.tree.BinOp.TheVariants as bin
use Rattle.num_type.specs.Constants.{Exact}
use Rattle.num_type.specs.Types.{NumericType}
use Rattle.fi_math.specs.declared.fimath.Fimath.{Fimath}
use Rattle.fi_math.specs.declared.governing.Governed.{Governed}
use Rattle.fi_math.specs.declared.governing.Differ.{Differ}
use Rattle.fi_math.specs.Govern.{governed}
use Rattle.fi_math.specs.Made.{Made, Is, Wide, Out, limited}
use Rattle.fi_math.specs.Rules.{add_made, sub_made, product_made}
use Rattle.const_rules.specs.Folds as folds
use Rattle.const_rules.specs.BestFraction.{best_fraction_of}
use Rattle.const_rules.specs.Stored.{stored_in, whole_within}
use Rattle.fi_rules.specs.declared.work.Work.{Work}
use Rattle.fi_rules.specs.declared.work.Work.TheVariants as work
use Rattle.fi_rules.specs.Value.{Shape, scalar, is_scalar}
use Rattle.fi_rules.specs.Options.{all_of}
use Rattle.fi_rules.specs.Checked.{Checked, Fine, Missing, Shown, Itself, LeftConstant, RightConstant, Whole, Differs, ◌>>=◌, needed, when◌then◌else◌}
use Rattle.fi_rules.specs.Types.{Ty, FiTy, NumberTy}

abbrev pub work_of : BinOp → Work
work_of bin.Add = work.Sum
work_of bin.Sub = work.Difference
work_of bin.Mul = work.Product
work_of bin.ElemMul = work.Product
work_of bin.Pow = work.Power
work_of bin.ElemPow = work.Power
work_of bin.Div = work.Division
work_of bin.ElemDiv = work.Division
work_of bin.LeftDiv = work.Division
work_of bin.ElemLeftDiv = work.Division
work_of _ = work.Later

-- an operand of an operation on fis; of a constant, its stored integers there
pub record Side : Type 0 where
  pub num : NumericType
  pub math : Option Fimath
  pub stored : Option (List ℤ)

abbrev pub fi_side : NumericType → Option Fimath → Side
fi_side t m = record { num = t; math = m; stored = None }

-- ---- constants

-- the exact result of an operation on two constants
unfoldable pub folded : Work → Exact → Exact → Option Exact
folded work.Sum x y = folds.added x y
folded work.Difference x y = folds.subtracted x y
folded work.Product x y = folds.multiplied x y
folded work.Power x y = None
folded work.Division x y = None
folded work.Later x y = None

abbrev pub scalar_number : Exact → Ty
scalar_number c = NumberTy scalar (c ∷ [])

-- a result that has to be a constant
abbrev pub constant_checked : Option Exact → Checked Ty
constant_checked c = needed code.LiteralInexact Itself c >>= (λ z. Fine (scalar_number z))

-- two constants, scalars so far
unfoldable pub numbers_folded : Work → Shape → List Exact → Shape → List Exact → Checked Ty
numbers_folded w s (x ∷ []) t (y ∷ []) =
    when is_scalar s && is_scalar t then constant_checked (folded w x y) else Missing code.Unsupported Itself
numbers_folded w s xs t ys = Missing code.Unsupported Itself

-- a power: a whole exponent from -400 to 400
unfoldable pub power_folded : Shape → List Exact → Shape → List Exact → Checked Ty
power_folded s (x ∷ []) t (y ∷ []) =
    when is_scalar s && is_scalar t then
    (needed code.BadArgument Itself (whole_within (negsuc 399) (pos 400) y) >>= (λ n. constant_checked (folds.power x n)))
    else Missing code.Unsupported Itself
power_folded s xs t ys = Missing code.Unsupported Itself

-- constants beside a fi are of its signedness and word length, at the best fraction length of all
abbrev pub beside_type : NumericType → List Exact → NumericType
beside_type a cs = record { signed = a.signed; word = a.word; fraction = best_fraction_of a.signed a.word cs }

-- and exact there
abbrev pub beside : NumericType → List Exact → Shown → Checked Side
beside a cs shown =
    needed code.LiteralInexact shown (all_of (map (stored_in (beside_type a cs)) cs))
    >>= (λ zs. Fine (record { num = beside_type a cs; math = None; stored = Some zs }))

-- ---- before the node is counted

pub data Meeting : Type 0 where
  -- the result of constants
  Folds : Ty → Meeting
  -- two operands, at least one of them a fi
  Meets : Side → Side → Meeting

-- a fi and what stands to its right
unfoldable pub fi_meets : NumericType → Option Fimath → Ty → Checked Meeting
fi_meets a m (FiTy b n) = Fine (Meets (fi_side a m) (fi_side b n))
fi_meets a m (NumberTy s cs) = beside a cs RightConstant >>= (λ o. Fine (Meets (fi_side a m) o))
fi_meets a m t = Missing code.BadArgument Itself

-- constants and what stands to their right
unfoldable pub number_meets : Work → Shape → List Exact → Ty → Checked Meeting
number_meets w s cs (FiTy b n) = beside b cs LeftConstant >>= (λ o. Fine (Meets o (fi_side b n)))
number_meets w s cs (NumberTy t ds) = numbers_folded w s cs t ds >>= (λ c. Fine (Folds c))
number_meets w s cs t = Missing code.BadArgument Itself

unfoldable pub sum_met : Work → Ty → Ty → Checked Meeting
sum_met w (FiTy a m) y = fi_meets a m y
sum_met w (NumberTy s cs) y = number_meets w s cs y
sum_met w x y = Missing code.BadArgument Itself

-- a power of what is no constant isn't supported
unfoldable pub power_met : Ty → Ty → Checked Meeting
power_met (NumberTy s cs) (NumberTy t ds) = power_folded s cs t ds >>= (λ c. Fine (Folds c))
power_met x y = Missing code.Unsupported Itself

unfoldable pub met : Work → Ty → Ty → Checked Meeting
met work.Sum x y = sum_met work.Sum x y
met work.Difference x y = sum_met work.Difference x y
met work.Product x y = sum_met work.Product x y
met work.Power x y = power_met x y
met work.Division x y = Missing code.Division Itself
met work.Later x y = Missing code.Unsupported Itself

-- ---- behind that

-- within the limits: the word length is tested first
unfoldable pub limits_checked : Made → Checked NumericType
limits_checked (Is t) = Fine t
limits_checked (Wide word) = Missing code.TooWide (Whole (pos word))
limits_checked (Out fraction) = Missing code.FractionOut (Whole fraction)

-- the fimath that governs
unfoldable pub governed_checked : Result Governed Differ → Checked Governed
governed_checked (Ok g) = Fine g
governed_checked (Err d) = Missing code.FimathDiffers (Differs d.left d.right)

-- the type of a result by the governing fimath
unfoldable pub work_made : Work → Fimath → NumericType → NumericType → Made
work_made work.Sum m a b = add_made m a b
work_made work.Difference m a b = sub_made m a b
work_made work.Product m a b = product_made m a b
work_made work.Power m a b = Is a
work_made work.Division m a b = Is a
work_made work.Later m a b = Is a

-- the type of a constant beside a fi is made before that of the result
unfoldable pub side_made : Side → Option (List ℤ) → Made
side_made a None = Is a.num
side_made a (Some zs) = limited 64 a.num

pub data Working : Type 0 where
  FoldsTo : Ty → Working
  -- the operands, the governing fimath and the type of the result
  Computes : Side → Side → Governed → NumericType → Working

-- the same under a governing fimath
abbrev pub typed : Work → Side → Side → Governed → Checked Working
typed w a b g =
    limits_checked (side_made a a.stored) >>= (λ s.
    limits_checked (side_made b b.stored) >>= (λ t.
    limits_checked (work_made w g.math a.num b.num) >>= (λ u. Fine (Computes a b g u))))

abbrev pub sides_worked : Work → Side → Side → Checked Working
sides_worked w a b = governed_checked (governed a.math b.math) >>= typed w a b

unfoldable pub worked : Work → Meeting → Checked Working
worked w (Folds t) = Fine (FoldsTo t)
worked w (Meets a b) = sides_worked w a b

abbrev pub working_type : Working → Ty
working_type (FoldsTo t) = t
working_type (Computes a b g t) = FiTy t g.attached

-- an operation on operands of these types
abbrev pub pair_checked : Work → Ty → Ty → Checked Working
pair_checked w x y = met w x y >>= worked w
