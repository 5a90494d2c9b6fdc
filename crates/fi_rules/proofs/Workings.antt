-- Operands and results of operations on fis.
use Rattle.std.proofs.Common.{◌≡◌, ◌∙◌, refl, ap}
use Rattle.std.specs.Prelude.{ℤ, Option}
use Rattle.num_type.specs.Types.{NumericType}
use Rattle.num_type.specs.View.{type_of}
use Rattle.num_type.specs.declared.num_type.NumType.{NumType}
use Rattle.fi_math.specs.declared.fimath.Fimath.{Fimath}
use Rattle.fi_math.specs.Made.{limited}
use Rattle.fi_rules.specs.declared.work.Work.{Work}
use Rattle.fi_rules.specs.declared.work.Work.TheVariants as work
use Rattle.fi_rules.specs.declared.pairs.Side as code_side
use Rattle.fi_rules.specs.declared.pairs.Side.TheVariants as side
use Rattle.fi_rules.specs.Checked.{Checked, Fine}
use Rattle.fi_rules.specs.Pairs.{limits_checked, work_made, side_made}
use Rattle.fi_rules.specs.View.{side_view, at_fraction}

pub power_kept : (w : Work) (m : Fimath) (a b : NumericType) → w ≡ work.Power → Fine a ≡ limits_checked (work_made w m a b)
unfolding limits_checked work_made
power_kept w m a b e = rw e refl

pub division_kept : (w : Work) (m : Fimath) (a b : NumericType) → w ≡ work.Division → Fine a ≡ limits_checked (work_made w m a b)
unfolding limits_checked work_made
division_kept w m a b e = rw e refl

pub later_kept : (w : Work) (m : Fimath) (a b : NumericType) → w ≡ work.Later → Fine a ≡ limits_checked (work_made w m a b)
unfolding limits_checked work_made
later_kept w m a b e = rw e refl

pub fi_fine : (s : code_side.Side) (t : NumType) (m : Option Fimath) → s ≡ side.Fi t m → Fine (type_of t) ≡ limits_checked (side_made (side_view s) (side_view s).stored)
unfolding limits_checked side_made
fi_fine s t m e = rw e refl

pub constant_fine : (s : code_side.Side) (t : NumType) (f g z : ℤ) (x : Checked NumericType) → g ≡ f → s ≡ side.Constant t f z → x ≡ limits_checked (limited 64 (at_fraction (type_of t) g)) → x ≡ limits_checked (side_made (side_view s) (side_view s).stored)
unfolding side_made
constant_fine s t f g z x k e h = rw e (h ∙ ap (λ (y : ℤ). limits_checked (limited 64 (at_fraction (type_of t) y))) k)
