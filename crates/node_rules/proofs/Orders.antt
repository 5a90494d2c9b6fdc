-- Stored integers and constants are compared by one order, that of their exact values.
use Rattle.std.proofs.Common.{◌≡◌, ℤ, refl, arith}
use Rattle.std.specs.Prelude.{neg_ℤ, ◌-ℤ◌, nat_abs}
use Rattle.std.specs.Int.{int_min, int_max}
use Rattle.std.proofs.lemmas.Int.{ints, clamps}
use Rattle.num_type.specs.Constants.{Exact, units, order_of}
use Rattle.fi_ops.specs.Elements.{Element}
use Rattle.fi_ops.specs.Operations.{aligned, compared}
use Rattle.node_rules.specs.Comparisons.{exact_value}

scale : (f g : ℤ) → int_min (neg_ℤ f) (neg_ℤ g) ≡ neg_ℤ (int_max f g)
scale f g = omega (arith, ints, clamps)

distance : (f m : ℤ) → nat_abs (neg_ℤ f -ℤ neg_ℤ m) ≡ nat_abs (m -ℤ f)
distance f m = omega (arith, ints)

pub order_law : (a b : Element) → order_of (exact_value a) (exact_value b) ≡ compared a b
unfolding order_of units compared aligned
order_law a b =
    let m = int_max a.num.fraction b.num.fraction in
    rw (scale a.num.fraction b.num.fraction, distance a.num.fraction m, distance b.num.fraction m) refl
