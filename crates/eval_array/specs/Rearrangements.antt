-- The elements at places, as a value of the same class.
use Rattle.std.specs.Prelude.{ℕ, pos, false, true, Bool, List}
use Rattle.fic_base.specs.declared.place.Place.{Place}
use Rattle.fi_rules.specs.Value.{Shape, Val, Fi, ComplexFi, Logical, Number, ComplexNumber}
use Rattle.fi_eval.specs.Outcome.{Got, Fault, Wrong}
use Rattle.fi_values.specs.Elements.{picked}
use Rattle.fi_values.specs.Numbers.{nought}

-- a text or an object has no elements, and stays
unfoldable pub rearranged : Shape → List ℕ → Val → Val
rearranged s ks (Fi t m r xs) = Fi t m s (picked (pos 0) xs ks)
rearranged s ks (ComplexFi t m r xs ys) = ComplexFi t m s (picked (pos 0) xs ks) (picked (pos 0) ys ks)
rearranged s ks (Logical r bs) = Logical s (picked false bs ks)
rearranged s ks (Number r cs) = Number s (picked nought cs ks)
rearranged s ks (ComplexNumber r xs ys) = ComplexNumber s (picked nought xs ks) (picked nought ys ks)
rearranged s ks v = v

-- elements are read: of a number by fixed subscripts alone
unfoldable pub is_readable : Bool → Val → Bool
is_readable fixed (Fi t m s xs) = true
is_readable fixed (ComplexFi t m s xs ys) = true
is_readable fixed (Logical s bs) = true
is_readable fixed (Number s cs) = fixed
is_readable fixed (ComplexNumber s xs ys) = fixed
is_readable fixed v = false

-- what a read out of an extent comes to
unfoldable pub missed : Place → ℕ → Val → Got Place Val
missed at site (Fi t m s xs) = Fault site
missed at site (ComplexFi t m s xs ys) = Fault site
missed at site (Logical s bs) = Fault site
missed at site v = Wrong at
