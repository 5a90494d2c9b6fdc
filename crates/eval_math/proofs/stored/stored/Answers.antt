use Rattle.std.proofs.Common.{◌≡◌, ◌∙◌, sym, subst, ap, to_z, of_z, arith}
use Rattle.std.specs.Int.{w32}
use Rattle.std.specs.Prelude.{ℤ, Option, Some, None, IfSome}
use Rattle.std.proofs.lemmas.Int.{ints, clamps}
use Rattle.num_type.specs.Constants.{Exact}
use Rattle.num_type.specs.Types.{NumericType, IsInRange}
use Rattle.num_type.specs.View.{exact_of, type_of}
use Rattle.const_rules.specs.Stored.{stored_in}
use Rattle.const_rules.proofs.Stored.{stored_in_is}
use Rattle.fi_rules.specs.View.{at_fraction}
use Rattle.eval_math.proofs.stored.stored.Goals as goal

inside : (t : NumericType) (x : Exact) (r : Option ℤ) → r ≡ stored_in t x → IfSome r (IsInRange t)
inside t x None e = tt
inside t x (Some z) e = ((stored_in_is t x z).0 (sym e)).1

pub returns-clause-value : goal.returns-clause-value
returns-clause-value c =
    let e : to_z w32 (of_z w32 c.fraction.result) ≡ c.args.t.fraction = omega (arith, ints, clamps, c.fraction.ensures.value, c.fraction.ensures.least, c.fraction.ensures.most) in
    c.stored.ensures ∙ ap (λ (f : ℤ). stored_in (at_fraction (type_of c.args.t) f) (exact_of c.args.c)) e

pub returns-clause-inside : goal.returns-clause-inside
returns-clause-inside c =
    let e : to_z w32 (of_z w32 c.fraction.result) ≡ c.args.t.fraction = omega (arith, ints, clamps, c.fraction.ensures.value, c.fraction.ensures.least, c.fraction.ensures.most) in
    inside (type_of c.args.t) (exact_of c.args.c) c.stored.result
    (c.stored.ensures ∙ ap (λ (f : ℤ). stored_in (at_fraction (type_of c.args.t) f) (exact_of c.args.c)) e)
