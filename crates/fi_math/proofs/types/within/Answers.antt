use Rattle.std.proofs.Common.{ℤ, ◌∙◌, ap, refl, inl, inr, arith, w32, to_z, of_z}
use Rattle.std.proofs.lemmas.Int.{to_z-of_z}
use Rattle.num_type.specs.Types.{NumericType}
use Rattle.fi_math.specs.Made.{Is, limited}
use Rattle.fi_math.proofs.Limits.{wide_is, type_is, out_is}
use Rattle.fi_math.proofs.types.within.Goals.{then-word-lt1-via-then-word-lt1, then-word-lt1-via-else-word-lt1+then-word-limit}
use Rattle.fi_math.proofs.types.within.Goals as goal

pub returns-then-word-lt1 : goal.returns-then-word-lt1
returns-then-word-lt1 c =
    let t : NumericType = record { signed = c.args.signed; word = c.args.word; fraction = c.args.fraction } in
    elim c.then-word-lt1.branch [
      | then-word-lt1-via-then-word-lt1 w ↦ wide_is c.args.limit t (inl (omega (arith, w.if-word-lt1.true)))
      | then-word-lt1-via-else-word-lt1+then-word-limit w ↦ wide_is c.args.limit t (inr (omega (arith, w.if-word-limit.true)))
    ]

pub returns-in-Some : goal.returns-in-Some
returns-in-Some c =
    let e = to_z-of_z w32 c.args.fraction c.ranges.fraction in
    let f = c.in-Some.ensures in
    ap Is f.parts ∙ type_is c.args.limit _ (omega (arith, c.if-word-limit.false)) (f.limits.0 refl) ∙ ap (λ (x : ℤ). limited c.args.limit (record { signed = c.args.signed; word = c.args.word; fraction = x })) e

pub returns-in-None : goal.returns-in-None
returns-in-None c =
    let e = to_z-of_z w32 c.args.fraction c.ranges.fraction in
    let f = c.in-None.ensures in
    let t : NumericType = record { signed = c.args.signed; word = c.args.word; fraction = to_z w32 (of_z w32 c.args.fraction) } in
    out_is c.args.limit t (omega (arith, c.if-word-lt1.false)) (omega (arith, c.if-word-limit.false)) c.requires (λ w. let g = f.limits.1 w in cc) ∙ ap (λ (x : ℤ). limited c.args.limit (record { signed = c.args.signed; word = c.args.word; fraction = x })) e
