use Rattle.std.proofs.Common.{◌≡◌, ◌∙◌, refl, sym, subst, ℕ, ◌%◌, to_z, of_z}
use Rattle.std.specs.Prelude.{ℤ, pos, ◌≤ℤ◌, nat_abs}
use Rattle.std.specs.Int.{w64}
use Rattle.std.proofs.lemmas.Int.{to_z-of_z}
use Rattle.num_type.specs.Whole.{signed}
use Rattle.num_type.specs.Constants.{Exact, IsKept}
use Rattle.num_type.proofs.Constants.{kept_top, kept_constant, constant_kept, size-signed, not_true}
use Rattle.num_type.proofs.dyadic.Dyadic.of_odd.Goals as goal

pub short-requires-clause-most : goal.short-requires-clause-most
short-requires-clause-most c =
    let e : to_z w64 (of_z w64 c.args.e) ≡ c.args.e = to_z-of_z w64 c.args.e c.ranges.e in
    let kept : IsKept c.args.size c.args.e = subst (λ (z : ℤ). IsKept c.args.size z) e (c.is_kept.ensures.0 c.if-is_kept.true) in
    subst (λ (z : ℤ). z ≤ℤ pos 452) (sym e) (kept_top c.args.size c.args.e c.requires.odd kept)

pub returns-then-is_kept-clause-limits : goal.returns-then-is_kept-clause-limits
returns-then-is_kept-clause-limits c =
    let e : to_z w64 (of_z w64 c.args.e) ≡ c.args.e = to_z-of_z w64 c.args.e c.ranges.e in
    let kept : IsKept c.args.size c.args.e = subst (λ (z : ℤ). IsKept c.args.size z) e (c.is_kept.ensures.0 c.if-is_kept.true) in
    let x : Exact = record { significand = signed c.args.neg c.args.size; exponent = c.args.e } in
    (λ t. kept_constant x (subst (λ (n : ℕ). IsKept n c.args.e) (sym (size-signed c.args.neg c.args.size)) kept), λ k. refl)

pub returns-else-is_kept-clause-limits : goal.returns-else-is_kept-clause-limits
returns-else-is_kept-clause-limits c =
    let e : to_z w64 (of_z w64 c.args.e) ≡ c.args.e = to_z-of_z w64 c.args.e c.ranges.e in
    let x : Exact = record { significand = signed c.args.neg c.args.size; exponent = c.args.e } in
    let same : nat_abs (signed c.args.neg c.args.size) ≡ c.args.size = size-signed c.args.neg c.args.size in (
      λ t. absurd (not_true t),
      λ k.
          let kept : IsKept c.args.size c.args.e = subst (λ (n : ℕ). IsKept n c.args.e) same (constant_kept x (subst (λ (n : ℕ). n % 2 ≡ 1) (sym same) c.requires.odd) k) in
          sym c.if-is_kept.false ∙ c.is_kept.ensures.1 (subst (λ (z : ℤ). IsKept c.args.size z) (sym e) kept),
    )
