use Rattle.std.proofs.Common.{◌≡◌, ℕ, [], ◌∷◌, length, sym, ap, ◌∙◌, subst, arith, Option, None}
use Rattle.num_type.specs.Decimals.{ReadsDigits, ReadsValue}
use Rattle.num_type.proofs.Decimals.{read_empty, read_leading, read_canonical, none_left}
use Rattle.num_type.proofs.decimal.read_digits.Goals as goal
use Rattle.num_type.proofs.decimal.read_digits.Goals.{else-first-eq48-via-then-first-eq48+else-not-is_empty, else-first-eq48-via-else-first-eq48}

pub returns-in-None : goal.returns-in-None
returns-in-None c =
    let none : Option ℕ = None in
    subst (ReadsDigits none) (sym (none_left c.args.bytes.now c.in-None.ensures.cases)) read_empty

pub returns-then-not-is_empty : goal.returns-then-not-is_empty
returns-then-not-is_empty c =
    let none : Option ℕ = None in
    let is : c.args.bytes.now ≡ 48 ∷ c.in-Some.rest.now = c.in-Some.ensures.cases.0 ∙ ap (λ b. b ∷ c.in-Some.rest.now) c.if-first-eq48.true in
    let some : c.in-Some.rest.now ≡ [] → ⊥ = λ e. let l : length c.in-Some.rest.now ≡ 0 = ap (λ r. length r) e in grind (arith, c.if-not-is_empty.ensures, l) in
    subst (ReadsDigits none) (sym is) (read_leading c.in-Some.rest.now some)

pub returns-else-first-eq48 : goal.returns-else-first-eq48
returns-else-first-eq48 c =
    let r = c.value_of_digits.result in
    let is : c.args.bytes.now ≡ c.in-Some.first.now ∷ c.in-Some.rest.now = c.in-Some.ensures.cases.0 in
    let lead : c.in-Some.first.now ≡ 48 → c.in-Some.rest.now ≡ [] = elim c.else-first-eq48.branch [
      | else-first-eq48-via-then-first-eq48+else-not-is_empty w ↦ λ e. none_left c.in-Some.rest.now (grind (arith, w.is_empty.ensures, w.if-not-is_empty.false))
      | else-first-eq48-via-else-first-eq48 w ↦ λ e. absurd (grind (arith, w.if-first-eq48.false, e))
    ] in
    subst (ReadsDigits r) (sym is) (read_canonical r c.in-Some.first.now c.in-Some.rest.now lead (subst (ReadsValue r) is c.value_of_digits.ensures))
