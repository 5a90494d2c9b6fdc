-- Powers, and scalars on the way to them.
use Rattle.std.proofs.Common.{◌≡◌, [], ◌∷◌, Option, Some, None, Bool, true, false, refl, ap, sym, ◌∙◌}
use Rattle.std.specs.Prelude.{pos, negsuc, ◌&&◌}
use Rattle.std.proofs.lemmas.Bool.{and_right, and_left}
use Rattle.fic_base.specs.declared.code.Code.TheVariants as code
use Rattle.num_type.specs.Constants.{Exact}
use Rattle.const_rules.specs.Folds as folds
use Rattle.const_rules.specs.Stored.{whole_within}
use Rattle.fi_rules.specs.Arguments.{constant_in}
use Rattle.fi_rules.specs.Checked.{Checked, Fine, Missing, Shown, Itself, bind, needed, choose}
use Rattle.fi_rules.specs.Options.{where_so}
use Rattle.fi_rules.specs.Pairs.{Folds, Meets, Side, power_folded, power_met, met, constant_checked, scalar_number}
use Rattle.fi_rules.specs.declared.work.Work.TheVariants as work
use Rattle.fic_base.specs.declared.code.Code.{Code}
use Rattle.num_type.specs.View.{exact_of}
use Rattle.num_type.specs.declared.dyadic.Dyadic.{Dyadic}
use Rattle.eval_bits.specs.Powers.{constant_value}
use Rattle.fi_rules.specs.Types.{Ty, known_value, type_of}
use Rattle.fi_rules.specs.Value.{Shape, Val, Number, is_scalar, scalar}
use Rattle.fi_meaning.specs.Operators.{power}

pub so_true : {A : Type 0} (b : Bool) (x y : A) → where_so b x ≡ Some y → (b ≡ true) × (x ≡ y)
unfolding where_so
so_true true x y h = (refl, cc)
so_true false x y h = absurd (cc)

pub so_false : {A : Type 0} (b : Bool) (x : A) → where_so b x ≡ None → b ≡ false
unfolding where_so
so_false true x h = absurd (cc)
so_false false x h = refl

-- the value of a folded type
abbrev pub answer : Checked Ty → Option Val
answer (Fine t) = known_value t
answer (Missing code shown) = None

abbrev raised : Exact → Exact → Checked Ty
raised x y = bind (needed code.BadArgument Itself (whole_within (negsuc 399) (pos 400) y)) (λ n. constant_checked (folds.power x n))

abbrev none_raised : Checked Ty
none_raised = Missing code.Unsupported Itself

by_shapes : (s t : Shape) (x y : Exact) → power (Number s (x ∷ [])) (Number t (y ∷ [])) ≡ answer (choose (is_scalar s && is_scalar t) (raised x y) none_raised)
unfolding power power_folded
by_shapes s t x y = refl

not_both : (s t : Shape) (x y : Exact) → (is_scalar s && is_scalar t) ≡ false → power (Number s (x ∷ [])) (Number t (y ∷ [])) ≡ None
unfolding choose
not_both s t x y h = by_shapes s t x y ∙ ap (λ b. answer (choose b (raised x y) none_raised)) h

pub no_base : (v w : Val) → constant_in (type_of v) ≡ None → power v w ≡ None
unfolding power power_folded constant_in type_of
no_base (Number s []) (Number t ys) h = refl
no_base (Number s (x ∷ [])) (Number t []) h = refl
no_base (Number s (x ∷ [])) (Number t (y ∷ [])) h = not_both s t x y (and_left (is_scalar s) (is_scalar t) (so_false (is_scalar s) x h))
no_base (Number s (x ∷ [])) (Number t (y ∷ z ∷ ys)) h = refl
no_base (Number s (x ∷ a ∷ xs)) (Number t ys) h = refl
no_base v w h = refl

pub no_exponent : (v w : Val) → constant_in (type_of w) ≡ None → power v w ≡ None
unfolding power power_folded constant_in type_of
no_exponent (Number s []) (Number t ys) h = refl
no_exponent (Number s (x ∷ [])) (Number t []) h = refl
no_exponent (Number s (x ∷ [])) (Number t (y ∷ [])) h = not_both s t x y (and_right (is_scalar s) (is_scalar t) (so_false (is_scalar t) y h))
no_exponent (Number s (x ∷ [])) (Number t (y ∷ z ∷ ys)) h = refl
no_exponent (Number s (x ∷ a ∷ xs)) (Number t ys) h = refl
no_exponent v w h = refl

pub scalars_raised : (v w : Val) (x y : Exact) → constant_in (type_of v) ≡ Some x → constant_in (type_of w) ≡ Some y → power v w ≡ power (Number scalar (x ∷ [])) (Number scalar (y ∷ []))
unfolding constant_in type_of choose
scalars_raised (Number s (c ∷ [])) (Number t (d ∷ [])) x y h k =
    let p : (is_scalar s ≡ true) × (c ≡ x) = so_true (is_scalar s) c x h in
    let q : (is_scalar t ≡ true) × (d ≡ y) = so_true (is_scalar t) d y k in
    by_shapes s t c d ∙ (λ i. answer (choose (p.0 i && q.0 i) (raised (p.1 i) (q.1 i)) none_raised)) ∙ sym (by_shapes scalar scalar x y)
scalars_raised (Number s []) w x y h k = absurd (cc)
scalars_raised (Number s (c ∷ a ∷ cs)) w x y h k = absurd (cc)
scalars_raised (Number s (c ∷ [])) (Number t []) x y h k = absurd (cc)
scalars_raised (Number s (c ∷ [])) (Number t (d ∷ b ∷ ds)) x y h k = absurd (cc)
scalars_raised (Number s (c ∷ [])) w x y h k = absurd (cc)
scalars_raised v w x y h k = absurd (cc)

-- ---- what the rule of a power answers

pub folded_to : (p : Checked Ty) (t : Ty) → Fine (Folds t) ≡ bind p (λ c. Fine (Folds c)) → answer p ≡ known_value t
unfolding bind
folded_to (Fine u) t h = let e : t ≡ u = cc in ap known_value (sym e)
folded_to (Missing code shown) t h = absurd (cc)

pub not_met : (p : Checked Ty) (a b : Side) → Fine (Meets a b) ≡ bind p (λ c. Fine (Folds c)) → ⊥
unfolding bind
not_met (Fine u) a b h = cc
not_met (Missing code shown) a b h = cc

pub missing_from : (p : Checked Ty) (code : Code) (shown : Shown) → Missing code shown ≡ bind p (λ c. Fine (Folds c)) → answer p ≡ None
unfolding bind
missing_from (Fine u) code shown h = absurd (cc)
missing_from (Missing c s) code shown h = refl

abbrev folded_power : Dyadic → Dyadic → Checked Ty
folded_power x y = power_folded scalar (exact_of x ∷ []) scalar (exact_of y ∷ [])

pub raised_folds : (x y c : Dyadic) → Fine (Folds (scalar_number (exact_of c))) ≡ met work.Power (scalar_number (exact_of x)) (scalar_number (exact_of y)) → Some (constant_value c) ≡ power (constant_value x) (constant_value y)
unfolding met power_met power known_value
raised_folds x y c h = sym (folded_to (folded_power x y) (scalar_number (exact_of c)) h)

pub raised_meets : (x y : Dyadic) (a b : Side) → Fine (Meets a b) ≡ met work.Power (scalar_number (exact_of x)) (scalar_number (exact_of y)) → ⊥
unfolding met power_met
raised_meets x y a b h = not_met (folded_power x y) a b h

pub raised_missing : (x y : Dyadic) (code : Code) (shown : Shown) → Missing code shown ≡ met work.Power (scalar_number (exact_of x)) (scalar_number (exact_of y)) → None ≡ power (constant_value x) (constant_value y)
unfolding met power_met power
raised_missing x y code shown h = sym (missing_from (folded_power x y) code shown h)
