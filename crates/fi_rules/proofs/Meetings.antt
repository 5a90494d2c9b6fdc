-- Operands that meet.
use Rattle.std.proofs.Common.{◌≡◌, ◌∙◌, refl, sym, ap}
use Rattle.std.specs.Prelude.{ℤ, pos, negsuc, [], ◌∷◌, Option, Some, None}
use Rattle.fic_base.specs.declared.code.Code.TheVariants as code
use Rattle.num_type.specs.Constants.{Exact}
use Rattle.num_type.specs.Types.{NumericType}
use Rattle.num_type.specs.View.{exact_of, type_of}
use Rattle.num_type.specs.declared.num_type.NumType.{NumType}
use Rattle.num_type.specs.declared.dyadic.Dyadic.{Dyadic}
use Rattle.const_rules.specs.BestFraction.{best_fraction_of}
use Rattle.const_rules.specs.Folds as folds
use Rattle.const_rules.specs.Stored.{stored_in, whole_within}
use Rattle.fi_math.specs.declared.fimath.Fimath.{Fimath}
use Rattle.fi_rules.specs.declared.pairs.Side.TheVariants as side
use Rattle.fi_rules.specs.declared.work.Work.{Work}
use Rattle.fi_rules.specs.Value.{scalar}
use Rattle.fi_rules.specs.Types.{Ty, FiTy}
use Rattle.fi_rules.specs.Options.{and_then, all_of}
use Rattle.fi_rules.specs.Checked.{Checked, Fine, Missing, Shown, Itself, LeftConstant, RightConstant, bind, needed, choose}
use Rattle.fi_rules.specs.Pairs.{Side, Folds, Meets, fi_side, beside, fi_meets, number_meets, numbers_folded, power_folded, power_met, folded, constant_checked, scalar_number}
use Rattle.fi_rules.specs.View.{side_view, at_fraction}

-- ---- a constant beside a fi

pub beside_some : (t : NumType) (c : Dyadic) (f z : ℤ) (shown : Shown) → f ≡ best_fraction_of t.signed t.word (exact_of c ∷ []) → Some z ≡ stored_in (at_fraction (type_of t) f) (exact_of c) → Fine (side_view (side.Constant t f z)) ≡ beside (type_of t) (exact_of c ∷ []) shown
unfolding bind needed all_of and_then
beside_some t c f z shown e h =
    let g : stored_in (at_fraction (type_of t) (best_fraction_of t.signed t.word (exact_of c ∷ []))) (exact_of c) ≡ Some z =
    sym (h ∙ ap (λ (y : ℤ). stored_in (at_fraction (type_of t) y) (exact_of c)) e) in
    rw (e, g) refl

pub beside_none : (t : NumType) (c : Dyadic) (f : ℤ) (shown : Shown) → f ≡ best_fraction_of t.signed t.word (exact_of c ∷ []) → None ≡ stored_in (at_fraction (type_of t) f) (exact_of c) → Missing code.LiteralInexact shown ≡ beside (type_of t) (exact_of c ∷ []) shown
unfolding bind needed all_of and_then
beside_none t c f shown e h =
    let g : stored_in (at_fraction (type_of t) (best_fraction_of t.signed t.word (exact_of c ∷ []))) (exact_of c) ≡ None =
    sym (h ∙ ap (λ (y : ℤ). stored_in (at_fraction (type_of t) y) (exact_of c)) e) in
    rw g refl

pub to_the_right : (a : NumericType) (m : Option Fimath) (c : Exact) (x : Checked Side) → x ≡ beside a (c ∷ []) RightConstant → bind x (λ o. Fine (Meets (fi_side a m) o)) ≡ fi_meets a m (scalar_number c)
unfolding fi_meets
to_the_right a m c x e = ap (λ (y : Checked Side). bind y (λ o. Fine (Meets (fi_side a m) o))) e

pub to_the_left : (w : Work) (b : NumericType) (n : Option Fimath) (c : Exact) (x : Checked Side) → x ≡ beside b (c ∷ []) LeftConstant → bind x (λ o. Fine (Meets o (fi_side b n))) ≡ number_meets w scalar (c ∷ []) (FiTy b n)
unfolding number_meets
to_the_left w b n c x e = ap (λ (y : Checked Side). bind y (λ o. Fine (Meets o (fi_side b n)))) e

-- ---- constants

folds_checked : (w : Work) (c d : Exact) → constant_checked (folded w c d) ≡ numbers_folded w scalar (c ∷ []) scalar (d ∷ [])
unfolding numbers_folded choose
folds_checked w c d = refl

pub to_a_constant : (w : Work) (c d : Exact) (x : Checked Ty) → x ≡ constant_checked (folded w c d) → bind x (λ z. Fine (Folds z)) ≡ number_meets w scalar (c ∷ []) (scalar_number d)
unfolding number_meets
to_a_constant w c d x e = ap (λ (y : Checked Ty). bind y (λ z. Fine (Folds z))) (e ∙ folds_checked w c d)

pub to_a_power : (c d : Exact) (x : Checked Ty) → x ≡ power_folded scalar (c ∷ []) scalar (d ∷ []) → bind x (λ z. Fine (Folds z)) ≡ power_met (scalar_number c) (scalar_number d)
unfolding power_met
to_a_power c d x e = ap (λ (y : Checked Ty). bind y (λ z. Fine (Folds z))) e

pub no_exponent : (c d : Exact) → None ≡ whole_within (negsuc 399) (pos 400) d → Missing code.BadArgument Itself ≡ power_folded scalar (c ∷ []) scalar (d ∷ [])
unfolding power_folded choose bind needed
no_exponent c d e = rw (sym e) refl

pub some_exponent : (c d : Exact) (n : ℤ) (x : Checked Ty) → Some n ≡ whole_within (negsuc 399) (pos 400) d → x ≡ constant_checked (folds.power c n) → x ≡ power_folded scalar (c ∷ []) scalar (d ∷ [])
unfolding power_folded choose bind needed
some_exponent c d n x e h = rw (sym e) h
