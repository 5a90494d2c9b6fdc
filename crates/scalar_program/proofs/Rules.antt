-- What the rules of operators and signs tell of operands and results.
use Rattle.std.proofs.Common.{◌≡◌, Bool, true, false, ◌&&◌, List, [], ◌∷◌, map, ◌⊎◌, inl, inr, ℤ, Option, Some, None, refl, sym, ap, subst}
use Rattle.fic_base.specs.declared.code.Code.{Code}
use Rattle.num_type.specs.Constants.{Exact}
use Rattle.num_type.specs.Types.{NumericType}
use Rattle.fi_math.specs.declared.governing.Governed.{Governed}
use Rattle.fi_math.specs.Made.{Made, Is, Wide, Out}
use Rattle.const_rules.specs.Stored.{stored_in}
use Rattle.fi_rules.specs.declared.work.Work.{Work}
use Rattle.fi_rules.specs.declared.work.Work.TheVariants as work
use Rattle.fi_rules.specs.Value.{Shape, is_scalar}
use Rattle.fi_rules.specs.Options.{all_of}
use Rattle.fi_rules.specs.Checked.{Checked, Fine, Missing, Shown, RightConstant, LeftConstant, bind, ◌>>=◌, needed, choose}
use Rattle.fi_rules.specs.Types.{Ty, FiTy, NumberTy, TextTy, MathTy, TypeTy, OtherTy}
use Rattle.fi_rules.specs.Pairs.{Side, Meeting, Folds, Meets, Working, FoldsTo, Computes, fi_side, beside, beside_type, fi_meets, number_meets, numbers_folded, power_folded, constant_checked, folded, scalar_number, sum_met, power_met, met, limits_checked, side_made, work_made, worked, sides_worked, pair_checked}

-- ---- results

pub bound : {A B : Type 0} (x : Checked A) (f : A → Checked B) (y : B) → (x >>= f) ≡ Fine y → (a : A) × (x ≡ Fine a) × (f a ≡ Fine y)
unfolding bind
bound (Fine a) f y h = (a, refl, h)
bound (Missing code shown) f y h = absurd (cc)

pub fine_is : {A : Type 0} (x y : A) → Fine x ≡ Fine y → x ≡ y
fine_is x y h = cc

needed_is : {A : Type 0} (code : Code) (shown : Shown) (o : Option A) (x : A) → needed code shown o ≡ Fine x → o ≡ Some x
unfolding needed
needed_is code shown None x h = absurd (cc)
needed_is code shown (Some y) x h = ap Some (fine_is y x h)

chosen : {A : Type 0} (b : Bool) (x y : Checked A) (z : A) (code : Code) (shown : Shown) → choose b x y ≡ Fine z → y ≡ Missing code shown → (b ≡ true) × (x ≡ Fine z)
unfolding choose
chosen true x y z code shown h e = (refl, h)
chosen false x y z code shown h e = absurd (cc)

pub limits_are : (made : Made) (t : NumericType) → limits_checked made ≡ Fine t → made ≡ Is t
unfolding limits_checked
limits_are (Is u) t h = ap Is (fine_is u t h)
limits_are (Wide w) t h = absurd (cc)
limits_are (Out f) t h = absurd (cc)

-- ---- an operand

-- a fi as it is, or a constant beside a fi, exact there
pub record IsConstantSide (u : Ty) (a : Side) : Type 0 where
  pub shape : Shape
  pub constants : List Exact
  pub is : u ≡ NumberTy shape constants
  pub integers : List ℤ
  pub stored : a.stored ≡ Some integers
  pub exact : all_of (map (stored_in a.num) constants) ≡ Some integers

abbrev pub IsSide : Ty → Side → Type 0
IsSide u a = ((u ≡ FiTy a.num a.math) × (a.stored ≡ None)) ⊎ IsConstantSide u a

beside_side : (a : NumericType) (s : Shape) (cs : List Exact) (shown : Shown) (o : Side) → beside a cs shown ≡ Fine o → IsConstantSide (NumberTy s cs) o
beside_side a s cs shown o h =
    let b = bound (needed _ shown (all_of (map (stored_in (beside_type a cs)) cs))) (λ zs. Fine (record { num = beside_type a cs; math = None; stored = Some zs })) o h in
    let is : record { num = beside_type a cs; math = None; stored = Some b.0 } ≡ o = fine_is _ o b.2 in
    let exact : all_of (map (stored_in (beside_type a cs)) cs) ≡ Some b.0 = needed_is _ shown _ b.0 b.1 in
    subst (IsConstantSide (NumberTy s cs)) is (record { shape = s; constants = cs; is = refl; integers = b.0; stored = refl; exact = exact })

-- ---- operands that meet

pub record AreSides (x y : Ty) (a b : Side) : Type 0 where
  pub left : IsSide x a
  pub right : IsSide y b

abbrev pub MeetsAs : Ty → Ty → Meeting → Type 0
MeetsAs x y (Folds t) = (c : Exact) × (t ≡ scalar_number c)
MeetsAs x y (Meets a b) = AreSides x y a b

fi_meets_as : (a : NumericType) (m : _) (y : Ty) (k : Meeting) → fi_meets a m y ≡ Fine k → MeetsAs (FiTy a m) y k
unfolding fi_meets
fi_meets_as a m (FiTy b n) k h = subst (MeetsAs (FiTy a m) (FiTy b n)) (fine_is _ k h) (record { left = inl (refl, refl); right = inl (refl, refl) })
fi_meets_as a m (NumberTy s cs) k h =
    let b = bound (beside a cs RightConstant) (λ o. Fine (Meets (fi_side a m) o)) k h in
    subst (MeetsAs (FiTy a m) (NumberTy s cs)) (fine_is _ k b.2) (record { left = inl (refl, refl); right = inr (beside_side a s cs RightConstant b.0 b.1) })
fi_meets_as a m (TextTy text) k h = absurd (cc)
fi_meets_as a m (MathTy n) k h = absurd (cc)
fi_meets_as a m (TypeTy t) k h = absurd (cc)
fi_meets_as a m OtherTy k h = absurd (cc)

constant_is : (c : Option Exact) (t : Ty) → constant_checked c ≡ Fine t → (d : Exact) × (t ≡ scalar_number d)
constant_is c t h = let b = bound (needed _ _ c) (λ z. Fine (scalar_number z)) t h in (b.0, sym (fine_is _ t b.2))

numbers_fold : (w : Work) (s : Shape) (xs : List Exact) (u : Shape) (ys : List Exact) (t : Ty) → numbers_folded w s xs u ys ≡ Fine t → (d : Exact) × (t ≡ scalar_number d)
unfolding numbers_folded
numbers_fold w s (x ∷ []) u (y ∷ []) t h = let c = chosen (is_scalar s && is_scalar u) (constant_checked (folded w x y)) _ t _ _ h refl in constant_is (folded w x y) t c.1
numbers_fold w s [] u ys t h = absurd (cc)
numbers_fold w s (x ∷ y ∷ xs) u ys t h = absurd (cc)
numbers_fold w s (x ∷ []) u [] t h = absurd (cc)
numbers_fold w s (x ∷ []) u (y ∷ z ∷ ys) t h = absurd (cc)

power_folds : (s : Shape) (xs : List Exact) (u : Shape) (ys : List Exact) (t : Ty) → power_folded s xs u ys ≡ Fine t → (d : Exact) × (t ≡ scalar_number d)
unfolding power_folded
power_folds s (x ∷ []) u (y ∷ []) t h =
    let c = chosen (is_scalar s && is_scalar u) _ _ t _ _ h refl in
    let b = bound _ _ t c.1 in
    constant_is _ t b.2
power_folds s [] u ys t h = absurd (cc)
power_folds s (x ∷ y ∷ xs) u ys t h = absurd (cc)
power_folds s (x ∷ []) u [] t h = absurd (cc)
power_folds s (x ∷ []) u (y ∷ z ∷ ys) t h = absurd (cc)

number_meets_as : (w : Work) (s : Shape) (cs : List Exact) (y : Ty) (k : Meeting) → number_meets w s cs y ≡ Fine k → MeetsAs (NumberTy s cs) y k
unfolding number_meets
number_meets_as w s cs (FiTy b n) k h =
    let o = bound (beside b cs LeftConstant) (λ o. Fine (Meets o (fi_side b n))) k h in
    subst (MeetsAs (NumberTy s cs) (FiTy b n)) (fine_is _ k o.2) (record { left = inr (beside_side b s cs LeftConstant o.0 o.1); right = inl (refl, refl) })
number_meets_as w s cs (NumberTy u ds) k h =
    let b = bound (numbers_folded w s cs u ds) (λ c. Fine (Folds c)) k h in
    subst (MeetsAs (NumberTy s cs) (NumberTy u ds)) (fine_is _ k b.2) (numbers_fold w s cs u ds b.0 b.1)
number_meets_as w s cs (TextTy text) k h = absurd (cc)
number_meets_as w s cs (MathTy n) k h = absurd (cc)
number_meets_as w s cs (TypeTy t) k h = absurd (cc)
number_meets_as w s cs OtherTy k h = absurd (cc)

sum_met_as : (w : Work) (x y : Ty) (k : Meeting) → sum_met w x y ≡ Fine k → MeetsAs x y k
unfolding sum_met
sum_met_as w (FiTy a m) y k h = fi_meets_as a m y k h
sum_met_as w (NumberTy s cs) y k h = number_meets_as w s cs y k h
sum_met_as w (TextTy text) y k h = absurd (cc)
sum_met_as w (MathTy n) y k h = absurd (cc)
sum_met_as w (TypeTy t) y k h = absurd (cc)
sum_met_as w OtherTy y k h = absurd (cc)

power_met_as : (x y : Ty) (k : Meeting) → power_met x y ≡ Fine k → MeetsAs x y k
unfolding power_met
power_met_as (NumberTy s cs) (NumberTy u ds) k h =
    let b = bound (power_folded s cs u ds) (λ c. Fine (Folds c)) k h in
    subst (MeetsAs (NumberTy s cs) (NumberTy u ds)) (fine_is _ k b.2) (power_folds s cs u ds b.0 b.1)
power_met_as (NumberTy s cs) (FiTy t m) k h = absurd (cc)
power_met_as (NumberTy s cs) (TextTy text) k h = absurd (cc)
power_met_as (NumberTy s cs) (MathTy n) k h = absurd (cc)
power_met_as (NumberTy s cs) (TypeTy t) k h = absurd (cc)
power_met_as (NumberTy s cs) OtherTy k h = absurd (cc)
power_met_as (FiTy t m) y k h = absurd (cc)
power_met_as (TextTy text) y k h = absurd (cc)
power_met_as (MathTy n) y k h = absurd (cc)
power_met_as (TypeTy t) y k h = absurd (cc)
power_met_as OtherTy y k h = absurd (cc)

met_as : (w : Work) (x y : Ty) (k : Meeting) → met w x y ≡ Fine k → MeetsAs x y k
unfolding met
met_as work.Sum x y k h = sum_met_as work.Sum x y k h
met_as work.Difference x y k h = sum_met_as work.Difference x y k h
met_as work.Product x y k h = sum_met_as work.Product x y k h
met_as work.Power x y k h = power_met_as x y k h
met_as work.Division x y k h = absurd (cc)
met_as work.Later x y k h = absurd (cc)

-- ---- the types

pub record IsComputation (w : Work) (x y : Ty) (a b : Side) (g : Governed) (t : NumericType) : Type 0 where
  pub left : IsSide x a
  pub right : IsSide y b
  pub left_type : NumericType
  pub left_made : side_made a a.stored ≡ Is left_type
  pub right_type : NumericType
  pub right_made : side_made b b.stored ≡ Is right_type
  pub made : work_made w g.math a.num b.num ≡ Is t

abbrev pub WorksAs : Work → Ty → Ty → Working → Type 0
WorksAs w x y (FoldsTo t) = (c : Exact) × (t ≡ scalar_number c)
WorksAs w x y (Computes a b g t) = IsComputation w x y a b g t

sides_work_as : (w : Work) (x y : Ty) (a b : Side) (r : Working) → AreSides x y a b → sides_worked w a b ≡ Fine r → WorksAs w x y r
sides_work_as w x y a b r sides h =
    let g = bound _ _ r h in
    let s = bound _ _ r g.2 in
    let t = bound _ _ r s.2 in
    let u = bound _ _ r t.2 in
    subst (WorksAs w x y) (fine_is _ r u.2) (record {
      left = sides.left;
      right = sides.right;
      left_type = s.0;
      left_made = limits_are _ s.0 s.1;
      right_type = t.0;
      right_made = limits_are _ t.0 t.1;
      made = limits_are _ u.0 u.1;
    })

work_as : (w : Work) (x y : Ty) (k : Meeting) (r : Working) → MeetsAs x y k → worked w k ≡ Fine r → WorksAs w x y r
unfolding worked
work_as w x y (Folds t) r m h = subst (WorksAs w x y) (fine_is _ r h) m
work_as w x y (Meets a b) r m h = sides_work_as w x y a b r m h

pub pair_works : (w : Work) (x y : Ty) (r : Working) → pair_checked w x y ≡ Fine r → WorksAs w x y r
pair_works w x y r h = let k = bound (met w x y) (worked w) r h in work_as w x y k.0 r (met_as w x y k.0 k.1) k.2
