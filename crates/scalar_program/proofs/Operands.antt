-- Operands of operators: a fi that stands, and a constant beside a fi, which stands in the text.
use Rattle.std.proofs.Common.{◌≡◌, true, List, [], ◌∷◌, map, inl, inr, ℤ, Option, Some, None, refl, sym, ap, ◌∙◌, subst}
use Rattle.num_type.specs.Constants.{Exact}
use Rattle.num_type.specs.Types.{NumericType, IsInRange, IsWithin}
use Rattle.fi_math.specs.Made.{Is}
use Rattle.const_rules.specs.Stored.{stored_in}
use Rattle.const_rules.proofs.Stored.{stored_in_is}
use Rattle.fi_rules.specs.Value.{Val, Number}
use Rattle.fi_rules.specs.Options as options
use Rattle.fi_rules.specs.Options.{all_of}
use Rattle.fi_rules.specs.Types.{Ty, FiTy, NumberTy}
use Rattle.fi_rules.specs.Pairs.{Side, side_made}
use Rattle.fi_eval.specs.Operators.{stored_of, is_single}
use Rattle.c_tree.specs.Meaning.{State}
use Rattle.scalar_program.specs.Lowered.{Spot, Literal, Operand, operand_at}
use Rattle.scalar_program.proofs.Ranges.{InRange, in_range_cases}
use Rattle.scalar_program.proofs.Within.{limited_same, limited_within}
use Rattle.scalar_program.proofs.Rules.{IsSide, IsConstantSide}
use Rattle.scalar_program.proofs.Runs.{some_is}
use Rattle.scalar_program.proofs.Says.{Stands, HeldStands}

and_then_some : {A B : Type 0} (o : Option A) (f : A → Option B) (y : B) → options.and_then o f ≡ Some y → (x : A) × (o ≡ Some x) × (f x ≡ Some y)
unfolding options.and_then
and_then_some None f y h = absurd (cc)
and_then_some (Some x) f y h = (x, refl, h)

-- the first of the integers of constants in a type is in its range
single_in : (t : NumericType) (cs : List Exact) (z : ℤ) (zs : List ℤ) → all_of (map (stored_in t) cs) ≡ Some (z ∷ zs) → IsInRange t z
unfolding all_of
single_in t [] z zs h = absurd (cc)
single_in t (c ∷ cs) z zs h =
    let one = and_then_some (stored_in t c) (λ y. options.and_then (all_of (map (stored_in t) cs)) (λ ys. Some (y ∷ ys))) (z ∷ zs) h in
    let rest = and_then_some (all_of (map (stored_in t) cs)) (λ ys. Some (one.0 ∷ ys)) (z ∷ zs) one.2 in
    let same : one.0 ≡ z = cc in
    ((stored_in_is t c z).0 (one.1 ∙ ap Some same)).1

-- ---- where an operand stands

pub fi_operand_is : (spot : Spot) (a : Side) (o : Operand) → operand_at spot a None ≡ Some o → o ≡ record { spot = spot; num = a.num }
unfolding operand_at
fi_operand_is spot a o h = sym (some_is _ o h)

-- a constant has one integer
pub record IsLiteralOperand (a : Side) (zs : List ℤ) (o : Operand) : Type 0 where
  pub integer : ℤ
  pub single : zs ≡ integer ∷ []
  pub is : o ≡ record { spot = Literal a.num.signed integer; num = a.num }

literal_operand_is : (spot : Spot) (a : Side) (zs : List ℤ) (o : Operand) → operand_at spot a (Some zs) ≡ Some o → IsLiteralOperand a zs o
unfolding operand_at
literal_operand_is spot a [] o h = absurd (cc)
literal_operand_is spot a (z ∷ []) o h = record { integer = z; single = refl; is = sym (some_is _ o h) }
literal_operand_is spot a (z ∷ y ∷ zs) o h = absurd (cc)

-- the integer of a constant beside a fi is in the range of its type, which is within the limits
pub record IsGoodLiteral (a : Side) (o : Operand) : Type 0 where
  pub integer : ℤ
  pub is : o ≡ record { spot = Literal a.num.signed integer; num = a.num }
  pub stored : a.stored ≡ Some (integer ∷ [])
  pub range : InRange a.num.signed a.num.word integer
  pub limits : IsWithin a.num

own_type : (a : Side) (zs : List ℤ) (t : NumericType) → side_made a (Some zs) ≡ Is t → IsWithin a.num
unfolding side_made
own_type a zs t h = subst IsWithin (limited_same a.num t h) (limited_within a.num t h)

pub good_literal : (u : Ty) (a : Side) (spot : Spot) (o : Operand) (t : NumericType) → IsConstantSide u a → side_made a a.stored ≡ Is t → operand_at spot a a.stored ≡ Some o → IsGoodLiteral a o
good_literal u a spot o t c made at =
    let l = literal_operand_is spot a c.integers o (ap (operand_at spot a) (sym c.stored) ∙ at) in
    let exact : all_of (map (stored_in a.num) c.constants) ≡ Some (l.integer ∷ []) = c.exact ∙ ap Some l.single in
    let inside : IsInRange a.num l.integer = single_in a.num c.constants l.integer [] exact in
    record {
      integer = l.integer;
      is = l.is;
      stored = c.stored ∙ ap Some l.single;
      range = in_range_cases a.num.signed a.num.word a.num.fraction l.integer inside;
      limits = own_type a c.integers t (ap (side_made a) (sym c.stored) ∙ made);
    }

-- ---- in a state

pub record SideStands (a : Side) (o : Operand) (st : State) (v : Val) : Type 0 where
  pub z : ℤ
  pub stands : Stands st o z
  pub num : o.num ≡ a.num
  pub items : stored_of a.stored v ≡ z ∷ []
  pub single : is_single v ≡ true

fi_side_stands : (a : Side) (spot : Spot) (o : Operand) (st : State) (v : Val) → a.stored ≡ None → HeldStands st spot (FiTy a.num a.math) v → operand_at spot a a.stored ≡ Some o → SideStands a o st v
unfolding HeldStands stored_of is_single
fi_side_stands a spot o st v none h at =
    let is = fi_operand_is spot a o (ap (operand_at spot a) (sym none) ∙ at) in
    record {
      z = h.0;
      stands = subst (λ p. Stands st p h.0) (sym is) h.2;
      num = ap (λ (p : Operand). p.num) is;
      items = (λ i. stored_of (none i) (h.1 i));
      single = ap is_single h.1;
    }

constant_side_stands : (u : Ty) (a : Side) (spot : Spot) (o : Operand) (st : State) (v : Val) (t : NumericType) → (c : IsConstantSide u a) → side_made a a.stored ≡ Is t → HeldStands st spot u v → operand_at spot a a.stored ≡ Some o → SideStands a o st v
unfolding HeldStands stored_of is_single
constant_side_stands u a spot o st v t c made h at =
    let g = good_literal u a spot o t c made at in
    let held : HeldStands st spot (NumberTy c.shape c.constants) v = subst (λ w. HeldStands st spot w v) c.is h in
    let literal : Stands st (record { spot = Literal a.num.signed g.integer; num = a.num }) g.integer = record { range = g.range; limits = g.limits; at = (refl, refl) } in
    record {
      z = g.integer;
      stands = subst (λ p. Stands st p g.integer) (sym g.is) literal;
      num = ap (λ (p : Operand). p.num) g.is;
      items = ap (λ s. stored_of s v) g.stored;
      single = ap is_single (held.1 ∙ ap (λ s. Number s c.constants) held.0);
    }

pub side_stands : (u : Ty) (a : Side) (spot : Spot) (o : Operand) (st : State) (v : Val) (t : NumericType) → IsSide u a → side_made a a.stored ≡ Is t → HeldStands st spot u v → operand_at spot a a.stored ≡ Some o → SideStands a o st v
side_stands u a spot o st v t (inl f) made h at = fi_side_stands a spot o st v f.1 (subst (λ w. HeldStands st spot w v) f.0 h) at
side_stands u a spot o st v t (inr c) made h at = constant_side_stands u a spot o st v t c made h at
