-- What operations, signs and calls give, as what is lowered.
use Rattle.std.proofs.Common.{◌≡◌, ℕ, List, Option, sym, ap, subst, ◌∙◌}
use Rattle.std.specs.Prelude.{true}
use Rattle.fic_base.specs.declared.code.Code.TheVariants as code
use Rattle.fic_base.specs.declared.place.Place.{Place}
use Rattle.num_type.specs.View.{type_of, exact_of}
use Rattle.num_type.specs.Types.{NumericType}
use Rattle.num_type.specs.declared.num_type.NumType.{NumType}
use Rattle.num_type.specs.declared.dyadic.Dyadic.{Dyadic}
use Rattle.fi_math.specs.declared.fimath.Fimath.{Fimath}
use Rattle.fi_math.specs.declared.governing.Governed.{Governed}
use Rattle.fi_rules.specs.declared.work.Work.{Work}
use Rattle.fi_rules.specs.declared.pairs.Working as code_pairs
use Rattle.fi_rules.specs.declared.pairs.Working.TheVariants as working
use Rattle.fi_rules.specs.declared.pairs.Operand as code_operand
use Rattle.fi_rules.specs.declared.ty.Ty as code_ty
use Rattle.fi_rules.specs.declared.ty.Ty.TheVariants as ty
use Rattle.fi_rules.specs.Checked as checked
use Rattle.fi_rules.specs.Checked.{Checked, Fine, Shown}
use Rattle.fi_rules.specs.Pairs.{scalar_number}
use Rattle.fi_rules.specs.Texts.{shown_text}
use Rattle.fi_rules.specs.Types.{Ty, FiTy, NumberTy, TextTy, MathTy, TypeTy, OtherTy}
use Rattle.fi_rules.specs.declared.signs.Signed as code_signed
use Rattle.fi_rules.specs.declared.signs.Signed.TheVariants as signed
use Rattle.fi_rules.specs.View.{IsSigned as IsSignedBy, is_number, number_view, signed_view}
use Rattle.mat_ast.specs.declared.tree.UnOp.{UnOp}
use Rattle.fi_rules.specs.View.{ty_view, working_view, operand_side}
use Rattle.scalar_program.specs.Lowered.{Spot, Held, HasSign, IsNegated, Emitted, Low, IsWorked, IsComputed, IsTaken, IsTakenFrom, known, nowhere}
use Rattle.walk_scope.specs.Rules.{told_at, around_one}
use Rattle.walk_scope.specs.Told.{Told, Refuses}
use Rattle.scalar_walk.specs.declared.operand.Held as code_held
use Rattle.scalar_walk.specs.declared.emitted.Emitted as code_emitted
use Rattle.scalar_walk.specs.View.{spot_view, emitted_view, low_view}

-- a value that is known without a run
pub known_low : (h : code_held.Held) (t : Ty) (em : Emitted) (later : code_emitted.Emitted) → ty_view h.ty ≡ t → spot_view h.spot ≡ nowhere → emitted_view later ≡ em → low_view h later ≡ known t em
known_low h t em later t_is s_is e = λ i. record { held = record { spot = s_is i; ty = t_is i }; emitted = e i }

-- ---- operators

pub worked_folds : (w : Work) (k : code_pairs.Working) (c : Dyadic) (p q : Spot) (em : Emitted) (low : Low) → k ≡ working.FoldsTo c → low ≡ known (scalar_number (exact_of c)) em → IsWorked w (working_view k) p q em low
unfolding IsWorked
worked_folds w k c p q em low h is = subst (λ (k : code_pairs.Working). IsWorked w (working_view k) p q em low) (sym h) is

pub worked_computes : (w : Work) (k : code_pairs.Working) (a b : code_operand.Operand) (g : Governed) (t : NumType) (p q : Spot) (em : Emitted) (low : Low) → k ≡ working.Computes a b g t
    → IsComputed w (operand_side a) (operand_side b) g.math g.attached (type_of t) p q em low → IsWorked w (working_view k) p q em low
unfolding IsWorked
worked_computes w k a b g t p q em low h is = subst (λ (k : code_pairs.Working). IsWorked w (working_view k) p q em low) (sym h) is

-- ---- calls

-- a fi in another type
pub taken_fi : (t : NumericType) (m : Option Fimath) (u : code_ty.Ty) (n : NumType) (o : Option Fimath) (p : Spot) (em : Emitted) (low : Low) → u ≡ ty.Fi n o → IsTaken t m (record { spot = p; num = type_of n }) em low → IsTakenFrom t m (ty_view u) p em low
unfolding IsTakenFrom
taken_fi t m u n o p em low h is = subst (λ (v : code_ty.Ty). IsTakenFrom t m (ty_view v) p em low) (sym h) is

-- `:` where nothing else is missing
pub colon_kept : {A B : Type 0} (at : Place) (name : List ℕ) (first : Checked A) (k : A) → first ≡ Fine k
    → (told : Told B) → told ≡ told_at at (around_one name) (checked.bind first (λ k. checked.Missing code.BadArgument checked.Itself)) → told ≡ Refuses code.BadArgument at name
unfolding told_at checked.bind shown_text
colon_kept {A} {B} at name first k h told is = is ∙ ap (λ o. told_at at (around_one name) (checked.bind {B = B} o (λ k. checked.Missing code.BadArgument checked.Itself))) h

-- ---- signs

negated_number : (t : Ty) (spot : Spot) (u : Ty) (em : Emitted) (low : Low) → is_number t ≡ true → low ≡ known u em → IsNegated t spot u em low
unfolding IsNegated
negated_number (NumberTy s cs) spot u em low n h = h
negated_number (FiTy t m) spot u em low n h = absurd (cc)
negated_number (TextTy t) spot u em low n h = absurd (cc)
negated_number (MathTy t) spot u em low n h = absurd (cc)
negated_number (TypeTy t) spot u em low n h = absurd (cc)
negated_number OtherTy spot u em low n h = absurd (cc)

-- a minus before a constant
pub constant_sign : (op : UnOp) (x : Held) (g : code_signed.Signed) (c : Dyadic) (em : Emitted) (low : Low) → g ≡ signed.Constant c → IsSignedBy op x.ty g → low ≡ known (number_view c) em → HasSign op x (signed_view x.ty g) em low
unfolding HasSign
constant_sign op x g c em low h k is =
    let kind = subst (λ (s : code_signed.Signed). IsSignedBy op x.ty s) h k in
    subst (λ (s : code_signed.Signed). HasSign op x (signed_view x.ty s) em low) (sym h)
    (subst (λ (o : UnOp). HasSign o x (number_view c) em low) (sym kind.0) (negated_number x.ty x.spot (number_view c) em low kind.1 is))
