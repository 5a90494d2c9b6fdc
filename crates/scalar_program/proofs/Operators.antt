-- The statements of an operator lead to a state in which its value stands.
use Rattle.std.proofs.Common.{◌≡◌, true, ◌&&◌, List, [], ◌∷◌, ◌++◌, length, map, ℤ, refl, sym, ap, ◌∙◌, subst}
use Rattle.std.specs.Prelude.{Option}
use Rattle.fic_base.specs.declared.place.Place.{Place}
use Rattle.mat_ast.specs.declared.tree.BinOp.{BinOp}
use Rattle.mat_ast.specs.declared.tree.UnOp.{UnOp}
use Rattle.mat_ast.specs.declared.tree.UnOp.TheVariants as un
use Rattle.num_type.specs.Constants.{Exact}
use Rattle.num_type.specs.Types.{NumericType}
use Rattle.fi_math.specs.declared.fimath.Fimath.{Fimath}
use Rattle.fi_math.specs.declared.governing.Governed.{Governed}
use Rattle.fi_math.specs.Made.{Is}
use Rattle.const_rules.specs.Folds.{negated}
use Rattle.fi_rules.specs.declared.work.Work.{Work}
use Rattle.fi_rules.specs.Value.{Val, Fi, Number, scalar}
use Rattle.fi_rules.specs.Checked.{Fine}
use Rattle.fi_rules.specs.Types.{Ty, FiTy, NumberTy, TextTy, MathTy, TypeTy, OtherTy, type_of, known_value}
use Rattle.fi_rules.specs.Pairs.{Side, Working, FoldsTo, Computes, work_of, work_made, pair_checked, scalar_number}
use Rattle.fi_rules.specs.Signs.{sign_checked, minus_checked}
use Rattle.fi_eval.specs.Outcome as got
use Rattle.fi_eval.specs.Outcome.{Got}
use Rattle.fi_eval.specs.Operators.{met_at, computed, operated, element, pairwise, stored_of, is_single, signed, with_sign, minus, turned, turned_element, Negate, math_of}
use Rattle.c_tree.specs.declared.tree.CWord.{CWord}
use Rattle.c_tree.specs.Meaning.{State}
use Rattle.scalar_program.specs.Lowered.{Spot, Held, Emitted, Low, known, IsComputed, IsWorked, IsPaired, IsTurned, IsNegated, HasSign, IsSigned}
use Rattle.scalar_program.proofs.Rules.{fine_is, IsComputation, pair_works}
use Rattle.scalar_program.proofs.Says.{HeldStands, stands_typed}
use Rattle.scalar_program.proofs.Runs.{word_type, IsBelow}
use Rattle.scalar_program.proofs.Operands.{side_stands}
use Rattle.scalar_program.proofs.Stepped.{operated_step, turned_step}
use Rattle.scalar_program.proofs.Moves.{Reached, known_reached, stepped_reached, stays_reached}

-- ---- two operands

-- what the conditions of an operator come to
operated_checked : (at : Place) (op : BinOp) (x y : Val) (s t : Ty) (r : Working) → type_of x ≡ s → type_of y ≡ t → pair_checked (work_of op) s t ≡ Fine r → operated at op x y ≡ computed at (work_of op) r x y
unfolding got.bind met_at
operated_checked at op x y s t r hx hy h =
    (λ i. got.bind (met_at at (pair_checked (work_of op) (hx i) (hy i))) (λ w. computed at (work_of op) w x y))
    ∙ ap (λ c. got.bind (met_at at c) (λ w. computed at (work_of op) w x y)) h

folds_give : (at : Place) (w : Work) (t : Ty) (c : Exact) (x y : Val) → t ≡ scalar_number c → computed at w (FoldsTo t) x y ≡ got.Gives (Number scalar (c ∷ []))
unfolding computed got.or_wrong known_value
folds_give at w t c x y h = ap (λ u. got.or_wrong at (known_value u)) h

computes_give : (at : Place) (w : Work) (a b : Side) (g : Governed) (t : NumericType) (vx vy : Val) (x y : ℤ) → is_single vx ≡ true → is_single vy ≡ true → stored_of a.stored vx ≡ x ∷ [] → stored_of b.stored vy ≡ y ∷ [] → computed at w (Computes a b g t) vx vy ≡ got.Gives (Fi t g.attached scalar (element w g.math t a.num b.num x y ∷ []))
unfolding computed got.choose
computes_give at w a b g t vx vy x y sx sy ix iy =
    (λ i. got.choose (sx i && sy i) (got.Gives (Fi t g.attached scalar (pairwise (element w g.math t a.num b.num) (stored_of a.stored vx) (stored_of b.stored vy)))) (got.Wrong at))
    ∙ (λ i. got.Gives (Fi t g.attached scalar (pairwise (element w g.math t a.num b.num) (ix i) (iy i))))

computes_reached : (at : Place) (w : Work) (a b : Side) (g : Governed) (t : NumericType) (x y : Held) (vx vy : Val) (em : Emitted) (low : Low) (st : State) (all rest : List CWord) → IsComputation w x.ty y.ty a b g t → IsComputed w a b g.math g.attached t x.spot y.spot em low → HeldStands st x.spot x.ty vx → HeldStands st y.spot y.ty vy → map word_type st.words ≡ all → all ≡ low.emitted.words ++ rest → Reached em low st all (computed at w (Computes a b g t) vx vy)
computes_reached at w a b g t x y vx vy em low st all rest c h sx sy typed fits =
    let p = side_stands x.ty a x.spot h.left st vx c.left_type c.left c.left_made sx h.left_at in
    let q = side_stands y.ty b y.spot h.right st vy c.right_type c.right c.right_made sy h.right_at in
    let made : work_made w g.math h.left.num h.right.num ≡ Is t = (λ i. work_made w g.math (p.num i) (q.num i)) ∙ c.made in
    let step = operated_step w g.math g.attached t h.left h.right em low p.z q.z st all rest made h.operated p.stands q.stands typed fits in
    stepped_reached em low t g.attached st all (element w g.math t h.left.num h.right.num p.z q.z) (computed at w (Computes a b g t) vx vy) step
    (computes_give at w a b g t vx vy p.z q.z p.single q.single p.items q.items ∙ (λ i. got.Gives (Fi t g.attached scalar (element w g.math t (sym p.num i) (sym q.num i) p.z q.z ∷ []))))

folds_reached : (at : Place) (w : Work) (t : Ty) (c : Exact) (vx vy : Val) (em : Emitted) (low : Low) (st : State) (all : List CWord) → t ≡ scalar_number c → low ≡ known t em → map word_type st.words ≡ all → Reached em low st all (computed at w (FoldsTo t) vx vy)
unfolding HeldStands
folds_reached at w t c vx vy em low st all e is typed =
    known_reached em low (scalar_number c) st all (Number scalar (c ∷ [])) (computed at w (FoldsTo t) vx vy) (is ∙ ap (λ u. known u em) e) typed (refl, refl) (folds_give at w t c vx vy e)

worked_reached : (at : Place) (w : Work) (r : Working) (x y : Held) (vx vy : Val) (em : Emitted) (low : Low) (st : State) (all rest : List CWord) → pair_checked w x.ty y.ty ≡ Fine r → IsWorked w r x.spot y.spot em low → HeldStands st x.spot x.ty vx → HeldStands st y.spot y.ty vy → map word_type st.words ≡ all → all ≡ low.emitted.words ++ rest → Reached em low st all (computed at w r vx vy)
unfolding IsWorked
worked_reached at w (FoldsTo t) x y vx vy em low st all rest c h sx sy typed fits =
    let f = pair_works w x.ty y.ty (FoldsTo t) c in
    folds_reached at w t f.0 vx vy em low st all f.1 h typed
worked_reached at w (Computes a b g t) x y vx vy em low st all rest c h sx sy typed fits =
    computes_reached at w a b g t x y vx vy em low st all rest (pair_works w x.ty y.ty (Computes a b g t) c) h sx sy typed fits

-- an operator behind its operands
pub pair_reached : (at : Place) (op : BinOp) (x y : Held) (vx vy : Val) (em : Emitted) (low : Low) (st : State) (all rest : List CWord) → IsPaired (work_of op) x y em low → HeldStands st x.spot x.ty vx → HeldStands st y.spot y.ty vy → map word_type st.words ≡ all → all ≡ low.emitted.words ++ rest → Reached em low st all (operated at op vx vy)
pair_reached at op x y vx vy em low st all rest h sx sy typed fits =
    subst (Reached em low st all) (sym (operated_checked at op vx vy x.ty y.ty h.working (stands_typed st x.spot x.ty vx sx) (stands_typed st y.spot y.ty vy sy) h.checked))
    (worked_reached at (work_of op) h.working x y vx vy em low st all rest h.checked h.is sx sy typed fits)

-- ---- one operand

signed_checked : (at : Place) (sign : UnOp) (v : Val) (s u : Ty) → type_of v ≡ s → sign_checked sign s ≡ Fine u → signed at sign v ≡ with_sign at sign v u
unfolding got.bind met_at
signed_checked at sign v s u e h = ap (λ t. got.bind (met_at at (sign_checked sign t)) (with_sign at sign v)) e ∙ ap (λ c. got.bind (met_at at c) (with_sign at sign v)) h

-- the fi of one stored integer
abbrev pub fi_of : NumericType → Option Fimath → ℤ → Val
fi_of t m z = Fi t m scalar (z ∷ [])

negated_fi : (at : Place) (t : NumericType) (m : Option Fimath) (u : Ty) (spot : Spot) (v : Val) (em : Emitted) (low : Low) (st : State) (all rest : List CWord) → IsTurned Negate m (record { spot = spot; num = t }) em low → HeldStands st spot (FiTy t m) v → map word_type st.words ≡ all → all ≡ low.emitted.words ++ rest → Reached em low st all (minus at v u)
unfolding HeldStands minus turned
negated_fi at t m u spot v em low st all rest h s typed fits =
    let z : ℤ = turned_element Negate (math_of m) t s.0 in
    stepped_reached em low t m st all z (minus at v u) (turned_step Negate m (record { spot = spot; num = t }) em low s.0 st all rest h s.2 typed fits) (ap (λ w. minus at w u) s.1)

negated_number : (at : Place) (sh : _) (cs : List Exact) (u : Ty) (spot : Spot) (v : Val) (em : Emitted) (low : Low) (st : State) (all : List CWord) → minus_checked (NumberTy sh cs) ≡ Fine u → low ≡ known u em → HeldStands st spot (NumberTy sh cs) v → map word_type st.words ≡ all → Reached em low st all (minus at v u)
unfolding HeldStands minus minus_checked known_value got.or_wrong
negated_number at sh cs u spot v em low st all c is s typed =
    let same : NumberTy sh (map negated cs) ≡ u = fine_is _ u c in
    known_reached em low (NumberTy sh (map negated cs)) st all (Number sh (map negated cs)) (minus at v u) (is ∙ ap (λ t. known t em) (sym same)) typed (s.0, refl)
    (ap (λ w. minus at w u) s.1 ∙ ap (λ t. got.or_wrong at (known_value t)) (sym same))

negated_reached : (at : Place) (s u : Ty) (spot : Spot) (v : Val) (em : Emitted) (low : Low) (st : State) (all rest : List CWord) → minus_checked s ≡ Fine u → IsNegated s spot u em low → HeldStands st spot s v → map word_type st.words ≡ all → all ≡ low.emitted.words ++ rest → Reached em low st all (minus at v u)
unfolding IsNegated
negated_reached at (FiTy t m) u spot v em low st all rest c h s typed fits = negated_fi at t m u spot v em low st all rest h s typed fits
negated_reached at (NumberTy sh cs) u spot v em low st all rest c h s typed fits = negated_number at sh cs u spot v em low st all c h s typed
negated_reached at (TextTy text) u spot v em low st all rest c h s typed fits = absurd h
negated_reached at (MathTy m) u spot v em low st all rest c h s typed fits = absurd h
negated_reached at (TypeTy t) u spot v em low st all rest c h s typed fits = absurd h
negated_reached at OtherTy u spot v em low st all rest c h s typed fits = absurd h

with_sign_reached : (at : Place) (sign : UnOp) (x : Held) (u : Ty) (v : Val) (em : Emitted) (low : Low) (st : State) (all rest : List CWord) → sign_checked sign x.ty ≡ Fine u → HasSign sign x u em low → HeldStands st x.spot x.ty v → IsBelow x.spot (length em.words) → map word_type st.words ≡ all → all ≡ low.emitted.words ++ rest → Reached em low st all (with_sign at sign v u)
unfolding HasSign with_sign sign_checked
with_sign_reached at un.Plus x u v em low st all rest c h s below typed fits = stays_reached em low x st all v (got.Gives v) h typed s below refl
with_sign_reached at un.Minus x u v em low st all rest c h s below typed fits = negated_reached at x.ty u x.spot v em low st all rest c h s typed fits
with_sign_reached at un.Not x u v em low st all rest c h s below typed fits = absurd h

-- a sign before its operand
pub sign_reached : (at : Place) (sign : UnOp) (x : Held) (v : Val) (em : Emitted) (low : Low) (st : State) (all rest : List CWord) → IsSigned sign x em low → HeldStands st x.spot x.ty v → IsBelow x.spot (length em.words) → map word_type st.words ≡ all → all ≡ low.emitted.words ++ rest → Reached em low st all (signed at sign v)
sign_reached at sign x v em low st all rest h s below typed fits =
    subst (Reached em low st all) (sym (signed_checked at sign v x.ty h.ty (stands_typed st x.spot x.ty v s) h.checked))
    (with_sign_reached at sign x h.ty v em low st all rest h.checked h.is s below typed fits)
