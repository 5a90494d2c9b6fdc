-- The statements of a program are well formed, and not deep.
use Rattle.std.proofs.Common.{◌≡◌, ℕ, suc, ◌≤◌, Bool, true, false, ◌&&◌, List, [], ◌∷◌, ◌++◌, length, map, inl, inr, ℤ, Some, refl, sym, ap, ◌∙◌, subst, arith, append_assoc}
use Rattle.std.specs.Prelude.{Option, slice_get, All, neg_ℤ}
use Rattle.std.proofs.lemmas.List.Elements.{All-nil, All-cons}
use Rattle.mat_ast.specs.declared.tree.UnOp.{UnOp}
use Rattle.mat_ast.specs.declared.tree.UnOp.TheVariants as un
use Rattle.mat_ast.specs.Tree as ast
use Rattle.mat_ast.specs.Tree.{Number, Words, Name, Apply, Args, NoArgs, Whole, Item, End, Unary, Post, Range, RangeBy, Paren, Matrix}
use Rattle.num_type.specs.Types.{NumericType, IsWithin}
use Rattle.fi_math.specs.declared.fimath.Fimath.{Fimath}
use Rattle.fi_math.specs.Made.{Is}
use Rattle.const_rules.specs.Folds.{negated}
use Rattle.fi_rules.specs.declared.work.Work.{Work}
use Rattle.fi_rules.specs.Checked.{Fine}
use Rattle.fi_rules.specs.Types.{Ty, FiTy, NumberTy, TextTy, MathTy, TypeTy, OtherTy}
use Rattle.fi_rules.specs.Pairs.{Side, Working, FoldsTo, Computes, work_of, work_made, side_made, scalar_number}
use Rattle.fi_rules.specs.Signs.{sign_checked, minus_checked}
use Rattle.fi_rules.specs.Calls.{Built, Taken, Attached, SignTaken, Object}
use Rattle.fi_eval.specs.Operators.{Turn, Negate, Remove, math_of}
use Rattle.fi_eval.specs.Calls.{taken_constant}
use Rattle.fi_eval.specs.Meaning.{Context}
use Rattle.c_tree.specs.declared.tree.CWord.{CWord}
use Rattle.c_tree.specs.declared.tree.CWord.TheVariants.{I64, U64}
use Rattle.c_tree.specs.Tree.{Exp, Sta, Set, Store, If, IfElse, For, While, Break, Continue, Return}
use Rattle.c_tree.specs.View.{block_of}
use Rattle.c_tree.specs.WellFormed.{Scope, type_of_exp, is_one_type, is_fit, are_fit, loop_counters}
use Rattle.c_tree.specs.Depth.{exp_depth, sta_depth, block_depth}
use Rattle.lower_scalar.specs.Part as part
use Rattle.lower_scalar.specs.Part.{Part, IsPart, IsTyped, AreInOrder, AreDeclared, deepest, word_for}
use Rattle.scalar_program.specs.Lowered.{Spot, Input, Variable, Literal, Operand, Held, Names, Emitted, Low, Passed, IsLowered, AreLowered, IsLiteral, IsOperated, IsTurned, IsTaken, IsTakenFrom, IsWorked, IsPaired, IsNegated, HasSign, IsBuilt, IsCalled, Turns, fi_at, known, nowhere, next_low, with_part, operand_at, nothing_passed, with_passed, read_operand, read}
use Rattle.scalar_program.proofs.Ranges.{InRange}
use Rattle.scalar_program.proofs.Literals.{literal_typed, literal_depth}
use Rattle.scalar_program.proofs.Within.{operated_within}
use Rattle.scalar_program.proofs.Rules.{fine_is, IsSide, WorksAs, pair_works}
use Rattle.scalar_program.proofs.Runs.{rest_of, get_behind}
use Rattle.scalar_program.proofs.Operands.{fi_operand_is, good_literal}
use Rattle.scalar_program.proofs.Stepped.{declared, operated_part, quantised_in}
use Rattle.scalar_program.proofs.Calls.{BuiltAs, call_built}
use Rattle.scalar_program.proofs.Added.{adds, args_add, paired_adds, signed_adds, called_adds}

-- an expression of this type
abbrev pub HasType : Scope → Exp → CWord → Type 0
HasType sc e w = type_of_exp sc e ≡ Some w

-- an operand that can be read, of a type within the limits
pub record IsGood (sc : Scope) (o : Operand) : Type 0 where
  pub typed : HasType sc (read o.spot) (word_for o.num.signed)
  pub limits : IsWithin o.num

-- a statement that is well formed, has no loop and isn't deep
pub record IsPlain (sc : Scope) (s : Sta) : Type 0 where
  pub fit : is_fit sc false s ≡ true
  pub counters : loop_counters s ≡ []
  pub shallow : sta_depth s ≤ 200

abbrev pub ArePlain : Scope → List Sta → Type 0
ArePlain sc [] = Unit {0}
ArePlain sc (s ∷ ss) = IsPlain sc s × ArePlain sc ss

pub plain_append : (sc : Scope) (xs ys : List Sta) → ArePlain sc xs → ArePlain sc ys → ArePlain sc (xs ++ ys)
plain_append sc [] ys p q = q
plain_append sc (x ∷ xs) ys p q = (p.0, plain_append sc xs ys p.1 q)

-- ---- depths

pub read_depth : (spot : Spot) → exp_depth (read spot) ≤ 3
read_depth (Input k) = omega arith
read_depth (Variable k) = omega arith
read_depth (Literal signed z) = literal_depth signed z

-- ---- expressions

one_type : (w : CWord) → is_one_type (Some w) (Some w) ≡ true
unfolding is_one_type
one_type I64 = refl
one_type U64 = refl

set_plain : (sc : Scope) (k : ℕ) (e : Exp) (w : CWord) → slice_get sc.words k ≡ Some w → HasType sc e w → exp_depth e ≤ 200 → IsPlain sc (Set k e)
set_plain sc k e w here typed deep = record {
  fit = (λ i. is_one_type (here i) (typed i)) ∙ one_type w;
  counters = refl;
  shallow = omega (arith, deep);
}

-- a value whose fi can be read
unfoldable pub IsGoodAt : Scope → Spot → Ty → Type 0
IsGoodAt sc spot (FiTy t m) = IsGood sc (record { spot = spot; num = t })
IsGoodAt sc spot (NumberTy s cs) = Unit {0}
IsGoodAt sc spot (TextTy text) = Unit {0}
IsGoodAt sc spot (MathTy m) = Unit {0}
IsGoodAt sc spot (TypeTy t) = Unit {0}
IsGoodAt sc spot OtherTy = Unit {0}

abbrev pub NamesGood : Scope → Names → Type 0
NamesGood sc names = (name : List ℕ) (h : Held) → names name ≡ Some h → IsGoodAt sc h.spot h.ty

-- ---- parts

and_parts : (a b : Bool) → (a && b) ≡ true → (a ≡ true) × (b ≡ true)
and_parts true b e = (refl, e)
and_parts false b e = absurd (cc)

-- well-formed assignments that aren't deep are plain
part_plain : (sc : Scope) (k : ℕ) (ss : List Sta) → AreInOrder k ss → are_fit sc false (block_of ss) ≡ true → block_depth (block_of ss) ≤ 200 → ArePlain sc ss
part_plain sc k [] h fit deep = tt
part_plain sc k (Set j e ∷ ss) h fit deep =
    let both = and_parts (is_fit sc false (Set j e)) (are_fit sc false (block_of ss)) fit in (
      record { fit = both.0; counters = refl; shallow = omega (arith, deep) },
      part_plain sc (suc k) ss h.2 both.1 (omega (arith, deep)),
    )
part_plain sc k (Store array at e ∷ ss) h fit deep = absurd h
part_plain sc k (If t body ∷ ss) h fit deep = absurd h
part_plain sc k (IfElse t body other ∷ ss) h fit deep = absurd h
part_plain sc k (For c count body ∷ ss) h fit deep = absurd h
part_plain sc k (While t body ∷ ss) h fit deep = absurd h
part_plain sc k (Break ∷ ss) h fit deep = absurd h
part_plain sc k (Continue ∷ ss) h fit deep = absurd h
part_plain sc k (Return status ∷ ss) h fit deep = absurd h

-- what is behind other statements is plain, and its value can be read
abbrev pub GoodLow : Scope → Low → Type 0
GoodLow sc low = ArePlain sc low.emitted.sets × IsGoodAt sc low.held.spot low.held.ty

-- the next variable takes a value
set_good : (sc : Scope) (t : NumericType) (m : Option Fimath) (e : Exp) (em : Emitted) (rest : List CWord) → sc.words ≡ (em.words ++ (word_for t.signed ∷ [])) ++ rest → ArePlain sc em.sets → HasType sc e (word_for t.signed) → exp_depth e ≤ 200 → IsWithin t → GoodLow sc (next_low t m e em)
unfolding IsGoodAt
set_good sc t m e em rest fits plain typed deep within =
    let here : slice_get sc.words (length em.words) ≡ Some (word_for t.signed) =
    ap (λ ws. slice_get ws (length em.words)) (fits ∙ append_assoc em.words (word_for t.signed ∷ []) rest) ∙ get_behind em.words rest (word_for t.signed) in
    (plain_append sc em.sets _ plain (set_plain sc (length em.words) e (word_for t.signed) here typed deep, tt), record { typed = here; limits = within })

-- a part, and then its value into the next variable
part_good : (sc : Scope) (t : NumericType) (m : Option Fimath) (p : Part) (os : List part.Operand) (result : List ℤ → ℤ) (em : Emitted) (rest : List CWord) → IsPart os (length em.words) t.signed result p → All (IsTyped sc) os → deepest os ≤ 100 → sc.words ≡ ((em.words ++ p.words) ++ (word_for t.signed ∷ [])) ++ rest → ArePlain sc em.sets → IsWithin t → GoodLow sc (with_part t m p em)
part_good sc t m p os result em rest is typed deep fits plain within =
    let fits_p : sc.words ≡ (em.words ++ p.words) ++ ((word_for t.signed ∷ []) ++ rest) = fits ∙ append_assoc (em.words ++ p.words) (word_for t.signed ∷ []) rest in
    let have : AreDeclared (length em.words) p.words sc.words = subst (AreDeclared (length em.words) p.words) (sym fits_p) (declared em.words p.words ((word_for t.signed ∷ []) ++ rest)) in
    let own = part_plain sc (length em.words) p.before is.in_order (is.fits sc have typed) (omega (arith, is.shallow, deep)) in
    set_good sc t m p.value (record { sets = em.sets ++ p.before; words = em.words ++ p.words }) rest fits (plain_append sc em.sets p.before plain own)
    (is.typed sc have typed) (omega (arith, is.shallow_value, deep)) within

operand_typed : (sc : Scope) (o : Operand) → IsGood sc o → IsTyped sc (read_operand o)
operand_typed sc o h = record { typed = h.typed }

-- ---- operators

operated_good : (w : Work) (m : Fimath) (attached : Option Fimath) (sc : Scope) (t : NumericType) (a b : Operand) (em : Emitted) (low : Low) (rest : List CWord) → work_made w m a.num b.num ≡ Is t → IsOperated w m attached t a b em low → sc.words ≡ low.emitted.words ++ rest → ArePlain sc em.sets → IsGood sc a → IsGood sc b → GoodLow sc low
operated_good w m attached sc t a b em low rest e h fits plain p q =
    let fits_made : sc.words ≡ ((em.words ++ h.own.words) ++ (word_for t.signed ∷ [])) ++ rest = fits ∙ ap (λ l. l.emitted.words ++ rest) h.is in
    let typed : All (IsTyped sc) (read_operand a ∷ read_operand b ∷ []) =
    All-cons (IsTyped sc) (read_operand a) (read_operand b ∷ []) (operand_typed sc a p) (All-cons (IsTyped sc) (read_operand b) [] (operand_typed sc b q) (All-nil (IsTyped sc))) in
    subst (GoodLow sc) (sym h.is)
    (part_good sc t attached h.own (read_operand a ∷ read_operand b ∷ []) _ em rest (operated_part w m t a b (length em.words) h.own h.operates) typed (omega (arith, read_depth a.spot, read_depth b.spot)) fits_made plain (operated_within w m a.num b.num t a b (length em.words) h.own h.operates e))

-- a part with one operand
one_good : (sc : Scope) (t : NumericType) (m : Option Fimath) (p : Part) (a : Operand) (result : List ℤ → ℤ) (em : Emitted) (low : Low) (rest : List CWord) → low ≡ with_part t m p em → IsPart (read_operand a ∷ []) (length em.words) t.signed result p → IsWithin t → sc.words ≡ low.emitted.words ++ rest → ArePlain sc em.sets → IsGood sc a → GoodLow sc low
one_good sc t m p a result em low rest is part within fits plain good =
    let fits_made : sc.words ≡ ((em.words ++ p.words) ++ (word_for t.signed ∷ [])) ++ rest = fits ∙ ap (λ l. l.emitted.words ++ rest) is in
    let typed : All (IsTyped sc) (read_operand a ∷ []) = All-cons (IsTyped sc) (read_operand a) [] (operand_typed sc a good) (All-nil (IsTyped sc)) in
    subst (GoodLow sc) (sym is) (part_good sc t m p (read_operand a ∷ []) result em rest part typed (omega (arith, read_depth a.spot)) fits_made plain within)

turned_good : (turn : Turn) (attached : Option Fimath) (sc : Scope) (a : Operand) (em : Emitted) (low : Low) (rest : List CWord) → IsTurned turn attached a em low → sc.words ≡ low.emitted.words ++ rest → ArePlain sc em.sets → IsGood sc a → GoodLow sc low
unfolding Turns
turned_good Negate attached sc a em low rest h fits plain p = one_good sc a.num attached h.own a _ em low rest h.is h.turns p.limits fits plain p
turned_good Remove attached sc a em low rest h fits plain p = one_good sc a.num attached h.own a _ em low rest h.is h.turns p.limits fits plain p

taken_good : (sc : Scope) (t : NumericType) (m : Option Fimath) (a : Operand) (em : Emitted) (low : Low) (rest : List CWord) → IsWithin t → IsTaken t m a em low → sc.words ≡ low.emitted.words ++ rest → ArePlain sc em.sets → IsGood sc a → GoodLow sc low
taken_good sc t m a em low rest within h fits plain p = one_good sc t m h.own a _ em low rest h.is h.quantises within fits plain p

-- a stored integer in the text
literal_good : (sc : Scope) (t : NumericType) (z : ℤ) → InRange t.signed t.word z → IsWithin t → IsGood sc (record { spot = Literal t.signed z; num = t })
literal_good sc t z range within = record { typed = (literal_typed t.signed t.word z sc within.bits range).is; limits = within }

-- what stands where it did
same_good : (sc : Scope) (em : Emitted) (low : Low) (h : Held) → low ≡ record { held = h; emitted = em } → ArePlain sc em.sets → IsGoodAt sc h.spot h.ty → GoodLow sc low
same_good sc em low h is plain good = subst (GoodLow sc) (sym is) (plain, good)

side_good : (sc : Scope) (u : Ty) (a : Side) (spot : Spot) (o : Operand) (t : NumericType) → IsSide u a → side_made a a.stored ≡ Is t → IsGoodAt sc spot u → operand_at spot a a.stored ≡ Some o → IsGood sc o × (o.num ≡ a.num)
unfolding IsGoodAt
side_good sc u a spot o t (inl f) made good at =
    let is = fi_operand_is spot a o (ap (operand_at spot a) (sym f.1) ∙ at) in
    let g : IsGood sc (record { spot = spot; num = a.num }) = subst (IsGoodAt sc spot) f.0 good in
    (subst (IsGood sc) (sym is) g, ap (λ (p : Operand). p.num) is)
side_good sc u a spot o t (inr c) made good at =
    let l = good_literal u a spot o t c made at in
    (subst (IsGood sc) (sym l.is) (literal_good sc a.num l.integer l.range l.limits), ap (λ (p : Operand). p.num) l.is)

worked_good : (w : Work) (sc : Scope) (r : Working) (x y : Held) (em : Emitted) (low : Low) (rest : List CWord) → WorksAs w x.ty y.ty r → IsWorked w r x.spot y.spot em low → sc.words ≡ low.emitted.words ++ rest → ArePlain sc em.sets → IsGoodAt sc x.spot x.ty → IsGoodAt sc y.spot y.ty → GoodLow sc low
unfolding IsWorked IsGoodAt
worked_good w sc (FoldsTo t) x y em low rest c h fits plain p q = same_good sc em low (record { spot = nowhere; ty = scalar_number c.0 }) (h ∙ ap (λ u. known u em) c.1) plain tt
worked_good w sc (Computes a b g t) x y em low rest c h fits plain p q =
    let l = side_good sc x.ty a x.spot h.left c.left_type c.left c.left_made p h.left_at in
    let r = side_good sc y.ty b y.spot h.right c.right_type c.right c.right_made q h.right_at in
    operated_good w g.math g.attached sc t h.left h.right em low rest ((λ i. work_made w g.math (l.1 i) (r.1 i)) ∙ c.made) h.operated fits plain l.0 r.0

paired_good : (w : Work) (sc : Scope) (x y : Held) (em : Emitted) (low : Low) (rest : List CWord) → IsPaired w x y em low → sc.words ≡ low.emitted.words ++ rest → ArePlain sc em.sets → IsGoodAt sc x.spot x.ty → IsGoodAt sc y.spot y.ty → GoodLow sc low
paired_good w sc x y em low rest h fits plain p q = worked_good w sc h.working x y em low rest (pair_works w x.ty y.ty h.working h.checked) h.is fits plain p q

negated_good : (sc : Scope) (s : Ty) (spot : Spot) (u : Ty) (em : Emitted) (low : Low) (rest : List CWord) → minus_checked s ≡ Fine u → IsNegated s spot u em low → sc.words ≡ low.emitted.words ++ rest → ArePlain sc em.sets → IsGoodAt sc spot s → GoodLow sc low
unfolding IsNegated IsGoodAt minus_checked
negated_good sc (FiTy t m) spot u em low rest c h fits plain p = turned_good Negate m sc (record { spot = spot; num = t }) em low rest h fits plain p
negated_good sc (NumberTy s cs) spot u em low rest c h fits plain p = same_good sc em low (record { spot = nowhere; ty = NumberTy s (map negated cs) }) (h ∙ ap (λ v. known v em) (sym (fine_is _ u c))) plain tt
negated_good sc (TextTy text) spot u em low rest c h fits plain p = absurd h
negated_good sc (MathTy m) spot u em low rest c h fits plain p = absurd h
negated_good sc (TypeTy t) spot u em low rest c h fits plain p = absurd h
negated_good sc OtherTy spot u em low rest c h fits plain p = absurd h

has_sign_good : (sign : UnOp) (sc : Scope) (x : Held) (u : Ty) (em : Emitted) (low : Low) (rest : List CWord) → sign_checked sign x.ty ≡ Fine u → HasSign sign x u em low → sc.words ≡ low.emitted.words ++ rest → ArePlain sc em.sets → IsGoodAt sc x.spot x.ty → GoodLow sc low
unfolding HasSign sign_checked
has_sign_good un.Plus sc x u em low rest c h fits plain p = same_good sc em low x h plain p
has_sign_good un.Minus sc x u em low rest c h fits plain p = negated_good sc x.ty x.spot u em low rest c h fits plain p
has_sign_good un.Not sc x u em low rest c h fits plain p = absurd h

-- ---- calls

-- arguments whose fis can be read
abbrev pub GoodArgs : Scope → List Ty → List Spot → Type 0
GoodArgs sc [] [] = Unit {0}
GoodArgs sc (u ∷ us) (p ∷ ps) = IsGoodAt sc p u × GoodArgs sc us ps
GoodArgs sc us ps = ⊥

args_more : (sc : Scope) (us : List Ty) (ps : List Spot) (u : Ty) (p : Spot) → GoodArgs sc us ps → IsGoodAt sc p u → GoodArgs sc (us ++ (u ∷ [])) (ps ++ (p ∷ []))
args_more sc [] [] u p h g = (g, tt)
args_more sc [] (q ∷ ps) u p h g = absurd h
args_more sc (t ∷ us) [] u p h g = absurd h
args_more sc (t ∷ us) (q ∷ ps) u p h g = (h.0, args_more sc us ps u p h.1 g)

taken_from_good : (sc : Scope) (t : NumericType) (m : Option Fimath) (u : Ty) (spot : Spot) (em : Emitted) (low : Low) (rest : List CWord) → IsWithin t → IsTakenFrom t m u spot em low → sc.words ≡ low.emitted.words ++ rest → ArePlain sc em.sets → IsGoodAt sc spot u → GoodLow sc low
unfolding IsTakenFrom IsGoodAt
taken_from_good sc t m (FiTy u n) spot em low rest within h fits plain p = taken_good sc t m (record { spot = spot; num = u }) em low rest within h fits plain p
taken_from_good sc t m (NumberTy s (c ∷ [])) spot em low rest within h fits plain p =
    same_good sc em low (record { spot = Literal t.signed (taken_constant t m c); ty = FiTy t m }) h plain
    (literal_good sc t (taken_constant t m c) (quantised_in (math_of m).rounding (math_of m).overflow t c.significand (neg_ℤ c.exponent) within.one_bit) within)
taken_from_good sc t m (NumberTy s []) spot em low rest within h fits plain p = absurd h
taken_from_good sc t m (NumberTy s (c ∷ d ∷ cs)) spot em low rest within h fits plain p = absurd h
taken_from_good sc t m (TextTy text) spot em low rest within h fits plain p = absurd h
taken_from_good sc t m (MathTy n) spot em low rest within h fits plain p = absurd h
taken_from_good sc t m (TypeTy u) spot em low rest within h fits plain p = absurd h
taken_from_good sc t m OtherTy spot em low rest within h fits plain p = absurd h

object_good : (sc : Scope) (t : Ty) (em : Emitted) (low : Low) → BuiltAs (Object t) → low ≡ known t em → ArePlain sc em.sets → GoodLow sc low
unfolding IsGoodAt
object_good sc (TypeTy t) em low a h plain = same_good sc em low (record { spot = nowhere; ty = TypeTy t }) h plain tt
object_good sc (MathTy m) em low a h plain = same_good sc em low (record { spot = nowhere; ty = MathTy m }) h plain tt
object_good sc (FiTy t m) em low a h plain = absurd a
object_good sc (NumberTy s cs) em low a h plain = absurd a
object_good sc (TextTy text) em low a h plain = absurd a
object_good sc OtherTy em low a h plain = absurd a

attached_good : (sc : Scope) (t : NumericType) (n m : Option Fimath) (spot : Spot) (em : Emitted) (low : Low) → low ≡ fi_at spot t m em → ArePlain sc em.sets → IsGoodAt sc spot (FiTy t n) → GoodLow sc low
unfolding IsGoodAt
attached_good sc t n m spot em low h plain p = same_good sc em low (record { spot = spot; ty = FiTy t m }) h plain p

sign_taken_good : (sc : Scope) (t : NumericType) (m : Option Fimath) (spot : Spot) (em : Emitted) (low : Low) (rest : List CWord) → IsTurned Remove m (record { spot = spot; num = t }) em low → sc.words ≡ low.emitted.words ++ rest → ArePlain sc em.sets → IsGoodAt sc spot (FiTy t m) → GoodLow sc low
unfolding IsGoodAt
sign_taken_good sc t m spot em low rest h fits plain p = turned_good Remove m sc (record { spot = spot; num = t }) em low rest h fits plain p

built_good : (sc : Scope) (r : Built) (us : List Ty) (ps : List Spot) (em : Emitted) (low : Low) (rest : List CWord) → BuiltAs r → IsBuilt r us ps em low → sc.words ≡ low.emitted.words ++ rest → ArePlain sc em.sets → GoodArgs sc us ps → GoodLow sc low
unfolding IsBuilt
built_good sc (Object t) us ps em low rest a h fits plain p = object_good sc t em low a h plain
built_good sc (Taken t m) (u ∷ us) (q ∷ ps) em low rest a h fits plain p = taken_from_good sc t m u q em low rest a h fits plain p.0
built_good sc (Attached m) (FiTy t n ∷ us) (q ∷ ps) em low rest a h fits plain p = attached_good sc t n m q em low h plain p.0
built_good sc SignTaken (FiTy t m ∷ us) (q ∷ ps) em low rest a h fits plain p = sign_taken_good sc t m q em low rest h fits plain p.0
built_good sc (Taken t m) [] ps em low rest a h fits plain p = absurd h
built_good sc (Taken t m) (u ∷ us) [] em low rest a h fits plain p = absurd h
built_good sc (Attached m) [] ps em low rest a h fits plain p = absurd h
built_good sc (Attached m) (FiTy t n ∷ us) [] em low rest a h fits plain p = absurd h
built_good sc (Attached m) (NumberTy sh cs ∷ us) ps em low rest a h fits plain p = absurd h
built_good sc (Attached m) (TextTy text ∷ us) ps em low rest a h fits plain p = absurd h
built_good sc (Attached m) (MathTy n ∷ us) ps em low rest a h fits plain p = absurd h
built_good sc (Attached m) (TypeTy t ∷ us) ps em low rest a h fits plain p = absurd h
built_good sc (Attached m) (OtherTy ∷ us) ps em low rest a h fits plain p = absurd h
built_good sc SignTaken [] ps em low rest a h fits plain p = absurd h
built_good sc SignTaken (FiTy t m ∷ us) [] em low rest a h fits plain p = absurd h
built_good sc SignTaken (NumberTy sh cs ∷ us) ps em low rest a h fits plain p = absurd h
built_good sc SignTaken (TextTy text ∷ us) ps em low rest a h fits plain p = absurd h
built_good sc SignTaken (MathTy n ∷ us) ps em low rest a h fits plain p = absurd h
built_good sc SignTaken (TypeTy t ∷ us) ps em low rest a h fits plain p = absurd h
built_good sc SignTaken (OtherTy ∷ us) ps em low rest a h fits plain p = absurd h

called_good : (cx : Context) (name : List ℕ) (sc : Scope) (us : List Ty) (ps : List Spot) (em : Emitted) (low : Low) (rest : List CWord) → IsCalled cx name us ps em low → sc.words ≡ low.emitted.words ++ rest → ArePlain sc em.sets → GoodArgs sc us ps → GoodLow sc low
called_good cx name sc us ps em low rest h fits plain p = built_good sc h.by.made us ps em low rest (call_built h.function us h.by.made h.by.checked) h.by.is fits plain p

-- ---- expressions

constant_good : (sc : Scope) (em : Emitted) (low : Low) (text : List ℕ) → IsLiteral text em low → ArePlain sc em.sets → GoodLow sc low
unfolding IsGoodAt
constant_good sc em low text h plain = same_good sc em low (record { spot = nowhere; ty = scalar_number h.constant }) h.is plain tt

text_good : (sc : Scope) (em : Emitted) (low : Low) (text : List ℕ) → low ≡ known (TextTy text) em → ArePlain sc em.sets → GoodLow sc low
unfolding IsGoodAt
text_good sc em low text h plain = same_good sc em low (record { spot = nowhere; ty = TextTy text }) h plain tt

-- arguments that are lowered
abbrev pub GoodPassed : Scope → Passed → Type 0
GoodPassed sc p = ArePlain sc p.emitted.sets × GoodArgs sc p.types p.spots

mutual
  -- what is lowered is plain
  pub lowers_plain : (e : ast.Exp) (cx : Context) (names : Names) (em : Emitted) (low : Low) → IsLowered e cx names em low → (sc : Scope) (rest : List CWord) → sc.words ≡ low.emitted.words ++ rest → NamesGood sc names → ArePlain sc em.sets → GoodLow sc low
  lowers_plain (Name at name) cx names em low (inl h) sc rest fits good plain = same_good sc em low h.held h.is plain (good name h.held h.here)
  lowers_plain (Name at name) cx names em low (inr h) sc rest fits good plain = called_good cx name sc [] [] em low rest h fits plain tt
  lowers_plain (Unary at sign e) cx names em low h sc rest fits good plain =
      let add = signed_adds sign h.0.held h.0.emitted low h.2 in
      let fits_x : sc.words ≡ h.0.emitted.words ++ (add.extra ++ rest) = rest_of sc.words h.0.emitted.words add.extra rest low.emitted.words fits add.words in
      let p = lowers_plain e cx names em h.0 h.1 sc (add.extra ++ rest) fits_x good plain in
      has_sign_good sign sc h.0.held h.2.ty h.0.emitted low rest h.2.checked h.2.is fits p.0 p.1
  lowers_plain (ast.Binary at operator a b) cx names em low h sc rest fits good plain =
      let last = paired_adds (work_of operator) h.0.held h.2.held h.2.emitted low h.4 in
      let fits_y : sc.words ≡ h.2.emitted.words ++ (last.extra ++ rest) = rest_of sc.words h.2.emitted.words last.extra rest low.emitted.words fits last.words in
      let add = adds b cx names h.0.emitted h.2 h.3 in
      let fits_x : sc.words ≡ h.0.emitted.words ++ (add.extra ++ (last.extra ++ rest)) = rest_of sc.words h.0.emitted.words add.extra (last.extra ++ rest) h.2.emitted.words fits_y add.words in
      let p = lowers_plain a cx names em h.0 h.1 sc (add.extra ++ (last.extra ++ rest)) fits_x good plain in
      let q = lowers_plain b cx names h.0.emitted h.2 h.3 sc (last.extra ++ rest) fits_y good p.0 in
      paired_good (work_of operator) sc h.0.held h.2.held h.2.emitted low rest h.4 fits q.0 p.1 q.1
  lowers_plain (Paren at e) cx names em low h sc rest fits good plain = lowers_plain e cx names em low h sc rest fits good plain
  lowers_plain (Apply at name opens args) cx names em low h sc rest fits good plain =
      let add = called_adds cx name h.0.types h.0.spots h.0.emitted low h.2 in
      let fits_p : sc.words ≡ h.0.emitted.words ++ (add.extra ++ rest) = rest_of sc.words h.0.emitted.words add.extra rest low.emitted.words fits add.words in
      let p = args_plain args cx names (nothing_passed em) h.0 h.1 sc (add.extra ++ rest) fits_p good (plain, tt) in
      called_good cx name sc h.0.types h.0.spots h.0.emitted low rest h.2 fits p.0 p.1
  lowers_plain (Number at text imaginary) cx names em low h sc rest fits good plain = constant_good sc em low text h.1 plain
  lowers_plain (Words at text) cx names em low h sc rest fits good plain = text_good sc em low text h plain
  lowers_plain (End at) cx names em low h sc rest fits good plain = absurd h
  lowers_plain (Post at mark e) cx names em low h sc rest fits good plain = absurd h
  lowers_plain (Range at first last) cx names em low h sc rest fits good plain = absurd h
  lowers_plain (RangeBy at first step last) cx names em low h sc rest fits good plain = absurd h
  lowers_plain (Matrix at rows) cx names em low h sc rest fits good plain = absurd h

  pub args_plain : (args : Args) (cx : Context) (names : Names) (p q : Passed) → AreLowered args cx names p q → (sc : Scope) (rest : List CWord) → sc.words ≡ q.emitted.words ++ rest → NamesGood sc names → GoodPassed sc p → GoodPassed sc q
  args_plain NoArgs cx names p q h sc rest fits good g = subst (GoodPassed sc) (sym h) g
  args_plain (Whole more) cx names p q h sc rest fits good g = absurd h
  args_plain (Item e more) cx names p q h sc rest fits good g =
      let add = args_add more cx names (with_passed p h.0) q h.2 in
      let fits_x : sc.words ≡ h.0.emitted.words ++ (add.extra ++ rest) = rest_of sc.words h.0.emitted.words add.extra rest q.emitted.words fits add.words in
      let x = lowers_plain e cx names p.emitted h.0 h.1 sc (add.extra ++ rest) fits_x good g.0 in
      args_plain more cx names (with_passed p h.0) q h.2 sc rest fits good (x.0, args_more sc p.types p.spots h.0.held.ty h.0.held.spot g.1 x.1)
