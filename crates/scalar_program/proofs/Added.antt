-- What is lowered behind statements only adds some.
use Rattle.std.proofs.Common.{◌≡◌, ℕ, List, [], ◌∷◌, ◌++◌, inl, inr, sym, subst, append_assoc}
use Rattle.std.specs.Prelude.{Option}
use Rattle.mat_ast.specs.declared.tree.UnOp.{UnOp}
use Rattle.mat_ast.specs.declared.tree.UnOp.TheVariants as un
use Rattle.mat_ast.specs.Tree as ast
use Rattle.mat_ast.specs.Tree.{Number, Words, Name, Apply, Args, NoArgs, Whole, Item, End, Unary, Post, Range, RangeBy, Paren, Matrix}
use Rattle.num_type.specs.Types.{NumericType}
use Rattle.fi_math.specs.declared.fimath.Fimath.{Fimath}
use Rattle.fi_rules.specs.declared.work.Work.{Work}
use Rattle.fi_rules.specs.Types.{Ty, FiTy, NumberTy, TextTy, MathTy, TypeTy, OtherTy}
use Rattle.fi_rules.specs.Pairs.{Working, FoldsTo, Computes, work_of}
use Rattle.fi_rules.specs.Calls.{Built, Taken, Attached, SignTaken, Object}
use Rattle.fi_eval.specs.Operators.{Turn, Negate, Remove}
use Rattle.fi_eval.specs.Meaning.{Context}
use Rattle.c_tree.specs.declared.tree.CWord.{CWord}
use Rattle.c_tree.specs.Tree.{Sta}
use Rattle.scalar_program.specs.Lowered.{Spot, Operand, Held, Names, Emitted, Low, Passed, IsLowered, AreLowered, IsOperated, IsTurned, IsTaken, IsTakenFrom, IsWorked, IsPaired, IsNegated, HasSign, IsSigned, IsBuilt, IsCalled, nothing_passed, with_passed}
use Rattle.scalar_program.proofs.Runs.{Adds, adds_nothing, adds_both}

part_adds : (em : Emitted) (ss : List Sta) (ws : List CWord) (last : Sta) (word : CWord) → Adds em (record { sets = (em.sets ++ ss) ++ (last ∷ []); words = (em.words ++ ws) ++ (word ∷ []) })
part_adds em ss ws last word = record { more = ss ++ (last ∷ []); sets = append_assoc em.sets ss (last ∷ []); extra = ws ++ (word ∷ []); words = append_assoc em.words ws (word ∷ []) }

operated_adds : (w : Work) (m : Fimath) (attached : Option Fimath) (t : NumericType) (a b : Operand) (em : Emitted) (low : Low) → IsOperated w m attached t a b em low → Adds em low.emitted
operated_adds w m attached t a b em low h = subst (λ l. Adds em l.emitted) (sym h.is) (part_adds em h.own.before h.own.words _ _)

turned_adds : (turn : Turn) (attached : Option Fimath) (a : Operand) (em : Emitted) (low : Low) → IsTurned turn attached a em low → Adds em low.emitted
turned_adds turn attached a em low h = subst (λ l. Adds em l.emitted) (sym h.is) (part_adds em h.own.before h.own.words _ _)

taken_adds : (t : NumericType) (m : Option Fimath) (a : Operand) (em : Emitted) (low : Low) → IsTaken t m a em low → Adds em low.emitted
taken_adds t m a em low h = subst (λ l. Adds em l.emitted) (sym h.is) (part_adds em h.own.before h.own.words _ _)

same_adds : (em : Emitted) (low : Low) (h : Held) → low ≡ record { held = h; emitted = em } → Adds em low.emitted
same_adds em low h is = subst (λ l. Adds em l.emitted) (sym is) (adds_nothing em)

worked_adds : (w : Work) (r : Working) (p q : Spot) (em : Emitted) (low : Low) → IsWorked w r p q em low → Adds em low.emitted
unfolding IsWorked
worked_adds w (FoldsTo t) p q em low h = same_adds em low _ h
worked_adds w (Computes a b g t) p q em low h = operated_adds w g.math g.attached t h.left h.right em low h.operated

pub paired_adds : (w : Work) (x y : Held) (em : Emitted) (low : Low) → IsPaired w x y em low → Adds em low.emitted
paired_adds w x y em low h = worked_adds w h.working x.spot y.spot em low h.is

negated_adds : (s : Ty) (spot : Spot) (u : Ty) (em : Emitted) (low : Low) → IsNegated s spot u em low → Adds em low.emitted
unfolding IsNegated
negated_adds (FiTy t m) spot u em low h = turned_adds Negate m (record { spot = spot; num = t }) em low h
negated_adds (NumberTy s cs) spot u em low h = same_adds em low _ h
negated_adds (TextTy text) spot u em low h = absurd h
negated_adds (MathTy m) spot u em low h = absurd h
negated_adds (TypeTy t) spot u em low h = absurd h
negated_adds OtherTy spot u em low h = absurd h

has_sign_adds : (sign : UnOp) (x : Held) (u : Ty) (em : Emitted) (low : Low) → HasSign sign x u em low → Adds em low.emitted
unfolding HasSign
has_sign_adds un.Plus x u em low h = same_adds em low x h
has_sign_adds un.Minus x u em low h = negated_adds x.ty x.spot u em low h
has_sign_adds un.Not x u em low h = absurd h

pub signed_adds : (sign : UnOp) (x : Held) (em : Emitted) (low : Low) → IsSigned sign x em low → Adds em low.emitted
signed_adds sign x em low h = has_sign_adds sign x h.ty em low h.is

taken_from_adds : (t : NumericType) (m : Option Fimath) (u : Ty) (spot : Spot) (em : Emitted) (low : Low) → IsTakenFrom t m u spot em low → Adds em low.emitted
unfolding IsTakenFrom
taken_from_adds t m (FiTy u n) spot em low h = taken_adds t m (record { spot = spot; num = u }) em low h
taken_from_adds t m (NumberTy s (c ∷ [])) spot em low h = same_adds em low _ h
taken_from_adds t m (NumberTy s []) spot em low h = absurd h
taken_from_adds t m (NumberTy s (c ∷ d ∷ cs)) spot em low h = absurd h
taken_from_adds t m (TextTy text) spot em low h = absurd h
taken_from_adds t m (MathTy n) spot em low h = absurd h
taken_from_adds t m (TypeTy u) spot em low h = absurd h
taken_from_adds t m OtherTy spot em low h = absurd h

built_adds : (r : Built) (us : List Ty) (ps : List Spot) (em : Emitted) (low : Low) → IsBuilt r us ps em low → Adds em low.emitted
unfolding IsBuilt
built_adds (Object t) us ps em low h = same_adds em low _ h
built_adds (Taken t m) (u ∷ us) (p ∷ ps) em low h = taken_from_adds t m u p em low h
built_adds (Attached m) (FiTy t n ∷ us) (p ∷ ps) em low h = same_adds em low _ h
built_adds SignTaken (FiTy t m ∷ us) (p ∷ ps) em low h = turned_adds Remove m (record { spot = p; num = t }) em low h
built_adds (Taken t m) [] ps em low h = absurd h
built_adds (Taken t m) (u ∷ us) [] em low h = absurd h
built_adds (Attached m) [] ps em low h = absurd h
built_adds (Attached m) (FiTy t n ∷ us) [] em low h = absurd h
built_adds (Attached m) (NumberTy sh cs ∷ us) ps em low h = absurd h
built_adds (Attached m) (TextTy text ∷ us) ps em low h = absurd h
built_adds (Attached m) (MathTy n ∷ us) ps em low h = absurd h
built_adds (Attached m) (TypeTy t ∷ us) ps em low h = absurd h
built_adds (Attached m) (OtherTy ∷ us) ps em low h = absurd h
built_adds SignTaken [] ps em low h = absurd h
built_adds SignTaken (FiTy t m ∷ us) [] em low h = absurd h
built_adds SignTaken (NumberTy sh cs ∷ us) ps em low h = absurd h
built_adds SignTaken (TextTy text ∷ us) ps em low h = absurd h
built_adds SignTaken (MathTy n ∷ us) ps em low h = absurd h
built_adds SignTaken (TypeTy t ∷ us) ps em low h = absurd h
built_adds SignTaken (OtherTy ∷ us) ps em low h = absurd h

pub called_adds : (cx : Context) (name : List ℕ) (us : List Ty) (ps : List Spot) (em : Emitted) (low : Low) → IsCalled cx name us ps em low → Adds em low.emitted
called_adds cx name us ps em low h = built_adds h.by.made us ps em low h.by.is

mutual
  pub adds : (e : ast.Exp) (cx : Context) (names : Names) (em : Emitted) (low : Low) → IsLowered e cx names em low → Adds em low.emitted
  adds (Name at name) cx names em low (inl h) = same_adds em low h.held h.is
  adds (Name at name) cx names em low (inr h) = called_adds cx name [] [] em low h
  adds (Unary at sign e) cx names em low h = adds_both em h.0.emitted low.emitted (adds e cx names em h.0 h.1) (signed_adds sign h.0.held h.0.emitted low h.2)
  adds (ast.Binary at operator a b) cx names em low h =
      adds_both em h.0.emitted low.emitted (adds a cx names em h.0 h.1)
      (adds_both h.0.emitted h.2.emitted low.emitted (adds b cx names h.0.emitted h.2 h.3) (paired_adds (work_of operator) h.0.held h.2.held h.2.emitted low h.4))
  adds (Paren at e) cx names em low h = adds e cx names em low h
  adds (Apply at name opens args) cx names em low h =
      adds_both em h.0.emitted low.emitted (args_add args cx names (nothing_passed em) h.0 h.1) (called_adds cx name h.0.types h.0.spots h.0.emitted low h.2)
  adds (Number at text imaginary) cx names em low h = same_adds em low _ h.1.is
  adds (Words at text) cx names em low h = same_adds em low _ h
  adds (End at) cx names em low h = absurd h
  adds (Post at mark e) cx names em low h = absurd h
  adds (Range at first last) cx names em low h = absurd h
  adds (RangeBy at first step last) cx names em low h = absurd h
  adds (Matrix at rows) cx names em low h = absurd h

  pub args_add : (args : Args) (cx : Context) (names : Names) (p q : Passed) → AreLowered args cx names p q → Adds p.emitted q.emitted
  args_add NoArgs cx names p q h = subst (λ (r : Passed). Adds p.emitted r.emitted) (sym h) (adds_nothing p.emitted)
  args_add (Whole more) cx names p q h = absurd h
  args_add (Item e more) cx names p q h = adds_both p.emitted h.0.emitted q.emitted (adds e cx names p.emitted h.0 h.1) (args_add more cx names (with_passed p h.0) q h.2)
