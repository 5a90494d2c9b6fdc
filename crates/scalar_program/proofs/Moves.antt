-- Runs of the statements that are added, and what stands behind them.
use Rattle.std.proofs.Common.{◌≡◌, ◌≤◌, ◌++◌, List, [], ◌∷◌, length, map, ℤ, refl, sym, ap, ◌∙◌, subst, arith, append_assoc, append-nil}
use Rattle.std.specs.Prelude.{Option}
use Rattle.fic_base.specs.declared.place.Place.{Place}
use Rattle.num_type.specs.Types.{NumericType}
use Rattle.fi_math.specs.declared.fimath.Fimath.{Fimath}
use Rattle.fi_rules.specs.Value.{Val, Fi, scalar}
use Rattle.fi_rules.specs.Types.{Ty}
use Rattle.fi_eval.specs.Outcome as got
use Rattle.fi_eval.specs.Outcome.{Got}
use Rattle.c_tree.specs.declared.tree.CWord.{CWord}
use Rattle.c_tree.specs.Tree.{Sta}
use Rattle.c_tree.specs.Meaning.{State}
use Rattle.scalar_program.specs.Lowered.{Held, Emitted, Low, known, nowhere}
use Rattle.scalar_program.proofs.Says.{HeldStands}
use Rattle.scalar_program.proofs.Runs.{word_type, RunsTo, runs_nothing, runs_both, IsBelow, Keeps, keeps_both}
use Rattle.scalar_program.proofs.Stepped.{Stepped}

-- a run of what is added behind statements
pub record Moves (em later : Emitted) (st : State) (all : List CWord) : Type 0 where
  pub more : List Sta
  pub is : later.sets ≡ em.sets ++ more
  pub after : State
  pub does : RunsTo more st after
  pub keeps : Keeps (length em.words) st after
  pub typed : map word_type after.words ≡ all
  pub wider : length em.words ≤ length later.words

abbrev pub stays : (em : Emitted) (st : State) (all : List CWord) → map word_type st.words ≡ all → Moves em em st all
stays em st all typed = record {
  more = [];
  is = sym (append-nil em.sets);
  after = st;
  does = runs_nothing st;
  keeps = record { inputs = refl; outputs = refl; words = λ k l. refl };
  typed = typed;
  wider = omega arith;
}

abbrev pub moves_on : (em mid later : Emitted) (st : State) (all : List CWord) → (p : Moves em mid st all) → Moves mid later p.after all → Moves em later st all
moves_on em mid later st all p q = record {
  more = p.more ++ q.more;
  is = q.is ∙ ap (λ l. l ++ q.more) p.is ∙ append_assoc em.sets p.more q.more;
  after = q.after;
  does = runs_both p.more q.more st p.after q.after p.does q.does;
  keeps = keeps_both (length em.words) (length mid.words) st p.after q.after p.wider p.keeps q.keeps;
  typed = q.typed;
  wider = omega (arith, p.wider, q.wider);
}

-- behind such a run stands the value that this gives
pub record Reached (em : Emitted) (low : Low) (st : State) (all : List CWord) (result : Got Place Val) : Type 0 where
  pub moves : Moves em low.emitted st all
  pub v : Val
  pub gives : result ≡ got.Gives v
  pub stands : HeldStands moves.after low.held.spot low.held.ty v
  pub below : IsBelow low.held.spot (length low.emitted.words)

-- behind another run
pub reached_on : (em mid : Emitted) (low : Low) (st : State) (all : List CWord) (result whole : Got Place Val) → (p : Moves em mid st all) → Reached mid low p.after all result → whole ≡ result → Reached em low st all whole
reached_on em mid low st all result whole p r e =
    record { moves = moves_on em mid low.emitted st all p r.moves; v = r.v; gives = e ∙ r.gives; stands = r.stands; below = r.below }

-- the same result
pub reached_as : (em : Emitted) (low : Low) (st : State) (all : List CWord) (result whole : Got Place Val) → Reached em low st all result → whole ≡ result → Reached em low st all whole
reached_as em low st all result whole r e = record { moves = r.moves; v = r.v; gives = e ∙ r.gives; stands = r.stands; below = r.below }

-- a fi that a part has computed
pub stepped_reached : (em : Emitted) (low : Low) (t : NumericType) (m : Option Fimath) (st : State) (all : List CWord) (z : ℤ) (result : Got Place Val) → Stepped em low t m st all z → result ≡ got.Gives (Fi t m scalar (z ∷ [])) → Reached em low st all result
unfolding HeldStands
stepped_reached em low t m st all z result s e = record {
  moves = record { more = s.more; is = s.is; after = s.after; does = s.does; keeps = s.keeps; typed = s.typed; wider = s.wider };
  v = Fi t m scalar (z ∷ []);
  gives = e;
  stands = subst (λ u. HeldStands s.after low.held.spot u (Fi t m scalar (z ∷ []))) (sym s.ty) (z, refl, s.stands);
  below = s.below;
}

-- what stands already
pub stays_reached : (em : Emitted) (low : Low) (h : Held) (st : State) (all : List CWord) (v : Val) (result : Got Place Val) → low ≡ record { held = h; emitted = em } → map word_type st.words ≡ all → HeldStands st h.spot h.ty v → IsBelow h.spot (length em.words) → result ≡ got.Gives v → Reached em low st all result
stays_reached em low h st all v result is typed stands below e =
    subst (λ l. Reached em l st all result) (sym is) (record { moves = stays em st all typed; v = v; gives = e; stands = stands; below = below })

-- what is known without a run
pub known_reached : (em : Emitted) (low : Low) (u : Ty) (st : State) (all : List CWord) (v : Val) (result : Got Place Val) → low ≡ known u em → map word_type st.words ≡ all → HeldStands st nowhere u v → result ≡ got.Gives v → Reached em low st all result
known_reached em low u st all v result is typed stands e = stays_reached em low (record { spot = nowhere; ty = u }) st all v result is typed stands tt e
