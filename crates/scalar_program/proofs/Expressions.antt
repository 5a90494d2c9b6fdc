-- The statements of an expression lead to a state in which its value stands.
use Rattle.std.proofs.Common.{◌≡◌, ℕ, ◌≤◌, Bool, true, false, ◌||◌, List, [], ◌∷◌, ◌++◌, length, map, inl, inr, Some, refl, sym, ap, ◌∙◌, subst, append_assoc, append-nil}
use Rattle.std.specs.Prelude.{not}
use Rattle.fic_base.specs.declared.place.Place.{Place}
use Rattle.mat_ast.specs.declared.tree.BinOp.{BinOp}
use Rattle.mat_ast.specs.declared.tree.UnOp.{UnOp}
use Rattle.mat_ast.specs.Tree as ast
use Rattle.mat_ast.specs.Tree.{Number, Words, Name, Apply, Args, NoArgs, Whole, Item, End, Unary, Post, Range, RangeBy, Paren, Matrix}
use Rattle.fi_rules.specs.Value as val
use Rattle.fi_rules.specs.Value.{Val, scalar}
use Rattle.fi_rules.specs.Types.{Ty, TextTy}
use Rattle.fi_rules.specs.Pairs.{work_of, scalar_number}
use Rattle.fi_eval.specs.Outcome as got
use Rattle.fi_eval.specs.Outcome.{Got}
use Rattle.fi_eval.specs.Operators.{operated, signed}
use Rattle.fi_eval.specs.Meaning as source
use Rattle.fi_eval.specs.Meaning.{Env, Context, look_up, is_variable, is_free, is_listed, called, number}
use Rattle.c_tree.specs.declared.tree.CWord.{CWord}
use Rattle.c_tree.specs.Meaning.{State}
use Rattle.scalar_program.specs.Lowered.{Spot, Held, Names, Emitted, Low, Passed, IsLowered, AreLowered, IsRead, IsLiteral, IsCalled, IsPaired, IsSigned, known, nothing_passed, with_passed}
use Rattle.scalar_program.proofs.Says.{HeldStands}
use Rattle.scalar_program.proofs.Runs.{word_type, IsBelow, below_more, Keeps, keeps_held, rest_of}
use Rattle.scalar_program.proofs.Moves.{Moves, stays, moves_on, Reached, reached_on, reached_as, known_reached, stays_reached}
use Rattle.scalar_program.proofs.Operators.{pair_reached, sign_reached}
use Rattle.scalar_program.proofs.Calls.{ArgsStand, AllBelow, call_reached}
use Rattle.scalar_program.proofs.Added.{adds, args_add, paired_adds, signed_adds, called_adds}

-- what the names of a source mean stands in the state
abbrev pub Sees : Names → Context → Env → State → ℕ → Type 0
Sees names cx env st n = (name : List ℕ) (h : Held) → names name ≡ Some h → (v : Val) × (look_up env name ≡ Some v) × HeldStands st h.spot h.ty v × IsBelow h.spot n × (is_variable cx name ≡ true)

pub sees_after : (names : Names) (cx : Context) (env : Env) (st after : State) (m n : ℕ) → m ≤ n → Keeps m st after → Sees names cx env st m → Sees names cx env after n
sees_after names cx env st after m n l keep sees name h e =
    let f = sees name h e in
    (f.0, f.1, keeps_held st after h.spot h.ty f.0 m f.3 keep f.2, below_more h.spot m n l f.3, f.4)

-- behind the statements of an expression stands its value
abbrev pub Ran : Context → Env → ast.Exp → Emitted → Low → State → List CWord → Type 0
Ran cx env e em low st all = Reached em low st all (source.value e cx env)

-- ---- names and constants

read_gives : (cx : Context) (env : Env) (at : Place) (name : List ℕ) (v : Val) → look_up env name ≡ Some v → is_variable cx name ≡ true → source.value (Name at name) cx env ≡ got.Gives v
unfolding got.choose got.or_wrong
read_gives cx env at name v e is = ap (λ b. got.choose b (got.or_wrong at (look_up env name)) (called at cx name [])) is ∙ ap (got.or_wrong at) e

read_runs : (names : Names) (cx : Context) (env : Env) (at : Place) (name : List ℕ) (em : Emitted) (low : Low) (st : State) (all : List CWord) → IsRead names name em low → Sees names cx env st (length em.words) → map word_type st.words ≡ all → Ran cx env (Name at name) em low st all
read_runs names cx env at name em low st all h sees typed =
    let f = sees name h.held h.here in
    stays_reached em low h.held st all f.0 (source.value (Name at name) cx env) h.is typed f.2 f.3 (read_gives cx env at name f.0 f.1 f.4)

free_is : (cx : Context) (name : List ℕ) → is_free cx name ≡ true → is_variable cx name ≡ false
free_is cx name h = by (is_variable cx name) (is_listed name cx.functions) h
  where
    by : (a b : Bool) → not (a || b) ≡ true → a ≡ false
    by true b e = absurd (cc)
    by false b e = refl

call_name_runs : (cx : Context) (env : Env) (at : Place) (name : List ℕ) (em : Emitted) (low : Low) (st : State) (all rest : List CWord) → IsCalled cx name [] [] em low → map word_type st.words ≡ all → all ≡ low.emitted.words ++ rest → Ran cx env (Name at name) em low st all
unfolding got.choose
call_name_runs cx env at name em low st all rest h typed fits =
    reached_as em low st all (called at cx name []) (source.value (Name at name) cx env) (call_reached at cx name [] [] [] em low st all rest h tt tt typed fits)
    (ap (λ b. got.choose b (got.or_wrong at (look_up env name)) (called at cx name [])) (free_is cx name h.free))

literal_runs : (cx : Context) (env : Env) (at : Place) (text : List ℕ) (imaginary : _) (em : Emitted) (low : Low) (st : State) (all : List CWord) → imaginary ≡ false → IsLiteral text em low → map word_type st.words ≡ all → Ran cx env (Number at text imaginary) em low st all
unfolding HeldStands got.choose got.bind got.or_wrong
literal_runs cx env at text imaginary em low st all is h typed =
    known_reached em low (scalar_number h.constant) st all (val.Number scalar (h.constant ∷ [])) (number at text imaginary) h.is typed (refl, refl)
    (ap (number at text) is ∙ ap (λ o. got.bind (got.or_wrong at o) (λ c. got.Gives (val.Number scalar (c ∷ [])))) h.literal)

text_runs : (cx : Context) (env : Env) (at : Place) (text : List ℕ) (em : Emitted) (low : Low) (st : State) (all : List CWord) → low ≡ known (TextTy text) em → map word_type st.words ≡ all → Ran cx env (Words at text) em low st all
unfolding HeldStands
text_runs cx env at text em low st all is typed = known_reached em low (TextTy text) st all (val.Words text) (got.Gives (val.Words text)) is typed refl refl

-- ---- operators

signed_runs : (cx : Context) (env : Env) (at : Place) (sign : UnOp) (e : ast.Exp) (em : Emitted) (x low : Low) (st : State) (all rest : List CWord) → (p : Ran cx env e em x st all) → IsSigned sign x.held x.emitted low → all ≡ low.emitted.words ++ rest → Ran cx env (Unary at sign e) em low st all
unfolding got.bind
signed_runs cx env at sign e em x low st all rest p h fits =
    let r = sign_reached at sign x.held p.v x.emitted low p.moves.after all rest h p.stands p.below p.moves.typed fits in
    reached_on em x.emitted low st all (signed at sign p.v) (source.value (Unary at sign e) cx env) p.moves r (ap (λ g. got.bind g (signed at sign)) p.gives)

paired_runs : (cx : Context) (env : Env) (at : Place) (op : BinOp) (a b : ast.Exp) (em : Emitted) (x y low : Low) (st : State) (all rest : List CWord) → (p : Ran cx env a em x st all) → Ran cx env b x.emitted y p.moves.after all → IsPaired (work_of op) x.held y.held y.emitted low → all ≡ low.emitted.words ++ rest → Ran cx env (ast.Binary at op a b) em low st all
unfolding got.bind
paired_runs cx env at op a b em x y low st all rest p q h fits =
    let left = keeps_held p.moves.after q.moves.after x.held.spot x.held.ty p.v (length x.emitted.words) p.below q.moves.keeps p.stands in
    let r = pair_reached at op x.held y.held p.v q.v y.emitted low q.moves.after all rest h left q.stands q.moves.typed fits in
    let moves = moves_on em x.emitted y.emitted st all p.moves q.moves in
    reached_on em y.emitted low st all (operated at op p.v q.v) (source.value (ast.Binary at op a b) cx env) moves r
    (ap (λ g. got.bind g (λ u. got.bind (source.value b cx env) (λ v. operated at op u v))) p.gives ∙ ap (λ g. got.bind g (λ v. operated at op p.v v)) q.gives)

-- ---- arguments

-- a run of arguments behind those that stand already
pub record RanArgs (cx : Context) (env : Env) (args : Args) (at : Place) (p q : Passed) (us : List Val) (st : State) (all : List CWord) : Type 0 where
  pub moves : Moves p.emitted q.emitted st all
  pub vs : List Val
  pub gives : source.values args at cx env ≡ got.Gives vs
  pub stand : ArgsStand moves.after q.types q.spots (us ++ vs)
  pub below : AllBelow q.spots (length q.emitted.words)

args_keep : (us : List Ty) (ps : List Spot) (vs : List Val) (st after : State) (n : ℕ) → AllBelow ps n → Keeps n st after → ArgsStand st us ps vs → ArgsStand after us ps vs
args_keep [] [] [] st after n b keep h = tt
args_keep [] [] (v ∷ vs) st after n b keep h = absurd h
args_keep [] (p ∷ ps) vs st after n b keep h = absurd h
args_keep (u ∷ us) [] vs st after n b keep h = absurd h
args_keep (u ∷ us) (p ∷ ps) [] st after n b keep h = absurd h
args_keep (u ∷ us) (p ∷ ps) (v ∷ vs) st after n b keep h = (keeps_held st after p u v n b.0 keep h.0, args_keep us ps vs st after n b.1 keep h.1)

args_more : (us : List Ty) (ps : List Spot) (vs : List Val) (u : Ty) (p : Spot) (v : Val) (st : State) → ArgsStand st us ps vs → HeldStands st p u v → ArgsStand st (us ++ (u ∷ [])) (ps ++ (p ∷ [])) (vs ++ (v ∷ []))
args_more [] [] [] u p v st h s = (s, tt)
args_more [] [] (w ∷ vs) u p v st h s = absurd h
args_more [] (q ∷ ps) vs u p v st h s = absurd h
args_more (t ∷ us) [] vs u p v st h s = absurd h
args_more (t ∷ us) (q ∷ ps) [] u p v st h s = absurd h
args_more (t ∷ us) (q ∷ ps) (w ∷ vs) u p v st h s = (h.0, args_more us ps vs u p v st h.1 s)

below_all : (ps : List Spot) (m n : ℕ) → m ≤ n → AllBelow ps m → AllBelow ps n
below_all [] m n l h = tt
below_all (p ∷ ps) m n l h = (below_more p m n l h.0, below_all ps m n l h.1)

below_append : (ps : List Spot) (p : Spot) (n : ℕ) → AllBelow ps n → IsBelow p n → AllBelow (ps ++ (p ∷ [])) n
below_append [] p n h b = (b, tt)
below_append (q ∷ ps) p n h b = (h.0, below_append ps p n h.1 b)

none_run : (cx : Context) (env : Env) (at : Place) (p q : Passed) (us : List Val) (st : State) (all : List CWord) → q ≡ p → ArgsStand st p.types p.spots us → AllBelow p.spots (length p.emitted.words) → map word_type st.words ≡ all → RanArgs cx env NoArgs at p q us st all
none_run cx env at p q us st all same s b typed =
    subst (λ r. RanArgs cx env NoArgs at p r us st all) (sym same)
    (record { moves = stays p.emitted st all typed; vs = []; gives = refl; stand = subst (ArgsStand st p.types p.spots) (sym (append-nil us)) s; below = b })

item_runs : (cx : Context) (env : Env) (e : ast.Exp) (more : Args) (at : Place) (p q : Passed) (x : Low) (us : List Val) (st : State) (all : List CWord) → (r : Ran cx env e p.emitted x st all) → RanArgs cx env more at (with_passed p x) q (us ++ (r.v ∷ [])) r.moves.after all → RanArgs cx env (Item e more) at p q us st all
unfolding got.bind
item_runs cx env e more at p q x us st all r s = record {
  moves = moves_on p.emitted x.emitted q.emitted st all r.moves s.moves;
  vs = r.v ∷ s.vs;
  gives = ap (λ g. got.bind g (λ v. got.bind (source.values more at cx env) (λ vs. got.Gives (v ∷ vs)))) r.gives ∙ ap (λ g. got.bind g (λ vs. got.Gives (r.v ∷ vs))) s.gives;
  stand = subst (ArgsStand s.moves.after q.types q.spots) (append_assoc us (r.v ∷ []) s.vs) s.stand;
  below = s.below;
}

applied_runs : (cx : Context) (env : Env) (at : Place) (name : List ℕ) (opens : Place) (args : Args) (em : Emitted) (p : Passed) (low : Low) (st : State) (all rest : List CWord) → (r : RanArgs cx env args at (nothing_passed em) p [] st all) → IsCalled cx name p.types p.spots p.emitted low → all ≡ low.emitted.words ++ rest → Ran cx env (Apply at name opens args) em low st all
unfolding got.bind
applied_runs cx env at name opens args em p low st all rest r h fits =
    reached_on em p.emitted low st all (called at cx name r.vs) (source.value (Apply at name opens args) cx env) r.moves
    (call_reached at cx name p.types p.spots r.vs p.emitted low r.moves.after all rest h r.stand r.below r.moves.typed fits)
    (ap (λ g. got.bind g (called at cx name)) r.gives)

-- ---- the whole

mutual
  -- the statements of an expression lead to a state in which its value stands
  pub runs : (e : ast.Exp) (names : Names) (cx : Context) (env : Env) (em : Emitted) (low : Low) → IsLowered e cx names em low → (st : State) (all rest : List CWord) → Sees names cx env st (length em.words) → map word_type st.words ≡ all → all ≡ low.emitted.words ++ rest → Ran cx env e em low st all
  runs (Name at name) names cx env em low (inl h) st all rest sees typed fits = read_runs names cx env at name em low st all h sees typed
  runs (Name at name) names cx env em low (inr h) st all rest sees typed fits = call_name_runs cx env at name em low st all rest h typed fits
  runs (Unary at sign e) names cx env em low h st all rest sees typed fits =
      let add = signed_adds sign h.0.held h.0.emitted low h.2 in
      let fits_x : all ≡ h.0.emitted.words ++ (add.extra ++ rest) = rest_of all h.0.emitted.words add.extra rest low.emitted.words fits add.words in
      signed_runs cx env at sign e em h.0 low st all rest (runs e names cx env em h.0 h.1 st all (add.extra ++ rest) sees typed fits_x) h.2 fits
  runs (ast.Binary at operator a b) names cx env em low h st all rest sees typed fits =
      let last = paired_adds (work_of operator) h.0.held h.2.held h.2.emitted low h.4 in
      let fits_y : all ≡ h.2.emitted.words ++ (last.extra ++ rest) = rest_of all h.2.emitted.words last.extra rest low.emitted.words fits last.words in
      let add = adds b cx names h.0.emitted h.2 h.3 in
      let fits_x : all ≡ h.0.emitted.words ++ (add.extra ++ (last.extra ++ rest)) = rest_of all h.0.emitted.words add.extra (last.extra ++ rest) h.2.emitted.words fits_y add.words in
      let p = runs a names cx env em h.0 h.1 st all (add.extra ++ (last.extra ++ rest)) sees typed fits_x in
      let q = runs b names cx env h.0.emitted h.2 h.3 p.moves.after all (last.extra ++ rest) (sees_after names cx env st p.moves.after (length em.words) (length h.0.emitted.words) p.moves.wider p.moves.keeps sees) p.moves.typed fits_y in
      paired_runs cx env at operator a b em h.0 h.2 low st all rest p q h.4 fits
  runs (Paren at e) names cx env em low h st all rest sees typed fits = runs e names cx env em low h st all rest sees typed fits
  runs (Apply at name opens args) names cx env em low h st all rest sees typed fits =
      let add = called_adds cx name h.0.types h.0.spots h.0.emitted low h.2 in
      let fits_p : all ≡ h.0.emitted.words ++ (add.extra ++ rest) = rest_of all h.0.emitted.words add.extra rest low.emitted.words fits add.words in
      applied_runs cx env at name opens args em h.0 low st all rest (args_run args names cx env at (nothing_passed em) h.0 h.1 [] st all (add.extra ++ rest) sees tt tt typed fits_p) h.2 fits
  runs (Number at text imaginary) names cx env em low h st all rest sees typed fits = literal_runs cx env at text imaginary em low st all h.0 h.1 typed
  runs (Words at text) names cx env em low h st all rest sees typed fits = text_runs cx env at text em low st all h typed
  runs (End at) names cx env em low h st all rest sees typed fits = absurd h
  runs (Post at mark e) names cx env em low h st all rest sees typed fits = absurd h
  runs (Range at first last) names cx env em low h st all rest sees typed fits = absurd h
  runs (RangeBy at first step last) names cx env em low h st all rest sees typed fits = absurd h
  runs (Matrix at rows) names cx env em low h st all rest sees typed fits = absurd h

  pub args_run : (args : Args) (names : Names) (cx : Context) (env : Env) (at : Place) (p q : Passed) → AreLowered args cx names p q → (us : List Val) (st : State) (all rest : List CWord) → Sees names cx env st (length p.emitted.words) → ArgsStand st p.types p.spots us → AllBelow p.spots (length p.emitted.words) → map word_type st.words ≡ all → all ≡ q.emitted.words ++ rest → RanArgs cx env args at p q us st all
  args_run NoArgs names cx env at p q h us st all rest sees s b typed fits = none_run cx env at p q us st all h s b typed
  args_run (Whole more) names cx env at p q h us st all rest sees s b typed fits = absurd h
  args_run (Item e more) names cx env at p q h us st all rest sees s b typed fits =
      let x = h.0 in
      let add = args_add more cx names (with_passed p x) q h.2 in
      let fits_x : all ≡ x.emitted.words ++ (add.extra ++ rest) = rest_of all x.emitted.words add.extra rest q.emitted.words fits add.words in
      let r = runs e names cx env p.emitted x h.1 st all (add.extra ++ rest) sees typed fits_x in
      let n : ℕ = length p.emitted.words in
      let stand = args_more p.types p.spots us x.held.ty x.held.spot r.v r.moves.after (args_keep p.types p.spots us st r.moves.after n b r.moves.keeps s) r.stands in
      let below = below_append p.spots x.held.spot (length x.emitted.words) (below_all p.spots n (length x.emitted.words) r.moves.wider b) r.below in
      let sees_x = sees_after names cx env st r.moves.after n (length x.emitted.words) r.moves.wider r.moves.keeps sees in
      item_runs cx env e more at p q x us st all r (args_run more names cx env at (with_passed p x) q h.2 (us ++ (r.v ∷ [])) r.moves.after all rest sees_x stand below r.moves.typed fits)
