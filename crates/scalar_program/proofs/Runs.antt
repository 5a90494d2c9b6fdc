-- The statements of an expression lead to a state in which its value stands.
use Rattle.std.proofs.Common.{◌≡◌, ℕ, zero, suc, ◌+◌, ◌<◌, ◌≤◌, Bool, true, false, List, [], ◌∷◌, ◌++◌, length, map, ℤ, Option, Some, None, refl, sym, ap, ◌∙◌, arith, append_assoc, append-nil}
use Rattle.std.specs.Prelude.{slice_get, slice_set}
use Rattle.c_tree.specs.declared.tree.CWord.{CWord}
use Rattle.c_tree.specs.Tree.{Exp, Sta, Set, Block, Next}
use Rattle.c_tree.specs.Tokens.{sta_tokens}
use Rattle.c_tree.specs.Outcome.{Completes, ◌>>=◌, bind, found_at}
use Rattle.c_tree.specs.Meaning.{Word, Int64, Uint64, State, Went, run_block, assigned, with_word, then_run}
use Rattle.lower_scalar.specs.Part.{word_for, kind_of}
use Rattle.scalar_program.specs.Lowered.{Spot, Input, Variable, Literal, Operand, Emitted, and_then}
use Rattle.scalar_program.proofs.Says.{At, Says, word_z}
use Rattle.fi_rules.specs.Value.{Val}
use Rattle.fi_rules.specs.Types.{Ty, FiTy, NumberTy, TextTy, MathTy, TypeTy, OtherTy}
use Rattle.scalar_program.proofs.Says.{Stands, HeldStands}

-- ---- states

abbrev pub word_type : Word → CWord
word_type = kind_of

pub word_z_type : (signed : Bool) (z : ℤ) → word_type (word_z signed z) ≡ word_for signed
word_z_type true z = refl
word_z_type false z = refl

-- statements in front of a block
abbrev pub before : List Sta → Block → Block
before [] rest = rest
before (s ∷ ss) rest = Next s (before ss rest)

pub before_append : (xs ys : List Sta) (rest : Block) → before (xs ++ ys) rest ≡ before xs (before ys rest)
before_append [] ys rest = refl
before_append (x ∷ xs) ys rest = ap (Next x) (before_append xs ys rest)

-- the statements lead from one state to the other, whatever stands behind them
pub record RunsTo (more : List Sta) (st after : State) : Type 0 where
  pub does : (rest : Block) (n at : ℕ) → (to : ℕ) × (run_block (before more rest) n st at ≡ run_block rest n after to)

pub runs_nothing : (st : State) → RunsTo [] st st
runs_nothing st = record { does = λ rest n at. (at, refl) }

pub runs_both : (xs ys : List Sta) (st mid after : State) → RunsTo xs st mid → RunsTo ys mid after → RunsTo (xs ++ ys) st after
runs_both xs ys st mid after p q = record {
  does = λ rest n at.
      let one = p.does (before ys rest) n at in
      let two = q.does rest n one.0 in
      (two.0, ap (λ b. run_block b n st at) (before_append xs ys rest) ∙ one.1 ∙ two.1);
}

assigned_same : (at : ℕ) (old w : Word) → word_type old ≡ word_type w → assigned at old w ≡ Completes w
unfolding assigned
assigned_same at (Int64 x) (Int64 z) e = refl
assigned_same at (Int64 x) (Uint64 n) e = absurd (cc)
assigned_same at (Uint64 m) (Int64 z) e = absurd (cc)
assigned_same at (Uint64 m) (Uint64 n) e = refl

-- a statement that sets a variable
pub set_runs : (st : State) (k : ℕ) (e : Exp) (w old : Word) → Says e st w → slice_get st.words k ≡ Some old → word_type old ≡ word_type w → RunsTo (Set k e ∷ []) st (with_word st k w)
unfolding bind found_at
set_runs st k e w old p here same = record {
  does = λ rest n at. (
    at + sta_tokens (Set k e),
    ap (λ g. (g >>= (λ v. found_at at (slice_get st.words k) >>= (λ o. assigned at o v >>= (λ new. Completes (Went (with_word st k new)))))) >>= (λ flow. then_run flow (λ s. run_block rest n s (at + sta_tokens (Set k e))))) (p.says (at + 2))
        ∙ ap (λ o. (found_at at o >>= (λ o. assigned at o w >>= (λ new. Completes (Went (with_word st k new))))) >>= (λ flow. then_run flow (λ s. run_block rest n s (at + sta_tokens (Set k e))))) here
        ∙ ap (λ g. (g >>= (λ new. Completes (Went (with_word st k new)))) >>= (λ flow. then_run flow (λ s. run_block rest n s (at + sta_tokens (Set k e))))) (assigned_same at old w same),
  );
}

-- ---- variables

pub get_mapped : (ws : List Word) (k : ℕ) (c : CWord) → slice_get (map word_type ws) k ≡ Some c → (w : Word) × (slice_get ws k ≡ Some w) × (word_type w ≡ c)
get_mapped [] k c e = absurd (cc)
get_mapped (w ∷ ws) zero c e = let h : word_type w ≡ c = cc in (w, refl, h)
get_mapped (w ∷ ws) (suc k) c e = get_mapped ws k c e

pub get_set_same : (xs : List Word) (v : ℕ) (w old : Word) → slice_get xs v ≡ Some old → slice_get (slice_set xs v w) v ≡ Some w
get_set_same [] v w old h = absurd (cc)
get_set_same (x ∷ xs) zero w old h = refl
get_set_same (x ∷ xs) (suc v) w old h = get_set_same xs v w old h

pub get_set_other : (xs : List Word) (v k : ℕ) (w : Word) → k < v → slice_get (slice_set xs v w) k ≡ slice_get xs k
get_set_other [] v k w h = refl
get_set_other (x ∷ xs) zero k w h = absurd (omega arith)
get_set_other (x ∷ xs) (suc v) zero w h = refl
get_set_other (x ∷ xs) (suc v) (suc k) w h = get_set_other xs v k w (omega arith)

-- a variable keeps its type
pub set_typed : (ws : List Word) (k : ℕ) (w old : Word) → slice_get ws k ≡ Some old → word_type old ≡ word_type w → map word_type (slice_set ws k w) ≡ map word_type ws
set_typed [] k w old h e = refl
set_typed (x ∷ ws) zero w old h e = let same : x ≡ old = cc in ap (λ c. c ∷ map word_type ws) (sym e ∙ ap word_type (sym same))
set_typed (x ∷ ws) (suc k) w old h e = ap (λ cs. word_type x ∷ cs) (set_typed ws k w old h e)

-- the word behind a list
pub get_behind : (xs rest : List CWord) (c : CWord) → slice_get (xs ++ (c ∷ rest)) (length xs) ≡ Some c
get_behind [] rest c = refl
get_behind (x ∷ xs) rest c = get_behind xs rest c

-- ---- what stays

-- variables of lower numbers stay
abbrev pub IsBelow : Spot → ℕ → Type 0
IsBelow (Input k) n = Unit {0}
IsBelow (Variable k) n = k < n
IsBelow (Literal signed z) n = Unit {0}

pub below_more : (spot : Spot) (m n : ℕ) → m ≤ n → IsBelow spot m → IsBelow spot n
below_more (Input k) m n h b = tt
below_more (Variable k) m n h b = omega (arith, h, b)
below_more (Literal signed z) m n h b = tt

-- a state in which the inputs, and the variables below a number, are those of another
pub record Keeps (n : ℕ) (st after : State) : Type 0 where
  pub inputs : after.inputs ≡ st.inputs
  pub outputs : after.outputs ≡ st.outputs
  pub words : (k : ℕ) → k < n → slice_get after.words k ≡ slice_get st.words k

pub keeps_both : (m n : ℕ) (st mid after : State) → m ≤ n → Keeps m st mid → Keeps n mid after → Keeps m st after
keeps_both m n st mid after h p q = record {
  inputs = q.inputs ∙ p.inputs;
  outputs = q.outputs ∙ p.outputs;
  words = λ k l. q.words k (omega (arith, h, l)) ∙ p.words k l;
}

keeps_at : (st after : State) (spot : Spot) (signed : Bool) (z : ℤ) (n : ℕ) → IsBelow spot n → Keeps n st after → At st spot signed z → At after spot signed z
keeps_at st after (Input k) signed z n b keep h = (h.0, ap (λ l. slice_get l k) keep.inputs ∙ h.1, h.2, h.3)
keeps_at st after (Variable k) signed z n b keep h = keep.words k b ∙ h
keeps_at st after (Literal s y) signed z n b keep h = h

pub keeps_stands : (st after : State) (o : Operand) (z : ℤ) (n : ℕ) → IsBelow o.spot n → Keeps n st after → Stands st o z → Stands after o z
keeps_stands st after o z n b keep h = record { range = h.range; limits = h.limits; at = keeps_at st after o.spot o.num.signed z n b keep h.at }

-- a value that stands below a number stands later too
pub keeps_held : (st after : State) (spot : Spot) (u : Ty) (v : Val) (n : ℕ) → IsBelow spot n → Keeps n st after → HeldStands st spot u v → HeldStands after spot u v
unfolding HeldStands
keeps_held st after spot (FiTy t m) v n b keep h = (h.0, h.1, keeps_stands st after (record { spot = spot; num = t }) h.0 n b keep h.2)
keeps_held st after spot (NumberTy s cs) v n b keep h = h
keeps_held st after spot (TextTy text) v n b keep h = h
keeps_held st after spot (MathTy m) v n b keep h = h
keeps_held st after spot (TypeTy t) v n b keep h = h
keeps_held st after spot OtherTy v n b keep h = absurd h

-- ---- what is added

pub some_of : {A B : Type 0} (o : Option A) (next : A → Option B) (y : B) → and_then o next ≡ Some y → (x : A) × (o ≡ Some x) × (next x ≡ Some y)
unfolding and_then
some_of None next y h = absurd (cc)
some_of (Some x) next y h = (x, refl, h)

-- what is lowered behind statements only adds some
pub record Adds (em later : Emitted) : Type 0 where
  pub more : List Sta
  pub sets : later.sets ≡ em.sets ++ more
  pub extra : List CWord
  pub words : later.words ≡ em.words ++ extra

pub adds_nothing : (em : Emitted) → Adds em em
adds_nothing em = record { more = []; sets = sym (append-nil em.sets); extra = []; words = sym (append-nil em.words) }

pub adds_both : (em mid later : Emitted) → Adds em mid → Adds mid later → Adds em later
adds_both em mid later p q = record {
  more = p.more ++ q.more;
  sets = q.sets ∙ ap (λ s. s ++ q.more) p.sets ∙ append_assoc em.sets p.more q.more;
  extra = p.extra ++ q.extra;
  words = q.words ∙ ap (λ s. s ++ q.extra) p.words ∙ append_assoc em.words p.extra q.extra;
}

pub some_is : {A : Type 0} (x y : A) → Some x ≡ Some y → x ≡ y
some_is x y e = cc

-- the rest of the variables behind those of a part
pub rest_of : (all words extra rest : List CWord) (mid : List CWord) → all ≡ mid ++ rest → mid ≡ words ++ extra → all ≡ words ++ (extra ++ rest)
rest_of all words extra rest mid e f = e ∙ ap (λ m. m ++ rest) f ∙ append_assoc words extra rest
