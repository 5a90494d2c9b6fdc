-- Assignments to variables in a row.
use Rattle.std.proofs.Common.{◌≡◌, ℕ, zero, suc, ◌+◌, ◌<◌, ◌≤◌, Bool, true, false, List, [], ◌∷◌, ◌++◌, length, map, ℤ, Option, Some, None, refl, sym, ap, ◌∙◌, subst, arith}
use Rattle.std.specs.Prelude.{slice_get, slice_set, unsigned_abs, max, ◌&&◌}
use Rattle.std.specs.Prelude.{◌≢◌}
use Rattle.c_tree.specs.declared.tree.CWord.{CWord}
use Rattle.c_tree.specs.declared.tree.CWord.TheVariants.{I64, U64}
use Rattle.c_tree.specs.Tree.{Exp, Sta, Set, Block, Done, Next}
use Rattle.c_tree.specs.Tokens.{sta_tokens}
use Rattle.c_tree.specs.View.{block_of}
use Rattle.c_tree.specs.Outcome.{Completes, ◌>>=◌, bind, found_at}
use Rattle.c_tree.specs.Meaning.{Word, Int64, Uint64, State, Flow, Went, run_block, assigned, with_word, then_run, value}
use Rattle.c_tree.specs.WellFormed.{Scope, type_of_exp, is_one_type, is_set}
use Rattle.lower_scalar.specs.Part.{word, word_for, kind_of, AreDeclared, IsAfter}
use Rattle.lower_scalar.proofs.Says.{Says}
use Rattle.lower_scalar.proofs.Typed.{Typed}
use Rattle.lower_scalar.proofs.Words.{Holds}

pub kind_of_word : (s : Bool) (z : ℤ) → kind_of (word s z) ≡ word_for s
kind_of_word true z = refl
kind_of_word false z = refl

assigned_same : (at : ℕ) (old w : Word) → kind_of old ≡ kind_of w → assigned at old w ≡ Completes w
unfolding assigned
assigned_same at (Int64 x) (Int64 z) e = refl
assigned_same at (Int64 x) (Uint64 n) e = absurd (cc)
assigned_same at (Uint64 m) (Int64 z) e = absurd (cc)
assigned_same at (Uint64 m) (Uint64 n) e = refl

-- ---- variables

get_mapped : (ws : List Word) (k : ℕ) (c : CWord) → slice_get (map kind_of ws) k ≡ Some c → (w : Word) × (slice_get ws k ≡ Some w) × (kind_of w ≡ c)
get_mapped [] k c e = absurd (cc)
get_mapped (w ∷ ws) zero c e = let h : kind_of w ≡ c = cc in (w, refl, h)
get_mapped (w ∷ ws) (suc k) c e = get_mapped ws k c e

get_set_same : (xs : List Word) (v : ℕ) (w old : Word) → slice_get xs v ≡ Some old → slice_get (slice_set xs v w) v ≡ Some w
get_set_same [] v w old h = absurd (cc)
get_set_same (x ∷ xs) zero w old h = refl
get_set_same (x ∷ xs) (suc v) w old h = get_set_same xs v w old h

get_set_below : (xs : List Word) (v k : ℕ) (w : Word) → k < v → slice_get (slice_set xs v w) k ≡ slice_get xs k
get_set_below [] v k w h = refl
get_set_below (x ∷ xs) zero k w h = absurd (omega arith)
get_set_below (x ∷ xs) (suc v) zero w h = refl
get_set_below (x ∷ xs) (suc v) (suc k) w h = get_set_below xs v k w (omega arith)

get_set_above : (xs : List Word) (v k : ℕ) (w : Word) → v < k → slice_get (slice_set xs v w) k ≡ slice_get xs k
get_set_above [] v k w h = refl
get_set_above (x ∷ xs) v zero w h = absurd (omega arith)
get_set_above (x ∷ xs) zero (suc k) w h = refl
get_set_above (x ∷ xs) (suc v) (suc k) w h = get_set_above xs v k w (omega arith)

-- a variable keeps its type
set_typed : (ws : List Word) (k : ℕ) (w old : Word) → slice_get ws k ≡ Some old → kind_of old ≡ kind_of w → map kind_of (slice_set ws k w) ≡ map kind_of ws
set_typed [] k w old h e = refl
set_typed (x ∷ ws) zero w old h e = let same : x ≡ old = cc in ap (λ c. c ∷ map kind_of ws) (sym e ∙ ap kind_of (sym same))
set_typed (x ∷ ws) (suc k) w old h e = ap (λ cs. kind_of x ∷ cs) (set_typed ws k w old h e)

-- ---- runs

-- from variable k on the assignments give their variables words of these types, and lead from one state to another
pub data Runs : ℕ → State → List Sta → List CWord → State → Type 0 where
  Stop : {k : ℕ} {st : State} → Runs k st [] [] st
  Step : {k : ℕ} {st after : State} {e : Exp} {more : List Sta} {w : CWord} {ws : List CWord} → (j : ℕ) (v : Word) → j ≡ k → Says e st v → kind_of v ≡ w → Runs (suc k) (with_word st k v) more ws after → Runs k st (Set j e ∷ more) (w ∷ ws) after

set_runs : (st : State) (k n at : ℕ) (e : Exp) (w old : Word) → Says e st w → slice_get st.words k ≡ Some old → kind_of old ≡ kind_of w → (next : Block)
    → run_block (Next (Set k e) next) n st at ≡ run_block next n (with_word st k w) (at + sta_tokens (Set k e))
unfolding bind found_at
set_runs st k n at e w old p here same next =
    ap (λ g. (g >>= (λ v. found_at at (slice_get st.words k) >>= (λ o. assigned at o v >>= (λ new. Completes (Went (with_word st k new)))))) >>= (λ flow. then_run flow (λ s. run_block next n s (at + sta_tokens (Set k e))))) (p.says (at + 2))
    ∙ ap (λ o. (found_at at o >>= (λ o. assigned at o w >>= (λ new. Completes (Went (with_word st k new))))) >>= (λ flow. then_run flow (λ s. run_block next n s (at + sta_tokens (Set k e))))) here
    ∙ ap (λ g. (g >>= (λ new. Completes (Went (with_word st k new)))) >>= (λ flow. then_run flow (λ s. run_block next n s (at + sta_tokens (Set k e))))) (assigned_same at old w same)

-- the assignments of a part run, whatever stands behind them
pub run_of : (k : ℕ) (st after : State) (ss : List Sta) (ws : List CWord) → Runs k st ss ws after → AreDeclared k ws (map kind_of st.words) → (n at : ℕ) → run_block (block_of ss) n st at ≡ Completes (Went after)
run_of k st after ss ws Stop d n at = refl
run_of k st after ss ws (Step {e} {more} {w} {ws = rest} j v same p kind next) d n at =
    let old = get_mapped st.words k w d.0 in
    let alike : kind_of old.0 ≡ kind_of v = old.2 ∙ sym kind in
    let types : map kind_of (with_word st k v).words ≡ map kind_of st.words = set_typed st.words k v old.0 old.1 alike in
    ap (λ i. run_block (Next (Set i e) (block_of more)) n st at) same
    ∙ set_runs st k n at e v old.0 p old.1 alike (block_of more)
    ∙ run_of (suc k) (with_word st k v) after more rest next (subst (AreDeclared (suc k) rest) (sym types) d.1) n (at + sta_tokens (Set k e))

-- and change nothing else
pub after_of : (k : ℕ) (st after : State) (ss : List Sta) (ws : List CWord) → Runs k st ss ws after → AreDeclared k ws (map kind_of st.words) → IsAfter k (length ws) st after
after_of k st after ss ws Stop d = record { rest = refl; types = refl; below = λ i h. refl; above = λ i h. refl }
after_of k st after ss ws (Step {e} {more} {w} {ws = rest} j v same p kind next) d =
    let old = get_mapped st.words k w d.0 in
    let alike : kind_of old.0 ≡ kind_of v = old.2 ∙ sym kind in
    let types : map kind_of (with_word st k v).words ≡ map kind_of st.words = set_typed st.words k v old.0 old.1 alike in
    let more_of = after_of (suc k) (with_word st k v) after more rest next (subst (AreDeclared (suc k) rest) (sym types) d.1) in
    record {
      rest = more_of.rest;
      types = more_of.types ∙ types;
      below = λ i h. more_of.below i (omega (arith, h)) ∙ get_set_below st.words k i v h;
      above = λ i h. more_of.above i (omega (arith, h)) ∙ get_set_above st.words k i v (omega (arith, h));
    }

-- ---- what a variable holds

pub holds_set : (st : State) (k : ℕ) (s : Bool) (z : ℤ) (w : CWord) → slice_get (map kind_of st.words) k ≡ Some w → Holds (with_word st k (word s z)) k s z
holds_set st k s z w d = let old = get_mapped st.words k w d in get_set_same st.words k (word s z) old.0 old.1

pub holds_later : (st : State) (j k : ℕ) (v : Word) (s : Bool) (z : ℤ) → j < k → Holds st j s z → Holds (with_word st k v) j s z
holds_later st j k v s z l h = get_set_below st.words k j v l ∙ h

-- the types of the variables stay
pub types_set : (st : State) (k : ℕ) (s : Bool) (z : ℤ) → slice_get (map kind_of st.words) k ≡ Some (word_for s) → map kind_of (with_word st k (word s z)).words ≡ map kind_of st.words
types_set st k s z d = let old = get_mapped st.words k (word_for s) d in set_typed st.words k (word s z) old.0 old.1 (old.2 ∙ sym (kind_of_word s z))

-- ---- types

-- an assignment of a value of the variable's type is well formed
pub set_fits : (c : Scope) (k : ℕ) (e : Exp) (w : CWord) → slice_get c.words k ≡ Some w → Typed c e w → is_set c k e ≡ true
unfolding is_one_type
set_fits c k e I64 h t = λ i. is_one_type (h i) (t.is i)
set_fits c k e U64 h t = λ i. is_one_type (h i) (t.is i)
