-- The inputs at the start of a program, and the stores of the outputs at its end.
use Rattle.std.proofs.Common.{◌≡◌, ℕ, suc, ◌+◌, ◌-◌, ◌^◌, ◌<◌, ◌≤◌, Bool, true, false, List, [], ◌∷◌, ◌++◌, length, map, ℤ, pos, negsuc, Some, None, refl, sym, ap, ◌∙◌, subst, arith, append_assoc, append-nil, length-append, if◌then◌else◌, nat_lt, nat_le}
use Rattle.std.specs.Prelude.{Option, flat_map, slice_get, slice_set, All, unsigned_abs, bytes_eq}
use Rattle.std.proofs.lemmas.Int.{ints}
use Rattle.std.proofs.lemmas.List.{map-append}
use Rattle.std.proofs.lemmas.List.Elements.{All-head, All-tail, All-same}
use Rattle.mat_ast.specs.declared.tree.Ident.{Ident}
use Rattle.num_type.specs.declared.container.Container.{Container}
use Rattle.num_type.specs.declared.container.Container.TheVariants.{I8, I16, I32, I64, U8, U16, U32, U64}
use Rattle.num_type.specs.Containers.{bits_of, is_signed_container}
use Rattle.num_type.specs.Types.{NumericType, IsWithin, IsInRange}
use Rattle.fi_eval.specs.Outcome as got
use Rattle.fi_rules.specs.Value.{Val, Fi, scalar}
use Rattle.fi_eval.specs.Meaning as source
use Rattle.fi_eval.specs.Meaning.{Env, Context, look_up, is_variable, names_of, bound}
use Rattle.c_tree.specs.declared.tree.CArray.TheVariants as array
use Rattle.c_tree.specs.Tree.{Signed, Sta, Store}
use Rattle.c_tree.specs.Names.{container_for, slot_arrays, input_fronts, output_fronts}
use Rattle.c_tree.specs.Tokens.{sta_tokens, tokens}
use Rattle.c_tree.proofs.Containers.{container_sign, container_bits}
use Rattle.c_tree.specs.Outcome.{Outcome, Completes, ◌>>=◌, bind, choose, found_at, when◌then◌else◌, UndefinedAt}
use Rattle.c_tree.specs.Meaning as Meaning
use Rattle.c_tree.specs.Meaning.{Word, Cells, State, Flow, Went, value, run_block, kept, stored, with_cells, whole_of, then_run, wrapped, fits_signed}
use Rattle.c_tree.specs.Run.{filled}
use Rattle.fi_math.specs.declared.fimath.Fimath.{Fimath}
use Rattle.fic_base.specs.declared.place.Place.{Place}
use Rattle.fi_rules.specs.Types.{Ty, FiTy, NumberTy, TextTy, MathTy, TypeTy, OtherTy}
use Rattle.scalar_program.specs.Lowered.{Spot, Input, Variable, Literal, Operand, Held, Names, and_then, input_held, fi_operand, output_of, inputs_from, outputs_lowered, stores_from, read, real_slots}
use Rattle.scalar_program.specs.NameMaps.{with_type}
use Rattle.scalar_program.specs.Correspondence.{value_arrays, AreDeclared, AreFilled}
use Rattle.scalar_program.proofs.Ranges.{InRange, in_range_cases, pow_mono, no_false, signed_between, widen, between_signed}
use Rattle.scalar_program.proofs.Says.{At, word_z, read_says, mod_small}
use Rattle.scalar_program.proofs.Says.{Stands, HeldStands}
use Rattle.scalar_program.proofs.Runs.{RunsTo, runs_nothing, runs_both, some_of, some_is}
use Rattle.scalar_program.proofs.Operators.{fi_of}
use Rattle.scalar_program.proofs.Expressions.{Sees}
use Rattle.scalar_program.proofs.Blocks.{Covers, any_front, any_behind, sees_assigned}

-- ---- inputs

get_middle : (pre : List Cells) (c : Cells) (rest : List Cells) → slice_get (pre ++ (c ∷ rest)) (length pre) ≡ Some c
get_middle [] c rest = refl
get_middle (p ∷ pre) c rest = get_middle pre c rest

-- a list of one
one_of : {A : Type 0} (xs : List A) → length xs ≡ 1 → (x : A) × (xs ≡ x ∷ [])
one_of [] h = absurd (omega (arith, h))
one_of (x ∷ []) h = (x, refl)
one_of (x ∷ y ∷ xs) h = absurd (omega (arith, h))

-- an input as a value
input_stands : (st : State) (k : ℕ) (t : NumericType) (z : ℤ) → Stands st (record { spot = Input k; num = t }) z → HeldStands st (Input k) (FiTy t None) (fi_of t None z)
unfolding HeldStands
input_stands st k t z h = (z, refl, h)

sees_input : (names : Names) (cx : Context) (env : Env) (st : State) (k : ℕ) (pre : List Cells) (name : List ℕ) (t : NumericType) (z : ℤ) (rest : List Cells) → length pre ≡ k → IsWithin t → IsInRange t z → st.inputs ≡ pre ++ (record { container = container_for t.signed t.word; items = z ∷ [] } ∷ rest) → Covers cx (name ∷ []) → Sees names cx env st 0 → Sees (with_type names name (input_held k t)) cx ((name, fi_of t None z) ∷ env) st 0
sees_input names cx env st k pre name t z rest at within range e covers sees =
    let c : Cells = record { container = container_for t.signed t.word; items = z ∷ [] } in
    let here : slice_get st.inputs k ≡ Some c = (λ i. slice_get (e i) (sym at i)) ∙ get_middle pre c rest in
    let o : Operand = record { spot = Input k; num = t } in
    let stands : Stands st o z = record { range = in_range_cases t.signed t.word t.fraction z range; limits = within; at = (c, here, refl, container_sign t.signed t.word) } in
    sees_assigned names cx env st 0 name (input_held k t) (fi_of t None z) covers (input_stands st k t z stands) tt sees

covers_head : (cx : Context) (name : List ℕ) (names : List (List ℕ)) → Covers cx (name ∷ names) → Covers cx (name ∷ [])
covers_head cx name names covers n q = covers n (any_front (λ other. bytes_eq other n) (name ∷ []) names q)

covers_tail : (cx : Context) (name : List ℕ) (names : List (List ℕ)) → Covers cx (name ∷ names) → Covers cx names
covers_tail cx name names covers n q = covers n (any_behind (λ other. bytes_eq other n) (name ∷ []) names q)

-- the inputs of a call stand in the arrays of the inputs
pub inputs_see : (is : List Ident) (ts : List NumericType) (vals : List Val) (k : ℕ) (pre : List Cells) (names : Names) (cx : Context) (env : Env) (st : State) → length pre ≡ k → length is ≡ length ts → AreDeclared (real_slots is ts) vals → All IsWithin ts → st.inputs ≡ pre ++ filled (flat_map (slot_arrays input_fronts) (real_slots is ts)) (flat_map value_arrays vals) → Covers cx (names_of is) → Sees names cx env st 0 → (after : Env) × (bound is vals env ≡ Some after) × Sees (inputs_from k is ts names) cx after st 0
inputs_see [] [] [] k pre names cx env st at same h within e covers sees = (env, refl, sees)
inputs_see [] [] (v ∷ vals) k pre names cx env st at same h within e covers sees = absurd h
inputs_see [] (t ∷ ts) vals k pre names cx env st at same h within e covers sees = absurd (omega (arith, same))
inputs_see (i ∷ is) [] vals k pre names cx env st at same h within e covers sees = absurd (omega (arith, same))
inputs_see (i ∷ is) (t ∷ ts) [] k pre names cx env st at same h within e covers sees = absurd h
inputs_see (i ∷ is) (t ∷ ts) (v ∷ vals) k pre names cx env st at same h within e covers sees =
    let one = one_of h.0.0 h.0.2 in
    let z : ℤ = one.0 in
    let v_is : v ≡ fi_of t None z = h.0.1 ∙ ap (Fi t None scalar) one.1 in
    let range : IsInRange t z = All-head (IsInRange t) z [] (All-same (IsInRange t) (z ∷ []) h.0.0 (sym one.1) h.0.3) in
    let c : Cells = record { container = container_for t.signed t.word; items = z ∷ [] } in
    let rest : List Cells = filled (flat_map (slot_arrays input_fronts) (real_slots is ts)) (flat_map value_arrays vals) in
    let here : st.inputs ≡ pre ++ (c ∷ rest) = e ∙ ap (λ u. pre ++ filled (flat_map (slot_arrays input_fronts) (real_slots (i ∷ is) (t ∷ ts))) (flat_map value_arrays (u ∷ vals))) v_is in
    let next : st.inputs ≡ (pre ++ (c ∷ [])) ++ rest = here ∙ sym (append_assoc pre (c ∷ []) rest) in
    let k_next : length (pre ++ (c ∷ [])) ≡ suc k = omega (arith, at, length-append pre (c ∷ [])) in
    let inner = inputs_see is ts vals (suc k) (pre ++ (c ∷ [])) (with_type names i.text (input_held k t)) cx ((i.text, fi_of t None z) ∷ env) st k_next (omega (arith, same)) h.1
    (All-tail IsWithin t ts within) next (covers_tail cx i.text (names_of is) covers)
    (sees_input names cx env st k pre i.text t z rest at (All-head IsWithin t ts within) range here (covers_head cx i.text (names_of is) covers) sees) in
    (inner.0, ap (λ u. bound is vals ((i.text, u) ∷ env)) v_is ∙ inner.1, inner.2)

-- ---- outputs

-- operands hold these integers
abbrev pub AllStand : State → List Operand → List ℤ → Type 0
AllStand st [] [] = Unit {0}
AllStand st (o ∷ os) (z ∷ zs) = Stands st o z × AllStand st os zs
AllStand st os zs = ⊥

-- values are the fis of these integers, with any fimath
abbrev pub AreFis : List Operand → List ℤ → List Val → Type 0
AreFis [] [] [] = Unit {0}
AreFis (o ∷ os) (z ∷ zs) (v ∷ vs) = ((m : Option Fimath) × (v ≡ fi_of o.num m z)) × AreFis os zs vs
AreFis os zs vs = ⊥

-- an output that is a fi
pub record IsFiOutput (h : Held) (o : Operand) : Type 0 where
  pub math : Option Fimath
  pub ty : h.ty ≡ FiTy o.num math
  pub spot : o.spot ≡ h.spot

pub output_is : (h : Held) (o : Operand) → output_of h ≡ Some o → IsFiOutput h o
unfolding fi_operand
output_is h o e = by h.ty refl e
  where
    by : (u : Ty) → h.ty ≡ u → fi_operand h.spot u ≡ Some o → IsFiOutput h o
    by (FiTy t m) q e = let same = some_is _ o e in record { math = m; ty = q ∙ ap (λ (p : Operand). FiTy p.num m) same; spot = ap (λ (p : Operand). p.spot) (sym same) }
    by (NumberTy s cs) q e = absurd (cc)
    by (TextTy text) q e = absurd (cc)
    by (MathTy m) q e = absurd (cc)
    by (TypeTy t) q e = absurd (cc)
    by OtherTy q e = absurd (cc)

-- what a fi that stands gives as an output
pub record OutputGives (o : Operand) (v : Val) (st : State) (at : Place) : Type 0 where
  pub z : ℤ
  pub stands : Stands st o z
  pub math : Option Fimath
  pub is : v ≡ fi_of o.num math z
  pub gives : source.output at v ≡ got.Gives v

output_gives : (h : Held) (o : Operand) (v : Val) (st : State) (at : Place) → IsFiOutput h o → HeldStands st h.spot h.ty v → OutputGives o v st at
unfolding HeldStands source.output
output_gives h o v st at f s =
    let g : HeldStands st h.spot (FiTy o.num f.math) v = subst (λ u. HeldStands st h.spot u v) f.ty s in
    record {
      z = g.0;
      stands = subst (λ p. Stands st (record { spot = p; num = o.num }) g.0) (sym f.spot) g.2;
      math = f.math;
      is = g.1;
      gives = ap (source.output at) g.1 ∙ ap got.Gives (sym g.1);
    }

-- outputs that stand
pub record OutputsGive (os : List Ident) (outs : List Operand) (env : Env) (st : State) : Type 0 where
  pub zs : List ℤ
  pub stand : AllStand st outs zs
  pub vs : List Val
  pub fis : AreFis outs zs vs
  pub gives : source.outputs os env ≡ got.Gives vs
  pub count : length outs ≡ length os

pub outputs_give : (os : List Ident) (names : Names) (cx : Context) (env : Env) (st : State) (n : ℕ) (outs : List Operand) → outputs_lowered os names ≡ Some outs → Sees names cx env st n → OutputsGive os outs env st
unfolding got.bind got.or_wrong
outputs_give [] names cx env st n outs h sees =
    subst (λ l. OutputsGive [] l env st) (some_is [] outs h) (record { zs = []; stand = tt; vs = []; fis = tt; gives = refl; count = refl })
outputs_give (o ∷ os) names cx env st n outs h sees =
    let x = some_of (and_then (names o.text) output_of) (λ x. and_then (outputs_lowered os names) (λ xs. Some (x ∷ xs))) outs h in
    let held = some_of (names o.text) output_of x.0 x.1 in
    let xs = some_of (outputs_lowered os names) (λ xs. Some (x.0 ∷ xs)) outs x.2 in
    let same : x.0 ∷ xs.0 ≡ outs = some_is (x.0 ∷ xs.0) outs xs.2 in
    let f = sees o.text held.0 held.1 in
    let g = output_gives held.0 x.0 f.0 st o.place (output_is held.0 x.0 held.2) f.2 in
    let rec = outputs_give os names cx env st n xs.0 xs.1 sees in
    let gives : source.outputs (o ∷ os) env ≡ got.Gives (f.0 ∷ rec.vs) =
    ap (λ l. got.bind (got.or_wrong o.place l) (λ v. got.bind (source.output o.place v) (λ w. got.bind (source.outputs os env) (λ ws. got.Gives (w ∷ ws))))) f.1
    ∙ ap (λ g. got.bind g (λ w. got.bind (source.outputs os env) (λ ws. got.Gives (w ∷ ws)))) g.gives
    ∙ ap (λ g. got.bind g (λ ws. got.Gives (f.0 ∷ ws))) rec.gives in
    subst (λ l. OutputsGive (o ∷ os) l env st) same
    (record { zs = g.z ∷ rec.zs; stand = (g.stands, rec.stand); vs = f.0 ∷ rec.vs; fis = ((g.math, g.is), rec.fis); gives = gives; count = omega (arith, rec.count) })

unwrapped : (w : ℕ) (z : ℤ) (bits : ℕ) → w ≤ bits → InRange false w z → pos (wrapped bits (pos (unsigned_abs z))) ≡ z
unwrapped w (pos n) bits le q = let m = pow_mono w bits le in let small : n < 2 ^ bits = omega (arith, m, q) in ap pos (mod_small n (2 ^ bits) small)
unwrapped w (negsuc n) bits le q = absurd (no_false q.0)

-- the value in the range of a container stays as it is
kept_same : (at : ℕ) (s : Bool) (w : ℕ) (z : ℤ) → w ≤ 64 → InRange s w z → kept at (container_for s w) (whole_of (word_z s z)) ≡ Completes z
unfolding kept choose
kept_same at s w z lim r = by s r (container_sign s w) (container_bits s w lim)
  where
    in_bits : (bits : ℕ) (z : ℤ) → w ≤ bits → InRange true w z → fits_signed bits z ≡ true
    in_bits bits z le q = fits bits z (between_signed bits z (widen (w - 1) (bits - 1) z (omega (arith, le)) (signed_between w z q)))
      where
        fits : (bits : ℕ) (z : ℤ) → InRange true bits z → fits_signed bits z ≡ true
        fits bits (pos n) h = grind (arith, ints)
        fits bits (negsuc n) h = let k = h.1 in grind (arith, ints)

    by : (s : Bool) → InRange s w z → is_signed_container (container_for s w) ≡ s → w ≤ bits_of (container_for s w) → kept at (container_for s w) (whole_of (word_z s z)) ≡ Completes z
    by true q sign le =
        ap (λ b. when b then (when fits_signed (bits_of (container_for true w)) z then Completes z else UndefinedAt at) else Completes (pos (wrapped (bits_of (container_for true w)) z))) sign
        ∙ ap (λ b. when b then Completes z else UndefinedAt at) (in_bits (bits_of (container_for true w)) z le q)
    by false q sign le =
        ap (λ b. when b then (when fits_signed (bits_of (container_for false w)) (pos (unsigned_abs z)) then Completes (pos (unsigned_abs z)) else UndefinedAt at) else Completes (pos (wrapped (bits_of (container_for false w)) (pos (unsigned_abs z))))) sign
        ∙ ap Completes (unwrapped w z (bits_of (container_for false w)) le q)

set_middle : (pre : List Cells) (c d : Cells) (rest : List Cells) → slice_set (pre ++ (c ∷ rest)) (length pre) d ≡ pre ++ (d ∷ rest)
set_middle [] c d rest = refl
set_middle (p ∷ pre) c d rest = ap (λ l. p ∷ l) (set_middle pre c d rest)

-- a store into the one element of an output
store_runs : (st : State) (k : ℕ) (o : Operand) (z : ℤ) (c : Cells) (old : ℤ) → Stands st o z → slice_get st.outputs k ≡ Some c → c.container ≡ container_for o.num.signed o.num.word → c.items ≡ old ∷ [] → RunsTo (Store (array.Output k) (Signed 0) (read o.spot) ∷ []) st (with_cells st (array.Output k) (record c { items = z ∷ [] }))
unfolding bind found_at stored choose
store_runs st k o z c old h here same one = record {
  does = λ rest n at.
      let s : Sta = Store (array.Output k) (Signed 0) (read o.spot) in
      let w = word_z o.num.signed z in
      let lim : o.num.word ≤ 64 = h.limits.bits in
      let put : ℤ → Outcome Flow = λ y. stored (at + 1) st (array.Output k) c y (Meaning.Int64 (pos 0)) in
      let last : Outcome Flow → Outcome Flow = λ f. f >>= (λ flow. then_run flow (λ t. run_block rest n t (at + sta_tokens s))) in
      let keep : kept (at + 4 + tokens (Signed 0)) c.container (whole_of w) ≡ Completes z =
      ap (λ d. kept (at + 4 + tokens (Signed 0)) d (whole_of w)) same ∙ kept_same (at + 4 + tokens (Signed 0)) o.num.signed o.num.word z lim h.range in (
        at + sta_tokens s,
        ap (λ g. last (found_at at g >>= (λ c. value (read o.spot) st (at + 7 + tokens (Signed 0)) >>= (λ w. kept (at + 4 + tokens (Signed 0)) c.container (whole_of w) >>= (λ y. value (Signed 0) st (at + 2) >>= (λ sub. stored (at + 1) st (array.Output k) c y sub)))))) here
            ∙ ap (λ g. last (g >>= (λ w. kept (at + 4 + tokens (Signed 0)) c.container (whole_of w) >>= put))) ((read_says o z st h).says (at + 7 + tokens (Signed 0)))
            ∙ ap (λ g. last (g >>= put)) keep
            ∙ ap (λ l. last (when nat_lt 0 (length l) then Completes (Went (with_cells st (array.Output k) (record c { items = slice_set l 0 z }))) else UndefinedAt (at + 1))) one,
      );
}

stands_stored : (st : State) (k : ℕ) (c : Cells) (o : Operand) (z : ℤ) → Stands st o z → Stands (with_cells st (array.Output k) c) o z
stands_stored st k c o z h = record { range = h.range; limits = h.limits; at = by o.spot h.at }
  where
    by : (spot : Spot) → At st spot o.num.signed z → At (with_cells st (array.Output k) c) spot o.num.signed z
    by (Input j) a = a
    by (Variable j) a = a
    by (Literal s y) a = a

all_stored : (st : State) (k : ℕ) (c : Cells) (os : List Operand) (zs : List ℤ) → AllStand st os zs → AllStand (with_cells st (array.Output k) c) os zs
all_stored st k c [] [] h = tt
all_stored st k c [] (z ∷ zs) h = absurd h
all_stored st k c (o ∷ os) [] h = absurd h
all_stored st k c (o ∷ os) (z ∷ zs) h = (stands_stored st k c o z h.0, all_stored st k c os zs h.1)

abbrev pub nums_of : List Operand → List NumericType
nums_of = map (λ o. o.num)

abbrev pub items_in : List Cells → List (List ℤ)
items_in = map (λ c. c.items)

pub record Stored (os : List Ident) (outs : List Operand) (zs : List ℤ) (k : ℕ) (pre : List Cells) (st : State) : Type 0 where
  pub after : State
  pub does : RunsTo (stores_from k outs) st after
  pub holds : items_in after.outputs ≡ items_in pre ++ map (λ z. z ∷ []) zs

-- the stores of the outputs
pub stores_run : (os : List Ident) (outs : List Operand) (zs : List ℤ) (k : ℕ) (pre : List Cells) (olds : List (List ℤ)) (st : State) → length pre ≡ k → length outs ≡ length os → AllStand st outs zs → AreFilled (flat_map (slot_arrays output_fronts) (real_slots os (nums_of outs))) olds → st.outputs ≡ pre ++ filled (flat_map (slot_arrays output_fronts) (real_slots os (nums_of outs))) olds → Stored os outs zs k pre st
stores_run [] [] [] k pre [] st at same h fill e = record { after = st; does = runs_nothing st; holds = ap items_in (e ∙ append-nil pre) ∙ sym (append-nil (items_in pre)) }
stores_run [] [] [] k pre (xs ∷ olds) st at same h fill e = absurd fill
stores_run [] [] (z ∷ zs) k pre olds st at same h fill e = absurd h
stores_run [] (o ∷ outs) zs k pre olds st at same h fill e = absurd (omega (arith, same))
stores_run (i ∷ os) [] zs k pre olds st at same h fill e = absurd (omega (arith, same))
stores_run (i ∷ os) (o ∷ outs) [] k pre olds st at same h fill e = absurd h
stores_run (i ∷ os) (o ∷ outs) (z ∷ zs) k pre [] st at same h fill e = absurd fill
stores_run (i ∷ os) (o ∷ outs) (z ∷ zs) k pre (xs ∷ olds) st at same h fill e =
    let one = one_of xs fill.0 in
    let box : Container = container_for o.num.signed o.num.word in
    let c : Cells = record { container = box; items = xs } in
    let d : Cells = record { container = box; items = z ∷ [] } in
    let rest : List Cells = filled (flat_map (slot_arrays output_fronts) (real_slots os (nums_of outs))) olds in
    let here : slice_get st.outputs k ≡ Some c = (λ i. slice_get (e i) (sym at i)) ∙ get_middle pre c rest in
    let mid : State = with_cells st (array.Output k) d in
    let step = store_runs st k o z c one.0 h.0 here refl one.1 in
    let e_mid : mid.outputs ≡ (pre ++ (d ∷ [])) ++ rest =
    (λ i. slice_set (e i) (sym at i) d) ∙ set_middle pre c d rest ∙ sym (append_assoc pre (d ∷ []) rest) in
    let k_next : length (pre ++ (d ∷ [])) ≡ suc k = omega (arith, at, length-append pre (d ∷ [])) in
    let rec = stores_run os outs zs (suc k) (pre ++ (d ∷ [])) olds mid k_next (omega (arith, same)) (all_stored st k d outs zs h.1) fill.1 e_mid in
    record {
      after = rec.after;
      does = runs_both (Store (array.Output k) (Signed 0) (read o.spot) ∷ []) (stores_from (suc k) outs) st mid rec.after step rec.does;
      holds = rec.holds ∙ ap (λ l. l ++ map (λ z. z ∷ []) zs) (map-append (λ c. c.items) pre (d ∷ [])) ∙ append_assoc (items_in pre) ((z ∷ []) ∷ []) (map (λ z. z ∷ []) zs);
    }
