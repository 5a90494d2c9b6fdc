-- The program of a function is well formed, and does what the function does.
use Rattle.std.proofs.Common.{◌≡◌, ◌≢◌, ℕ, suc, ◌+◌, ◌≤◌, Bool, true, false, ◌&&◌, List, [], ◌∷◌, ◌++◌, length, Option, Some, None, refl, sym, ap, ◌∙◌, subst, arith, if◌then◌else◌}
use Rattle.std.specs.Prelude.{slice_get, flat_map, All, AllPairs, bytes_eq, codes, is_some}
use Rattle.std.proofs.lemmas.List.Elements.{All-nil, All-cons, All-head, All-tail}
use Rattle.std.proofs.lemmas.List.Kept.{AllPairs-cons}
use Rattle.fic_base.specs.Names.{IsName}
use Rattle.mat_ast.specs.declared.tree.Ident.{Ident}
use Rattle.mat_ast.specs.Tree as ast
use Rattle.mat_ast.specs.Tree.{Assign, Store as StoreAt, Multi, IfOnly, IfElse, ForEach, WhileTrue, BreakOff, GoOn, Fun}
use Rattle.num_type.specs.Types.{NumericType, IsWithin}
use Rattle.shape_rules.specs.Shapes.{IsShape}
use Rattle.fi_eval.specs.Meaning.{Context, names_of}
use Rattle.c_tree.specs.declared.tree.CWord.{CWord}
use Rattle.c_tree.specs.declared.tree.CWord.TheVariants.{I64, U64}
use Rattle.c_tree.specs.declared.tree.CArray.TheVariants as array
use Rattle.c_tree.specs.Tree.{Signed, Sta, Store, Return, Slot}
use Rattle.c_tree.specs.View.{block_of}
use Rattle.num_type.specs.Containers.{is_signed_container}
use Rattle.c_tree.specs.declared.array_names.Array.{Array}
use Rattle.c_tree.specs.Names.{container_for, slot_arrays, input_fronts, output_fronts}
use Rattle.c_tree.specs.WellFormed.{Scope, IsSlot, AreNamedApart, element_type, given, is_one_type, are_fit, all_loop_counters, last_is_return}
use Rattle.c_tree.specs.Depth.{block_depth}
use Rattle.fi_rules.specs.Types.{FiTy}
use Rattle.lower_scalar.specs.Part.{word_for}
use Rattle.scalar_program.specs.Lowered.{Input, Operand, Held, Names, Emitted, Behind, and_then, input_held, output_of, IsBlockLowered, outputs_lowered, stores_from, inputs_from, real_slot, real_slots, read}
use Rattle.scalar_program.specs.NameMaps.{with_type}
use Rattle.scalar_program.proofs.Runs.{rest_of, some_of, some_is}
use Rattle.scalar_program.proofs.Blocks.{block_adds}
use Rattle.c_tree.proofs.Containers.{container_sign}
use Rattle.scalar_program.proofs.Starts.{nums_of, IsFiOutput, output_is}
use Rattle.scalar_program.proofs.Forms.{HasType, IsGood, IsGoodAt, IsPlain, ArePlain, NamesGood, lowers_plain, read_depth}

-- ---- what a header asks

pub pairs_head : {X : Type 0} (R : X → X → Type 0) (x : X) (xs : List X) → AllPairs R (x ∷ xs) → All (R x) xs
pairs_head R x xs h k d l = h 0 (suc k) d (omega arith) (omega (arith, l))

pub pairs_tail : {X : Type 0} (R : X → X → Type 0) (x : X) (xs : List X) → AllPairs R (x ∷ xs) → AllPairs R xs
pairs_tail R x xs h i j d l m = h (suc i) (suc j) d (omega (arith, l)) (omega (arith, m))

one_shape : IsShape 1 1
one_shape = record { a_row = omega arith; a_column = omega arith; few = omega arith }

pub real_slots_fit : (is : List Ident) (ts : List NumericType) → All IsName (names_of is) → All IsWithin ts → All IsSlot (real_slots is ts)
real_slots_fit [] ts p q = All-nil IsSlot
real_slots_fit (i ∷ is) [] p q = All-nil IsSlot
real_slots_fit (i ∷ is) (t ∷ ts) p q =
    All-cons IsSlot (real_slot i.text t) (real_slots is ts)
    (record { name = All-head IsName i.text (names_of is) p; kind = λ u c e. let same : t ≡ u = cc in subst IsWithin same (All-head IsWithin t ts q); shape = one_shape })
    (real_slots_fit is ts (All-tail IsName i.text (names_of is) p) (All-tail IsWithin t ts q))

slots_not : (name : List ℕ) (is : List Ident) (ts : List NumericType) → All (λ n. name ≢ n) (names_of is) → All (λ (s : Slot). name ≢ s.name) (real_slots is ts)
slots_not name [] ts p = All-nil (λ (s : Slot). name ≢ s.name)
slots_not name (i ∷ is) [] p = All-nil (λ (s : Slot). name ≢ s.name)
slots_not name (i ∷ is) (t ∷ ts) p =
    All-cons (λ (s : Slot). name ≢ s.name) (real_slot i.text t) (real_slots is ts) (All-head (λ n. name ≢ n) i.text (names_of is) p)
    (slots_not name is ts (All-tail (λ n. name ≢ n) i.text (names_of is) p))

pub slots_apart : (is : List Ident) (ts : List NumericType) → AllPairs (λ a b. a ≢ b) (names_of is) → AreNamedApart (real_slots is ts)
slots_apart [] ts p = λ i j d l m. absurd (omega (arith, l, m))
slots_apart (i ∷ is) [] p = λ a b d l m. absurd (omega (arith, l, m))
slots_apart (i ∷ is) (t ∷ ts) p =
    AllPairs-cons (λ (s t : Slot). s.name ≢ t.name) (real_slot i.text t) (real_slots is ts)
    (slots_not i.text is ts (pairs_head (λ a b. a ≢ b) i.text (names_of is) p))
    (slots_apart is ts (pairs_tail (λ a b. a ≢ b) i.text (names_of is) p))

-- ---- the arrays of the interface

input_typed : (sc : Scope) (k : ℕ) (t : NumericType) (a : Array) → slice_get sc.arrays.inputs k ≡ Some a → a.container ≡ container_for t.signed t.word → HasType sc (read (Input k)) (word_for t.signed)
unfolding element_type given
input_typed sc k t a here box =
    ap (λ o. element_type o (Some I64)) here
    ∙ ap (λ c. Some (if is_signed_container c then I64 else U64)) box
    ∙ ap (λ b. Some (if b then I64 else U64)) (container_sign t.signed t.word)
    ∙ as_word t.signed
  where
    as_word : (b : Bool) → Some (if b then I64 else U64) ≡ Some (word_for b)
    as_word true = refl
    as_word false = refl

named_good : (sc : Scope) (names : Names) (to : List ℕ) (h : Held) → IsGoodAt sc h.spot h.ty → NamesGood sc names → NamesGood sc (with_type names to h)
named_good sc names to h p good name q e = by (bytes_eq to name) e
  where
    by : (b : Bool) → (if b then Some h else names name) ≡ Some q → IsGoodAt sc q.spot q.ty
    by true e = subst (λ (k : Held). IsGoodAt sc k.spot k.ty) (some_is h q e) p
    by false e = good name q e

-- an input
input_good : (sc : Scope) (k : ℕ) (t : NumericType) → IsGood sc (record { spot = Input k; num = t }) → IsGoodAt sc (Input k) (FiTy t None)
unfolding IsGoodAt
input_good sc k t h = h

-- the inputs can be read
pub inputs_good : (is : List Ident) (ts : List NumericType) (k : ℕ) (names : Names) (sc : Scope) → ((j : ℕ) → slice_get sc.arrays.inputs (k + j) ≡ slice_get (flat_map (slot_arrays input_fronts) (real_slots is ts)) j) → All IsWithin ts → NamesGood sc names → NamesGood sc (inputs_from k is ts names)
inputs_good [] ts k names sc e within good = good
inputs_good (i ∷ is) [] k names sc e within good = good
inputs_good (i ∷ is) (t ∷ ts) k names sc e within good =
    let a : Array = record { name = codes "in_" ++ i.text; container = container_for t.signed t.word; extent = 1 } in
    let unmoved : k ≡ k + 0 = omega arith in
    let here : slice_get sc.arrays.inputs k ≡ Some a = ap (slice_get sc.arrays.inputs) unmoved ∙ e 0 in
    let o : Operand = record { spot = Input k; num = t } in
    let one : IsGood sc o = record { typed = input_typed sc k t a here refl; limits = All-head IsWithin t ts within } in
    inputs_good is ts (suc k) (with_type names i.text (input_held k t)) sc
    (λ j. let shift : suc k + j ≡ k + suc j = omega arith in ap (slice_get sc.arrays.inputs) shift ∙ e (suc j))
    (All-tail IsWithin t ts within) (named_good sc names i.text (input_held k t) (input_good sc k t one) good)

-- ---- blocks

pub block_plain : (b : ast.Block) (cx : Context) (names : Names) (em : Emitted) (behind : Behind) → IsBlockLowered b cx names em behind → (sc : Scope) (rest : List CWord) → sc.words ≡ behind.emitted.words ++ rest → NamesGood sc names → ArePlain sc em.sets → ArePlain sc behind.emitted.sets × NamesGood sc behind.names
block_plain ast.Done cx names em behind h sc rest fits good plain =
    subst (λ l. ArePlain sc l.emitted.sets × NamesGood sc l.names) (sym h) (plain, good)
block_plain (ast.Next (Assign to e) more) cx names em behind h sc rest fits good plain =
    let y = h.0 in
    let x = h.1.0 in
    let same = sym h.1.2 in
    let add = block_adds more cx y.names y.emitted behind h.2 in
    let fits_y : sc.words ≡ y.emitted.words ++ (add.extra ++ rest) = rest_of sc.words y.emitted.words add.extra rest behind.emitted.words fits add.words in
    let fits_x : sc.words ≡ x.emitted.words ++ (add.extra ++ rest) = fits_y ∙ ap (λ l. l.emitted.words ++ (add.extra ++ rest)) (sym same) in
    let p = lowers_plain e cx names em x h.1.1 sc (add.extra ++ rest) fits_x good plain in
    let p_y : ArePlain sc y.emitted.sets × NamesGood sc y.names =
    subst (λ l. ArePlain sc l.emitted.sets × NamesGood sc l.names) same (p.0, named_good sc names to.text x.held p.1 good) in
    block_plain more cx y.names y.emitted behind h.2 sc rest fits p_y.1 p_y.0
block_plain (ast.Next (StoreAt to opens args e) more) cx names em behind h sc rest fits good plain = absurd h.1
block_plain (ast.Next (Multi targets e) more) cx names em behind h sc rest fits good plain = absurd h.1
block_plain (ast.Next (IfOnly at arms) more) cx names em behind h sc rest fits good plain = absurd h.1
block_plain (ast.Next (IfElse at arms other) more) cx names em behind h sc rest fits good plain = absurd h.1
block_plain (ast.Next (ForEach at to range body) more) cx names em behind h sc rest fits good plain = absurd h.1
block_plain (ast.Next (WhileTrue at test body) more) cx names em behind h sc rest fits good plain = absurd h.1
block_plain (ast.Next (BreakOff at) more) cx names em behind h sc rest fits good plain = absurd h.1
block_plain (ast.Next (GoOn at) more) cx names em behind h sc rest fits good plain = absurd h.1

-- ---- the stores

-- a fi as an output
output_good : (sc : Scope) (h : Held) (o : Operand) → IsFiOutput h o → IsGoodAt sc h.spot h.ty → IsGood sc o
unfolding IsGoodAt
output_good sc h o f good =
    let g : IsGood sc (record { spot = h.spot; num = o.num }) = subst (IsGoodAt sc h.spot) f.ty good in
    subst (λ p. IsGood sc (record { spot = p; num = o.num })) (sym f.spot) g

-- the outputs of a function can be read
pub outputs_good : (os : List Ident) (names : Names) (outs : List Operand) (sc : Scope) → outputs_lowered os names ≡ Some outs → NamesGood sc names → All (IsGood sc) outs × (length outs ≡ length os)
outputs_good [] names outs sc h good = subst (λ l. All (IsGood sc) l × (length l ≡ 0)) (some_is [] outs h) (All-nil (IsGood sc), refl)
outputs_good (o ∷ os) names outs sc h good =
    let x = some_of (and_then (names o.text) output_of) (λ x. and_then (outputs_lowered os names) (λ xs. Some (x ∷ xs))) outs h in
    let held = some_of (names o.text) output_of x.0 x.1 in
    let xs = some_of (outputs_lowered os names) (λ xs. Some (x.0 ∷ xs)) outs x.2 in
    let rec = outputs_good os names xs.0 sc xs.1 good in
    subst (λ l. All (IsGood sc) l × (length l ≡ length (o ∷ os))) (some_is (x.0 ∷ xs.0) outs xs.2)
    (All-cons (IsGood sc) x.0 xs.0 (output_good sc held.0 x.0 (output_is held.0 x.0 held.2) (good o.text held.0 held.1)) rec.0, omega (arith, rec.1))

pub nums_within : (sc : Scope) (outs : List Operand) → All (IsGood sc) outs → All IsWithin (nums_of outs)
nums_within sc [] h = All-nil IsWithin
nums_within sc (o ∷ os) h = All-cons IsWithin o.num (nums_of os) (All-head (IsGood sc) o os h).limits (nums_within sc os (All-tail (IsGood sc) o os h))

some_test : {A : Type 0} (o : Option A) (x : A) → o ≡ Some x → is_some o ≡ true
some_test o x e = ap is_some e

store_plain : (sc : Scope) (k : ℕ) (o : Operand) (a : Array) → slice_get sc.arrays.outputs k ≡ Some a → IsGood sc o → IsPlain sc (Store (array.Output k) (Signed 0) (read o.spot))
unfolding given is_one_type
store_plain sc k o a here good = record {
  fit = (λ i. is_some (here i) && is_some (good.typed i));
  counters = refl;
  shallow = omega (arith, read_depth o.spot);
}

pub stores_plain : (os : List Ident) (outs : List Operand) (k : ℕ) (sc : Scope) → ((j : ℕ) → slice_get sc.arrays.outputs (k + j) ≡ slice_get (flat_map (slot_arrays output_fronts) (real_slots os (nums_of outs))) j) → length outs ≡ length os → All (IsGood sc) outs → ArePlain sc (stores_from k outs)
stores_plain os [] k sc e same good = tt
stores_plain [] (o ∷ outs) k sc e same good = absurd (omega (arith, same))
stores_plain (i ∷ os) (o ∷ outs) k sc e same good =
    let unmoved : k ≡ k + 0 = omega arith in
    let a : Array = record { name = codes "out_" ++ i.text; container = container_for o.num.signed o.num.word; extent = 1 } in
    let here : slice_get sc.arrays.outputs k ≡ Some a = ap (slice_get sc.arrays.outputs) unmoved ∙ e 0 in (
      store_plain sc k o a here (All-head (IsGood sc) o outs good),
      stores_plain os outs (suc k) sc (λ j. let shift : suc k + j ≡ k + suc j = omega arith in ap (slice_get sc.arrays.outputs) shift ∙ e (suc j)) (omega (arith, same)) (All-tail (IsGood sc) o outs good),
    )

-- ---- the whole block

pub plain_fit : (sc : Scope) (ss : List Sta) → ArePlain sc ss → are_fit sc false (block_of ss) ≡ true
plain_fit sc [] h = refl
plain_fit sc (s ∷ ss) h = (λ i. h.0.fit i && plain_fit sc ss h.1 i)

pub plain_counters : (sc : Scope) (ss : List Sta) → ArePlain sc ss → all_loop_counters (block_of ss) ≡ []
plain_counters sc [] h = refl
plain_counters sc (s ∷ ss) h = (λ i. h.0.counters i ++ plain_counters sc ss h.1 i)

pub plain_shallow : (sc : Scope) (ss : List Sta) → ArePlain sc ss → block_depth (block_of ss) ≤ 200
plain_shallow sc [] h = omega arith
plain_shallow sc (s ∷ ss) h = omega (arith, h.0.shallow, plain_shallow sc ss h.1)

pub returns_last : (ss : List Sta) → last_is_return (block_of (ss ++ (Return 0 ∷ []))) ≡ true
returns_last [] = refl
returns_last (s ∷ []) = refl
returns_last (s ∷ t ∷ ss) = returns_last (t ∷ ss)

pub return_plain : (sc : Scope) → IsPlain sc (Return 0)
return_plain sc = record { fit = refl; counters = refl; shallow = omega arith }
