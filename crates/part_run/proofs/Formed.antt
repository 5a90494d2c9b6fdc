-- The program of a part is well formed.
use Rattle.std.proofs.Common.{◌≡◌, ◌≢◌, ℕ, zero, suc, ◌+◌, ◌<◌, ◌≤◌, ◌^◌, Bool, true, false, ◌&&◌, List, [], ◌∷◌, ◌++◌, length, codes, Some, refl, sym, ap, ◌∙◌, subst, arith, true≢false, append_assoc, length-append, if◌then◌else◌, nat_le}
use Rattle.std.specs.Prelude.{slice_get, All, AllPairs, is_some, bytes_eq}
use Rattle.std.proofs.lemmas.List.Elements.{All-nil, All-cons, All-head, All-tail}
use Rattle.std.proofs.lemmas.List.Kept.{AllPairs-cons}
use Rattle.fic_base.specs.Names.{IsName}
use Rattle.num_type.specs.Types.{NumericType, IsWithin}
use Rattle.num_type.specs.declared.container.Container.TheVariants.{I8, I16, I32, I64, U8, U16, U32, U64}
use Rattle.shape_rules.specs.Shapes.{IsShape}
use Rattle.c_tree.specs.declared.tree.CounterKind.{CounterKind}
use Rattle.c_tree.specs.declared.tree.CounterKind.TheVariants as counter
use Rattle.c_tree.specs.declared.tree.CWord.{CWord}
use Rattle.c_tree.specs.declared.tree.CWord.TheVariants as word
use Rattle.c_tree.specs.declared.tree.CArray.TheVariants.{Output}
use Rattle.c_tree.specs.Tree.{Signed, Sta, Set, Store, If, IfElse, For, While, Break, Continue, Return, Slot}
use Rattle.c_tree.specs.View.{block_of}
use Rattle.c_tree.specs.Names.{container_for, word_of, counters_of}
use Rattle.c_tree.specs.Example.{scalar}
use Rattle.c_tree.specs.WellFormed.{IsSlot, IsInterface, IsLocalArray, Scope, scope_of, type_of_exp, element_type, given, is_one_type, is_fit, are_fit, all_loop_counters, last_is_return, IsWellFormed}
use Rattle.c_tree.proofs.Example.{example_is_well_formed}
use Rattle.lower_scalar.specs.Part.{Part, IsTyped, AreDeclared, AreInOrder, word_for}
use Rattle.part_run.specs.PartProgram.{Computes, OfFirst, OfBoth, held, slot, interface, input, statements, part_program}

-- ---- the interface

one_shape : IsShape 1 1
one_shape = record { a_row = omega arith; a_column = omega arith; few = omega arith }

slot_fits : (name : List ℕ) (t : NumericType) → IsName name → IsWithin t → IsSlot (slot name t)
slot_fits name t p q = record { name = p; kind = λ u c e. let same : t ≡ u = cc in subst IsWithin same q; shape = one_shape }

-- the names are those of the worked program
a_name : IsName (codes "a")
a_name = (All-head IsSlot (scalar (codes "a") 8 4) (scalar (codes "b") 8 4 ∷ []) example_is_well_formed.interface.inputs).name

b_name : IsName (codes "b")
b_name = (All-head IsSlot (scalar (codes "b") 8 4) [] (All-tail IsSlot (scalar (codes "a") 8 4) (scalar (codes "b") 8 4 ∷ []) example_is_well_formed.interface.inputs)).name

y_name : IsName (codes "y")
y_name = (All-head IsSlot (scalar (codes "y") 17 8) [] example_is_well_formed.interface.outputs).name

apart : (s t : Slot) → s.name ≢ t.name → AllPairs (λ (s t : Slot). s.name ≢ t.name) (s ∷ t ∷ [])
apart s t h =
    AllPairs-cons (λ (s t : Slot). s.name ≢ t.name) s (t ∷ []) (All-cons (λ (u : Slot). s.name ≢ u.name) t [] h (All-nil (λ (u : Slot). s.name ≢ u.name)))
    (λ i j d l m. absurd (omega (arith, l, m)))

pub interface_fits : (a b t : NumericType) → IsWithin a → IsWithin b → IsWithin t → IsInterface (interface a b t)
interface_fits a b t p q r = record {
  entry = example_is_well_formed.interface.entry;
  inputs = All-cons IsSlot (slot (codes "a") a) (slot (codes "b") b ∷ []) (slot_fits (codes "a") a a_name p)
      (All-cons IsSlot (slot (codes "b") b) [] (slot_fits (codes "b") b b_name q) (All-nil IsSlot));
  outputs = All-cons IsSlot (slot (codes "y") t) [] (slot_fits (codes "y") t y_name r) (All-nil IsSlot);
  inputs_differ = apart (slot (codes "a") a) (slot (codes "b") b) (λ e. true≢false (ap (bytes_eq (codes "a")) e));
  outputs_differ = λ i j d l m. absurd (omega (arith, l, m));
  any = λ e. cc;
}

-- ---- the types of the variables

at_seam : (front ws : List CWord) (w : CWord) (k : ℕ) → k ≡ length front → slice_get (front ++ (w ∷ ws)) k ≡ Some w
at_seam [] ws w zero e = refl
at_seam [] ws w (suc k) e = absurd (omega (arith, e))
at_seam (v ∷ front) ws w zero e = absurd (omega (arith, e))
at_seam (v ∷ front) ws w (suc k) e = at_seam front ws w k (omega (arith, e))

-- types behind others are declared from there on
declared : (front ws : List CWord) (k : ℕ) → k ≡ length front → AreDeclared k ws (front ++ ws)
declared front [] k e = tt
declared front (w ∷ ws) k e =
    let more : length (front ++ (w ∷ [])) ≡ length front + 1 = length-append front (w ∷ []) in
    (at_seam front ws w k e, subst (AreDeclared (suc k) ws) (append_assoc front (w ∷ []) ws) (declared (front ++ (w ∷ [])) ws (suc k) (omega (arith, e, more))))

-- ---- the statements

-- an element of a type is read as the word of the type
read_word : (s : Bool) (w : ℕ) → word_of (container_for s w) ≡ word_for s
read_word true w = by (nat_le w 8) (nat_le w 16) (nat_le w 32)
  where
    by : (a b c : Bool) → word_of (if a then I8 else (if b then I16 else (if c then I32 else I64))) ≡ word.I64
    by true b c = refl
    by false true c = refl
    by false false true = refl
    by false false false = refl
read_word false w = by (nat_le w 8) (nat_le w 16) (nat_le w 32)
  where
    by : (a b c : Bool) → word_of (if a then U8 else (if b then U16 else (if c then U32 else U64))) ≡ word.U64
    by true b c = refl
    by false true c = refl
    by false false true = refl
    by false false false = refl

same_word : (s : Bool) → is_one_type (Some (word_for s)) (Some (word_for s)) ≡ true
unfolding is_one_type
same_word true = refl
same_word false = refl

loads : (s : Bool) (w : ℕ) → is_one_type (Some (word_for s)) (Some (word_of (container_for s w))) ≡ true
loads s w = ap (λ v. is_one_type (Some (word_for s)) (Some v)) (read_word s w) ∙ same_word s

first_fits : (a b t : NumericType) (p : Part) → is_fit (scope_of (part_program a b t p)) false (Set 0 (input 0)) ≡ true
unfolding element_type given
first_fits a b t p = loads a.signed a.word

second_fits : (a b t : NumericType) (p : Part) → is_fit (scope_of (part_program a b t p)) false (Set 1 (input 1)) ≡ true
unfolding element_type given
second_fits a b t p = loads b.signed b.word

store_fits : (a b t : NumericType) (p : Part) (w : CWord) → type_of_exp (scope_of (part_program a b t p)) p.value ≡ Some w → is_fit (scope_of (part_program a b t p)) false (Store (Output 0) (Signed 0) p.value) ≡ true
unfolding given is_one_type
store_fits a b t p w h = ap is_some h

fit_both : (c : Scope) (xs ys : List Sta) → are_fit c false (block_of xs) ≡ true → are_fit c false (block_of ys) ≡ true → are_fit c false (block_of (xs ++ ys)) ≡ true
fit_both c [] ys h g = g
fit_both c (x ∷ xs) ys h g =
    let both = and_parts (is_fit c false x) (are_fit c false (block_of xs)) h in
    λ i. both.0 i && fit_both c xs ys both.1 g i
  where
    and_parts : (a b : Bool) → (a && b) ≡ true → (a ≡ true) × (b ≡ true)
    and_parts true b e = (refl, e)
    and_parts false b e = absurd (cc)

-- assignments have no counters
no_counters : (k : ℕ) (xs ys : List Sta) → AreInOrder k xs → all_loop_counters (block_of (xs ++ ys)) ≡ all_loop_counters (block_of ys)
no_counters k [] ys h = refl
no_counters k (Set j e ∷ xs) ys h = no_counters (suc k) xs ys h.2
no_counters k (Store a i v ∷ xs) ys h = absurd h
no_counters k (If t b ∷ xs) ys h = absurd h
no_counters k (IfElse t b c ∷ xs) ys h = absurd h
no_counters k (For c n b ∷ xs) ys h = absurd h
no_counters k (While t b ∷ xs) ys h = absurd h
no_counters k (Break ∷ xs) ys h = absurd h
no_counters k (Continue ∷ xs) ys h = absurd h
no_counters k (Return n ∷ xs) ys h = absurd h

returns_last : (ss : List Sta) → last_is_return (block_of (ss ++ (Return 0 ∷ []))) ≡ true
returns_last [] = refl
returns_last (s ∷ []) = refl
returns_last (s ∷ t ∷ ss) = returns_last (t ∷ ss)

-- ---- the program

-- what a program asks of its part
record Fits (a b t : NumericType) (p : Part) : Type 0 where
  in_order : AreInOrder 2 p.before
  few : length p.words ≤ 4096
  before_fits : are_fit (scope_of (part_program a b t p)) false (block_of p.before) ≡ true
  value_typed : type_of_exp (scope_of (part_program a b t p)) p.value ≡ Some (word_for t.signed)

own_words : (a b t : NumericType) (p : Part) → AreDeclared 2 p.words (scope_of (part_program a b t p)).words
own_words a b t p = declared (word_for a.signed ∷ word_for b.signed ∷ []) p.words 2 refl

fits : (a b t : NumericType) (p : Part) → Computes a b t.signed p → Fits a b t p
fits a b t p (OfFirst f h) =
    let sc : Scope = scope_of (part_program a b t p) in
    let typed : All (IsTyped sc) (held 0 a ∷ []) = All-cons (IsTyped sc) (held 0 a) [] (record { typed = refl }) (All-nil (IsTyped sc)) in
    record { in_order = h.in_order; few = h.few; before_fits = h.fits sc (own_words a b t p) typed; value_typed = h.typed sc (own_words a b t p) typed }
fits a b t p (OfBoth f h) =
    let sc : Scope = scope_of (part_program a b t p) in
    let typed : All (IsTyped sc) (held 0 a ∷ held 1 b ∷ []) =
    All-cons (IsTyped sc) (held 0 a) (held 1 b ∷ []) (record { typed = refl }) (All-cons (IsTyped sc) (held 1 b) [] (record { typed = refl }) (All-nil (IsTyped sc))) in
    record { in_order = h.in_order; few = h.few; before_fits = h.fits sc (own_words a b t p) typed; value_typed = h.typed sc (own_words a b t p) typed }

statements_fit : (a b t : NumericType) (p : Part) → Fits a b t p → are_fit (scope_of (part_program a b t p)) false (block_of (statements p)) ≡ true
statements_fit a b t p h =
    let sc : Scope = scope_of (part_program a b t p) in
    let end : List Sta = Store (Output 0) (Signed 0) p.value ∷ Return 0 ∷ [] in
    let last : are_fit sc false (block_of end) ≡ true = ap (λ x. x && true) (store_fits a b t p (word_for t.signed) h.value_typed) in
    λ i. first_fits a b t p i && (second_fits a b t p i && fit_both sc p.before end h.before_fits last i)

returns : (p : Part) → last_is_return (block_of (statements p)) ≡ true
returns p =
    ap (λ ss. last_is_return (block_of (Set 0 (input 0) ∷ Set 1 (input 1) ∷ ss))) (sym (append_assoc p.before (Store (Output 0) (Signed 0) p.value ∷ []) (Return 0 ∷ [])))
    ∙ returns_last (Set 0 (input 0) ∷ Set 1 (input 1) ∷ (p.before ++ (Store (Output 0) (Signed 0) p.value ∷ [])))

few_counters : (a b t : NumericType) (p : Part) (kind : CounterKind) → counters_of (part_program a b t p) kind < 2 ^ 32
few_counters a b t p counter.Group = omega arith
few_counters a b t p counter.Barrier = omega arith
few_counters a b t p counter.Source = omega arith
few_counters a b t p counter.Turn = omega arith

pub well_formed : (a b t : NumericType) (p : Part) → IsWithin a → IsWithin b → IsWithin t → Computes a b t.signed p → IsWellFormed (part_program a b t p)
well_formed a b t p wa wb wt h =
    let f = fits a b t p h in
    let none : all_loop_counters (block_of (p.before ++ (Store (Output 0) (Signed 0) p.value ∷ Return 0 ∷ []))) ≡ [] = no_counters 2 p.before (Store (Output 0) (Signed 0) p.value ∷ Return 0 ∷ []) f.in_order in
    record {
      interface = interface_fits a b t wa wb wt;
      declarations = record { arrays = All-nil IsLocalArray; few_arrays = omega arith; few_words = omega (arith, f.few); few_counters = few_counters a b t p };
      statements = statements_fit a b t p f;
      counters_serve_once = subst (AllPairs (λ c d. c ≢ d)) (sym none) (λ i j d l m. absurd (omega (arith, l, m)));
      returns = returns p;
    }
