-- What is told of a file, and what its headers give.
use Rattle.std.proofs.Common.{◌≡◌, ◌≢◌, ℕ, Bool, true, false, ◌||◌, List, [], ◌∷◌, length, Option, Some, None, Err, refl, sym, ap, subst, ◌∙◌, arith}
use Rattle.std.specs.Prelude.{Result, All, AllPairs, bytes_eq, slice_index_or, codes, if◌then◌else◌}
use Rattle.std.proofs.lemmas.List.Elements.{All-nil, All-cons}
use Rattle.std.proofs.lemmas.List.Kept.{AllPairs-cons}
use Rattle.fic_base.specs.declared.code.Code.TheVariants as code
use Rattle.fic_base.specs.declared.place.Place.{Place}
use Rattle.fic_base.specs.declared.refusal.Refusal.{Refusal}
use Rattle.num_type.specs.declared.memory.Stop.{Stop}
use Rattle.num_type.specs.Types.{NumericType}
use Rattle.mat_ast.specs.declared.tree.Ident.{Ident}
use Rattle.mat_ast.specs.Tree.{Fun}
use Rattle.fi_eval.specs.Meaning.{Context, context_of, function_named, names_of, start}
use Rattle.c_tree.specs.Tree.{Program}
use Rattle.c_tree.specs.declared.tree.CTree.{CTree}
use Rattle.walk_scope.specs.Names.{is_listed}
use Rattle.walk_scope.specs.Told.{Told, Passes, Refuses, bind, choose, when◌then◌else◌}
use Rattle.scalar_program.specs.Lowered.{real_slots}
use Rattle.scalar_program.specs.Correspondence.{IsProgramOf}
use Rattle.scalar_program.specs.Right.{IsHeader, IsRight, HasNames}
use Rattle.walk_scope.specs.Scope.{Scope, scope_of}
use Rattle.walk_scope.specs.Headers.{names_checked, headers_checked}
use Rattle.scalar_walk.specs.Walk.{function_walked, entry_walked, walked}
use Rattle.walk_scope.specs.View.{Tells, StopTells, IsStop}
use Rattle.scalar_walk.specs.View.{TellsTypes}
use Rattle.walk_scope.proofs.Entries.{same_test}
use Rattle.walk_scope.proofs.Tell.{is_told, passed}
use Rattle.scalar_walk.proofs.Walks.{part_stops, tells_stop}
use Rattle.scalar_walk.proofs.Functions.{stop_types}

-- ---- what is told

entry_at : (shown : Place → List ℕ) (fs : List Fun) (entry : List ℕ) (ts : List NumericType) (f : Fun) → function_named fs entry ≡ Some f → walked shown fs entry ts ≡ bind (headers_checked fs []) (λ seen. function_walked (scope_of shown fs f) f ts)
unfolding entry_walked
entry_at shown fs entry ts f h = ap (entry_walked shown fs entry ts) h

none_at : (shown : Place → List ℕ) (fs : List Fun) (entry : List ℕ) (ts : List NumericType) → function_named fs entry ≡ None → walked shown fs entry ts ≡ Refuses code.NoEntry start entry
unfolding entry_walked
none_at shown fs entry ts h = ap (entry_walked shown fs entry ts) h

pub file_none : (s : Stop Refusal) (shown : Place → List ℕ) (fs : List Fun) (entry : List ℕ) (ts : List NumericType) → function_named fs entry ≡ None → IsStop s code.NoEntry start entry → TellsTypes {R = CTree} (Err s) (walked shown fs entry ts)
file_none s shown fs entry ts h i =
    stop_types s (walked shown fs entry ts) (is_told s code.NoEntry start entry (walked shown fs entry ts) i (none_at shown fs entry ts h))

pub file_headers : {R : Type 0} (s : Stop Refusal) (view : R → List (List ℕ)) (shown : Place → List ℕ) (fs : List Fun) (entry : List ℕ) (ts : List NumericType) (f : Fun) → function_named fs entry ≡ Some f → Tells {R = R} (Err s) view (headers_checked fs []) → TellsTypes {R = CTree} (Err s) (walked shown fs entry ts)
file_headers s view shown fs entry ts f h t =
    let next : List (List ℕ) → Told (List NumericType) = λ seen. function_walked (scope_of shown fs f) f ts in
    stop_types s (walked shown fs entry ts) (subst (StopTells s) (sym (entry_at shown fs entry ts f h)) (part_stops s (headers_checked fs []) next (tells_stop s view (headers_checked fs []) t)))

pub file_walked : (shown : Place → List ℕ) (fs : List Fun) (entry : List ℕ) (ts : List NumericType) (f : Fun) (seen : List (List ℕ)) (sc : Scope) → function_named fs entry ≡ Some f → headers_checked fs [] ≡ Passes seen → sc ≡ scope_of shown fs f → function_walked sc f ts ≡ walked shown fs entry ts
file_walked shown fs entry ts f seen sc h p e =
    let next : List (List ℕ) → Told (List NumericType) = λ seen. function_walked (scope_of shown fs f) f ts in
    ap (λ s. function_walked s f ts) e ∙ sym (entry_at shown fs entry ts f h ∙ passed (headers_checked fs []) seen next p)

pub file_function : (r : Result CTree (Stop Refusal)) (shown : Place → List ℕ) (fs : List Fun) (entry : List ℕ) (ts : List NumericType) (f : Fun) (seen : List (List ℕ)) (sc : Scope) → function_named fs entry ≡ Some f → headers_checked fs [] ≡ Passes seen → sc ≡ scope_of shown fs f → TellsTypes r (function_walked sc f ts) → TellsTypes r (walked shown fs entry ts)
file_function r shown fs entry ts f seen sc h p e t = subst (TellsTypes r) (file_walked shown fs entry ts f seen sc h p e) t

-- ---- what headers give

-- the four parts of a header behind which others are checked
parts : (o h i : Told (List (List ℕ))) (next : List (List ℕ) → Told (List (List ℕ))) (out : List (List ℕ)) → bind o (λ outs. bind h (λ here. bind i (λ ins. next here))) ≡ Passes out → (x : List (List ℕ)) × (o ≡ Passes x) × (y : List (List ℕ)) × (i ≡ Passes y) × (z : List (List ℕ)) × (next z ≡ Passes out)
unfolding bind
parts (Passes x) (Passes z) (Passes y) next out e = (x, refl, y, refl, z, e)
parts (Passes x) (Passes z) (Refuses c p s) next out e = absurd (cc)
parts (Passes x) (Refuses c p s) i next out e = absurd (cc)
parts (Refuses c p s) h i next out e = absurd (cc)

abbrev pub Checked : Fun → Type 0
Checked f = (x : List (List ℕ)) × (names_checked f.outputs [] ≡ Passes x) × (y : List (List ℕ)) × (names_checked f.inputs [] ≡ Passes y)

some_same : (f g : Fun) → Some f ≡ Some g → f ≡ g
some_same f g h = ap (λ o. if_some f o) h
  where
    if_some : Fun → Option Fun → Fun
    if_some d None = d
    if_some d (Some x) = x

pub checked : (fs : List Fun) (entry : List ℕ) (f : Fun) (seen out : List (List ℕ)) → function_named fs entry ≡ Some f → headers_checked fs seen ≡ Passes out → Checked f
checked [] entry f seen out h p = absurd (cc)
checked (g ∷ gs) entry f seen out h p = by (bytes_eq g.name.text entry) h (λ e z q. checked gs entry f z out e q) (parts (names_checked g.outputs []) (names_checked (g.name ∷ []) seen) (names_checked g.inputs []) (headers_checked gs) out p)
  where
    by : (b : Bool) → (if b then Some g else function_named gs entry) ≡ Some f → (function_named gs entry ≡ Some f → (z : List (List ℕ)) → headers_checked gs z ≡ Passes out → Checked f) → (x : List (List ℕ)) × (names_checked g.outputs [] ≡ Passes x) × (y : List (List ℕ)) × (names_checked g.inputs [] ≡ Passes y) × (z : List (List ℕ)) × (headers_checked gs z ≡ Passes out) → Checked f
    by true e rec q = subst Checked (some_same g f e) (q.0, q.1, q.2, q.3)
    by false e rec q = rec e q.4 q.5

or_false : (a b : Bool) → (a || b) ≡ false → (a ≡ false) × (b ≡ false)
or_false true b h = absurd (cc)
or_false false b h = (refl, h)

true_false : (b : Bool) → b ≡ true → b ≡ false → ⊥
true_false b p q = cc

not_first : (a b : List ℕ) (seen : List (List ℕ)) → is_listed b (a ∷ seen) ≡ false → a ≢ b
not_first a b seen h = λ e. true_false (bytes_eq a b) (same_test a b e) (or_false (bytes_eq a b) (is_listed b seen) h).0

one_passes : (n : Ident) (ns : List Ident) (seen out : List (List ℕ)) → names_checked (n ∷ ns) seen ≡ Passes out → (is_listed n.text seen ≡ false) × (names_checked ns (n.text ∷ seen) ≡ Passes out)
unfolding choose
one_passes n ns seen out h = by (is_listed n.text (codes "varargin" ∷ codes "varargout" ∷ [])) (is_listed n.text seen) h
  where
    by : (a b : Bool) → (when a then Refuses code.Unsupported n.place n.text else (when b then Refuses code.BadArgument n.place n.text else names_checked ns (n.text ∷ seen))) ≡ Passes out → (b ≡ false) × (names_checked ns (n.text ∷ seen) ≡ Passes out)
    by true b h = absurd (cc)
    by false true h = absurd (cc)
    by false false h = (refl, h)

-- names that were checked differ
pub differ : (ns : List Ident) (seen out : List (List ℕ)) → names_checked ns seen ≡ Passes out → AllPairs (λ a b. a ≢ b) (names_of ns) × All (λ n. is_listed n seen ≡ false) (names_of ns)
differ [] seen out h = ((λ i j d p q. absurd (omega (arith, q))), All-nil (λ n. is_listed n seen ≡ false))
differ (n ∷ ns) seen out h =
    let q = one_passes n ns seen out h in
    let r = differ ns (n.text ∷ seen) out q.1 in (
      AllPairs-cons (λ a b. a ≢ b) n.text (names_of ns) (λ k d p. not_first n.text (slice_index_or (names_of ns) k d) seen (r.1 k d p)) r.0,
      All-cons (λ m. is_listed m seen ≡ false) n.text (names_of ns) q.0 (λ k d p. (or_false (bytes_eq n.text (slice_index_or (names_of ns) k d)) (is_listed (slice_index_or (names_of ns) k d) seen) (r.1 k d p)).1),
    )

-- a header of names that was checked
pub header_of : (f : Fun) → Checked f → HasNames f → IsHeader f
header_of f c n = record {
  name = n.name;
  inputs = n.inputs;
  outputs = n.outputs;
  inputs_differ = (differ f.inputs [] c.2 c.3).0;
  outputs_differ = (differ f.outputs [] c.0 c.1).0;
  any = n.any;
}

-- a program that is right is one of the file
pub file_right : (fs : List Fun) (entry : List ℕ) (f : Fun) (ts : List NumericType) (p : Program) (seen : List (List ℕ)) (cx : Context) → function_named fs entry ≡ Some f → context_of fs f ≡ cx → headers_checked fs [] ≡ Passes seen → length f.inputs ≡ length ts → IsRight cx f ts p → (g : Fun) → function_named fs entry ≡ Some g → HasNames g → IsProgramOf fs entry (real_slots g.inputs ts) p
file_right fs entry f ts p seen cx h here c n right g e names =
    let same : f ≡ g = some_same f g (sym h ∙ e) in
    subst (λ k. IsProgramOf fs entry (real_slots k.inputs ts) p) same (right fs entry h here n (header_of f (checked fs entry f [] seen h c) (subst HasNames (sym same) names)))
