-- What is told of a function, from what is told of its parts.
use Rattle.std.proofs.Common.{◌≡◌, ℕ, suc, Bool, true, false, List, [], ◌∷◌, length, Err, refl, sym, ap, subst, ◌∙◌}
use Rattle.std.specs.Prelude.{nat_eq}
use Rattle.std.proofs.Common.{eq-eqb}
use Rattle.fic_base.specs.declared.code.Code.{Code}
use Rattle.fic_base.specs.declared.code.Code.TheVariants as code
use Rattle.fic_base.specs.declared.place.Place.{Place}
use Rattle.fic_base.specs.declared.refusal.Refusal.{Refusal}
use Rattle.num_type.specs.declared.memory.Stop.{Stop}
use Rattle.num_type.specs.declared.memory.Stop.TheVariants as stop
use Rattle.num_type.specs.Types.{NumericType}
use Rattle.mat_ast.specs.declared.tree.Ident.{Ident}
use Rattle.mat_ast.specs.Tree.{Fun}
use Rattle.c_tree.specs.declared.tree.CTree.{CTree}
use Rattle.walk_scope.specs.Told.{Told, Passes, Refuses, bind, choose}
use Rattle.scalar_program.specs.Lowered.{Names, input_held, inputs_from, no_names}
use Rattle.scalar_program.specs.NameMaps.{with_type}
use Rattle.fi_rules.specs.Texts.{counts_text}
use Rattle.walk_scope.specs.Scope.{Scope}
use Rattle.scalar_walk.specs.Walk.{Walked, inputs_typed, no_types, block_walked, outputs_typed, function_walked}
use Rattle.walk_scope.specs.View.{Tells, StopTells}
use Rattle.scalar_walk.specs.View.{TellsTypes}
use Rattle.walk_scope.proofs.Tell.{passed}
use Rattle.scalar_walk.proofs.Walks.{no_passes, part_stops, tells_stop}
use Rattle.scalar_walk.proofs.Outputs.{types_in, types_set}

-- a stop where types are told
pub stop_types : (s : Stop Refusal) (told : Told (List NumericType)) → StopTells s told → TellsTypes {R = CTree} (Err s) told
stop_types stop.Memory told h = h
stop_types (stop.Refused r) told h = h

-- a refusal of one form as one of another
other_refusal : (A B : Type 0) (c d : Code) (p q : Place) (s t : List ℕ) → ◌≡◌ {A = Told A} (Refuses c p s) (Refuses d q t) → ◌≡◌ {A = Told B} (Refuses c p s) (Refuses d q t)
unfolding bind
other_refusal A B c d p q s t h = ap (λ (g : Told A). bind {B = B} g (λ x. Refuses c p s)) h

-- the refusal of another number of types
pub wrong_count : {R : Type 0} (s : Stop Refusal) (view : R → ℕ) (b : Bool) (n : ℕ) (body : Told (List NumericType)) (k : Code) (at : Place) (shown : List ℕ) → Tells {R = R} (Err s) view (choose b (Passes n) (Refuses k at shown)) → TellsTypes {R = CTree} (Err s) (choose b body (Refuses k at shown))
unfolding choose
wrong_count stop.Memory view b n body k at shown h = tt
wrong_count (stop.Refused r) view true n body k at shown h = absurd (no_passes n r.code r.place r.shown h)
wrong_count (stop.Refused r) view false n body k at shown h = other_refusal ℕ (List NumericType) k r.code at r.place shown r.shown h

-- the types and the count at the start of a body
abbrev pub start_of : Fun → List NumericType → Walked
start_of f ts = record { types = inputs_typed f.inputs ts no_types; nodes = 0 }

same_nat : (n : ℕ) → nat_eq n n ≡ true
same_nat n = eq-eqb n n refl

pub right_count : (sc : Scope) (f : Fun) (ts : List NumericType) → length ts ≡ length f.inputs → function_walked sc f ts ≡ bind (block_walked f.body sc (start_of f ts)) (λ w. outputs_typed f.outputs w.types)
unfolding choose
right_count sc f ts h = ap (λ b. choose b (bind (block_walked f.body sc (start_of f ts)) (λ w. outputs_typed f.outputs w.types)) (Refuses code.ArgCount f.name.place (counts_text (length ts) (length f.inputs)))) (ap (λ k. nat_eq k (length f.inputs)) h ∙ same_nat (length f.inputs))

-- the types of the inputs
pub types_inputs : (k : ℕ) (is : List Ident) (ts : List NumericType) (names : Names) → types_in (inputs_from k is ts names) ≡ inputs_typed is ts (types_in names)
types_inputs k [] ts names = refl
types_inputs k (i ∷ is) [] names = refl
types_inputs k (i ∷ is) (t ∷ ts) names =
    types_inputs (suc k) is ts (with_type names i.text (input_held k t)) ∙ ap (inputs_typed is ts) (types_set names (with_type names i.text (input_held k t)) i.text (input_held k t) refl)

pub starts : (is : List Ident) (ts : List NumericType) (none names : Names) → none ≡ no_names → names ≡ inputs_from 0 is ts none → types_in names ≡ inputs_typed is ts no_types
starts is ts none names n i = ap types_in i ∙ types_inputs 0 is ts none ∙ ap (λ m. inputs_typed is ts (types_in m)) n

-- ---- the parts of a function

pub body_refused : {R : Type 0} (s : Stop Refusal) (view : R → Walked) (sc : Scope) (f : Fun) (ts : List NumericType) (w : Walked) → length ts ≡ length f.inputs → w ≡ start_of f ts → Tells {R = R} (Err s) view (block_walked f.body sc w) → TellsTypes {R = CTree} (Err s) (function_walked sc f ts)
body_refused s view sc f ts w n e h =
    let next : Walked → Told (List NumericType) = λ w. outputs_typed f.outputs w.types in
    stop_types s (function_walked sc f ts) (subst (StopTells s) (ap (λ v. bind (block_walked f.body sc v) next) e ∙ sym (right_count sc f ts n))
    (part_stops s (block_walked f.body sc w) next (tells_stop s view (block_walked f.body sc w) h)))

pub outputs_refused : {R : Type 0} (s : Stop Refusal) (view : R → List NumericType) (sc : Scope) (f : Fun) (ts : List NumericType) (w later : Walked) → length ts ≡ length f.inputs → w ≡ start_of f ts → block_walked f.body sc w ≡ Passes later → Tells {R = R} (Err s) view (outputs_typed f.outputs later.types) → TellsTypes {R = CTree} (Err s) (function_walked sc f ts)
outputs_refused s view sc f ts w later n e b h =
    let next : Walked → Told (List NumericType) = λ w. outputs_typed f.outputs w.types in
    let whole : outputs_typed f.outputs later.types ≡ function_walked sc f ts = sym (passed (block_walked f.body sc w) later next b) ∙ ap (λ v. bind (block_walked f.body sc v) next) e ∙ sym (right_count sc f ts n) in
    stop_types s (function_walked sc f ts) (subst (StopTells s) whole (tells_stop s view (outputs_typed f.outputs later.types) h))

pub function_passes : (sc : Scope) (f : Fun) (ts : List NumericType) (w later : Walked) (outs : List NumericType) → length ts ≡ length f.inputs → w ≡ start_of f ts → block_walked f.body sc w ≡ Passes later → outputs_typed f.outputs later.types ≡ Passes outs → function_walked sc f ts ≡ Passes outs
function_passes sc f ts w later outs n e b h =
    let next : Walked → Told (List NumericType) = λ w. outputs_typed f.outputs w.types in
    right_count sc f ts n ∙ ap (λ v. bind (block_walked f.body sc v) next) (sym e) ∙ passed (block_walked f.body sc w) later next b ∙ h
