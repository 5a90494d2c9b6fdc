-- From what the layers say of a source to what is asked of its text.
use Rattle.std.proofs.Common.{inl, inr, ◌⊎◌, ◌≡◌, ℕ, zero, suc, Bool, true, false, List, [], ◌∷◌, refl, sym, ◌∙◌, subst, Err}
use Rattle.std.specs.Prelude.{Option, Some, None, length, map, nat_eq, slice_get, bytes_eq, if◌then◌else◌}
use Rattle.std.proofs.lemmas.List.{length-map}
use Rattle.std.proofs.lemmas.Bool.{eqb-true}
use Rattle.fic_base.specs.declared.code.Code.{Code}
use Rattle.fic_base.specs.declared.code.Code.TheVariants as code
use Rattle.fic_base.specs.declared.place.Place.{Place}
use Rattle.fic_base.specs.declared.refusal.Refusal.{Refusal}
use Rattle.num_type.specs.Types.{NumericType}
use Rattle.num_type.specs.View.{type_of}
use Rattle.num_type.specs.declared.memory.Stop.{Stop}
use Rattle.num_type.specs.declared.memory.Stop.TheVariants as stop
use Rattle.shape_rules.specs.declared.declared.Declared.{Declared}
use Rattle.mat_ast.specs.declared.tree.Ident.{Ident}
use Rattle.mat_ast.specs.Tree.{Fun}
use Rattle.mat_token.specs.declared.token.Token.{Token}
use Rattle.mat_token.specs.Lexeme.{lexemes_of}
use Rattle.mat_token.specs.Kept.{AreTokensOf}
use Rattle.mat_token.specs.Reads.{Outcome, Gives, Refuses, RefusesOnly}
use Rattle.mat_token.specs.Outcome.{IsOutcome}
use Rattle.mat_token.proofs.Once.{outcome_once}
use Rattle.mat_parse.specs.Parsed.{Tree, Refused, IsBehind, IsParseOf, IsParse}
use Rattle.mat_grammar.proofs.HeaderNames.{header_names}
use Rattle.fi_eval.specs.Meaning.{function_named}
use Rattle.c_tree.specs.Tree.{Fixed, Program}
use Rattle.c_tree.specs.CText.{IsText}
use Rattle.c_tree.specs.Layout.{layout}
use Rattle.c_tree.specs.WellFormed.{IsWellFormed}
use Rattle.walk_scope.specs.Told as told
use Rattle.walk_scope.specs.Told.{Told, bind, choose}
use Rattle.walk_scope.specs.Shown.{text_at}
use Rattle.walk_scope.specs.Scope.{scope_of}
use Rattle.walk_scope.specs.Headers.{headers_checked}
use Rattle.scalar_walk.specs.Walk.{walked, entry_walked, function_walked}
use Rattle.scalar_program.specs.Lowered.{real_slots}
use Rattle.scalar_program.specs.Correspondence.{form_of, real_form, IsProgramOf}
use Rattle.scalar_program.specs.Right.{HasNames}
use Rattle.scalar_walk.specs.View.{TellsTypes}
use Rattle.fi_cli.specs.Source.{num_types, declared_slots, IsSourceRefusal, IsCompiled}
use Rattle.fi_cli.specs.View.{AreScalars, RefusesAt}

-- real scalars are declared as such
pub slots_are : (is : List Ident) (ds : List Declared) → AreScalars ds → real_slots is (num_types ds) ≡ declared_slots is ds
slots_are [] ds h = refl
slots_are (i ∷ is) [] h = refl
slots_are (i ∷ is) (d ∷ ds) h = λ j.
    record { name = i.text; kind = Fixed (type_of d.num) (sym h.1 j); rows = sym h.0.a_row j; columns = sym h.0.a_column j } ∷ slots_are is ds h.2 j

-- the tree of a source is that of its tokens
tree_of_tokens : (bytes : List ℕ) (o p : Outcome) (fs : List Fun) → o ≡ p → IsBehind bytes o (Tree fs) → IsBehind bytes p (Tree fs)
tree_of_tokens bytes o p fs e h = subst (λ x. IsBehind bytes x (Tree fs)) e h

pub token_tree : (bytes : List ℕ) (tokens : List Token) (fs : List Fun) → IsOutcome bytes (Gives tokens) → IsParse bytes (Tree fs) → IsParseOf (lexemes_of bytes tokens) (Tree fs)
token_tree bytes tokens fs o p = tree_of_tokens bytes p.outcome (Gives tokens) fs (outcome_once bytes p.outcome (Gives tokens) p.is o) p.gives

-- what a test lets pass
when_passed : {A : Type 0} (b : Bool) (t : Told A) (x : A) (k : Code) (at : Place) (shown : List ℕ) → choose b t (told.Refuses k at shown) ≡ told.Passes x → b ≡ true
unfolding choose
when_passed true t x k at shown e = refl
when_passed false t x k at shown e = absurd cc

-- what is told behind a first part
behind : {A B : Type 0} (first : Told A) (rest : Told B) (x : B) → bind first (λ a. rest) ≡ told.Passes x → rest ≡ told.Passes x
unfolding bind
behind (told.Passes a) rest x e = e
behind (told.Refuses k at shown) rest x e = absurd cc

-- an accepted source has the entry, with as many inputs as types
has_entry : (shown : Place → List ℕ) (fs : List Fun) (entry : List ℕ) (ts types : List NumericType) (o : Option Fun) → entry_walked shown fs entry ts o ≡ told.Passes types → (f : Fun) × (o ≡ Some f) × (length ts ≡ length f.inputs)
unfolding entry_walked
has_entry shown fs entry ts types (Some f) e =
    let walk = behind (headers_checked fs []) (function_walked (scope_of shown fs f) f ts) types e in
    (f, refl, eqb-true (length ts) (length f.inputs) (when_passed (nat_eq (length ts) (length f.inputs)) _ types code.ArgCount f.name.place _ walk))
has_entry shown fs entry ts types None e = absurd cc

pub entry_of : (shown : Place → List ℕ) (fs : List Fun) (entry : List ℕ) (ts types : List NumericType) → walked shown fs entry ts ≡ told.Passes types → (f : Fun) × (function_named fs entry ≡ Some f) × (length ts ≡ length f.inputs)
entry_of shown fs entry ts types e = has_entry shown fs entry ts types (function_named fs entry) e

-- the function of a name stands among the functions
found : (b : Bool) (f g : Fun) (more : Option Fun) → (if b then Some g else more) ≡ Some f → (Some g ≡ Some f) ⊎ (more ≡ Some f)
found true f g more e = inl e
found false f g more e = inr e

index_of : (fs : List Fun) (entry : List ℕ) (f : Fun) → function_named fs entry ≡ Some f → (k : ℕ) × (slice_get fs k ≡ Some f)
index_of [] entry f e = absurd cc
index_of (g ∷ fs) entry f e = by (found (bytes_eq g.name.text entry) f g (function_named fs entry) e) (index_of fs entry f)
  where
    by : (Some g ≡ Some f) ⊎ (function_named fs entry ≡ Some f) → (function_named fs entry ≡ Some f → (k : ℕ) × (slice_get fs k ≡ Some f)) → (k : ℕ) × (slice_get (g ∷ fs) k ≡ Some f)
    by (inl p) more = (zero, p)
    by (inr p) more = let at = more p in (suc at.0, at.1)

pub has_names : (bytes : List ℕ) (tokens : List Token) (fs : List Fun) (entry : List ℕ) (f : Fun) → AreTokensOf bytes tokens → IsParseOf (lexemes_of bytes tokens) (Tree fs) → function_named fs entry ≡ Some f → HasNames f
has_names bytes tokens fs entry f kept tree e =
    let at = index_of fs entry f e in
    let names = header_names bytes tokens fs at.0 f kept tree.0 at.1 in
    record { name = names.0; inputs = names.1; outputs = names.2; any = names.3 }

pub compiled : (source entry : List ℕ) (ds : List Declared) (text : List ℕ) (tokens : List Token) (fs : List Fun) (types : List NumericType) (p : Program)
    → AreScalars ds → IsOutcome source (Gives tokens) → AreTokensOf source tokens → IsParse source (Tree fs)
    → walked (text_at (lexemes_of source tokens)) fs entry (num_types ds) ≡ told.Passes types
    → ((f : Fun) → function_named fs entry ≡ Some f → HasNames f → IsProgramOf fs entry (real_slots f.inputs (num_types ds)) p)
    → map form_of p.interface.outputs ≡ map real_form types
    → text ≡ layout p → ((q : Program) → IsWellFormed q → IsText q (layout q)) → ((q r : Program) (bytes : List ℕ) → IsWellFormed q → IsWellFormed r → IsText q bytes → IsText r bytes → q ≡ r)
    → IsCompiled source entry ds text
compiled source entry ds text tokens fs types p scalars o kept tree told right outs is laid one =
    let whole = token_tree source tokens fs o tree in
    let at = entry_of (text_at (lexemes_of source tokens)) fs entry (num_types ds) types told in
    let good = right at.0 at.1 (has_names source tokens fs entry at.0 kept whole at.1) in
    record {
      file = fs;
      tree = tree;
      function = at.0;
      is_entry = at.1;
      counts = sym (length-map ds (λ d. type_of d.num)) ∙ at.2;
      types = types;
      accepted = record { tokens = tokens; are = o; file = fs; tree = whole; tells = told };
      program = p;
      is_text = is;
      only = λ q formed t. one q p text formed good.well_formed t (subst (IsText p) (sym is) (laid p good.well_formed));
      is_program = subst (λ slots. IsProgramOf fs entry slots p) (slots_are at.0.inputs ds scalars) good;
      outputs = outs;
    }

-- refusals of the layers are refusals of the source
pub tokens_refused : (source entry : List ℕ) (ds : List Declared) (s : Stop Refusal) → RefusesOnly s (λ r. IsOutcome source (Refuses r)) → RefusesAt s (IsSourceRefusal source entry ds)
tokens_refused source entry ds (stop.Refused r) h = inl (record { outcome = Refuses r; is = h; gives = refl })
tokens_refused source entry ds stop.Memory h = tt

pub tree_refused : (source entry : List ℕ) (ds : List Declared) (s : Stop Refusal) → RefusesOnly s (λ r. IsParse source (Refused r)) → RefusesAt s (IsSourceRefusal source entry ds)
tree_refused source entry ds (stop.Refused r) h = inl h
tree_refused source entry ds stop.Memory h = tt

pub walk_refused : (source entry : List ℕ) (ds : List Declared) (tokens : List Token) (fs : List Fun) (s : Stop Refusal) → IsOutcome source (Gives tokens) → IsParse source (Tree fs)
    → RefusesAt s (λ r. walked (text_at (lexemes_of source tokens)) fs entry (num_types ds) ≡ told.Refuses r.code r.place r.shown) → RefusesAt s (IsSourceRefusal source entry ds)
walk_refused source entry ds tokens fs (stop.Refused r) o tree h = inr (record { tokens = tokens; are = o; file = fs; tree = token_tree source tokens fs o tree; tells = h })
walk_refused source entry ds tokens fs stop.Memory o tree h = tt

-- the refusal of the walk, told of equal arguments
pub told_refusal : (R : Type 0) (s : Stop Refusal) (t u : Told (List NumericType)) → u ≡ t → TellsTypes {R = R} (Err s) t → RefusesAt s (λ r. u ≡ told.Refuses r.code r.place r.shown)
told_refusal R (stop.Refused r) t u e h = e ∙ h
told_refusal R stop.Memory t u e h = tt
