-- A function added at the end of a file, whose name is apart from what the entry reaches.
use Rattle.std.proofs.Common.{◌≡◌, refl, sym, ap, ◌∙◌, subst, ℕ, zero, suc, Bool, false, List, [], ◌∷◌, ◌++◌}
use Rattle.std.specs.Prelude.{◌||◌, bytes_eq, if◌then◌else◌, map, Option, Some, None}
use Rattle.std.proofs.lemmas.Bool.{cond-false, false≢true, false_from_ne_true}
use Rattle.std.proofs.lemmas.Slice.Eq.{bytes_eq-Decides}
use Rattle.fic_base.specs.declared.place.Place.{Place}
use Rattle.mat_ast.specs.Tree.{Fun}
use Rattle.fi_eval.specs.Meaning.{function_named, variables_of, names_of, start}
use Rattle.fi_eval.specs.Outcome.{Got, bind, ◌>>=◌, or_wrong}
use Rattle.fi_rules.specs.Value.{Val}
use Rattle.fi_meaning.specs.Expressions.{is_listed}
use Rattle.fi_meaning.specs.Meaning.{file_call, evaluated}
use Rattle.fi_meaning.specs.Reach.{in_block, in_function, Reached, Itself, Onward, IsApart}
use Rattle.fi_meaning.proofs.Names.{Within, right}
use Rattle.fi_meaning.proofs.Alike.{Alike, alike, same_outcome, alike_bind, alike_both, alike_found}
use Rattle.fi_meaning.proofs.SameBodies.{block_alike}

listed_more : (fs : List Fun) (g : Fun) (name : List ℕ) → bytes_eq name g.name.text ≡ false → is_listed name (map (λ (h : Fun). h.name.text) (fs ++ (g ∷ []))) ≡ is_listed name (map (λ (h : Fun). h.name.text) fs)
listed_more [] g name other = rw other refl
listed_more (f ∷ fs) g name other = ap (λ (b : Bool). bytes_eq name f.name.text || b) (listed_more fs g name other)

named_more : (fs : List Fun) (g : Fun) (name : List ℕ) → bytes_eq g.name.text name ≡ false → function_named (fs ++ (g ∷ [])) name ≡ function_named fs name
named_more [] g name other = cond-false (bytes_eq g.name.text name) (Some g) None other
named_more (f ∷ fs) g name other = ap (λ (r : Option Fun). if bytes_eq f.name.text name then Some f else r) (named_more fs g name other)

differ : (x y : List ℕ) → (x ≡ y → ⊥) → bytes_eq x y ≡ false
differ x y h = false_from_ne_true (bytes_eq x y) (λ e. h ((bytes_eq-Decides x y).0 e))

-- a name that isn't the added function's, and whose function, if it has one, is reached
record IsKnown (fs : List Fun) (entry added name : List ℕ) : Type 0 where
  other : name ≡ added → ⊥
  leads : (h : Fun) → function_named fs name ≡ Some h → Reached fs entry h

-- the same of a name that stands in a function, where it is none of its variables
record IsKnownIn (fs : List Fun) (entry added : List ℕ) (f : Fun) (name : List ℕ) : Type 0 where
  other : name ≡ added → ⊥
  leads : is_listed name (variables_of f) ≡ false → (h : Fun) → function_named fs name ≡ Some h → Reached fs entry h

module _ (fs : List Fun) (g : Fun) (entry : List ℕ) (apart : IsApart fs entry g.name.text) where
  abbrev Known : List ℕ → Type 0
  Known = IsKnown fs entry g.name.text

  abbrev KnownIn : Fun → List ℕ → Type 0
  KnownIn = IsKnownIn fs entry g.name.text

  known : (f : Fun) → Reached fs entry f → Within (KnownIn f) (in_function f)
  known f r name h = record {
    other = λ e. false≢true (sym (apart.no_use f r) ∙ ap (in_function f) (sym e) ∙ h);
    leads = λ free k e. Onward f k name r h free e;
  }

  body_within : (f : Fun) → Reached fs entry f → Within (KnownIn f) (in_block f.body)
  body_within f r =
      right (KnownIn f) (λ name. is_listed name (names_of f.outputs)) (in_block f.body)
      (right (KnownIn f) (λ name. is_listed name (names_of f.inputs)) (λ name. is_listed name (names_of f.outputs) || in_block f.body name)
      (right (KnownIn f) (λ name. bytes_eq name f.name.text) (λ name. is_listed name (names_of f.inputs) || (is_listed name (names_of f.outputs) || in_block f.body name)) (known f r)))

  listed : (f : Fun) (name : List ℕ) → KnownIn f name → is_listed name (map (λ (h : Fun). h.name.text) (fs ++ (g ∷ []))) ≡ is_listed name (map (λ (h : Fun). h.name.text) fs)
  listed f name k = listed_more fs g name (differ name g.name.text k.other)

  -- behind the function of a known name
  found : {B : Type 0} (at : Place) (name : List ℕ) {h k : Fun → Got Place B} → Known name → ((f : Fun) → Reached fs entry f → Alike (h f) (k f)) → Alike (or_wrong at (function_named (fs ++ (g ∷ [])) name) >>= h) (or_wrong at (function_named fs name) >>= k)
  found at name {h = h} {k = k} known each =
      subst (λ (o : Option Fun). Alike (bind (or_wrong at o) h) (bind (or_wrong at (function_named fs name)) k))
      (sym (named_more fs g name (differ g.name.text name (λ e. known.other (sym e)))))
      (alike_found at (function_named fs name) (λ f e. each f (known.leads f e)))

  call_same : (n depth : ℕ) (running : List (List ℕ)) (at : Place) (name : List ℕ) (vs : List Val) (wanted : ℕ) → Known name → Alike (file_call (fs ++ (g ∷ [])) n depth running at name vs wanted) (file_call fs n depth running at name vs wanted)
  call_same n zero running at name vs wanted k = alike
  call_same n (suc depth) running at name vs wanted k =
      found at name k (λ f r. alike_both _ alike (alike_bind alike (λ env.
      alike_bind
      (alike_bind
      (block_alike (variables_of f) (map (λ (h : Fun). h.name.text) (fs ++ (g ∷ []))) (map (λ (h : Fun). h.name.text) fs) _ _ (KnownIn f) (listed f)
      (λ place callee given many free known. call_same n depth (name ∷ running) place callee given many (record { other = known.other; leads = known.leads free }))
      f.body false n env (body_within f r))
      (λ flow. alike))
      (λ later. alike))))

  entry_known : Known entry
  entry_known = record {
    other = λ e. false≢true (sym apart.no_entry ∙ (bytes_eq-Decides g.name.text entry).1 (sym e));
    leads = λ f e. Itself f e;
  }

  pub same_evaluated : (vs : List Val) (n : ℕ) → Alike (evaluated (fs ++ (g ∷ [])) entry vs n) (evaluated fs entry vs n)
  same_evaluated vs n =
      found start entry entry_known (λ f r. alike_bind alike (λ env.
      alike_bind
      (alike_bind
      (block_alike (variables_of f) (map (λ (h : Fun). h.name.text) (fs ++ (g ∷ []))) (map (λ (h : Fun). h.name.text) fs) _ _ (KnownIn f) (listed f)
      (λ place callee given many free known. call_same n 16 (f.name.text ∷ []) place callee given many (record { other = known.other; leads = known.leads free }))
      f.body false n env (body_within f r))
      (λ flow. alike))
      (λ later. alike)))

pub added_outcomes : (fs : List Fun) (g : Fun) (entry : List ℕ) (vs : List Val) (n : ℕ) → IsApart fs entry g.name.text → evaluated (fs ++ (g ∷ [])) entry vs n ≡ evaluated fs entry vs n
added_outcomes fs g entry vs n apart = same_outcome (same_evaluated fs g entry apart vs n)
