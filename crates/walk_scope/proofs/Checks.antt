-- What is told of the names of headers.
use Rattle.std.proofs.Common.{◌≡◌, ℕ, ◌+◌, ◌<◌, Bool, true, false, ◌||◌, List, [], ◌∷◌, ◌++◌, length, map, take, reverse, get_or, Err, refl, sym, ap, ◌∙◌}
use Rattle.std.specs.Prelude.{bytes_eq, codes}
use Rattle.std.proofs.lemmas.List.{take_more, map-append, reverse-append}
use Rattle.std.proofs.lemmas.List.Folds.{list_any-append}
use Rattle.fic_base.specs.declared.code.Code.TheVariants as code
use Rattle.fic_base.specs.declared.refusal.Refusal.{Refusal}
use Rattle.num_type.specs.declared.memory.Stop.{Stop}
use Rattle.mat_ast.specs.declared.tree.Ident.{Ident}
use Rattle.mat_ast.specs.Tree.{Fun}
use Rattle.walk_scope.specs.Names.{is_listed}
use Rattle.walk_scope.specs.Told.{Told, Passes, Refuses, ◌>>=◌, bind, choose, when◌then◌else◌}
use Rattle.walk_scope.specs.Headers.{names_checked, headers_checked}
use Rattle.walk_scope.specs.View.{Tells}
use Rattle.walk_scope.proofs.Tell.{part_tells, next_tells, passed}

-- the order of the names doesn't matter
pub listed_reverse : (name : List ℕ) (xs : List (List ℕ)) → is_listed name (reverse xs) ≡ is_listed name xs
listed_reverse name [] = refl
listed_reverse name (x ∷ xs) =
    ap (is_listed name) (reverse-append (x ∷ []) xs)
    ∙ list_any-append (λ other. bytes_eq other name) (reverse xs) (x ∷ [])
    ∙ ap (λ b. b || (bytes_eq x name || false)) (listed_reverse name xs)
    ∙ turned (is_listed name xs) (bytes_eq x name)
  where
    turned : (a b : Bool) → (a || (b || false)) ≡ (b || a)
    turned true true = refl
    turned true false = refl
    turned false true = refl
    turned false false = refl

-- one more name at the end
pub longer : {A : Type 0} (g : A → List ℕ) (xs : List A) (k : ℕ) (x : A) → k < length xs → x ≡ get_or xs k x → map g (take k xs) ++ g x ∷ [] ≡ map g (take (k + 1) xs)
longer g xs k x h is =
    sym (ap (map g) (take_more xs k x h ∙ ap (λ m. take k xs ++ (m ∷ [])) (sym is))
    ∙ map-append g (take k xs) (x ∷ []))

-- one more name
pub grown : {A : Type 0} (g : A → List ℕ) (xs : List A) (k : ℕ) (x : A) → k < length xs → x ≡ get_or xs k x → g x ∷ reverse (map g (take k xs)) ≡ reverse (map g (take (k + 1) xs))
grown g xs k x h is =
    sym (ap (λ l. reverse (map g l)) (take_more xs k x h ∙ ap (λ m. take k xs ++ (m ∷ [])) (sym is))
    ∙ ap reverse (map-append g (take k xs) (x ∷ []))
    ∙ reverse-append (map g (take k xs)) (g x ∷ []))

pub names_step : (n : Ident) (ns : List Ident) (seen : List (List ℕ)) → names_checked (n ∷ ns) seen ≡ bind (names_checked (n ∷ []) seen) (names_checked ns)
unfolding bind choose
names_step n ns seen = by (is_listed n.text (codes "varargin" ∷ codes "varargout" ∷ [])) (is_listed n.text seen)
  where
    by : (a b : Bool) → (when a then Refuses code.Unsupported n.place n.text else (when b then Refuses code.BadArgument n.place n.text else names_checked ns (n.text ∷ seen))) ≡ bind (when a then Refuses code.Unsupported n.place n.text else (when b then Refuses code.BadArgument n.place n.text else Passes (n.text ∷ seen))) (names_checked ns)
    by true b = refl
    by false true = refl
    by false false = refl

pub headers_step : (f : Fun) (fs : List Fun) (seen : List (List ℕ)) → headers_checked (f ∷ fs) seen ≡ bind (headers_checked (f ∷ []) seen) (headers_checked fs)
unfolding bind
headers_step f fs seen = by (names_checked f.outputs []) (names_checked (f.name ∷ []) seen) (names_checked f.inputs [])
  where
    by : (o h i : Told (List (List ℕ))) → bind o (λ outs. bind h (λ here. bind i (λ ins. headers_checked fs here))) ≡ bind (bind o (λ outs. bind h (λ here. bind i (λ ins. Passes here)))) (headers_checked fs)
    by (Passes x) (Passes y) (Passes z) = refl
    by (Passes x) (Passes y) (Refuses c p s) = refl
    by (Passes x) (Refuses c p s) i = refl
    by (Refuses c p s) h i = refl

-- ---- one header

abbrev inputs_next : Fun → List (List ℕ) → Told (List (List ℕ))
inputs_next f here = names_checked f.inputs [] >>= (λ ins. Passes here)

abbrev name_next : Fun → List (List ℕ) → List (List ℕ) → Told (List (List ℕ))
name_next f seen outs = names_checked (f.name ∷ []) seen >>= inputs_next f

pub header_first : {R S : Type 0} (s : Stop Refusal) (view : R → List (List ℕ)) (whole : S → List (List ℕ)) (f : Fun) (seen : List (List ℕ)) → Tells {R = R} (Err s) view (names_checked f.outputs []) → Tells {R = S} (Err s) whole (headers_checked (f ∷ []) seen)
header_first s view whole f seen h = part_tells s view whole (names_checked f.outputs []) (name_next f seen) h

pub header_second : {R S : Type 0} (s : Stop Refusal) (view : R → List (List ℕ)) (whole : S → List (List ℕ)) (f : Fun) (seen outs : List (List ℕ)) → names_checked f.outputs [] ≡ Passes outs → Tells {R = R} (Err s) view (names_checked (f.name ∷ []) seen) → Tells {R = S} (Err s) whole (headers_checked (f ∷ []) seen)
header_second s view whole f seen outs o h =
    next_tells (Err s) whole (names_checked f.outputs []) outs (name_next f seen) o (part_tells s view whole (names_checked (f.name ∷ []) seen) (inputs_next f) h)

pub header_third : {R S : Type 0} (s : Stop Refusal) (view : R → List (List ℕ)) (whole : S → List (List ℕ)) (f : Fun) (seen outs here : List (List ℕ)) → names_checked f.outputs [] ≡ Passes outs → names_checked (f.name ∷ []) seen ≡ Passes here → Tells {R = R} (Err s) view (names_checked f.inputs []) → Tells {R = S} (Err s) whole (headers_checked (f ∷ []) seen)
header_third s view whole f seen outs here o n h =
    next_tells (Err s) whole (names_checked f.outputs []) outs (name_next f seen) o
    (next_tells (Err s) whole (names_checked (f.name ∷ []) seen) here (inputs_next f) n
    (part_tells s view whole (names_checked f.inputs []) (λ ins. Passes here) h))

pub header_passes : (f : Fun) (seen outs here ins : List (List ℕ)) → names_checked f.outputs [] ≡ Passes outs → names_checked (f.name ∷ []) seen ≡ Passes here → names_checked f.inputs [] ≡ Passes ins → headers_checked (f ∷ []) seen ≡ Passes here
header_passes f seen outs here ins o n h =
    passed (names_checked f.outputs []) outs (name_next f seen) o
    ∙ passed (names_checked (f.name ∷ []) seen) here (inputs_next f) n
    ∙ passed (names_checked f.inputs []) ins (λ ins. Passes here) h
