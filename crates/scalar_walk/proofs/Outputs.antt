-- What is told of assignments and outputs.
use Rattle.std.proofs.Common.{◌≡◌, ℕ, ◌+◌, Bool, true, false, List, [], ◌∷◌, ◌++◌, map, drop, Option, Some, Err, refl, sym, ap, subst, ◌∙◌, append_assoc, append-nil, if◌then◌else◌}
use Rattle.std.specs.Prelude.{option_map, bytes_eq}
use Rattle.std.proofs.lemmas.List.{map-append}
use Rattle.fic_base.specs.declared.refusal.Refusal.{Refusal}
use Rattle.num_type.specs.declared.memory.Stop.{Stop}
use Rattle.mat_ast.specs.declared.tree.Ident.{Ident}
use Rattle.num_type.specs.View.{type_of}
use Rattle.num_type.specs.Types.{NumericType}
use Rattle.scalar_walk.specs.declared.operand.Operand as code_operand
use Rattle.scalar_program.specs.Lowered.{Held, Names}
use Rattle.scalar_program.specs.NameMaps.{with_type}
use Rattle.walk_scope.specs.Told.{Told, Passes, Refuses, bind}
use Rattle.walk_scope.specs.View.{Tells}
use Rattle.walk_scope.proofs.Tell.{part_tells}
use Rattle.scalar_walk.specs.Walk.{Types, outputs_typed, output_typed}

-- the types of variables with their values
abbrev pub types_in : Names → Types
types_in names name = option_map (λ h. h.ty) (names name)

-- the type of a variable that was set
pub types_set : (names later : Names) (name : List ℕ) (h : Held) → later ≡ with_type names name h → types_in later ≡ with_type (types_in names) name h.ty
types_set names later name h e = λ i. λ other. (ap (λ n. option_map (λ h. h.ty) (n other)) e ∙ by (bytes_eq name other) (names other)) i
  where
    by : (b : Bool) (rest : Option Held) → option_map (λ h. h.ty) (if b then Some h else rest) ≡ (if b then Some h.ty else option_map (λ h. h.ty) rest)
    by true rest = refl
    by false rest = refl

-- ---- outputs

abbrev pub more_typed : List Ident → Types → List code_operand.Operand → Told (List NumericType)
more_typed os types done = bind (outputs_typed os types) (λ more. Passes (map (λ o. type_of o.num) done ++ more))

pub typed_start : (os : List Ident) (types : Types) (done : List code_operand.Operand) → done ≡ [] → outputs_typed os types ≡ more_typed os types done
unfolding bind
typed_start os types done h = by (outputs_typed os types) ∙ ap (more_typed os types) (sym h)
  where
    by : (told : Told (List NumericType)) → told ≡ bind told (λ more. Passes ([] ++ more))
    by (Passes ts) = refl
    by (Refuses c p s) = refl

-- what is left, from a first output
pub typed_step : (k : ℕ) (os : List Ident) (types : Types) (o : Ident) (x : code_operand.Operand) (done later : List code_operand.Operand) → drop k os ≡ o ∷ drop (k + 1) os → output_typed o types ≡ Passes (type_of x.num) → later ≡ done ++ (x ∷ []) → more_typed (drop k os) types done ≡ more_typed (drop (k + 1) os) types later
unfolding bind
typed_step k os types o x done later left told l =
    ap (λ l. more_typed l types done) left
    ∙ ap (λ g. bind (bind g (λ t. bind (outputs_typed (drop (k + 1) os) types) (λ ts. Passes (t ∷ ts)))) (λ more. Passes (map (λ o. type_of o.num) done ++ more))) told
    ∙ by (outputs_typed (drop (k + 1) os) types)
    ∙ ap (more_typed (drop (k + 1) os) types) (sym l)
  where
    by : (told : Told (List NumericType)) → bind (bind told (λ ts. Passes (type_of x.num ∷ ts))) (λ more. Passes (map (λ o. type_of o.num) done ++ more)) ≡ bind told (λ more. Passes (map (λ o. type_of o.num) (done ++ (x ∷ [])) ++ more))
    by (Passes ts) = ap Passes (sym (append_assoc (map (λ o. type_of o.num) done) (type_of x.num ∷ []) ts) ∙ ap (λ d. d ++ ts) (sym (map-append (λ o. type_of o.num) done (x ∷ []))))
    by (Refuses c p s) = refl

pub typed_refused : {R S : Type 0} (s : Stop Refusal) (view : R → NumericType) (whole : S → List NumericType) (k : ℕ) (os : List Ident) (types : Types) (o : Ident) (done : List code_operand.Operand) → drop k os ≡ o ∷ drop (k + 1) os → Tells {R = R} (Err s) view (output_typed o types) → Tells {R = S} (Err s) whole (more_typed (drop k os) types done)
typed_refused {R} {S} s view whole k os types o done left told =
    subst (λ l. Tells {R = S} (Err s) whole (more_typed l types done)) (sym left)
    (part_tells s (λ (t : List NumericType). t) whole (outputs_typed (o ∷ drop (k + 1) os) types) (λ more. Passes (map (λ o. type_of o.num) done ++ more))
    (part_tells s view (λ (t : List NumericType). t) (output_typed o types) (λ t. bind (outputs_typed (drop (k + 1) os) types) (λ ts. Passes (t ∷ ts))) told))

pub typed_end : (left : List Ident) (types : Types) (done : List code_operand.Operand) → left ≡ [] → more_typed left types done ≡ Passes (map (λ o. type_of o.num) done)
unfolding bind
typed_end left types done h = ap (λ l. more_typed l types done) h ∙ ap Passes (append-nil (map (λ o. type_of o.num) done))
