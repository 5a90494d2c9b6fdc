-- The types of the outputs of a program are those that the walk tells.
use Rattle.std.proofs.Common.{◌≡◌, ℕ, suc, List, [], ◌∷◌, length, map, refl, sym, ap, ◌∙◌, arith}
use Rattle.std.proofs.lemmas.Simd.{map-map}
use Rattle.num_type.specs.Types.{NumericType}
use Rattle.num_type.specs.View.{type_of}
use Rattle.mat_ast.specs.declared.tree.Ident.{Ident}
use Rattle.mat_ast.specs.Tree.{Fun}
use Rattle.c_tree.specs.Tree.{Program}
use Rattle.scalar_program.specs.Lowered.{Emitted, real_slots, program_of}
use Rattle.scalar_program.specs.Correspondence.{form_of, real_form}
use Rattle.scalar_walk.specs.declared.operand.Operand as code_operand
use Rattle.walk_scope.specs.Told.{Told, Passes, Refuses, bind}
use Rattle.scalar_walk.specs.Walk.{Types, output_typed, outputs_typed}
use Rattle.scalar_walk.specs.View.{operand_view}

-- what is told is one value
value_or : {A : Type 0} → A → Told A → A
value_or other (Passes x) = x
value_or other (Refuses c p s) = other

pub one_told : {A : Type 0} (x y : A) → Passes x ≡ Passes y → x ≡ y
unfolding value_or
one_told x y h = ap (value_or x) h

one_more : (told : Told NumericType) (more : Told (List NumericType)) (ts : List NumericType) → bind told (λ t. bind more (λ us. Passes (t ∷ us))) ≡ Passes ts → (us : List NumericType) × (more ≡ Passes us) × (length ts ≡ suc (length us))
unfolding bind
one_more (Passes t) (Passes us) ts h = (us, refl, ap length (sym (one_told (t ∷ us) ts h)))
one_more (Passes t) (Refuses c p s) ts h = absurd (cc)
one_more (Refuses c p s) more ts h = absurd (cc)

no_more : (ts : List NumericType) → Passes [] ≡ Passes ts → length ts ≡ 0
no_more ts h = ap length (sym (one_told [] ts h))

-- there are as many as outputs
typed_count : (os : List Ident) (types : Types) (ts : List NumericType) → outputs_typed os types ≡ Passes ts → length ts ≡ length os
typed_count [] types ts h = no_more ts h
typed_count (o ∷ os) types ts h =
    let m = one_more (output_typed o types) (outputs_typed os types) ts h in
    m.2 ∙ ap suc (typed_count os types m.0 m.1)

real_forms : (os : List Ident) (ts : List NumericType) → length ts ≡ length os → map form_of (real_slots os ts) ≡ map real_form ts
real_forms [] [] h = refl
real_forms [] (t ∷ ts) h = absurd (omega (arith, h))
real_forms (o ∷ os) [] h = absurd (omega (arith, h))
real_forms (o ∷ os) (t ∷ ts) h = ap (λ l. real_form t ∷ l) (real_forms os ts (omega (arith, h)))

pub outputs_are : (p : Program) (f : Fun) (ts : List NumericType) (em : Emitted) (items : List code_operand.Operand) (types : Types) (us : List NumericType)
    → p ≡ program_of f ts em (map operand_view items) → outputs_typed f.outputs types ≡ Passes (map (λ o. type_of o.num) items) → map (λ o. type_of o.num) items ≡ us
    → map form_of p.interface.outputs ≡ map real_form us
outputs_are p f ts em items types us is told same =
    let nums = map (λ (o : code_operand.Operand). type_of o.num) items in
    ap (λ (q : Program). map form_of q.interface.outputs) is
    ∙ ap (λ l. map form_of (real_slots f.outputs l)) (map-map (λ o. o.num) operand_view items)
    ∙ real_forms f.outputs nums (typed_count f.outputs types nums told)
    ∙ ap (map real_form) same
