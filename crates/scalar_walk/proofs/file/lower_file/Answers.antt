use Rattle.std.proofs.Common.{◌≡◌, Ok, Err, sym, ◌∙◌, map, reverse}
use Rattle.std.proofs.lemmas.List.{length-map}
use Rattle.std.proofs.lemmas.Simd.{map-map}
use Rattle.std.proofs.lemmas.Result.{err_from_is_err_and}
use Rattle.num_type.specs.View.{type_of}
use Rattle.mat_token.specs.Lexeme.{lexemes_of}
use Rattle.mat_ast.specs.View.{func_view, funcs_view}
use Rattle.fi_eval.specs.Meaning.{Context, context_of}
use Rattle.c_tree.specs.View.{program_view}
use Rattle.walk_scope.specs.Shown.{text_at}
use Rattle.walk_scope.specs.declared.name_set.NameSet.{NameSet}
use Rattle.walk_scope.specs.NameSets.{names_in}
use Rattle.walk_scope.specs.Scope.{Scope, scope_of}
use Rattle.scalar_walk.proofs.Files.{file_none, file_headers, file_walked, file_function, file_right}
use Rattle.scalar_walk.proofs.file.lower_file.Goals as goal

pub returns-in-None-clause-told : goal.returns-in-None-clause-told
returns-in-None-clause-told c =
    file_none c.refused.result (text_at (lexemes_of c.args.bytes.now c.args.tokens.now)) (funcs_view c.args.funcs.now) c.args.entry.now (map type_of c.args.types.now) (sym c.in-None.ensures) c.refused.ensures

pub returns-in_err-functions-in-Some-clause-told : goal.returns-in_err-functions-in-Some-clause-told
returns-in_err-functions-in-Some-clause-told c =
    let p = err_from_is_err_and c.from_residual.result c.from_residual.ensures.1 in
    rw (p.1, p.2) (file_headers c.in_err-functions-in-Some.field-0.0 (λ (s : NameSet). reverse (map (λ f. f.name.text) c.args.funcs.now))
    (text_at (lexemes_of c.args.bytes.now c.args.tokens.now)) (funcs_view c.args.funcs.now) c.args.entry.now (map type_of c.args.types.now) (func_view c.in-Some.f.now) (sym c.in-Some.ensures) c.in_err-functions-in-Some.ensures.told)

pub returns-in_err-program-in-Some-clause-told : goal.returns-in_err-program-in-Some-clause-told
returns-in_err-program-in-Some-clause-told c =
    let p = err_from_is_err_and c.from_residual-in_err-program-in-Some.result c.from_residual-in_err-program-in-Some.ensures.1 in
    let shown = text_at (lexemes_of c.args.bytes.now c.args.tokens.now) in
    let fs = funcs_view c.args.funcs.now in
    let f = func_view c.in-Some.f.now in
    let sc : Scope = record { context = record { variables = names_in c.in_ok-variables-in-Some.variables; functions = names_in c.in_ok-functions-in-Some.functions }; shown = shown } in
    let same : sc ≡ scope_of shown fs f = λ i. record { context = record { variables = c.in_ok-variables-in-Some.ensures i; functions = (c.in_ok-functions-in-Some.ensures.names ∙ sym (map-map (λ g. g.name.text) func_view c.args.funcs.now)) i }; shown = shown } in
    rw (p.1, p.2) (file_function (Err c.in_err-program-in-Some.field-0.0) shown fs c.args.entry.now (map type_of c.args.types.now) f (reverse (map (λ f. f.name.text) c.args.funcs.now)) sc
    (sym c.in-Some.ensures) c.in_ok-functions-in-Some.ensures.told same c.in_err-program-in-Some.ensures.told)

pub returns-in_ok-program-in-Some-clause-told : goal.returns-in_ok-program-in-Some-clause-told
returns-in_ok-program-in-Some-clause-told c =
    let shown = text_at (lexemes_of c.args.bytes.now c.args.tokens.now) in
    let fs = funcs_view c.args.funcs.now in
    let f = func_view c.in-Some.f.now in
    let sc : Scope = record { context = record { variables = names_in c.in_ok-variables-in-Some.variables; functions = names_in c.in_ok-functions-in-Some.functions }; shown = shown } in
    let same : sc ≡ scope_of shown fs f = λ i. record { context = record { variables = c.in_ok-variables-in-Some.ensures i; functions = (c.in_ok-functions-in-Some.ensures.names ∙ sym (map-map (λ g. g.name.text) func_view c.args.funcs.now)) i }; shown = shown } in
    file_function (Ok c.in_ok-program-in-Some.program) shown fs c.args.entry.now (map type_of c.args.types.now) f (reverse (map (λ f. f.name.text) c.args.funcs.now)) sc
    (sym c.in-Some.ensures) c.in_ok-functions-in-Some.ensures.told same c.in_ok-program-in-Some.ensures.told

pub returns-in_ok-program-in-Some-clause-right : goal.returns-in_ok-program-in-Some-clause-right
returns-in_ok-program-in-Some-clause-right c =
    let fs = funcs_view c.args.funcs.now in
    let f = func_view c.in-Some.f.now in
    let cx : Context = record { variables = names_in c.in_ok-variables-in-Some.variables; functions = names_in c.in_ok-functions-in-Some.functions } in
    let same : cx ≡ context_of fs f = λ i. record { variables = c.in_ok-variables-in-Some.ensures i; functions = (c.in_ok-functions-in-Some.ensures.names ∙ sym (map-map (λ g. g.name.text) func_view c.args.funcs.now)) i } in
    file_right fs c.args.entry.now f (map type_of c.args.types.now) (program_view c.in_ok-program-in-Some.program) (reverse (map (λ f. f.name.text) c.args.funcs.now)) cx
    (sym c.in-Some.ensures) (sym same) c.in_ok-functions-in-Some.ensures.told (c.in_ok-program-in-Some.ensures.counts ∙ sym (length-map c.args.types.now type_of)) c.in_ok-program-in-Some.ensures.right

pub returns-in_ok-program-in-Some-clause-outputs : goal.returns-in_ok-program-in-Some-clause-outputs
returns-in_ok-program-in-Some-clause-outputs c =
    let shown = text_at (lexemes_of c.args.bytes.now c.args.tokens.now) in
    let fs = funcs_view c.args.funcs.now in
    let f = func_view c.in-Some.f.now in
    let sc : Scope = record { context = record { variables = names_in c.in_ok-variables-in-Some.variables; functions = names_in c.in_ok-functions-in-Some.functions }; shown = shown } in
    let same : sc ≡ scope_of shown fs f = λ i. record { context = record { variables = c.in_ok-variables-in-Some.ensures i; functions = (c.in_ok-functions-in-Some.ensures.names ∙ sym (map-map (λ g. g.name.text) func_view c.args.funcs.now)) i }; shown = shown } in
    λ us h. c.in_ok-program-in-Some.ensures.outputs us (file_walked shown fs c.args.entry.now (map type_of c.args.types.now) f (reverse (map (λ f. f.name.text) c.args.funcs.now)) sc
    (sym c.in-Some.ensures) c.in_ok-functions-in-Some.ensures.told same ∙ h)
