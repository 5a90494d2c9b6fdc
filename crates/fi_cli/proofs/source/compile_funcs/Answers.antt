use Rattle.std.proofs.Common.{◌≡◌, ◌∙◌, sym, ap, subst, map, List, Some, ℕ}
use Rattle.num_type.specs.Types.{NumericType}
use Rattle.num_type.specs.View.{type_of}
use Rattle.mat_ast.specs.View.{funcs_view}
use Rattle.mat_token.specs.Lexeme.{lexemes_of}
use Rattle.fi_eval.specs.Meaning.{function_named}
use Rattle.c_tree.specs.declared.tree.CTree.{CTree}
use Rattle.c_tree.specs.View.{program_view}
use Rattle.walk_scope.specs.Shown.{text_at}
use Rattle.scalar_walk.specs.Walk.{walked}
use Rattle.scalar_program.specs.Lowered.{real_slots}
use Rattle.scalar_program.specs.Correspondence.{IsProgramOf}
use Rattle.fi_cli.specs.Source.{num_types}
use Rattle.fi_cli.proofs.Sources.{compiled, walk_refused, told_refusal}
use Rattle.fi_cli.proofs.source.compile_funcs.Goals as goal

pub returns-in-Ok-clause-text : goal.returns-in-Ok-clause-text
returns-in-Ok-clause-text c =
    let nums : map type_of c.as_slice.result.now ≡ num_types c.args.types.now = ap (map type_of) c.as_slice.ensures.value ∙ c.in_ok-nums.ensures in
    let same : walked (text_at (lexemes_of c.args.source.now c.args.list.now)) (funcs_view c.args.funcs.now) c.args.entry.now (num_types c.args.types.now)
    ≡ walked (text_at (lexemes_of c.args.source.now c.tokens.result.now)) (funcs_view c.args.funcs.now) c.as_bytes.result.now (map type_of c.as_slice.result.now) =
    λ i. walked (text_at (lexemes_of c.args.source.now (sym c.tokens.ensures i))) (funcs_view c.args.funcs.now) (sym c.as_bytes.ensures.value i) (sym nums i) in
    compiled c.args.source.now c.args.entry.now c.args.types.now c.in_ok-text_of-in-Ok.field-0.items c.args.list.now (funcs_view c.args.funcs.now) c.in-Ok.ensures.told.0 (program_view c.in-Ok.tree)
    c.requires.scalars c.requires.tokens c.requires.kept c.requires.tree (same ∙ c.in-Ok.ensures.told.1)
    (λ f e h. subst (λ (ns : List NumericType). IsProgramOf (funcs_view c.args.funcs.now) c.args.entry.now (real_slots f.inputs ns) (program_view c.in-Ok.tree)) nums
    (subst (λ (name : List ℕ). IsProgramOf (funcs_view c.args.funcs.now) name (real_slots f.inputs (map type_of c.as_slice.result.now)) (program_view c.in-Ok.tree)) c.as_bytes.ensures.value
    (c.in-Ok.ensures.right f (subst (λ (name : List ℕ). function_named (funcs_view c.args.funcs.now) name ≡ Some f) (sym c.as_bytes.ensures.value) e) h)))
    (c.in-Ok.ensures.outputs c.in-Ok.ensures.told.0 c.in-Ok.ensures.told.1)
    c.in_ok-text_of-in-Ok.ensures c.layout_is_a_text.ensures c.one_program.ensures

pub returns-clause-refusal : goal.returns-clause-refusal
returns-clause-refusal c =
    let nums : map type_of c.as_slice.result.now ≡ num_types c.args.types.now = ap (map type_of) c.as_slice.ensures.value ∙ c.in_ok-nums.ensures in
    let same : walked (text_at (lexemes_of c.args.source.now c.args.list.now)) (funcs_view c.args.funcs.now) c.args.entry.now (num_types c.args.types.now)
    ≡ walked (text_at (lexemes_of c.args.source.now c.tokens.result.now)) (funcs_view c.args.funcs.now) c.as_bytes.result.now (map type_of c.as_slice.result.now) =
    λ i. walked (text_at (lexemes_of c.args.source.now (sym c.tokens.ensures i))) (funcs_view c.args.funcs.now) (sym c.as_bytes.ensures.value i) (sym nums i) in
    walk_refused c.args.source.now c.args.entry.now c.args.types.now c.args.list.now (funcs_view c.args.funcs.now) c.in-Err.stop c.requires.tokens c.requires.tree
    (told_refusal CTree c.in-Err.stop _ _ same c.in-Err.ensures.told)
