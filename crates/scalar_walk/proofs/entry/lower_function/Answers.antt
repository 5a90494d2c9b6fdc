use Rattle.std.proofs.Common.{◌≡◌, Err, sym, ap, subst, ◌∙◌, length, map}
use Rattle.std.specs.Prelude.{nat_eq}
use Rattle.std.proofs.lemmas.List.{length-map}
use Rattle.std.proofs.lemmas.Result.{err_from_is_err_and}
use Rattle.fic_base.specs.declared.code.Code.TheVariants as code
use Rattle.num_type.specs.View.{type_of}
use Rattle.mat_ast.specs.View.{func_view, block_view}
use Rattle.c_tree.specs.View.{program_view}
use Rattle.c_tree.specs.declared.tree.CTree.{CTree}
use Rattle.scalar_program.specs.Lowered.{Emitted, IsBlockLowered, inputs_from, no_names, outputs_lowered, program_of}
use Rattle.walk_scope.specs.Told.{Refuses, bind, choose}
use Rattle.scalar_walk.specs.Walk.{block_walked, outputs_typed}
use Rattle.fi_rules.specs.Texts.{counts_text}
use Rattle.walk_scope.specs.View.{Tells, scope_view}
use Rattle.scalar_walk.specs.View.{TellsTypes, AreBelow, names_view, emitted_view, operand_view, behind_view, walked_view}
use Rattle.scalar_walk.proofs.Functions.{start_of, wrong_count, starts, body_refused, outputs_refused, function_passes}
use Rattle.scalar_program.proofs.Whole.{program_right, all_within}
use Rattle.scalar_walk.proofs.OutputTypes.{one_told, outputs_are}
use Rattle.scalar_walk.proofs.Lows.{function_low, inputs_below, none_below}
use Rattle.scalar_walk.proofs.entry.lower_function.Goals as goal

pub returns-clause-lowered : goal.returns-clause-lowered
returns-clause-lowered c =
    let f = func_view c.args.f.now in
    let ts = map type_of c.args.types.now in
    let cx = (scope_view c.args.scope.now).context in
    let behind = behind_view c.lower_block.new.names c.lower_block.new.out in
    function_low cx f ts (names_view c.new-names.result) (names_view c.set_inputs.new.names) (emitted_view c.new-out.result)
    behind (map operand_view c.in_ok-outputs.outputs.items) (program_view c.in_ok-program.program) c.new-names.ensures
    (c.in_ok-set_inputs.ensures ∙ ap (λ l. inputs_from 0 l ts (names_view c.new-names.result)) c.as_slice.ensures)
    c.new-out.ensures.emitted
    (subst (λ l. IsBlockLowered (block_view l) cx (names_view c.set_inputs.new.names) (emitted_view c.new-out.result) behind) c.as_slice-2.ensures c.in_ok-lower_block.ensures.low)
    (ap (λ l. outputs_lowered l (names_view c.lower_block.new.names)) (sym c.as_slice-3.ensures) ∙ c.in_ok-outputs.ensures.low)
    (c.in_ok-program.ensures.program ∙ ap (λ l. program_of f ts (emitted_view c.lower_block.new.out) (map operand_view l)) c.as_slice-4.ensures.value)

pub lower_block-requires : goal.lower_block-requires
lower_block-requires c =
    let ts = map type_of c.args.types.now in
    let start = c.in_ok-set_inputs.ensures ∙ ap (inputs_from 0 c.as_slice.result.now ts) c.new-names.ensures in
    let none : length c.new-out.result.words ≡ 0 = ap (λ (e : Emitted). length e.words) c.new-out.ensures.emitted in
    subst (λ m. AreBelow m (length c.new-out.result.words)) (sym start) (subst (AreBelow (inputs_from 0 c.as_slice.result.now ts no_names)) (sym none) (inputs_below 0 c.as_slice.result.now ts no_names none_below))

pub returns-clause-right : goal.returns-clause-right
returns-clause-right c =
    λ fs entry found here same header.
    program_right (scope_view c.args.scope.now).context fs entry (func_view c.args.f.now) (map type_of c.args.types.now) (program_view c.in_ok-program.program) found here same header (all_within c.args.types.now)
    c.in_ok-program.ensures.few (returns-clause-lowered c)

pub returns-in_err-check_count-clause-told : goal.returns-in_err-check_count-clause-told
returns-in_err-check_count-clause-told c =
    let p = err_from_is_err_and c.from_residual.result c.from_residual.ensures.1 in
    let f = func_view c.args.f.now in
    let sc = scope_view c.args.scope.now in
    let ts = map type_of c.args.types.now in
    let n = length c.args.types.now in
    rw (p.1, p.2) (subst (λ k. TellsTypes {R = CTree} (Err c.in_err-check_count.field-0.0) (choose (nat_eq k (length f.inputs)) (bind (block_walked f.body sc (start_of f ts)) (λ w. outputs_typed f.outputs w.types)) (Refuses code.ArgCount f.name.place (counts_text k (length f.inputs)))))
    (sym (length-map c.args.types.now type_of))
    (wrong_count c.in_err-check_count.field-0.0 (λ u. n) (nat_eq n (length f.inputs)) n (bind (block_walked f.body sc (start_of f ts)) (λ w. outputs_typed f.outputs w.types))
    code.ArgCount f.name.place (counts_text n (length f.inputs)) c.in_err-check_count.ensures.told))

pub returns-in_err-lower_block-clause-told : goal.returns-in_err-lower_block-clause-told
returns-in_err-lower_block-clause-told c =
    let p = err_from_is_err_and c.from_residual-in_err-lower_block.result c.from_residual-in_err-lower_block.ensures.1 in
    let f = func_view c.args.f.now in
    let sc = scope_view c.args.scope.now in
    let ts = map type_of c.args.types.now in
    let s = c.in_err-lower_block.field-0.0 in
    let view = λ (u : Unit {0}). walked_view c.lower_block.new.names c.lower_block.new.out in
    let w = walked_view c.set_inputs.new.names c.new-out.result in
    let types = starts f.inputs ts (names_view c.new-names.result) (names_view c.set_inputs.new.names) c.new-names.ensures
    (c.in_ok-set_inputs.ensures ∙ ap (λ l. inputs_from 0 l ts (names_view c.new-names.result)) c.as_slice.ensures) in
    let start : w ≡ start_of f ts = λ i. record { types = types i; nodes = c.new-out.ensures.nodes i } in
    rw (p.1, p.2) (body_refused s view sc f ts w (length-map c.args.types.now type_of ∙ c.in_ok-check_count.ensures.counts) start
    (subst (λ l. Tells (Err s) view (block_walked (block_view l) sc w)) c.as_slice-2.ensures c.in_err-lower_block.ensures.told))

pub returns-in_err-outputs-clause-told : goal.returns-in_err-outputs-clause-told
returns-in_err-outputs-clause-told c =
    let p = err_from_is_err_and c.from_residual-in_err-outputs.result c.from_residual-in_err-outputs.ensures.1 in
    let f = func_view c.args.f.now in
    let sc = scope_view c.args.scope.now in
    let ts = map type_of c.args.types.now in
    let s = c.in_err-outputs.field-0.0 in
    let w = walked_view c.set_inputs.new.names c.new-out.result in
    let later = walked_view c.lower_block.new.names c.lower_block.new.out in
    let types = starts f.inputs ts (names_view c.new-names.result) (names_view c.set_inputs.new.names) c.new-names.ensures
    (c.in_ok-set_inputs.ensures ∙ ap (λ l. inputs_from 0 l ts (names_view c.new-names.result)) c.as_slice.ensures) in
    let start : w ≡ start_of f ts = λ i. record { types = types i; nodes = c.new-out.ensures.nodes i } in
    rw (p.1, p.2) (outputs_refused s (λ v. map (λ o. type_of o.num) v.items) sc f ts w later (length-map c.args.types.now type_of ∙ c.in_ok-check_count.ensures.counts) start
    (ap (λ l. block_walked (block_view l) sc w) (sym c.as_slice-2.ensures) ∙ c.in_ok-lower_block.ensures.told)
    (subst (λ l. Tells (Err s) (λ v. map (λ o. type_of o.num) v.items) (outputs_typed l later.types)) c.as_slice-3.ensures c.in_err-outputs.ensures.told))

pub returns-clause-told : goal.returns-clause-told
returns-clause-told c =
    let f = func_view c.args.f.now in
    let sc = scope_view c.args.scope.now in
    let ts = map type_of c.args.types.now in
    let w = walked_view c.set_inputs.new.names c.new-out.result in
    let later = walked_view c.lower_block.new.names c.lower_block.new.out in
    let types = starts f.inputs ts (names_view c.new-names.result) (names_view c.set_inputs.new.names) c.new-names.ensures
    (c.in_ok-set_inputs.ensures ∙ ap (λ l. inputs_from 0 l ts (names_view c.new-names.result)) c.as_slice.ensures) in
    let start : w ≡ start_of f ts = λ i. record { types = types i; nodes = c.new-out.ensures.nodes i } in
    let outs = map (λ o. type_of o.num) c.in_ok-outputs.outputs.items in (
      outs,
      function_passes sc f ts w later outs (length-map c.args.types.now type_of ∙ c.in_ok-check_count.ensures.counts) start
          (ap (λ l. block_walked (block_view l) sc w) (sym c.as_slice-2.ensures) ∙ c.in_ok-lower_block.ensures.told)
          (ap (λ l. outputs_typed l later.types) (sym c.as_slice-3.ensures) ∙ c.in_ok-outputs.ensures.told),
    )

pub returns-clause-outputs : goal.returns-clause-outputs
unfolding returns-clause-told
returns-clause-outputs c =
    let f = func_view c.args.f.now in
    let ts = map type_of c.args.types.now in
    let items = c.in_ok-outputs.outputs.items in
    let later = walked_view c.lower_block.new.names c.lower_block.new.out in
    λ us h. outputs_are (program_view c.in_ok-program.program) f ts (emitted_view c.lower_block.new.out) items later.types us
    (c.in_ok-program.ensures.program ∙ ap (λ l. program_of f ts (emitted_view c.lower_block.new.out) (map operand_view l)) c.as_slice-4.ensures.value)
    (ap (λ l. outputs_typed l later.types) (sym c.as_slice-3.ensures) ∙ c.in_ok-outputs.ensures.told)
    (one_told (map (λ o. type_of o.num) items) us (sym (returns-clause-told c).1 ∙ h))
