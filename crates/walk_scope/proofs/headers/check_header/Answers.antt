use Rattle.std.proofs.Common.{[], ◌∷◌, map, reverse, Err, sym, ap, subst, ◌∙◌}
use Rattle.std.proofs.lemmas.Result.{err_from_is_err_and}
use Rattle.mat_ast.specs.View.{func_view}
use Rattle.walk_scope.specs.Names.{is_listed}
use Rattle.walk_scope.specs.NameSets.{names_in}
use Rattle.walk_scope.specs.Headers.{names_checked}
use Rattle.walk_scope.specs.View.{Tells}
use Rattle.walk_scope.proofs.Checks.{listed_reverse, header_first, header_second, header_third, header_passes}
use Rattle.walk_scope.proofs.headers.check_header.Goals as goal

pub returns-in_err-check_names : goal.returns-in_err-check_names
returns-in_err-check_names c =
    let p = err_from_is_err_and c.from_residual.result c.from_residual.ensures.1 in
    let f = func_view c.args.f.now in
    let before = names_in c.args.before.now in
    let s = c.in_err-check_names.field-0.0 in
    record {
      told = rw (p.1, p.2) (header_first s (λ (u : Unit {0}). reverse (map (λ n. n.text) c.as_slice.result.now)) (λ u. f.name.text ∷ reverse before) f (reverse before)
          (subst (λ l. Tells (Err s) (λ (u : Unit {0}). reverse (map (λ n. n.text) c.as_slice.result.now)) (names_checked l [])) c.as_slice.ensures c.in_err-check_names.ensures.told));
    }

pub returns-in_err-check_name : goal.returns-in_err-check_name
returns-in_err-check_name c =
    let p = err_from_is_err_and c.from_residual-in_err-check_name.result c.from_residual-in_err-check_name.ensures.1 in
    let f = func_view c.args.f.now in
    let before = names_in c.args.before.now in
    let s = c.in_err-check_name.field-0.0 in
    let listed = c.contains-repeated.ensures ∙ ap (λ b. is_listed b before) c.as_bytes.ensures ∙ sym (listed_reverse f.name.text before) in
    record {
      told = rw (p.1, p.2) (header_second s (λ (u : Unit {0}). f.name.text ∷ reverse before) (λ u. f.name.text ∷ reverse before) f (reverse before) (reverse (map (λ n. n.text) c.as_slice.result.now))
          (ap (λ l. names_checked l []) (sym c.as_slice.ensures) ∙ c.in_ok-check_names.ensures.told) (c.in_err-check_name.ensures.told (reverse before) listed));
    }

pub returns-in_err-check_names-2 : goal.returns-in_err-check_names-2
returns-in_err-check_names-2 c =
    let p = err_from_is_err_and c.from_residual-in_err-check_names-2.result c.from_residual-in_err-check_names-2.ensures.1 in
    let f = func_view c.args.f.now in
    let before = names_in c.args.before.now in
    let s = c.in_err-check_names-2.field-0.0 in
    let listed = c.contains-repeated.ensures ∙ ap (λ b. is_listed b before) c.as_bytes.ensures ∙ sym (listed_reverse f.name.text before) in
    record {
      told = rw (p.1, p.2) (header_third s (λ (u : Unit {0}). reverse (map (λ n. n.text) c.as_slice-2.result.now)) (λ u. f.name.text ∷ reverse before) f (reverse before)
          (reverse (map (λ n. n.text) c.as_slice.result.now)) (f.name.text ∷ reverse before)
          (ap (λ l. names_checked l []) (sym c.as_slice.ensures) ∙ c.in_ok-check_names.ensures.told) (c.in_ok-check_name.ensures.told (reverse before) listed)
          (subst (λ l. Tells (Err s) (λ (u : Unit {0}). reverse (map (λ n. n.text) c.as_slice-2.result.now)) (names_checked l [])) c.as_slice-2.ensures c.in_err-check_names-2.ensures.told));
    }

pub returns : goal.returns
returns c =
    let f = func_view c.args.f.now in
    let before = names_in c.args.before.now in
    let listed = c.contains-repeated.ensures ∙ ap (λ b. is_listed b before) c.as_bytes.ensures ∙ sym (listed_reverse f.name.text before) in
    record {
      told = header_passes f (reverse before) (reverse (map (λ n. n.text) c.as_slice.result.now)) (f.name.text ∷ reverse before) (reverse (map (λ n. n.text) c.as_slice-2.result.now))
          (ap (λ l. names_checked l []) (sym c.as_slice.ensures) ∙ c.in_ok-check_names.ensures.told) (c.in_ok-check_name.ensures.told (reverse before) listed)
          (ap (λ l. names_checked l []) (sym c.as_slice-2.ensures) ∙ c.in_ok-check_names-2.ensures.told);
    }
