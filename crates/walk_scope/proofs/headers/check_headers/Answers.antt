use Rattle.std.proofs.Common.{◌≡◌, [], ◌∷◌, ◌++◌, ◌+◌, drop, take, map, reverse, Err, sym, ap, subst, ◌∙◌}
use Rattle.std.proofs.lemmas.Result.{err_from_is_err_and}
use Rattle.mat_ast.specs.View.{func_view, funcs_view}
use Rattle.walk_scope.specs.Told.{Passes}
use Rattle.walk_scope.specs.declared.name_set.NameSet.{NameSet}
use Rattle.walk_scope.specs.NameSets.{names_in}
use Rattle.walk_scope.specs.Headers.{headers_checked}
use Rattle.walk_scope.specs.View.{Tells}
use Rattle.walk_scope.proofs.Checks.{grown, longer, headers_step}
use Rattle.walk_scope.proofs.Tell.{part_tells, passed}
use Rattle.walk_scope.proofs.Lefts.{left_at}
use Rattle.walk_scope.proofs.headers.check_headers.Goals as goal

pub loop-k-preserved : goal.loop-k-preserved
loop-k-preserved c =
    let k = c.loop-k.k in
    let fs = c.args.funcs.now in
    let f = c.index-funcs-k.result in
    let before = map (λ g. g.name.text) (take k fs) in (
      c.loop-k.invariant.0
          ∙ ap (λ l. headers_checked (funcs_view l) (reverse before)) (left_at fs k f f c.loop-k-test.true c.index-funcs-k.is)
          ∙ headers_step (func_view f) (funcs_view (drop (k + 1) fs)) (reverse before)
          ∙ passed (headers_checked (func_view f ∷ []) (reverse before)) (f.name.text ∷ reverse before) (headers_checked (funcs_view (drop (k + 1) fs)))
          (subst (λ l. headers_checked (func_view f ∷ []) (reverse l) ≡ Passes (f.name.text ∷ reverse l)) c.loop-k.invariant.1 c.in_ok-check_header.ensures.told)
          ∙ ap (headers_checked (funcs_view (drop (k + 1) fs))) (grown (λ g. g.name.text) fs k f c.loop-k-test.true c.index-funcs-k.is),
      c.in_ok-insert.ensures ∙ ap (λ b. names_in c.loop-k.seen ++ b ∷ []) c.as_bytes.ensures ∙ ap (λ l. l ++ f.name.text ∷ []) c.loop-k.invariant.1 ∙ longer (λ g. g.name.text) fs k f c.loop-k-test.true c.index-funcs-k.is,
    )

pub returns-in_err-check_header-clause-told : goal.returns-in_err-check_header-clause-told
returns-in_err-check_header-clause-told c =
    let p = err_from_is_err_and c.from_residual.result c.from_residual.ensures.1 in
    let k = c.loop-k.k in
    let fs = c.args.funcs.now in
    let f = c.index-funcs-k.result in
    let s = c.in_err-check_header.field-0.0 in
    let before = map (λ g. g.name.text) (take k fs) in
    let whole = c.loop-k.invariant.0
    ∙ ap (λ l. headers_checked (funcs_view l) (reverse before)) (left_at fs k f f c.loop-k-test.true c.index-funcs-k.is)
    ∙ headers_step (func_view f) (funcs_view (drop (k + 1) fs)) (reverse before) in
    rw (p.1, p.2) (subst (λ told. Tells {R = NameSet} (Err s) (λ u. reverse (map (λ g. g.name.text) fs)) told) (sym whole)
    (part_tells s (λ u. f.name.text ∷ reverse before) (λ u. reverse (map (λ g. g.name.text) fs)) (headers_checked (func_view f ∷ []) (reverse before)) (headers_checked (funcs_view (drop (k + 1) fs)))
    (subst (λ l. Tells {R = Unit {0}} (Err s) (λ u. f.name.text ∷ reverse l) (headers_checked (func_view f ∷ []) (reverse l))) c.loop-k.invariant.1 c.in_err-check_header.ensures.told)))
