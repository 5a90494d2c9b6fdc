use Rattle.std.proofs.Common.{[], ◌∷◌, ◌++◌, ◌+◌, drop, take, map, reverse, Err, sym, ap, subst, ◌∙◌}
use Rattle.std.proofs.lemmas.Result.{err_from_is_err_and}
use Rattle.walk_scope.specs.Names.{is_listed}
use Rattle.walk_scope.specs.Headers.{names_checked}
use Rattle.walk_scope.specs.View.{Tells}
use Rattle.walk_scope.proofs.Checks.{listed_reverse, grown, longer, names_step}
use Rattle.walk_scope.proofs.Tell.{part_tells, passed}
use Rattle.walk_scope.proofs.Lefts.{left_at}
use Rattle.walk_scope.proofs.headers.check_names.Goals as goal

pub loop-k-preserved : goal.loop-k-preserved
loop-k-preserved c =
    let k = c.loop-k.k in
    let names = c.args.names.now in
    let n = c.index-names-k.result in
    let texts = map (λ n. n.text) (take k names) in
    let listed = c.contains-repeated.ensures ∙ (λ i. is_listed (c.as_bytes.ensures i) (c.loop-k.invariant.1 i)) ∙ sym (listed_reverse n.text texts) in (
      c.loop-k.invariant.0
          ∙ ap (λ l. names_checked l (reverse texts)) (left_at names k n n c.loop-k-test.true c.index-names-k.is)
          ∙ names_step n (drop (k + 1) names) (reverse texts)
          ∙ passed (names_checked (n ∷ []) (reverse texts)) (n.text ∷ reverse texts) (names_checked (drop (k + 1) names)) (c.in_ok-check_name.ensures.told (reverse texts) listed)
          ∙ ap (names_checked (drop (k + 1) names)) (grown (λ n. n.text) names k n c.loop-k-test.true c.index-names-k.is),
      c.in_ok-insert.ensures ∙ (λ i. c.loop-k.invariant.1 i ++ c.as_bytes-in-loop-k.ensures i ∷ []) ∙ longer (λ n. n.text) names k n c.loop-k-test.true c.index-names-k.is,
    )

pub returns-in_err-check_name : goal.returns-in_err-check_name
returns-in_err-check_name c =
    let p = err_from_is_err_and c.from_residual.result c.from_residual.ensures.1 in
    let k = c.loop-k.k in
    let names = c.args.names.now in
    let n = c.index-names-k.result in
    let s = c.in_err-check_name.field-0.0 in
    let texts = map (λ n. n.text) (take k names) in
    let listed = c.contains-repeated.ensures ∙ (λ i. is_listed (c.as_bytes.ensures i) (c.loop-k.invariant.1 i)) ∙ sym (listed_reverse n.text texts) in
    let whole = c.loop-k.invariant.0
    ∙ ap (λ l. names_checked l (reverse texts)) (left_at names k n n c.loop-k-test.true c.index-names-k.is)
    ∙ names_step n (drop (k + 1) names) (reverse texts) in
    record {
      told = rw (p.1, p.2) (subst (λ told. Tells {R = Unit {0}} (Err s) (λ u. reverse (map (λ n. n.text) names)) told) (sym whole)
          (part_tells s (λ u. n.text ∷ reverse texts) (λ u. reverse (map (λ n. n.text) names)) (names_checked (n ∷ []) (reverse texts)) (names_checked (drop (k + 1) names))
          (c.in_err-check_name.ensures.told (reverse texts) listed)));
    }
