use Rattle.std.proofs.Common.{◌≡◌, ◌+◌, arith, ℤ, List, length, map, drop, sym, ap, ◌∙◌, subst, vec_items}
use Rattle.std.proofs.lemmas.List.{drop-set-lt}
use Rattle.num_type.specs.declared.container.Container.{Container}
use Rattle.c_tree.specs.Meaning.{Cells}
use Rattle.c_run.specs.Fit.{AreFit}
use Rattle.c_run.specs.Start.{AreFilling}
use Rattle.c_run.proofs.Fills.{fill_within, fill_fits, fill_step}
use Rattle.c_run.proofs.stores.fill_stores.Goals as goal

pub bounds-lists-k : goal.bounds-lists-k
bounds-lists-k c = fill_within vec_items c.args.lists.now c.loop-k.stores c.loop-k.k c.loop-k.invariant.filling c.loop-k-test.true

pub fill-requires-clause-count : goal.fill-requires-clause-count
fill-requires-clause-count c =
    let within = fill_within vec_items c.args.lists.now c.loop-k.stores c.loop-k.k c.loop-k.invariant.filling c.loop-k-test.true in
    let fits = fill_fits vec_items c.args.lists.now c.loop-k.stores c.loop-k.k c.index-stores-k.result c.index-lists-k.result c.loop-k.invariant.filling c.loop-k-test.true within c.index-stores-k.is c.index-lists-k.is in
    ap length c.as_slice.ensures.value ∙ fits.0.0 ∙ ap (λ (y : Cells). length y.items) c.index-stores-k.is

pub fill-requires-clause-fit : goal.fill-requires-clause-fit
fill-requires-clause-fit c =
    let within = fill_within vec_items c.args.lists.now c.loop-k.stores c.loop-k.k c.loop-k.invariant.filling c.loop-k-test.true in
    let fits = fill_fits vec_items c.args.lists.now c.loop-k.stores c.loop-k.k c.index-stores-k.result c.index-lists-k.result c.loop-k.invariant.filling c.loop-k-test.true within c.index-stores-k.is c.index-lists-k.is in
    subst (λ (y : Cells). AreFit y.container c.as_slice.result.now) c.index-stores-k.is
    (subst (λ (xs : List ℤ). AreFit c.index-stores-k.result.container xs) (sym c.as_slice.ensures.value) fits.0.1)

pub loop-k-preserved : goal.loop-k-preserved
loop-k-preserved c =
    let within = fill_within vec_items c.args.lists.now c.loop-k.stores c.loop-k.k c.loop-k.invariant.filling c.loop-k-test.true in
    let fits = fill_fits vec_items c.args.lists.now c.loop-k.stores c.loop-k.k c.index-stores-k.result c.index-lists-k.result c.loop-k.invariant.filling c.loop-k-test.true within c.index-stores-k.is c.index-lists-k.is in
    let make : Container → List ℤ → Cells = λ t xs. record { container = t; items = xs } in
    let made : c.fill.new.self ≡ make c.index-stores-k.result.container (vec_items c.index-lists-k.result) =
    c.fill.ensures ∙ ap (λ (y : Cells). make y.container c.as_slice.result.now) (sym c.index-stores-k.is)
    ∙ ap (λ (xs : List ℤ). make c.index-stores-k.result.container xs) c.as_slice.ensures.value in
    record {
      same =
          c.loop-k.invariant.same
          ∙ fill_step vec_items c.args.lists.now c.loop-k.stores c.loop-k.k c.index-stores-k.result c.fill.new.self c.index-lists-k.result c.loop-k-test.true within c.index-stores-k.is c.index-lists-k.is made;
      filling =
          subst (λ (cs : List Cells). AreFilling cs (drop (c.loop-k.k + 1) (map vec_items c.args.lists.now)))
          (sym (drop-set-lt (c.loop-k.k + 1) c.loop-k.stores c.loop-k.k c.fill.new.self (omega arith))) fits.1;
    }
