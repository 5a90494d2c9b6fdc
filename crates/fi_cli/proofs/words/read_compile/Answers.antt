use Rattle.std.proofs.Common.{sym, ◌∙◌, arith, subst, map, string_bytes, ◌∷◌, ap, refl, length}
use Rattle.std.specs.Prelude.{codes}
use Rattle.std.proofs.lemmas.Bool.{false≢true}
use Rattle.std.proofs.lemmas.List.{length-map}
use Rattle.std.proofs.lemmas.Option.{slice_get_within}
use Rattle.fic_base.specs.Names.{IsName}
use Rattle.fi_cli.specs.Forms.{AreTypeWords, IsCompile}
use Rattle.fi_cli.specs.View.{ReadsWords, IsNoTypeAt}
use Rattle.fi_cli.proofs.FormTests.{bad_end1, bad1, bad_end2, bad2, bad3, is_form}
use Rattle.fi_cli.proofs.words.read_compile.Goals as goal

pub returns-in_default-clause-bad : goal.returns-in_default-clause-bad
returns-in_default-clause-bad c = bad_end1 (map string_bytes c.args.words.now) (length-map c.args.words.now string_bytes ∙ c.in_default.ensures.cases)

pub returns-then-is_nothing-clause-bad : goal.returns-then-is_nothing-clause-bad
returns-then-is_nothing-clause-bad c =
    bad1 (map string_bytes c.args.words.now) (string_bytes c.in-Some.file.now) (map string_bytes c.in-Some.rest.now) (ap (map string_bytes) c.in-Some.ensures.cases.0)
    (sym c.as_str.ensures.value ∙ c.if-is_nothing.ensures.0 refl)

pub returns-in_default-split_first-clause-bad : goal.returns-in_default-split_first-clause-bad
returns-in_default-split_first-clause-bad c =
    bad_end2 (map string_bytes c.args.words.now) (string_bytes c.in-Some.file.now) (map string_bytes c.in-Some.rest.now) (ap (map string_bytes) c.in-Some.ensures.cases.0)
    (λ e. false≢true (c.if-is_nothing.ensures.1 (c.as_str.ensures.value ∙ e)))
    (length-map c.in-Some.rest.now string_bytes ∙ c.in_default-split_first.ensures.cases)

pub returns-then-not-is_name-clause-bad : goal.returns-then-not-is_name-clause-bad
returns-then-not-is_name-clause-bad c =
    bad2 (map string_bytes c.args.words.now) (string_bytes c.in-Some.file.now) (string_bytes c.in-Some-split_first.entry.now) (map string_bytes c.in-Some-split_first.rest.now)
    (ap (map string_bytes) c.in-Some.ensures.cases.0 ∙ ap (λ r. string_bytes c.in-Some.file.now ∷ map string_bytes r) c.in-Some-split_first.ensures.cases.0)
    (λ e. false≢true (c.if-is_nothing.ensures.1 (c.as_str.ensures.value ∙ e)))
    (λ n. false≢true (c.if-not-is_name.ensures.1 (subst IsName (sym c.as_bytes.ensures.value) n)))

pub returns-in-NoneAt-clause-bad : goal.returns-in-NoneAt-clause-bad
returns-in-NoneAt-clause-bad c =
    let none : IsNoTypeAt (map string_bytes c.in-Some-split_first.rest.now) c.in-NoneAt.at = subst (λ t. ReadsWords t (map string_bytes c.in-Some-split_first.rest.now)) c.in-NoneAt.is c.in_ok-types.ensures in
    let less = slice_get_within (map string_bytes c.in-Some-split_first.rest.now) c.in-NoneAt.at none.word none.there in
    bad3 (map string_bytes c.args.words.now) (string_bytes c.in-Some.file.now) (string_bytes c.in-Some-split_first.entry.now) (map string_bytes c.in-Some-split_first.rest.now) c.in-NoneAt.at _
    (ap (map string_bytes) c.in-Some.ensures.cases.0 ∙ ap (λ r. string_bytes c.in-Some.file.now ∷ map string_bytes r) c.in-Some-split_first.ensures.cases.0)
    (λ e. false≢true (c.if-is_nothing.ensures.1 (c.as_str.ensures.value ∙ e)))
    (subst IsName c.as_bytes.ensures.value (c.if-not-is_name.ensures.0 refl))
    none
    (omega (arith, less, length-map c.in-Some-split_first.rest.now string_bytes, ap length c.in-Some.ensures.cases.0, ap length c.in-Some-split_first.ensures.cases.0))

pub returns-in-All-clause-form : goal.returns-in-All-clause-form
returns-in-All-clause-form c =
    let types : AreTypeWords (map string_bytes c.in-Some-split_first.rest.now) c.in-All.types.items = subst (λ t. ReadsWords t (map string_bytes c.in-Some-split_first.rest.now)) c.in-All.is c.in_ok-types.ensures in
    subst (λ f. IsCompile f c.as_str-in-All-2.result.now c.in-All.types.items (codes "compile" ∷ map string_bytes c.args.words.now)) (sym c.as_str-in-All.ensures.value)
    (subst (λ e. IsCompile (string_bytes c.in-Some.file.now) e c.in-All.types.items (codes "compile" ∷ map string_bytes c.args.words.now)) (sym c.as_str-in-All-2.ensures.value)
    (is_form (map string_bytes c.args.words.now) (string_bytes c.in-Some.file.now) (string_bytes c.in-Some-split_first.entry.now) (map string_bytes c.in-Some-split_first.rest.now) c.in-All.types.items
    (ap (map string_bytes) c.in-Some.ensures.cases.0 ∙ ap (λ r. string_bytes c.in-Some.file.now ∷ map string_bytes r) c.in-Some-split_first.ensures.cases.0)
    (λ e. false≢true (c.if-is_nothing.ensures.1 (c.as_str.ensures.value ∙ e)))
    (subst IsName c.as_bytes.ensures.value (c.if-not-is_name.ensures.0 refl))
    types))
