use Rattle.std.proofs.Common.{◌≡◌, ◌≢◌, ◌<◌, ℕ, List, ◌∷◌, [], sym, ◌∙◌, ap, refl, subst, arith, map, string_bytes, length, false}
use Rattle.std.proofs.lemmas.Bool.{false≢true}
use Rattle.std.proofs.lemmas.Grind.{common_steps}
use Rattle.std.proofs.lemmas.List.{length-map}
use Rattle.fi_cli.specs.Forms.{IsTurnsWord}
use Rattle.fi_cli.proofs.RunWords.{run_end1, run1, run_end2, run2, run_end3, run3, run4}
use Rattle.fi_cli.proofs.words.read_run.Goals as goal

pub returns-in_default-clause-bad : goal.returns-in_default-clause-bad
returns-in_default-clause-bad c = run_end1 (map string_bytes c.args.words.now) (length-map c.args.words.now string_bytes ∙ c.in_default.ensures.cases)

pub returns-then-is_nothing-clause-bad : goal.returns-then-is_nothing-clause-bad
returns-then-is_nothing-clause-bad c =
    run1 (map string_bytes c.args.words.now) (string_bytes c.in-Some.file.now) (map string_bytes c.in-Some.rest.now) (ap (map string_bytes) c.in-Some.ensures.cases.0)
    (sym c.as_str.ensures.value ∙ c.if-is_nothing.ensures.0 refl)

pub returns-in_default-split_first-clause-bad : goal.returns-in_default-split_first-clause-bad
returns-in_default-split_first-clause-bad c =
    run_end2 (map string_bytes c.args.words.now) (string_bytes c.in-Some.file.now) (map string_bytes c.in-Some.rest.now) (ap (map string_bytes) c.in-Some.ensures.cases.0)
    (λ e. false≢true (c.if-is_nothing.ensures.1 (c.as_str.ensures.value ∙ e)))
    (length-map c.in-Some.rest.now string_bytes ∙ c.in_default-split_first.ensures.cases)

pub returns-then-is_nothing-2-clause-bad : goal.returns-then-is_nothing-2-clause-bad
returns-then-is_nothing-2-clause-bad c =
    run2 (map string_bytes c.args.words.now) (string_bytes c.in-Some.file.now) (string_bytes c.in-Some-split_first.cases.now) (map string_bytes c.in-Some-split_first.rest.now)
    (ap (map string_bytes) c.in-Some.ensures.cases.0 ∙ ap (λ r. string_bytes c.in-Some.file.now ∷ map string_bytes r) c.in-Some-split_first.ensures.cases.0)
    (λ e. false≢true (c.if-is_nothing.ensures.1 (c.as_str.ensures.value ∙ e)))
    (sym c.as_str-2.ensures.value ∙ c.if-is_nothing-2.ensures.0 refl)

pub returns-in_default-split_first-2-clause-bad : goal.returns-in_default-split_first-2-clause-bad
returns-in_default-split_first-2-clause-bad c =
    run_end3 (map string_bytes c.args.words.now) (string_bytes c.in-Some.file.now) (string_bytes c.in-Some-split_first.cases.now) (map string_bytes c.in-Some-split_first.rest.now)
    (ap (map string_bytes) c.in-Some.ensures.cases.0 ∙ ap (λ r. string_bytes c.in-Some.file.now ∷ map string_bytes r) c.in-Some-split_first.ensures.cases.0)
    (λ e. false≢true (c.if-is_nothing.ensures.1 (c.as_str.ensures.value ∙ e)))
    (λ e. false≢true (c.if-is_nothing-2.ensures.1 (c.as_str-2.ensures.value ∙ e)))
    (length-map c.in-Some-split_first.rest.now string_bytes ∙ c.in_default-split_first-2.ensures.cases)

pub returns-in-None-clause-bad : goal.returns-in-None-clause-bad
returns-in-None-clause-bad c =
    run3 (map string_bytes c.args.words.now) (string_bytes c.in-Some.file.now) (string_bytes c.in-Some-split_first.cases.now) (string_bytes c.in-Some-split_first-2.bound.now) (map string_bytes c.in-Some-split_first-2.rest.now)
    (ap (map string_bytes) c.in-Some.ensures.cases.0 ∙ ap (λ r. string_bytes c.in-Some.file.now ∷ map string_bytes r) c.in-Some-split_first.ensures.cases.0
    ∙ ap (λ r. string_bytes c.in-Some.file.now ∷ string_bytes c.in-Some-split_first.cases.now ∷ map string_bytes r) c.in-Some-split_first-2.ensures.cases.0)
    (λ e. false≢true (c.if-is_nothing.ensures.1 (c.as_str.ensures.value ∙ e)))
    (λ e. false≢true (c.if-is_nothing-2.ensures.1 (c.as_str-2.ensures.value ∙ e)))
    (λ n h. c.in-None.ensures n (subst (λ w. IsTurnsWord w n) (sym c.as_bytes.ensures.value) h))

pub returns-else-is_empty-clause-bad : goal.returns-else-is_empty-clause-bad
returns-else-is_empty-clause-bad c =
    let some : 0 < length c.in-Some-split_first-2.rest.now = grind (arith, common_steps, c.is_empty.ensures, c.if-is_empty.false) in
    run4 (map string_bytes c.args.words.now) (string_bytes c.in-Some.file.now) (string_bytes c.in-Some-split_first.cases.now) (string_bytes c.in-Some-split_first-2.bound.now) (map string_bytes c.in-Some-split_first-2.rest.now)
    c.in-Some-read_turns.turns
    (ap (map string_bytes) c.in-Some.ensures.cases.0 ∙ ap (λ r. string_bytes c.in-Some.file.now ∷ map string_bytes r) c.in-Some-split_first.ensures.cases.0
    ∙ ap (λ r. string_bytes c.in-Some.file.now ∷ string_bytes c.in-Some-split_first.cases.now ∷ map string_bytes r) c.in-Some-split_first-2.ensures.cases.0)
    (λ e. false≢true (c.if-is_nothing.ensures.1 (c.as_str.ensures.value ∙ e)))
    (λ e. false≢true (c.if-is_nothing-2.ensures.1 (c.as_str-2.ensures.value ∙ e)))
    (subst (λ w. IsTurnsWord w c.in-Some-read_turns.turns) c.as_bytes.ensures.value c.in-Some-read_turns.ensures)
    (omega (arith, some, length-map c.in-Some-split_first-2.rest.now string_bytes))
