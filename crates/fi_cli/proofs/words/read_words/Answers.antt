use Rattle.std.proofs.Common.{◌≡◌, sym, ◌∙◌, ap, subst, map, string_bytes}
use Rattle.std.proofs.lemmas.Bool.{false≢true}
use Rattle.std.proofs.lemmas.List.{length-map}
use Rattle.fi_cli.proofs.FormTests.{bad_end0, bad0}
use Rattle.fi_cli.proofs.words.read_words.Goals as goal

pub returns-in_default-clause-bad : goal.returns-in_default-clause-bad
returns-in_default-clause-bad c = bad_end0 (map string_bytes c.args.words.now) (length-map c.args.words.now string_bytes ∙ c.in_default.ensures.cases)

pub returns-clause-bad : goal.returns-clause-bad
returns-clause-bad c =
    bad0 (map string_bytes c.args.words.now) (string_bytes c.in-Some.command.now) (map string_bytes c.in-Some.rest.now) (ap (map string_bytes) c.in-Some.ensures.cases.0)
    (λ e. false≢true (c.if-is_compile.ensures.1 (c.as_str.ensures.value ∙ e)))
    (λ e. false≢true (c.if-is_run.ensures.1 (c.as_str-2.ensures.value ∙ e)))
