use Rattle.std.proofs.Common.{◌≡◌, ◌∙◌, ap, take, length, ◌++◌}
use Rattle.std.proofs.lemmas.Bool.{false≢true}
use Rattle.fi_cli.proofs.Cut.{read_all}
use Rattle.fi_cli.proofs.Tells.{told_map}
use Rattle.fi_cli.proofs.command.read_whole.Goals as goal

pub returns-clause-bytes : goal.returns-clause-bytes
returns-clause-bytes g c =
    told_map (g.S.Shelf.told c.args.shelf.now c.args.name.now) (λ bytes. c.read.new.into.items ≡ c.new-bytes.result.items ++ take 18446744073709551615 bytes)
    (λ bytes. c.read.new.into.items ≡ bytes)
    (λ bytes e.
    let read : c.read.new.into.items ≡ take 18446744073709551615 bytes = e ∙ ap (λ l. l ++ take 18446744073709551615 bytes) c.new-bytes.ensures.items in
    read ∙ read_all 18446744073709551615 bytes (λ full. false≢true (c.if-is_full.ensures.1 (ap length c.as_slice.ensures.value ∙ ap length read ∙ full))))
    c.in-Ok.ensures.leaves.3
