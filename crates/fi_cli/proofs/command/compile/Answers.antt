use Rattle.std.proofs.Common.{◌≡◌, ◌∙◌, ap, subst, take, ◌++◌}
use Rattle.fi_cli.specs.Source.{IsCompiled, IsSourceRefusal}
use Rattle.fi_cli.specs.View.{cause_view, RefusesAt}
use Rattle.fi_cli.proofs.Tells.{told_map, refused_stands}
use Rattle.fi_cli.proofs.Cut.{cut_compiled, cut_refusal}
use Rattle.fi_cli.proofs.command.compile.Goals as goal

pub returns-in-Ok-compile_source-clause-bytes : goal.returns-in-Ok-compile_source-clause-bytes
returns-in-Ok-compile_source-clause-bytes g c =
    told_map (g.S.Shelf.told c.args.shelf.now c.args.command.file.now) (λ bytes. c.read.new.into.items ≡ c.new-source.result.items ++ take 1048577 bytes)
    (λ source. IsCompiled source c.args.command.entry.now c.args.command.types.items c.in-Ok-compile_source.text.items)
    (λ bytes e. cut_compiled bytes c.args.command.entry.now c.args.command.types.items c.in-Ok-compile_source.text.items
    (subst (λ source. IsCompiled source c.args.command.entry.now c.args.command.types.items c.in-Ok-compile_source.text.items)
    (c.as_slice.ensures.value ∙ e ∙ ap (λ l. l ++ take 1048577 bytes) c.new-source.ensures.items)
    (subst (λ ds. IsCompiled c.as_slice.result.now c.args.command.entry.now ds c.in-Ok-compile_source.text.items) c.as_slice-2.ensures.value c.in-Ok-compile_source.ensures.text)))
    c.in-Ok.ensures.leaves.3

pub returns-clause-cause : goal.returns-clause-cause
returns-clause-cause g c =
    refused_stands c.in-Err.stop (cause_view c.refused.result) c.as_slice.result.now c.args.command.file.now c.args.command.entry.now c.args.command.types.items _ c.refused.ensures
    (subst (λ ds. RefusesAt c.in-Err.stop (IsSourceRefusal c.as_slice.result.now c.args.command.entry.now ds)) c.as_slice-2.ensures.value c.in-Err.ensures.refusal)
    (λ r h. told_map (g.S.Shelf.told c.args.shelf.now c.args.command.file.now) (λ bytes. c.read.new.into.items ≡ c.new-source.result.items ++ take 1048577 bytes)
    (λ source. IsSourceRefusal source c.args.command.entry.now c.args.command.types.items r)
    (λ bytes e. cut_refusal bytes c.args.command.entry.now c.args.command.types.items r
    (subst (λ source. IsSourceRefusal source c.args.command.entry.now c.args.command.types.items r)
    (c.as_slice.ensures.value ∙ e ∙ ap (λ l. l ++ take 1048577 bytes) c.new-source.ensures.items) h))
    c.in-Ok.ensures.leaves.3)
