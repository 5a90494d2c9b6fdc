use Rattle.std.proofs.Common.{◌≡◌, ◌<◌, length, take, map, ◌++◌, ◌∷◌, [], sym, ap, ◌∙◌, arith}
use Rattle.std.proofs.lemmas.List.{map-append}
use Rattle.c_run.specs.Within.{outputs_in}
use Rattle.case_io.specs.Reads.{lists_of}
use Rattle.batch_run.proofs.Cases.{next_one}
use Rattle.batch_run.proofs.case.outputs.Goals as goal

pub loop-k-preserved : goal.loop-k-preserved
loop-k-preserved c =
    let all = outputs_in c.args.machine.now in
    let less : c.loop-k.k < length all = omega (arith, c.loop-k-test.true, c.requires.lists) in (
      omega (arith, c.loop-k-test.true),
      ap lists_of c.in_ok-push.ensures.items
          ∙ map-append (λ v. v.items) c.loop-k.lists.items (c.in_ok-list.list ∷ [])
          ∙ ap (λ ls. ls ++ c.in_ok-list.list.items ∷ []) c.loop-k.invariant.1
          ∙ ap (λ x. take c.loop-k.k all ++ x ∷ []) c.in_ok-list.ensures.items
          ∙ sym (next_one all c.loop-k.k c.output.result.now less c.output.ensures),
    )
