use Rattle.std.proofs.Common.{◌≡◌, ◌<◌, ◌^◌, map, vec_items, sym, ap, ◌∙◌, subst}
use Rattle.c_tree.specs.declared.tree.CTree.{CTree}
use Rattle.c_tree.specs.View.{program_view, block_view}
use Rattle.c_tree.specs.Names.{arrays_of}
use Rattle.c_tree.specs.Tokens.{body_token, closing_token}
use Rattle.c_tree.specs.Run.{zero_word}
use Rattle.c_run.specs.Shape.{program_shape}
use Rattle.c_run.specs.Fit.{FitArrays}
use Rattle.std.proofs.lemmas.List.{length-map}
use Rattle.c_tree.specs.Whole.{program_of}
use Rattle.c_run.proofs.Limits.{none_over}
use Rattle.c_run.proofs.Lists.{outputs_count}
use Rattle.c_run.proofs.machine.Machine.run.Goals as goal

pub run_tree-requires-clause-shaped : goal.run_tree-requires-clause-shaped
run_tree-requires-clause-shaped c = c.args.self.now.shaped ∙ ap (λ (t : CTree). program_shape (program_view t)) (sym c.tree-tree.ensures.value)

pub run_tree-requires-clause-first_is : goal.run_tree-requires-clause-first_is
run_tree-requires-clause-first_is c = c.args.self.now.first_is ∙ ap (λ (t : CTree). body_token (program_view t)) (sym c.tree-tree.ensures.value)

pub run_tree-requires-clause-counted : goal.run_tree-requires-clause-counted
run_tree-requires-clause-counted c = subst (λ (t : CTree). closing_token (program_view t) < 2 ^ 64) (sym c.tree-tree.ensures.value) c.args.self.now.counted

pub run_tree-requires-clause-within : goal.run_tree-requires-clause-within
run_tree-requires-clause-within c = none_over (program_view c.tree-tree.result.now) c.tree-tree.ensures.well_formed

pub run_tree-requires-clause-inputs : goal.run_tree-requires-clause-inputs
run_tree-requires-clause-inputs c = subst (λ (t : CTree). FitArrays (arrays_of (program_view t)).inputs (map vec_items c.args.inputs.now)) (sym c.tree-tree.ensures.value) c.requires

pub returns-clause-count : goal.returns-clause-count
returns-clause-count c =
    length-map c.run_tree.new.frame.outputs (λ cells. cells.items)
    ∙ sym (outputs_count (program_of c.args.self.now.program.now) c.run_tree.new.frame (c.run_tree.ensures.shaped ∙ c.args.self.now.shaped))
