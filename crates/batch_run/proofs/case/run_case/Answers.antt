use Rattle.std.proofs.Common.{◌≡◌, ◌∙◌, sym, ap, subst, map, vec_items, length}
use Rattle.c_tree.specs.Tree.{Program}
use Rattle.c_tree.specs.Names.{arrays_of}
use Rattle.c_tree.specs.Whole.{program_of}
use Rattle.c_run.specs.Fit.{FitArrays}
use Rattle.case_io.specs.Reads.{lists_of}
use Rattle.batch_run.proofs.Inputs.{inputs_fit}
use Rattle.batch_run.proofs.case.run_case.Goals as goal

pub run-ran-requires : goal.run-ran-requires
run-ran-requires c =
    subst (λ (q : Program). FitArrays (arrays_of q).inputs (map vec_items c.args.inputs.now)) (sym c.requires.program)
    (inputs_fit (program_of c.args.p.now) (lists_of c.args.inputs.now) c.args.p.now.well_formed.interface c.requires.inputs)
