use Rattle.std.proofs.Common.{ap, ◌∙◌, map, vec_items}
use Rattle.num_type.specs.View.{type_of}
use Rattle.c_run.specs.Within.{outputs_in, program_in}
use Rattle.lower_scalar.specs.Part.{part_view}
use Rattle.part_run.proofs.Ready.{ready, has_output, gives}
use Rattle.part_run.proofs.Types.{within}
use Rattle.part_run.proofs.run.run_part.Goals as goal

pub run-ran-requires : goal.run-ran-requires
run-ran-requires c =
    ready (program_in c.in_ok-machine.machine) (map vec_items c.deref.result.now) (type_of c.args.first.num) (type_of c.args.second.num) (type_of c.args.to)
    (part_view c.args.part) c.args.first.z c.args.second.z (c.in_ok-machine.ensures.program ∙ c.in_ok-program.ensures) (ap (map vec_items) c.deref.ensures.value ∙ c.in_ok-inputs.ensures)
    (within c.args.first.num) (within c.args.second.num) (within c.args.to) c.args.first.in_range c.args.second.in_range

pub output_of-z-requires : goal.output_of-z-requires
output_of-z-requires c =
    has_output (program_in c.run-ran.new.self) (type_of c.args.first.num) (type_of c.args.second.num) (type_of c.args.to) (part_view c.args.part)
    (c.run-ran.ensures.program ∙ c.in_ok-machine.ensures.program ∙ c.in_ok-program.ensures)

pub returns : goal.returns
returns c =
    gives (program_in c.in_ok-machine.machine) (map vec_items c.deref.result.now) (type_of c.args.first.num) (type_of c.args.second.num) (type_of c.args.to)
    (part_view c.args.part) c.args.first.z c.args.second.z c.output_of-z.result c.run-ran.result (outputs_in c.run-ran.new.self)
    (c.in_ok-machine.ensures.program ∙ c.in_ok-program.ensures) (ap (map vec_items) c.deref.ensures.value ∙ c.in_ok-inputs.ensures) c.run-ran.ensures.ran c.output_of-z.ensures
