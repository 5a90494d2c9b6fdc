use Rattle.std.proofs.Common.{sym, ap, subst, ◌∙◌}
use Rattle.num_type.specs.View.{type_of}
use Rattle.c_tree.specs.View.{program_view}
use Rattle.c_tree.specs.WellFormed.{IsWellFormed}
use Rattle.lower_scalar.specs.Part.{part_view}
use Rattle.part_run.proofs.Formed.{well_formed}
use Rattle.part_run.proofs.Types.{within}
use Rattle.part_run.proofs.program.program_of.Goals as goal

pub of-requires : goal.of-requires
of-requires c =
    subst IsWellFormed (sym c.in_ok-tree.ensures)
    (well_formed (type_of c.args.first) (type_of c.args.second) (type_of c.args.to) (part_view c.args.part) (within c.args.first) (within c.args.second) (within c.args.to) c.requires)

pub returns : goal.returns
returns c = ap program_view c.of.ensures ∙ c.in_ok-tree.ensures
