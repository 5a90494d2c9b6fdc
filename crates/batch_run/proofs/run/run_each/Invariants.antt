use Rattle.std.proofs.Common.{◌≡◌, map, vec_items, take}
use Rattle.c_tree.specs.Whole.{program_of}
use Rattle.c_run.specs.Within.{program_in}
use Rattle.case_io.specs.Reads.{lists_of}
use Rattle.batch_run.specs.Lines.{AreLines}
use Rattle.batch_run.proofs.run.run_each.Given as goal

abbrev pub invariant-loop-case : goal.invariant-loop-case
invariant-loop-case l =
    (l.number ≡ l.case-index) × (program_in l.machine ≡ program_of l.fn.p)
    × AreLines (program_of l.fn.p) l.turns 0 (take l.case-index (map (λ c. lists_of c.items) l.cases)) (map vec_items l.lines.items)
