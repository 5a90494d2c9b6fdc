use Rattle.std.proofs.Common.{◌≡◌, sym, ap, ◌∙◌}
use Rattle.c_run.specs.Shape.{shape_of}
use Rattle.c_run.proofs.Frames.{cells_shaped}
use Rattle.c_run.proofs.frame.Frame.put.Goals as goal

pub returns-then-place-elements-clause-shaped : goal.returns-then-place-elements-clause-shaped
returns-then-place-elements-clause-shaped c =
    ap shape_of (c.set_element.ensures c.in-Some.cells.now (sym c.in-Some.ensures))
    ∙ cells_shaped c.args.self.now c.args.array c.in-Some.cells.now _ c.args.element (sym c.in-Some.ensures)
