use Rattle.std.proofs.Common.{length, sym, ap, subst, ◌≤◌}
use Rattle.lower_scalar.specs.Part.{reach}
use Rattle.scalar_program.specs.Lowered.{read}
use Rattle.scalar_walk.specs.View.{names_view, spot_view}
use Rattle.scalar_walk.proofs.Lows.{read_below}
use Rattle.scalar_walk.proofs.leaves.lower_variable.Goals as goal

pub returns-in_ok-h-in-Some-clause-below : goal.returns-in_ok-h-in-Some-clause-below
returns-in_ok-h-in-Some-clause-below c =
    subst (λ n. reach (read (spot_view c.in_ok-h-in-Some.h.spot)) ≤ n) (ap length (sym c.in_ok-count-in-Some.ensures.words))
    (read_below c.get.result (names_view c.args.names.now) c.args.name.now c.in-Some.held c.in_ok-h-in-Some.h (length c.args.out.now.words) c.requires c.in-Some.is c.get.ensures c.in_ok-h-in-Some.ensures)
