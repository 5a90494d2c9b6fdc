use Rattle.scalar_walk.proofs.Tables.{held_put}
use Rattle.std.proofs.Common.{ap, ◌∙◌}
use Rattle.scalar_program.specs.NameMaps.{with_type}
use Rattle.scalar_walk.specs.View.{held_view, names_view}
use Rattle.scalar_walk.proofs.variables.Variables.set.Goals as goal

pub returns : goal.returns
returns c = λ i. λ other.
    (held_put c.in_ok-key.key.items c.args.held c.args.self.now.table c.insert.new.self c.in-Ok.ensures.updates other
    ∙ ap (λ b. with_type (names_view c.args.self.now) b (held_view c.args.held) other) c.in_ok-key.ensures.items) i
