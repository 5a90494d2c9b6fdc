use Rattle.std.proofs.Common.{ap, ◌∙◌}
use Rattle.c_tree.specs.Names.{container_for}
use Rattle.c_tree.proofs.Containers.{picked}
use Rattle.c_tree.proofs.array_names.container_of.Goals as goal

pub returns-in-Fi : goal.returns-in-Fi
returns-in-Fi c =
    rw c.in-Fi.is (picked c.container.result c.in-Fi.num.word c.container.ensures.holds c.container.ensures.narrowest
    ∙ ap (λ s. container_for s c.in-Fi.num.word) c.container.ensures.sign)
