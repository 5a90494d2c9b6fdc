use Rattle.std.proofs.Common.{ap}
use Rattle.fi_rules.specs.View.{ty_view}
use Rattle.fi_rules.proofs.Sameness.{text_differs, other_differs}
use Rattle.fi_rules.proofs.ty.is_same.Goals as goal

pub returns-in-Words : goal.returns-in-Words
returns-in-Words c = text_differs _ (ty_view c.args.a.now) (ty_view c.args.b.now) (ap (λ t. ty_view t) c.in-Words.is)

pub returns-in-Other : goal.returns-in-Other
returns-in-Other c = other_differs (ty_view c.args.a.now) (ty_view c.args.b.now) (ap (λ t. ty_view t) c.in-Other.is)
