use Rattle.std.proofs.Common.{◌≡◌, List, [], ◌∷◌, refl, ap, map}
use Rattle.std.specs.Prelude.{Option, Some, None}
use Rattle.mat_ast.specs.declared.tree.Arg.{Arg}
use Rattle.mat_ast.specs.Tree.{Exp, NoArgs}
use Rattle.mat_ast.specs.View.{args_of, arg_view, args_view}
use Rattle.mat_moves.proofs.paren.is_empty.Goals as goal

not_none : (o : Option Exp) (os : List (Option Exp)) → args_of (o ∷ os) ≡ NoArgs → ⊥
not_none None os h = absurd (cc)
not_none (Some e) os h = absurd (cc)

nothing : (args : List Arg) → args_view args ≡ NoArgs → args ≡ []
nothing [] h = refl
nothing (a ∷ args) h = absurd (not_none (arg_view a) (map arg_view args) h)

pub returns : goal.returns
returns c = (λ h. ap args_view (c.is_empty.ensures.0 h), λ h. c.is_empty.ensures.1 (nothing c.args.given.now.args h))
