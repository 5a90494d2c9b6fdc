-- What one argument of the code stands for as all of them.
use Rattle.std.proofs.Common.{◌≡◌, [], ◌∷◌, ap}
use Rattle.mat_ast.specs.View.{expr_view, args_of, args_view}
use Rattle.mat_ast.specs.Tree.{NoArgs, Item, Whole}
use Rattle.mat_ast.specs.declared.tree.Arg.{Arg}
use Rattle.mat_ast.specs.declared.tree.Arg.TheVariants as arg
use Rattle.mat_ast.specs.declared.tree.Expr.{Expr}
use Rattle.walk_scope.proofs.Opened.{item_is, all_is}

-- an expression alone as the arguments
pub item_view : (a : Arg) (e : Expr) → a ≡ arg.Item e → args_view (a ∷ []) ≡ Item (expr_view e) NoArgs
item_view a e h = ap (λ o. args_of (o ∷ [])) (item_is a e h)

-- all of a dimension alone as the subscripts
pub all_view : (a : Arg) → a ≡ arg.All → args_view (a ∷ []) ≡ Whole NoArgs
all_view a h = ap (λ o. args_of (o ∷ [])) (all_is a h)
