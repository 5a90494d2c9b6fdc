-- How many arguments a list of the code stands for.
use Rattle.std.proofs.Common.{◌≡◌, suc, List, [], ◌∷◌, map, length, ap, ◌∙◌, refl, Option, Some, None}
use Rattle.mat_ast.specs.View.{args_of, arg_view, args_view}
use Rattle.mat_ast.specs.Tree.{Exp}
use Rattle.mat_ast.specs.declared.tree.Arg.{Arg}
use Rattle.fi_meaning.specs.Expressions.{args_count}

count_of : (os : List (Option Exp)) → length os ≡ args_count (args_of os)
count_of [] = refl
count_of (None ∷ os) = ap suc (count_of os)
count_of (Some e ∷ os) = ap suc (count_of os)

pub map_length : {A B : Type 0} (f : A → B) (xs : List A) → length xs ≡ length (map f xs)
map_length f [] = refl
map_length f (x ∷ xs) = ap suc (map_length f xs)

-- how many arguments there are
pub count_is : (args : List Arg) → length args ≡ args_count (args_view args)
count_is args = map_length arg_view args ∙ count_of (map arg_view args)
