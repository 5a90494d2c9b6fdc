-- Expressions behind their parts.
use Rattle.std.proofs.Common.{◌≡◌, ℕ, Bool, true, false, Option, Some, None, Result, Err, sym, ap, subst, ◌∙◌}
use Rattle.fic_base.specs.declared.place.Place.{Place}
use Rattle.mat_ast.specs.View.{expr_view, arg_view}
use Rattle.mat_ast.specs.declared.tree.Arg.{Arg}
use Rattle.mat_ast.specs.declared.tree.Arg.TheVariants as arg
use Rattle.mat_ast.specs.declared.tree.BinOp.{BinOp}
use Rattle.mat_ast.specs.declared.tree.Expr.{Expr, out-Expr}
use Rattle.mat_ast.specs.declared.tree.ExprKind.TheVariants as kind
use Rattle.fi_rules.specs.Value.{Val}
use Rattle.fi_eval.specs.Outcome.{Got, Gives, bind, ◌>>=◌, choose, or_wrong}
use Rattle.fi_values.specs.Logicals.{scalar_truth, truth_value}
use Rattle.fi_values.specs.Ranges.{ranged}
use Rattle.fi_meaning.specs.Environment.{Env}
use Rattle.fi_meaning.specs.Expressions.{Context, value, behind_left, decided, right_decides}
use Rattle.fi_meaning.specs.Operators.{by_operator}
use Rattle.eval_value.specs.Tells.{Tells}
use Rattle.eval_value.specs.View.{item_view, value_view}
use Rattle.eval_value.specs.declared.halt.Halt.{Halt}
use Rattle.eval_value.specs.declared.value.Value.{Value}
use Rattle.eval_source.specs.Items.{item_value}
use Rattle.eval_call.proofs.Follow.{after_ok, after_err}
use Rattle.walk_scope.proofs.Opened.{range_by_view, item_is, all_is}

-- a range with a step
pub stepped : (e first step last : Expr) (o : Option Expr) (cx : Context) (env : Env) (ends : Option ℕ) (x s : Val) (r : Result Value Halt) → (out-Expr e).kind ≡ kind.Range first o last → o ≡ Some step
    → value (expr_view first) cx env ends ≡ Gives x → value (expr_view step) cx env ends ≡ Gives s
    → Tells r value_view (value (expr_view last) cx env ends >>= (λ y. or_wrong (out-Expr e).place (ranged x s y))) → Tells r value_view (value (expr_view e) cx env ends)
stepped e first step last o cx env ends x s r is some h k t =
    let at = (out-Expr e).place in
    let view = range_by_view e first step last (is ∙ ap (λ m. kind.Range first m last) some) in
    subst (λ t. Tells r value_view (value t cx env ends)) (sym view)
    (after_ok r value_view (value (expr_view first) cx env ends) x (λ x. value (expr_view step) cx env ends >>= (λ s. value (expr_view last) cx env ends >>= (λ y. or_wrong at (ranged x s y)))) h
    (after_ok r value_view (value (expr_view step) cx env ends) s (λ s. value (expr_view last) cx env ends >>= (λ y. or_wrong at (ranged x s y))) k t))

-- ---- the right operand of an operator

pub operands_told : (r : Result Value Halt) (at : Place) (op : BinOp) (o : Option Bool) (x : Val) (right : Got Place Val) → o ≡ None → Tells r value_view (right >>= (λ y. or_wrong at (by_operator op x y))) → Tells r value_view (behind_left at op o x right)
unfolding behind_left
operands_told r at op o x right h t = subst (λ o. Tells r value_view (behind_left at op o x right)) (sym h) t

pub skipping_told : (r : Result Value Halt) (at : Place) (op : BinOp) (o : Option Bool) (b : Bool) (x : Val) (right : Got Place Val) → o ≡ Some b → Tells r value_view (behind_left at op (Some b) x right) → Tells r value_view (behind_left at op o x right)
skipping_told r at op o b x right h t = subst (λ o. Tells r value_view (behind_left at op o x right)) (sym h) t

-- o is the truth of the left operand, s whether it decides
pub skip_decided : (r : Result Value Halt) (at : Place) (op : BinOp) (b s : Bool) (o : Option Bool) (x : Val) (right : Got Place Val) → o ≡ scalar_truth x → s ≡ decided b o → s ≡ true
    → Tells r value_view (Gives (truth_value b)) → Tells r value_view (behind_left at op (Some b) x right)
unfolding behind_left choose
skip_decided r at op b s o x right truth is holds told =
    subst (λ c. Tells r value_view (choose c (Gives (truth_value b)) (right >>= (λ y. or_wrong at (right_decides (scalar_truth x) y))))) (sym holds ∙ is ∙ ap (decided b) truth) told

pub skip_right : (r : Result Value Halt) (at : Place) (op : BinOp) (b s : Bool) (o : Option Bool) (x : Val) (right : Got Place Val) → o ≡ scalar_truth x → s ≡ decided b o → s ≡ false
    → Tells r value_view (right >>= (λ y. or_wrong at (right_decides o y))) → Tells r value_view (behind_left at op (Some b) x right)
unfolding behind_left choose
skip_right r at op b s o x right truth is fails told =
    subst (λ c. Tells r value_view (choose c (Gives (truth_value b)) (right >>= (λ y. or_wrong at (right_decides (scalar_truth x) y))))) (sym fails ∙ is ∙ ap (decided b) truth)
    (subst (λ p. Tells r value_view (right >>= (λ y. or_wrong at (right_decides p y)))) truth told)

-- ---- an item

pub item_stops : (h : Halt) (a : Arg) (e : Expr) (cx : Context) (env : Env) (ends : Option ℕ) → a ≡ arg.Item e → Tells {R = Value} (Err h) value_view (value (expr_view e) cx env ends)
    → Tells {R = Option Value} (Err h) item_view (item_value (arg_view a) cx env ends)
unfolding item_value
item_stops h a e cx env ends is t =
    subst (λ o. Tells {R = Option Value} (Err h) item_view (item_value o cx env ends)) (sym (item_is a e is)) (after_err h value_view item_view (value (expr_view e) cx env ends) (λ v. Gives (Some v)) t)

pub item_passes : (a : Arg) (e : Expr) (v : Val) (cx : Context) (env : Env) (ends : Option ℕ) → a ≡ arg.Item e → value (expr_view e) cx env ends ≡ Gives v → item_value (arg_view a) cx env ends ≡ Gives (Some v)
unfolding item_value bind
item_passes a e v cx env ends is t = ap (λ o. item_value o cx env ends) (item_is a e is) ∙ ap (λ g. bind g (λ v. Gives (Some v))) t

pub item_all : (a : Arg) (cx : Context) (env : Env) (ends : Option ℕ) → a ≡ arg.All → item_value (arg_view a) cx env ends ≡ Gives None
unfolding item_value
item_all a cx env ends is = ap (λ o. item_value o cx env ends) (all_is a is)
