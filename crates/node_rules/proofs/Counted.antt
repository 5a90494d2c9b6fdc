-- The shape by which a node is counted, before its type is worked out, is that of its type.
use Rattle.std.proofs.Common.{◌≡◌, ap, Bool, true, false}
use Rattle.std.specs.Prelude.{◌||◌, nat_le, pos, None}
use Rattle.fic_base.specs.declared.code.Code.{Code}
use Rattle.fic_base.specs.declared.code.Code.TheVariants as code
use Rattle.mat_ast.specs.declared.tree.BinOp.{BinOp}
use Rattle.mat_ast.specs.declared.tree.BinOp.TheVariants as bin
use Rattle.fi_math.specs.Govern.{governed}
use Rattle.fi_math.specs.Rules.{sum_made}
use Rattle.fi_ops.specs.Bits.{word_type}
use Rattle.fi_rules.specs.declared.work.Work.{Work}
use Rattle.fi_rules.specs.declared.work.Work.TheVariants as work
use Rattle.fi_rules.specs.Checked.{Whole}
use Rattle.fi_rules.specs.Value.{Shape}
use Rattle.fi_eval.specs.Operators.{math_of}
use Rattle.fi_values.specs.Sums.{addends}
use Rattle.node_rules.specs.Built.{Calling, Gives, Pairs, Adds, Concatenates, calling_shape, function_worked}
use Rattle.node_rules.specs.Comparisons.{comparison_worked}
use Rattle.node_rules.specs.Concatenated.{total_word}
use Rattle.node_rules.specs.Operators.{pair_worked}
use Rattle.node_rules.specs.Ruled.{Ruled, Fine, Missing, Why, Shows, bind, ◌>>=◌, tested, limits_ruled, governed_ruled}
use Rattle.node_rules.specs.Sides.{Meeting, Folds, Meets, Multiplies, meeting_shape}
use Rattle.node_rules.specs.Types.{NodeTy, FiNode, LogicalNode, shape_of}
use Rattle.node_rules.specs.Worked.{element_made, worked}

-- a type has this shape, if there is one
abbrev Shaped : Shape → Ruled NodeTy → Type 0
Shaped s r = (t : NodeTy) → r ≡ Fine t → shape_of t ≡ s

shaped_type : (t : NodeTy) → Shaped (shape_of t) (Fine t)
shaped_type t u e = let i : u ≡ t = cc in ap (λ v. shape_of v) i

shaped_then : {A : Type 0} (s : Shape) (f : A → Ruled NodeTy) (c : Ruled A) → ((x : A) → Shaped s (f x)) → Shaped s (c >>= f)
unfolding bind
shaped_then s f (Fine x) k = k x
shaped_then s f (Missing code why) k = λ t e. absurd (cc)

shaped_test : (k : Code) (why : Why) (b : Bool) (t : NodeTy) → Shaped (shape_of t) (tested k why b t)
unfolding tested
shaped_test k why true t = shaped_type t
shaped_test k why false t = λ u e. absurd (cc)

worked_shaped : (w : Work) (m : Meeting) → Shaped (meeting_shape m) (worked w m)
unfolding worked meeting_shape
worked_shaped w (Folds t) = shaped_type t
worked_shaped w (Meets a b s) =
    shaped_then s _ (governed_ruled (governed a.math b.math)) (λ g.
    shaped_then s _ (limits_ruled a.own) (λ l. shaped_then s _ (limits_ruled b.own) (λ r.
    shaped_then s _ (limits_ruled (element_made w g.math a b)) (λ t. shaped_type (FiNode t g.attached (a.complex || b.complex) s)))))
worked_shaped w (Multiplies a b s) =
    shaped_then s _ (governed_ruled (governed a.math b.math)) (λ g.
    shaped_then s _ (limits_ruled a.own) (λ l. shaped_then s _ (limits_ruled b.own) (λ r.
    shaped_then s _ (limits_ruled (element_made work.Product g.math a b)) (λ u.
    shaped_then s _ (limits_ruled (sum_made g.math u a.shape.columns)) (λ t. shaped_type (FiNode t g.attached (a.complex || b.complex) s))))))

comparison_shaped : (m : Meeting) → Shaped (meeting_shape m) (comparison_worked m)
unfolding comparison_worked meeting_shape
comparison_shaped (Folds t) = shaped_type t
comparison_shaped (Meets a b s) =
    shaped_then s _ (governed_ruled (governed a.math b.math)) (λ g. shaped_then s _ (limits_ruled a.own) (λ l. shaped_then s _ (limits_ruled b.own) (λ r. shaped_type (LogicalNode s))))
comparison_shaped (Multiplies a b s) =
    shaped_then s _ (governed_ruled (governed a.math b.math)) (λ g. shaped_then s _ (limits_ruled a.own) (λ l. shaped_then s _ (limits_ruled b.own) (λ r. shaped_type (LogicalNode s))))

pub pair_shaped : (o : BinOp) (m : Meeting) → Shaped (meeting_shape m) (pair_worked o m)
unfolding pair_worked
pair_shaped bin.Add m = worked_shaped work.Sum m
pair_shaped bin.Sub m = worked_shaped work.Difference m
pair_shaped bin.ElemMul m = worked_shaped work.Product m
pair_shaped bin.Mul m = worked_shaped work.Product m
pair_shaped o m = comparison_shaped m

pub calling_shaped : (m : Calling) → Shaped (calling_shape m) (function_worked m)
unfolding function_worked calling_shape
calling_shaped (Gives t) = shaped_type t
calling_shaped (Pairs c p) = shaped_then p.shape _ (governed_ruled (governed p.left p.right)) (λ g. shaped_type (FiNode p.num g.attached c p.shape))
calling_shaped (Adds l a) = shaped_then _ _ (limits_ruled (sum_made (math_of a.math) a.num (addends l a.shape))) (λ t. shaped_type (FiNode t a.math a.complex _))
calling_shaped (Concatenates t ts s) = shaped_test code.TooWide (Shows (Whole (pos (total_word t ts)))) (nat_le (total_word t ts) 64) (FiNode (word_type (total_word t ts)) None false s)
