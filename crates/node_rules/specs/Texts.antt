-- Types of nodes in shown texts, and what a refusal shows.
use Rattle.std.specs.Prelude.{ℕ, List, ◌++◌, codes}
use Rattle.shape_rules.specs.TypeText.{type_text, shape_text, complex_mark}
use Rattle.mat_ast.specs.declared.tree.PostOp.{PostOp}
use Rattle.mat_ast.specs.declared.tree.PostOp.TheVariants as post
use Rattle.mat_ast.specs.declared.tree.UnOp.{UnOp}
use Rattle.mat_ast.specs.declared.tree.UnOp.TheVariants as un
use Rattle.fi_rules.specs.Decimals.{size_text}
use Rattle.fi_rules.specs.Texts.{attached_text, Around, shown_text}
use Rattle.fi_rules.specs.Value.{Shape}
use Rattle.node_rules.specs.Ruled.{Why, Shows, Misfit, Most, Into, Said}
use Rattle.node_rules.specs.Types.{NodeTy, FiNode, LogicalNode, NumberNode, IndexNode, TextNode, MathNode, TypeNode}

abbrev pub of_shape : Shape → List ℕ
of_shape s = shape_text s.rows s.columns

-- a type: a fi as s16.15:1x4, with :c where it is complex and then the attached fimath; a logical as b:1x1; a constant as number:1x1
unfoldable pub ty_text : NodeTy → List ℕ
ty_text (FiNode t m c s) = type_text t ++ codes ":" ++ of_shape s ++ complex_mark c ++ attached_text m
ty_text (LogicalNode s) = codes "b:" ++ of_shape s
ty_text (NumberNode s xs ys) = codes "number:" ++ of_shape s
ty_text (IndexNode lo hi) = codes "index"
ty_text (TextNode text) = codes "text"
ty_text (MathNode m) = codes "fimath"
ty_text (TypeNode t) = codes "numerictype"

-- what a refusal shows, where this stands in the source
unfoldable pub why_text : Around → Why → List ℕ
why_text around (Shows shown) = shown_text around shown
why_text around (Misfit s t) = of_shape s ++ codes " with " ++ of_shape t
why_text around (Most n) = size_text n
why_text around (Into t u) = ty_text t ++ codes " into " ++ ty_text u
why_text around (Said text) = text

-- ---- operators as they are written

unfoldable pub sign_text : UnOp → List ℕ
sign_text un.Plus = codes "+"
sign_text un.Minus = codes "-"
sign_text un.Not = codes "~"

unfoldable pub mark_text : PostOp → List ℕ
mark_text post.CTranspose = codes "'"
mark_text post.Transpose = codes ".'"
