-- The conditions of a node in the order of their codes: those before it is counted, its counts, and those behind.
use Rattle.std.specs.Prelude.{ℕ, List}
use Rattle.fic_base.specs.declared.place.Place.{Place}
use Rattle.mat_ast.specs.declared.tree.BinOp.{BinOp}
use Rattle.fi_rules.specs.Texts.{Around}
use Rattle.fi_rules.specs.Value.{Shape}
use Rattle.node_rules.specs.Operators.{pair_met, pair_worked}
use Rattle.node_rules.specs.Ruled.{Ruled, Fine, Missing, ◌>>=◌}
use Rattle.node_rules.specs.Sides.{meeting_shape}
use Rattle.node_rules.specs.Texts.{why_text}
use Rattle.node_rules.specs.Types.{NodeTy, shape_of}
use Rattle.walk_scope.specs.Told as told
use Rattle.walk_scope.specs.Told.{Told, Passes, Refuses}
use Rattle.typed_ir.specs.Tree.{TExp}
use Rattle.source_typing.specs.Counts.{Counts, counted, elements_in}

-- a node that has all that comes before its counts: its shape, and what comes behind them
pub record Pending : Type 0 where
  pub shape : Shape
  pub rest : Ruled NodeTy

-- nothing comes behind
abbrev pub settled : Ruled NodeTy → Ruled Pending
settled r = r >>= (λ t. Fine (record { shape = shape_of t; rest = Fine t }))

abbrev pub pair_pending : BinOp → NodeTy → NodeTy → Ruled Pending
pair_pending o x y = pair_met o x y >>= (λ m. Fine (record { shape = meeting_shape m; rest = pair_worked o m }))

-- what conditions come to at a place of the source
unfoldable pub told_at : {A : Type 0} → Place → Around → Ruled A → Told A
told_at at around (Fine x) = Passes x
told_at at around (Missing code why) = Refuses code at (why_text around why)

-- a typed node, with the counts behind it
pub record Typed : Type 0 where
  pub exp : TExp
  pub counts : Counts

-- a node of this type, whose conditions all hold
abbrev pub node : Place → NodeTy → (NodeTy → TExp) → Counts → Told Typed
node at t make c = told.bind (counted at (elements_in (shape_of t)) c) (λ n. Passes (record { exp = make t; counts = n }))

-- a node by its rule
abbrev pub node_by : Place → Around → Ruled Pending → (NodeTy → TExp) → Counts → Told Typed
node_by at around r make c =
    told.bind (told_at at around r) (λ p. told.bind (counted at (elements_in p.shape) c) (λ n.
    told.bind (told_at at around p.rest) (λ t. Passes (record { exp = make t; counts = n }))))
