-- The walk over statements, in textual order.
use Rattle.std.specs.Prelude.{ℕ, zero, suc, ℤ, pos, ◌+ℤ◌, ◌*ℤ◌, int_le, Bool, true, false, ◌||◌, ◌++◌, nat_le, if◌then◌else◌, List, [], ◌∷◌, length, codes, Option, Some, None}
use Rattle.fic_base.specs.declared.code.Code.TheVariants as code
use Rattle.fic_base.specs.declared.place.Place.{Place}
use Rattle.mat_ast.specs.declared.tree.Ident.{Ident}
use Rattle.mat_ast.specs.Tree.{Exp, Name, Apply, Range, RangeBy, Sta, Assign, Store, Multi, IfOnly, IfElse, ForEach, WhileTrue, BreakOff, GoOn, Arms, NoArms, Arm, Block, Done, Next}
use Rattle.fi_rules.specs.Texts.{counts_text}
use Rattle.fi_rules.specs.Value.{is_scalar}
use Rattle.fi_eval.specs.Meaning.{place_of}
use Rattle.fi_meaning.specs.Expressions.{is_listed, args_count, site_of}
use Rattle.node_rules.specs.Pairs.{lesser, greater}
use Rattle.node_rules.specs.Ranges.{Turns, loop_ruled}
use Rattle.node_rules.specs.Stores.{is_assigned, store_ruled}
use Rattle.node_rules.specs.Texts.{ty_text}
use Rattle.node_rules.specs.Types.{NodeTy, LogicalNode, NumberNode, IndexNode}
use Rattle.walk_scope.specs.Told.{Told, Passes, Refuses, ◌>>=◌, when◌then◌else◌}
use Rattle.walk_scope.specs.Rules.{around_one}
use Rattle.typed_ir.specs.Tree.{Slot, TExp, TItems, TNone, TOne, TSta, TAssign, TStore, TMulti, TIfOnly, TIfElse, TForEach, TWhile, TBreak, TContinue, TArms, TNoArms, TArm, TBlock, TDone, TNext}
use Rattle.typed_ir.specs.Parts.{type_of, outputs_called}
use Rattle.source_typing.specs.Calls.{nothing_given}
use Rattle.source_typing.specs.Counts as counts
use Rattle.source_typing.specs.Counts.{Counts, limited_at, item_limit, nested}
use Rattle.source_typing.specs.Expressions.{Nowhere, typed, subscripts_typed, arguments_typed, called, variable, step_of_one}
use Rattle.source_typing.specs.Pending.{Typed, told_at}
use Rattle.source_typing.specs.SameTypes.{same_node}
use Rattle.source_typing.specs.Setting.{Setting, deeper, looped, looped_over, tested_again}
use Rattle.source_typing.specs.States as states
use Rattle.source_typing.specs.States.{State, type_of_name, readable, with_type, with_var, Unseen, kept, joined, closed, behind_jump, behind_items}

-- ---- targets

-- a loop variable is assigned nowhere but in the head of its loop
abbrev pub no_loop_variable : {A : Type 0} → Setting → Ident → A → Told A
no_loop_variable cx to x = when is_listed to.text cx.loops then Refuses code.LoopVariable to.place to.text else Passes x

-- a variable keeps its type, and a constant or an object its value
unfoldable pub kept_type : Ident → Option NodeTy → NodeTy → Told NodeTy
kept_type to None t = Passes t
kept_type to (Some old) t = when same_node old t then Passes t else Refuses code.TypeChange to.place (ty_text t ++ codes " into " ++ ty_text old)

-- a whole assignment of a value of this type
abbrev pub assigned_to : Setting → Ident → NodeTy → State → Told State
assigned_to cx to t st =
    when is_assigned t
    then (no_loop_variable cx to t >>= (λ u. kept_type to (type_of_name st to.text) u >>= (λ v. Passes (with_type to.text v st))))
    else Refuses code.FloatOperand to.place to.text

-- each target takes the output that stands at its number; there are as many
abbrev pub all_assigned : Setting → List Ident → List Slot → State → Told State
all_assigned cx [] slots st = Passes st
all_assigned cx (to ∷ targets) [] st = Passes st
all_assigned cx (to ∷ targets) (s ∷ slots) st = assigned_to cx to s.ty st >>= all_assigned cx targets slots

-- ---- calls that are asked for several outputs

-- a variable is one value
abbrev pub one_value : {A : Type 0} → Place → List ℕ → ℕ → State → Told A
one_value at name wanted st = variable at name st >>= (λ t. Refuses code.ArgCount at (counts_text wanted 1))

unfoldable pub outputs_typed : Exp → Setting → State → ℕ → Counts → Told Typed
outputs_typed (Name at name) cx st wanted c =
    when is_listed name cx.variables then one_value at name wanted st else called cx at name (nothing_given c) wanted
outputs_typed (Apply at name opens args) cx st wanted c =
    when is_listed name cx.variables
    then (subscripts_typed args cx st name 0 (args_count args) c >>= (λ s. one_value at name wanted st))
    else (arguments_typed args cx st Nowhere c >>= (λ g. called cx at name g wanted))
outputs_typed e cx st wanted c = Refuses code.ArgCount (place_of e) (counts_text wanted 1)

-- ---- conditions, and bounds of loops

-- a scalar logical, or a real scalar constant
unfoldable pub is_condition : NodeTy → Bool
is_condition (LogicalNode s) = is_scalar s
is_condition (NumberNode s cs None) = is_scalar s
is_condition t = false

abbrev pub condition_typed : Exp → Setting → State → Counts → Told Typed
condition_typed e cx st c =
    typed e cx st Nowhere c >>= (λ x. when is_condition (type_of x.exp) then Passes x else Refuses code.BadArgument (place_of e) (codes "condition"))

pub record Bounds : Type 0 where
  pub items : TItems
  pub turns : Turns
  pub counts : Counts

-- the range in the head of a loop is no node; its bounds are
unfoldable pub bounds_typed : Exp → Ident → Setting → State → Counts → Told Bounds
bounds_typed (Range at first last) to cx st c =
    typed first cx st Nowhere c >>= (λ x. typed last cx st Nowhere x.counts
    >>= (λ y. told_at at (around_one (codes ":")) (loop_ruled (type_of x.exp) step_of_one (type_of y.exp))
    >>= (λ l. Passes (record { items = TOne x.exp (TOne y.exp TNone); turns = l; counts = y.counts }))))
bounds_typed (RangeBy at first step last) to cx st c =
    typed first cx st Nowhere c >>= (λ x. typed step cx st Nowhere x.counts >>= (λ s. typed last cx st Nowhere s.counts
    >>= (λ y. told_at at (around_one (codes ":")) (loop_ruled (type_of x.exp) (type_of s.exp) (type_of y.exp))
    >>= (λ l. Passes (record { items = TOne x.exp (TOne s.exp (TOne y.exp TNone)); turns = l; counts = y.counts })))))
bounds_typed e to cx st c = Refuses code.LoopVariable to.place to.text

-- no input, and not the variable of a loop round it; then the number of its items
abbrev pub loop_allowed : {A : Type 0} → Setting → Ident → ℕ → A → Told A
loop_allowed cx to count x =
    when is_listed to.text cx.inputs || is_listed to.text cx.round then Refuses code.LoopVariable to.place to.text
    else (when nat_le count item_limit then Passes x else limited_at to.place item_limit)

-- the last of so many items, or the first where there is none
abbrev pub last_item : ℤ → ℤ → ℕ → ℤ
last_item first step zero = first
last_item first step (suc n) = first +ℤ step *ℤ pos n

-- the type of the loop variable: the interval of the items
abbrev pub item_type : Turns → NodeTy
item_type l = IndexNode (lesser l.first (last_item l.first l.step l.count)) (greater l.first (last_item l.first l.step l.count))

-- ---- jumps of the loop itself, not of loops in it

abbrev mutual
  pub jumps : Sta → Bool
  jumps (Assign to e) = false
  jumps (Store to opens args e) = false
  jumps (Multi targets e) = false
  jumps (IfOnly at arms) = jumps_in_arms arms
  jumps (IfElse at arms other) = jumps_in_arms arms || jumps_in other
  jumps (ForEach at to range body) = false
  jumps (WhileTrue at test body) = false
  jumps (BreakOff at) = true
  jumps (GoOn at) = true

  pub jumps_in_arms : Arms → Bool
  jumps_in_arms NoArms = false
  jumps_in_arms (Arm test body more) = jumps_in body || jumps_in_arms more

  pub jumps_in : Block → Bool
  jumps_in Done = false
  jumps_in (Next s more) = jumps s || jumps_in more

-- ---- statements, each with the state and the counts behind it

pub record TypedSta : Type 0 where
  pub sta : TSta
  pub state : State
  pub counts : Counts

pub record TypedBlock : Type 0 where
  pub block : TBlock
  pub state : State
  pub counts : Counts

pub record TypedArms : Type 0 where
  pub arms : TArms
  -- the statements behind `else`
  pub other : TBlock
  pub state : State
  pub counts : Counts

-- at the end of a block
abbrev pub ended : State → TypedBlock → Told TypedBlock
ended outside b = Passes (record b { state = closed outside.jumped b.state })

-- a missing `else` assigns nothing
abbrev pub no_other : Setting → State → Counts → Told TypedArms
no_other cx st c = Passes (record { arms = TNoArms; other = TDone; state = st; counts = c })

abbrev pub with_other : TypedBlock → Told TypedArms
with_other b = Passes (record { arms = TNoArms; other = b.block; state = b.state; counts = b.counts })

-- a jump, which stands in a loop
abbrev pub jump_typed : Place → List ℕ → TSta → Setting → State → Counts → Told TypedSta
jump_typed at word sta cx st c =
    when cx.in_loop then Passes (record { sta = sta; state = behind_jump st; counts = c }) else Refuses code.BadArgument at word

abbrev mutual
  pub statement_typed : Sta → Setting → State → Counts → Told TypedSta
  statement_typed (Assign to e) cx st c =
      typed e cx st Nowhere c >>= (λ x. assigned_to cx to (type_of x.exp) st
      >>= (λ later. Passes (record { sta = TAssign to x.exp; state = later; counts = x.counts })))
  statement_typed (Store to opens args e) cx st c =
      typed e cx st Nowhere c >>= (λ x. variable to.place to.text st >>= (λ t. no_loop_variable cx to t
      >>= (λ t. subscripts_typed args cx st to.text 0 (args_count args) x.counts
      >>= (λ s. told_at to.place (around_one to.text) (store_ruled t s.types (type_of x.exp))
      >>= (λ u. Passes (record { sta = TStore to (site_of opens) s.args x.exp; state = with_type to.text t st; counts = s.counts }))))))
  statement_typed (Multi (to ∷ []) e) cx st c =
      typed e cx st Nowhere c >>= (λ x. assigned_to cx to (type_of x.exp) st
      >>= (λ later. Passes (record { sta = TMulti (to ∷ []) x.exp; state = later; counts = x.counts })))
  statement_typed (Multi targets e) cx st c =
      outputs_typed e cx st (length targets) c >>= (λ x. all_assigned cx targets (outputs_called x.exp) st
      >>= (λ later. Passes (record { sta = TMulti targets x.exp; state = later; counts = x.counts })))
  statement_typed (IfOnly at arms) cx st c =
      arms_typed arms at cx st c no_other >>= (λ r. Passes (record { sta = TIfOnly at r.arms; state = r.state; counts = r.counts }))
  statement_typed (IfElse at arms other) cx st c =
      arms_typed arms at cx st c (λ inner before n. statements_typed other inner before n >>= ended before >>= with_other)
      >>= (λ r. Passes (record { sta = TIfElse at r.arms r.other; state = r.state; counts = r.counts }))
  statement_typed (ForEach at to range body) cx st c =
      nested at cx.nesting c >>= bounds_typed range to cx st
      >>= (λ l. loop_allowed cx to l.turns.count l.counts
      >>= statements_typed body (looped_over to.text cx) (with_type to.text (item_type l.turns) st) >>= ended st
      >>= (λ b. Passes (record {
        sta = TForEach at to l.items l.turns.first l.turns.step l.turns.count b.block;
        state = with_var to.text Unseen (behind_items l.turns.count (jumps_in body) st b.state);
        counts = b.counts;
      })))
  statement_typed (WhileTrue at test body) cx st c =
      nested at cx.nesting c >>= condition_typed test (tested_again cx) st
      >>= (λ x. statements_typed body (looped cx) st x.counts >>= ended st
      >>= (λ b. Passes (record { sta = TWhile at x.exp b.block; state = kept st b.state; counts = b.counts })))
  statement_typed (BreakOff at) cx st c = jump_typed at (codes "break") (TBreak at) cx st c
  statement_typed (GoOn at) cx st c = jump_typed at (codes "continue") (TContinue at) cx st c

  -- the arms of an `if`, and then what stands behind them; an arm is nested in the one before it
  pub arms_typed : Arms → Place → Setting → State → Counts → (Setting → State → Counts → Told TypedArms) → Told TypedArms
  arms_typed NoArms at cx st c otherwise = otherwise cx st c
  arms_typed (Arm test body more) at cx st c otherwise =
      condition_typed test cx st c >>= (λ x. nested at cx.nesting x.counts
      >>= statements_typed body (deeper cx) st >>= ended st
      >>= (λ b. arms_typed more at (deeper cx) (kept st b.state) b.counts otherwise
      >>= (λ r. Passes (record { arms = TArm x.exp b.block r.arms; other = r.other; state = joined b.state r.state; counts = r.counts }))))

  pub statements_typed : Block → Setting → State → Counts → Told TypedBlock
  statements_typed Done cx st c = Passes (record { block = TDone; state = st; counts = c })
  statements_typed (Next s more) cx st c =
      statement_typed s cx st c >>= (λ r. statements_typed more cx r.state r.counts
      >>= (λ b. Passes (record { block = TNext r.sta b.block; state = b.state; counts = b.counts })))
