-- What the walk over statements passes is within the limits.
use Rattle.std.proofs.Common.{◌≡◌, ℕ, zero, suc, List, [], ◌∷◌, length}
use Rattle.fic_base.specs.declared.place.Place.{Place}
use Rattle.mat_ast.specs.declared.tree.Ident.{Ident}
use Rattle.mat_ast.specs.Tree.{Exp, Number, Words, Name, Apply, End, Unary, Binary, Post, Range, RangeBy, Paren, Matrix, Sta, Assign, Store, Multi, IfOnly, IfElse, ForEach, WhileTrue, BreakOff, GoOn, Arms, NoArms, Arm, Block, Done, Next}
use Rattle.typed_ir.specs.Tree.{TSta}
use Rattle.walk_scope.specs.Told.{Told, Passes, Refuses}
use Rattle.source_typing.specs.Calls.{nothing_given}
use Rattle.source_typing.specs.Counts.{Counts, limited_at, nested}
use Rattle.source_typing.specs.Pending.{Typed}
use Rattle.source_typing.specs.Setting.{Setting, deeper, looped, looped_over, tested_again}
use Rattle.source_typing.specs.States.{State}
use Rattle.source_typing.specs.Statements.{Bounds, TypedSta, TypedBlock, TypedArms, outputs_typed, one_value, condition_typed, bounds_typed, loop_allowed, jump_typed, ended, no_other, with_other, statement_typed, arms_typed, statements_typed}
use Rattle.source_typing.specs.Within.{IsWithin}
use Rattle.source_typing.proofs.Passing.{Passing, goes_on, after_any, either}
use Rattle.source_typing.proofs.Counted.{TypedWithin, nested_within}
use Rattle.source_typing.proofs.Within.{CallsWithin, ArgsWithin, GivenWithin, typed_within, subscripts_within, arguments_within, called_within}

abbrev pub StaWithin : TypedSta → Type 0
StaWithin r = IsWithin r.counts

abbrev pub BlockWithin : TypedBlock → Type 0
BlockWithin b = IsWithin b.counts

abbrev pub ArmsWithin : TypedArms → Type 0
ArmsWithin r = IsWithin r.counts

abbrev pub BoundsWithin : Bounds → Type 0
BoundsWithin l = IsWithin l.counts

-- a variable gives no list of outputs
one_value_within : (at : Place) (name : List ℕ) (wanted : ℕ) (st : State) → Passing TypedWithin (one_value at name wanted st)
one_value_within at name wanted st = after_any TypedWithin _ _ (λ t. tt)

outputs_within : (e : Exp) (cx : Setting) → CallsWithin cx.call → (st : State) (wanted : ℕ) (c : Counts) → IsWithin c → Passing TypedWithin (outputs_typed e cx st wanted c)
unfolding outputs_typed
outputs_within (Name at name) cx calls st wanted c h = either TypedWithin _ _ _ (one_value_within at name wanted st) (called_within cx calls at name (nothing_given c) wanted h)
outputs_within (Apply at name opens args) cx calls st wanted c h =
    either TypedWithin _ _ _
    (goes_on ArgsWithin TypedWithin _ _ (subscripts_within args cx calls st name 0 _ c h) (λ s k. one_value_within at name wanted st))
    (goes_on GivenWithin TypedWithin _ _ (arguments_within args cx calls st _ c h) (λ g k. called_within cx calls at name g wanted k))
outputs_within (Number at text imaginary) cx calls st wanted c h = tt
outputs_within (Words at text) cx calls st wanted c h = tt
outputs_within (End at) cx calls st wanted c h = tt
outputs_within (Unary at sign e) cx calls st wanted c h = tt
outputs_within (Binary at o a b) cx calls st wanted c h = tt
outputs_within (Post at mark e) cx calls st wanted c h = tt
outputs_within (Range at first last) cx calls st wanted c h = tt
outputs_within (RangeBy at first step last) cx calls st wanted c h = tt
outputs_within (Paren at e) cx calls st wanted c h = tt
outputs_within (Matrix at rows) cx calls st wanted c h = tt

condition_within : (e : Exp) (cx : Setting) → CallsWithin cx.call → (st : State) (c : Counts) → IsWithin c → Passing TypedWithin (condition_typed e cx st c)
condition_within e cx calls st c h = goes_on TypedWithin TypedWithin _ _ (typed_within e cx calls st _ c h) (λ x k. either TypedWithin _ _ _ k tt)

bounds_within : (e : Exp) (to : Ident) (cx : Setting) → CallsWithin cx.call → (st : State) (c : Counts) → IsWithin c → Passing BoundsWithin (bounds_typed e to cx st c)
unfolding bounds_typed
bounds_within (Range at first last) to cx calls st c h =
    goes_on TypedWithin BoundsWithin _ _ (typed_within first cx calls st _ c h)
    (λ x k. goes_on TypedWithin BoundsWithin _ _ (typed_within last cx calls st _ x.counts k) (λ y l. after_any BoundsWithin _ _ (λ t. l)))
bounds_within (RangeBy at first step last) to cx calls st c h =
    goes_on TypedWithin BoundsWithin _ _ (typed_within first cx calls st _ c h)
    (λ x k. goes_on TypedWithin BoundsWithin _ _ (typed_within step cx calls st _ x.counts k)
    (λ s l. goes_on TypedWithin BoundsWithin _ _ (typed_within last cx calls st _ s.counts l) (λ y m. after_any BoundsWithin _ _ (λ t. m))))
bounds_within (Name at name) to cx calls st c h = tt
bounds_within (Apply at name opens args) to cx calls st c h = tt
bounds_within (Number at text imaginary) to cx calls st c h = tt
bounds_within (Words at text) to cx calls st c h = tt
bounds_within (End at) to cx calls st c h = tt
bounds_within (Unary at sign e) to cx calls st c h = tt
bounds_within (Binary at o a b) to cx calls st c h = tt
bounds_within (Post at mark e) to cx calls st c h = tt
bounds_within (Paren at e) to cx calls st c h = tt
bounds_within (Matrix at rows) to cx calls st c h = tt

allowed_within : (cx : Setting) (to : Ident) (count : ℕ) (c : Counts) → IsWithin c → Passing IsWithin (loop_allowed cx to count c)
allowed_within cx to count c h = either IsWithin _ _ _ tt (either IsWithin _ _ _ h tt)

ended_within : (outside : State) (b : TypedBlock) → IsWithin b.counts → Passing BlockWithin (ended outside b)
ended_within outside b h = h

jump_within : (at : Place) (word : List ℕ) (sta : TSta) (cx : Setting) (st : State) (c : Counts) → IsWithin c → Passing StaWithin (jump_typed at word sta cx st c)
jump_within at word sta cx st c h = either StaWithin cx.in_loop _ _ h tt

-- what stands behind the arms of an `if`
abbrev pub OtherWithin : (Setting → State → Counts → Told TypedArms) → Type 0
OtherWithin otherwise = (cx : Setting) → CallsWithin cx.call → (st : State) (c : Counts) → IsWithin c → Passing ArmsWithin (otherwise cx st c)

mutual
  pub statement_within : (s : Sta) (cx : Setting) → CallsWithin cx.call → (st : State) (c : Counts) → IsWithin c → Passing StaWithin (statement_typed s cx st c)
  statement_within (Assign to e) cx calls st c h = goes_on TypedWithin StaWithin _ _ (typed_within e cx calls st _ c h) (λ x k. after_any StaWithin _ _ (λ later. k))
  statement_within (Store to opens args e) cx calls st c h =
      goes_on TypedWithin StaWithin _ _ (typed_within e cx calls st _ c h)
      (λ x k. after_any StaWithin _ _ (λ t. after_any StaWithin _ _ (λ t.
      goes_on ArgsWithin StaWithin _ _ (subscripts_within args cx calls st to.text 0 _ x.counts k) (λ s l. after_any StaWithin _ _ (λ u. l)))))
  statement_within (Multi [] e) cx calls st c h = goes_on TypedWithin StaWithin _ _ (outputs_within e cx calls st _ c h) (λ x k. after_any StaWithin _ _ (λ later. k))
  statement_within (Multi (to ∷ []) e) cx calls st c h = goes_on TypedWithin StaWithin _ _ (typed_within e cx calls st _ c h) (λ x k. after_any StaWithin _ _ (λ later. k))
  statement_within (Multi (to ∷ next ∷ more) e) cx calls st c h =
      goes_on TypedWithin StaWithin _ _ (outputs_within e cx calls st _ c h) (λ x k. after_any StaWithin _ _ (λ later. k))
  statement_within (IfOnly at arms) cx calls st c h =
      goes_on ArmsWithin StaWithin _ _ (arms_within arms at cx calls st c h no_other (λ inner more before n k. k)) (λ r k. k)
  statement_within (IfElse at arms other) cx calls st c h =
      goes_on ArmsWithin StaWithin _ _
      (arms_within arms at cx calls st c h _ (λ inner more before n k.
      goes_on BlockWithin ArmsWithin _ _ (goes_on BlockWithin BlockWithin _ _ (statements_within other inner more before n k) (ended_within before)) (λ b l. l)))
      (λ r k. k)
  statement_within (ForEach at to range body) cx calls st c h =
      goes_on BoundsWithin StaWithin _ _
      (goes_on IsWithin BoundsWithin _ _ (nested_within IsWithin at cx.nesting c h) (λ n k. bounds_within range to cx calls st n k))
      (λ l k. goes_on BlockWithin StaWithin _ _
      (goes_on BlockWithin BlockWithin _ _
      (goes_on IsWithin BlockWithin _ _ (allowed_within cx to _ l.counts k) (λ n m. statements_within body (looped_over to.text cx) calls _ n m))
      (ended_within st))
      (λ b m. m))
  statement_within (WhileTrue at test body) cx calls st c h =
      goes_on TypedWithin StaWithin _ _
      (goes_on IsWithin TypedWithin _ _ (nested_within IsWithin at cx.nesting c h) (λ n k. condition_within test (tested_again cx) calls st n k))
      (λ x k. goes_on BlockWithin StaWithin _ _ (goes_on BlockWithin BlockWithin _ _ (statements_within body (looped cx) calls st x.counts k) (ended_within st)) (λ b m. m))
  statement_within (BreakOff at) cx calls st c h = jump_within at _ _ cx st c h
  statement_within (GoOn at) cx calls st c h = jump_within at _ _ cx st c h

  pub arms_within : (arms : Arms) (at : Place) (cx : Setting) → CallsWithin cx.call → (st : State) (c : Counts) → IsWithin c → (otherwise : Setting → State → Counts → Told TypedArms) → OtherWithin otherwise
      → Passing ArmsWithin (arms_typed arms at cx st c otherwise)
  arms_within NoArms at cx calls st c h otherwise other = other cx calls st c h
  arms_within (Arm test body more) at cx calls st c h otherwise other =
      goes_on TypedWithin ArmsWithin _ _ (condition_within test cx calls st c h)
      (λ x k. goes_on BlockWithin ArmsWithin _ _
      (goes_on BlockWithin BlockWithin _ _
      (goes_on IsWithin BlockWithin _ _ (nested_within IsWithin at cx.nesting x.counts k) (λ n m. statements_within body (deeper cx) calls st n m))
      (ended_within st))
      (λ b m. goes_on ArmsWithin ArmsWithin _ _ (arms_within more at (deeper cx) calls _ b.counts m otherwise other) (λ r w. w)))

  pub statements_within : (b : Block) (cx : Setting) → CallsWithin cx.call → (st : State) (c : Counts) → IsWithin c → Passing BlockWithin (statements_typed b cx st c)
  statements_within Done cx calls st c h = h
  statements_within (Next s more) cx calls st c h =
      goes_on StaWithin BlockWithin _ _ (statement_within s cx calls st c h)
      (λ r k. goes_on BlockWithin BlockWithin _ _ (statements_within more cx calls r.state r.counts k) (λ b m. m))
