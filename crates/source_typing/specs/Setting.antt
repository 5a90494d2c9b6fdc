-- Where an expression or a statement stands.
use Rattle.std.specs.Prelude.{ℕ, suc, Bool, true, List, ◌∷◌}
use Rattle.fic_base.specs.declared.place.Place.{Place}
use Rattle.node_rules.specs.Types.{NodeTy}
use Rattle.walk_scope.specs.Told.{Told}
use Rattle.typed_ir.specs.Tree.{TFun}
use Rattle.source_typing.specs.Calls.{Given}
use Rattle.source_typing.specs.Counts.{Counts}

-- a callee that is typed for one call, with the counts behind its outputs
pub record Called : Type 0 where
  pub callee : TFun
  pub counts : Counts

-- a call at a place of a function of the file, on these arguments, asked for so many outputs, inside so many arms, loops and right sides
abbrev pub FileCall : Type 0
FileCall = Place → List ℕ → Given → ℕ → ℕ → Told Called

pub record Setting : Type 0 where
  -- the names that are variables throughout the function
  pub variables : List (List ℕ)
  -- its loop variables
  pub loops : List (List ℕ)
  pub inputs : List (List ℕ)
  -- the names of the file's functions
  pub functions : List (List ℕ)
  pub call : FileCall
  -- how many arms, loops and right sides stand round it, over calls
  pub nesting : ℕ
  -- the variables of the loops round it
  pub round : List (List ℕ)
  pub in_loop : Bool
  -- whether it is a part of the condition of a `while`
  pub in_while : Bool

abbrev pub deeper : Setting → Setting
deeper cx = record cx { nesting = suc cx.nesting }

-- in the body of a loop
abbrev pub looped : Setting → Setting
looped cx = record cx { nesting = suc cx.nesting; in_loop = true }

abbrev pub looped_over : List ℕ → Setting → Setting
looped_over name cx = record cx { nesting = suc cx.nesting; in_loop = true; round = name ∷ cx.round }

-- in the condition of a `while`
abbrev pub tested_again : Setting → Setting
tested_again cx = record cx { nesting = suc cx.nesting; in_while = true }
