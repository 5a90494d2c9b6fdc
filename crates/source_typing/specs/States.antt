-- What is known of the names of a function where a statement begins: which have a type, and which are assigned on every path.
use Rattle.std.specs.Prelude.{ℕ, Bool, true, false, not, ◌&&◌, nat_lt, if◌then◌else◌, List, Option, Some, None, bytes_eq}
use Rattle.node_rules.specs.Types.{NodeTy}

pub data Var : Type 0 where
  -- without a type
  Unseen : Var
  -- with its type, which it keeps, but not assigned on every path
  HasType : NodeTy → Var
  Assigned : NodeTy → Var

pub record State : Type 0 where
  pub names : List ℕ → Var
  -- whether a `break` or a `continue` stands before this place in its block, or in a block round it
  pub jumped : Bool

abbrev pub none_seen : State
none_seen = record { names = λ name. Unseen; jumped = false }

-- ---- one name

-- its type, if it has one
unfoldable pub type_in : Var → Option NodeTy
type_in Unseen = None
type_in (HasType t) = Some t
type_in (Assigned t) = Some t

-- its type, if it may be read: behind a jump a type is enough, since no run comes there
unfoldable pub readable_in : Bool → Var → Option NodeTy
readable_in jumped (Assigned t) = Some t
readable_in true (HasType t) = Some t
readable_in false (HasType t) = None
readable_in jumped Unseen = None

abbrev pub type_of_name : State → List ℕ → Option NodeTy
type_of_name st name = type_in (st.names name)

abbrev pub readable : State → List ℕ → Option NodeTy
readable st name = readable_in st.jumped (st.names name)

abbrev pub with_var : List ℕ → Var → State → State
with_var name x st = record st { names = λ other. if bytes_eq name other then x else st.names other }

abbrev pub with_type : List ℕ → NodeTy → State → State
with_type name t st = with_var name (Assigned t) st

-- ---- paths that meet

-- assigned before, with the types that are known after
unfoldable pub again : Var → Var → Var
again (Assigned t) after = Assigned t
again before (Assigned t) = HasType t
again before after = after

-- assigned on both paths, of which the second was walked with the types of the first
unfoldable pub both : Var → Var → Var
both (Assigned t) second = second
both first (Assigned t) = HasType t
both first second = second

-- every name that has a type counts as assigned
unfoldable pub assumed : Var → Var
assumed (HasType t) = Assigned t
assumed x = x

-- the names that were assigned before a part that may be left out, or run once more
abbrev pub kept : State → State → State
kept before after = record { names = λ name. again (before.names name) (after.names name); jumped = before.jumped }

abbrev pub joined : State → State → State
joined first second = record { names = λ name. both (first.names name) (second.names name); jumped = second.jumped }

-- at the end of a block: behind a jump the names that have a type are those that go on
abbrev pub closed : Bool → State → State
closed outside st = record { names = λ name. if st.jumped then assumed (st.names name) else st.names name; jumped = outside }

abbrev pub behind_jump : State → State
behind_jump st = record st { jumped = true }

-- the names that a loop with so many items leaves; jumps tells whether its body has a `break` or a `continue` of its own
abbrev pub behind_items : ℕ → Bool → State → State → State
behind_items count jumps before after = if nat_lt 0 count && not jumps then after else kept before after
