-- The walk over a source: the first node with a missing condition refuses it.
use Rattle.std.specs.Prelude.{ℕ, ◌+◌, Bool, true, false, nat_lt, nat_eq, if◌then◌else◌, List, [], ◌∷◌, ◌++◌, length, codes, decimal, Option, Some, None}
use Rattle.fic_base.specs.declared.code.Code.TheVariants as code
use Rattle.fic_base.specs.declared.place.Place.{Place}
use Rattle.mat_ast.specs.declared.tree.UnOp.{UnOp}
use Rattle.mat_ast.specs.declared.tree.Ident.{Ident}
use Rattle.mat_ast.specs.Tree.{Exp, Number, Words, Name, Apply, End, Unary, Binary, Post, Range, RangeBy, Paren, Matrix, Args, NoArgs, Whole, Item, Row, RowEnd, Cell, Rows, NoRows, RowOn, Sta, Assign, Store, Multi, IfOnly, IfElse, ForEach, WhileTrue, BreakOff, GoOn, Block, Done, Next, Fun}
use Rattle.num_type.specs.Types.{NumericType}
use Rattle.num_type.specs.Constants.{Exact}
use Rattle.const_rules.specs.LiteralValues.{literal_of}
use Rattle.fi_rules.specs.declared.work.Work.{Work}
use Rattle.fi_rules.specs.declared.built_ins.BuiltIn.{BuiltIn}
use Rattle.fi_rules.specs.Checked as checked
use Rattle.fi_rules.specs.Checked.{Checked}
use Rattle.fi_rules.specs.Types.{Ty, FiTy, NumberTy, TextTy, MathTy, TypeTy, OtherTy, same_ty}
use Rattle.fi_rules.specs.Pairs.{work_of, met, worked, working_type, scalar_number}
use Rattle.fi_rules.specs.Signs.{sign_checked}
use Rattle.fi_rules.specs.Calls.{asked, built, built_type, built_in_named}
use Rattle.fi_rules.specs.Texts.{Around, ty_text, counts_text}
use Rattle.fi_eval.specs.Meaning.{Context, is_variable, is_free, function_named, first_place, place_of, start}
use Rattle.scalar_program.specs.NameMaps.{with_type}
use Rattle.walk_scope.specs.Scope.{Scope, unbuilt, other_name, scope_of}
use Rattle.walk_scope.specs.Headers.{headers_checked}
use Rattle.walk_scope.specs.Rules.{told_at, around_pair, around_one}
use Rattle.walk_scope.specs.Told.{Told, Passes, Refuses, ◌>>=◌, when◌then◌else◌}

-- the greatest number of nodes walked
abbrev pub node_limit : ℕ
node_limit = 200000

-- the types that variables have so far
abbrev pub Types : Type 0
Types = List ℕ → Option Ty

-- a node, after so many
abbrev pub counted : Place → ℕ → Told ℕ
counted at nodes = when nat_lt nodes node_limit then Passes (nodes + 1) else Refuses code.Limit at (decimal node_limit)

-- the type of a variable
unfoldable pub known : Place → List ℕ → Option Ty → Told Ty
known at name None = Refuses code.NotAssigned at name
known at name (Some t) = Passes t

-- the type of an expression, and how many nodes were walked by its end
abbrev pub Typed : Type 0
Typed = Ty × ℕ

-- a node of this type
abbrev pub of_type : Place → Ty → ℕ → Told Typed
of_type at t nodes = counted at nodes >>= (λ n. Passes (t, n))

-- ---- operators and calls: conditions, then the count, then the limits of types

abbrev pub rule_typed : {K R : Type 0} → Place → Around → Checked K → (K → Checked R) → (R → Ty) → ℕ → Told Typed
rule_typed at around first next ty nodes =
    told_at at around first >>= (λ k. counted at nodes >>= (λ n. told_at at around (next k) >>= (λ r. Passes (ty r, n))))

abbrev pub pair_typed : Place → Around → Work → Ty → Ty → ℕ → Told Typed
pair_typed at around w x y nodes = rule_typed at around (met w x y) (worked w) working_type nodes

-- a sign before an operand
abbrev pub sign_typed : Place → Around → UnOp → Ty → ℕ → Told Typed
sign_typed at around sign x nodes = told_at at around (sign_checked sign x) >>= (λ t. of_type at t nodes)

-- a call of a built-in function
abbrev pub built_in_typed : Place → Around → BuiltIn → List Ty → ℕ → Told Typed
built_in_typed at around b ts nodes = rule_typed at around (asked b ts) built (λ r. built_type r ts) nodes

-- `:` as an argument is refused where nothing else is
abbrev pub colon_refused : Place → Around → BuiltIn → List Ty → Told Typed
colon_refused at around b ts = told_at at around (checked.bind (asked b ts) (λ k. checked.Missing code.BadArgument checked.Itself))

-- the built-in function of a name
abbrev pub free_built_in : Context → List ℕ → Option BuiltIn
free_built_in cx name = if is_free cx name then built_in_named name else None

-- a call of a name that is no variable; colon tells whether an argument is `:`
unfoldable pub name_called : Scope → Place → List ℕ → Option BuiltIn → Bool → List Ty → ℕ → Told Typed
name_called sc at name None colon ts nodes = other_name sc at name
name_called sc at name (Some b) true ts nodes = colon_refused at (around_one name) b ts
name_called sc at name (Some b) false ts nodes = built_in_typed at (around_one name) b ts nodes

-- ---- names

abbrev pub name_typed : Scope → Types → Place → List ℕ → ℕ → Told Typed
name_typed sc types at name nodes =
    when is_variable sc.context name
    then (known at name (types name) >>= (λ t. of_type at t nodes))
    else name_called sc at name (free_built_in sc.context name) false [] nodes

-- `end` in a subscript of this variable
unfoldable pub end_typed : Scope → Types → Place → Option (List ℕ) → Told Typed
end_typed sc types at None = unbuilt sc at
end_typed sc types at (Some name) = known at name (types name) >>= (λ t. unbuilt sc at)

-- the variable that `end` belongs to in the subscripts of a name
abbrev pub inside : Scope → List ℕ → Option (List ℕ) → Option (List ℕ)
inside sc name around = if is_variable sc.context name then Some name else around

-- a subscripted read, or a call with these arguments
abbrev pub apply_typed : Scope → Types → Place → List ℕ → Bool → List Ty × ℕ → Told Typed
apply_typed sc types at name colon p =
    when is_variable sc.context name
    then (known at name (types name) >>= (λ t. unbuilt sc at))
    else name_called sc at name (free_built_in sc.context name) colon p.0 p.1

-- whether an argument is `:`
abbrev pub has_colon : Args → Bool
has_colon NoArgs = false
has_colon (Whole more) = true
has_colon (Item e more) = has_colon more

-- ---- constants

unfoldable pub literal_told : Place → List ℕ → Option Exact → Told Ty
literal_told at text None = Refuses code.LiteralInexact at text
literal_told at text (Some c) = Passes (scalar_number c)

-- a number; imaginary ones aren't supported yet
abbrev pub number_typed : Scope → Place → List ℕ → Bool → ℕ → Told Typed
number_typed sc at text imaginary nodes =
    when imaginary then unbuilt sc at else (literal_told at text (literal_of text) >>= (λ t. of_type at t nodes))

-- ---- expressions

abbrev mutual
  -- parts go before their node; around is the variable that `end` belongs to
  pub typed : Exp → Scope → Types → Option (List ℕ) → ℕ → Told Typed
  typed (Number at text imaginary) sc types around nodes = number_typed sc at text imaginary nodes
  typed (Words at text) sc types around nodes = of_type at (TextTy text) nodes
  typed (Name at name) sc types around nodes = name_typed sc types at name nodes
  typed (Apply at name opens args) sc types around nodes =
      args_typed args sc types (inside sc name around) ([], nodes) >>= apply_typed sc types at name (has_colon args)
  typed (End at) sc types around nodes = end_typed sc types at around
  typed (Unary at sign e) sc types around nodes =
      typed e sc types around nodes >>= (λ r. sign_typed at (around_one (sc.shown at)) sign r.0 r.1)
  typed (Binary at operator a b) sc types around nodes = do
    x ← typed a sc types around nodes
    y ← typed b sc types around x.1
    pair_typed at (around_pair (sc.shown at) a b) (work_of operator) x.0 y.0 y.1
  typed (Post at mark e) sc types around nodes = typed e sc types around nodes >>= (λ r. unbuilt sc at)
  typed (Range at first last) sc types around nodes = do
    x ← typed first sc types around nodes
    y ← typed last sc types around x.1
    unbuilt sc at
  typed (RangeBy at first step last) sc types around nodes = do
    x ← typed first sc types around nodes
    y ← typed step sc types around x.1
    z ← typed last sc types around y.1
    unbuilt sc at
  typed (Paren at e) sc types around nodes = do
    r ← typed e sc types around nodes
    of_type at r.0 r.1
  typed (Matrix at rows) sc types around nodes = rows_typed rows sc types around nodes >>= (λ m. unbuilt sc at)

  -- arguments behind those of these types
  pub args_typed : Args → Scope → Types → Option (List ℕ) → List Ty × ℕ → Told (List Ty × ℕ)
  args_typed NoArgs sc types around p = Passes p
  args_typed (Whole more) sc types around p = args_typed more sc types around (p.0 ++ (OtherTy ∷ []), p.1)
  args_typed (Item e more) sc types around p =
      typed e sc types around p.1 >>= (λ r. args_typed more sc types around (p.0 ++ (r.0 ∷ []), r.1))

  pub row_typed : Row → Scope → Types → Option (List ℕ) → ℕ → Told ℕ
  row_typed RowEnd sc types around nodes = Passes nodes
  row_typed (Cell e more) sc types around nodes =
      typed e sc types around nodes >>= (λ r. row_typed more sc types around r.1)

  pub rows_typed : Rows → Scope → Types → Option (List ℕ) → ℕ → Told ℕ
  rows_typed NoRows sc types around nodes = Passes nodes
  rows_typed (RowOn r more) sc types around nodes =
      row_typed r sc types around nodes >>= (λ m. rows_typed more sc types around m)

-- ---- statements

-- the types of the variables and how many nodes were walked
pub record Walked : Type 0 where
  pub types : Types
  pub nodes : ℕ

unfoldable pub is_text : Ty → Bool
is_text (TextTy text) = true
is_text (FiTy t m) = false
is_text (NumberTy s cs) = false
is_text (MathTy m) = false
is_text (TypeTy t) = false
is_text OtherTy = false

-- a variable keeps its type after its first assignment
unfoldable pub kept : Ident → Types → Typed → Option Ty → Told Walked
kept to types r None = Passes (record { types = with_type types to.text r.0; nodes = r.1 })
kept to types r (Some t) =
    when same_ty r.0 t
    then Passes (record { types = with_type types to.text r.0; nodes = r.1 })
    else Refuses code.TypeChange to.place (ty_text r.0 ++ codes " into " ++ ty_text t)

-- no text is assigned
abbrev pub assigned : Ident → Types → Typed → Option Ty → Told Walked
assigned to types r old = when is_text r.0 then Refuses code.FloatOperand to.place to.text else kept to types r old

abbrev pub sta_walked : Sta → Scope → Walked → Told Walked
sta_walked (Assign to e) sc w = typed e sc w.types None w.nodes >>= (λ r. assigned to w.types r (w.types to.text))
sta_walked (Store to opens args e) sc w = unbuilt sc to.place
sta_walked (Multi targets e) sc w = unbuilt sc (first_place targets (place_of e))
sta_walked (IfOnly at arms) sc w = unbuilt sc at
sta_walked (IfElse at arms other) sc w = unbuilt sc at
sta_walked (ForEach at to range body) sc w = unbuilt sc at
sta_walked (WhileTrue at test body) sc w = unbuilt sc at
sta_walked (BreakOff at) sc w = unbuilt sc at
sta_walked (GoOn at) sc w = unbuilt sc at

abbrev pub block_walked : Block → Scope → Walked → Told Walked
block_walked Done sc w = Passes w
block_walked (Next s more) sc w = sta_walked s sc w >>= block_walked more sc

-- ---- the entry

-- the types of the inputs, the last one of a name first
abbrev pub inputs_typed : List Ident → List NumericType → Types → Types
inputs_typed (i ∷ is) (t ∷ ts) types = inputs_typed is ts (with_type types i.text (FiTy t None))
inputs_typed is ts types = types

abbrev pub no_types : Types
no_types name = None

-- an entry's output is a fi
unfoldable pub output_told : Ident → Ty → Told NumericType
output_told o (FiTy t m) = Passes t
output_told o (NumberTy s cs) = Refuses code.FloatOperand o.place o.text
output_told o (TextTy text) = Refuses code.FloatOperand o.place o.text
output_told o (MathTy m) = Refuses code.FloatOperand o.place o.text
output_told o (TypeTy t) = Refuses code.FloatOperand o.place o.text
output_told o OtherTy = Refuses code.FloatOperand o.place o.text

-- the type of an output
abbrev pub output_typed : Ident → Types → Told NumericType
output_typed o types = known o.place o.text (types o.text) >>= output_told o

-- the types of the outputs
abbrev pub outputs_typed : List Ident → Types → Told (List NumericType)
outputs_typed [] types = Passes []
outputs_typed (o ∷ os) types = output_typed o types >>= (λ t. outputs_typed os types >>= (λ ts. Passes (t ∷ ts)))

-- a function at these types of its inputs
abbrev pub function_walked : Scope → Fun → List NumericType → Told (List NumericType)
function_walked sc f ts =
    when nat_eq (length ts) (length f.inputs)
    then (do
      w ← block_walked f.body sc (record { types = inputs_typed f.inputs ts no_types; nodes = 0 })
      outputs_typed f.outputs w.types)
    else Refuses code.ArgCount f.name.place (counts_text (length ts) (length f.inputs))

unfoldable pub entry_walked : (Place → List ℕ) → List Fun → List ℕ → List NumericType → Option Fun → Told (List NumericType)
entry_walked shown fs entry ts None = Refuses code.NoEntry start entry
entry_walked shown fs entry ts (Some f) = headers_checked fs [] >>= (λ seen. function_walked (scope_of shown fs f) f ts)

-- the types of the entry's outputs, or the refusal of the file at this entry and these types
abbrev pub walked : (Place → List ℕ) → List Fun → List ℕ → List NumericType → Told (List NumericType)
walked shown fs entry ts = entry_walked shown fs entry ts (function_named fs entry)
