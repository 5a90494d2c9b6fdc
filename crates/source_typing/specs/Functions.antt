-- The walk over functions: a callee at each of its calls anew, and the entry of a file.
use Rattle.std.specs.Prelude.{ℕ, zero, suc, nat_eq, nat_lt, not, Bool, true, false, ◌||◌, ◌++◌, if◌then◌else◌, List, [], ◌∷◌, length, map, Option, Some, None}
use Rattle.std.specs.List.{list_all}
use Rattle.fic_base.specs.declared.code.Code.TheVariants as code
use Rattle.fic_base.specs.declared.place.Place.{Place}
use Rattle.mat_ast.specs.declared.tree.Ident.{Ident}
use Rattle.mat_ast.specs.Tree.{Fun, Sta, Assign, Store, Multi, IfOnly, IfElse, ForEach, WhileTrue, BreakOff, GoOn, Arms, NoArms, Arm, Block, Done, Next}
use Rattle.fi_rules.specs.Texts.{counts_text}
use Rattle.fi_eval.specs.Meaning.{function_named, names_of, variables_of, start}
use Rattle.fi_meaning.specs.Expressions.{is_listed}
use Rattle.fi_rules.specs.Options.{◌|>◌, all_of}
use Rattle.node_rules.specs.Arguments.{ArgumentTy}
use Rattle.node_rules.specs.Stores.{is_assigned}
use Rattle.node_rules.specs.Types.{NodeTy, FiNode, LogicalNode}
use Rattle.walk_scope.specs.Headers.{headers_checked}
use Rattle.walk_scope.specs.Told.{Told, Passes, Refuses, ◌>>=◌, when◌then◌else◌}
use Rattle.typed_ir.specs.Tree.{Slot, TBlock, TFun, Function}
use Rattle.source_typing.specs.Calls.{Given}
use Rattle.source_typing.specs.Counts.{Counts, no_counts, limited_at, call_limit}
use Rattle.source_typing.specs.Expressions.{variable}
use Rattle.source_typing.specs.Setting.{Called, FileCall, Setting}
use Rattle.source_typing.specs.States.{State, none_seen, with_type}
use Rattle.source_typing.specs.Statements.{TypedBlock, statements_typed}

-- ---- loop variables of a function

abbrev mutual
  pub loops_of : Sta → List (List ℕ)
  loops_of (Assign to e) = []
  loops_of (Store to opens args e) = []
  loops_of (Multi targets e) = []
  loops_of (IfOnly at arms) = loops_in_arms arms
  loops_of (IfElse at arms other) = loops_in_arms arms ++ loops_in other
  loops_of (ForEach at to range body) = to.text ∷ loops_in body
  loops_of (WhileTrue at test body) = loops_in body
  loops_of (BreakOff at) = []
  loops_of (GoOn at) = []

  pub loops_in_arms : Arms → List (List ℕ)
  loops_in_arms NoArms = []
  loops_in_arms (Arm test body more) = loops_in body ++ loops_in_arms more

  pub loops_in : Block → List (List ℕ)
  loops_in Done = []
  loops_in (Next s more) = loops_of s ++ loops_in more

-- ---- headers

-- each input assigned, with its type; they are as many
abbrev pub inputs_typed : List Ident → List NodeTy → State → State
inputs_typed [] ts st = st
inputs_typed (name ∷ names) [] st = st
inputs_typed (name ∷ names) (t ∷ ts) st = inputs_typed names ts (with_type name.text t st)

abbrev pub input_slots : List Ident → List NodeTy → List Slot
input_slots [] ts = []
input_slots (name ∷ names) [] = []
input_slots (name ∷ names) (t ∷ ts) = record { name = name.text; ty = t } ∷ input_slots names ts

-- every output has a value, asked for or not, that passes a test
abbrev pub outputs_typed : (Ident → NodeTy → Told NodeTy) → List Ident → State → Told (List Slot)
outputs_typed test [] st = Passes []
outputs_typed test (name ∷ names) st =
    variable name.place name.text st >>= test name >>= (λ t. outputs_typed test names st >>= (λ slots. Passes (record { name = name.text; ty = t } ∷ slots)))

-- an output of a function that is called
abbrev pub any_output : Ident → NodeTy → Told NodeTy
any_output name t = Passes t

-- an output of the entry is a fi or a logical
unfoldable pub entry_output : Ident → NodeTy → Told NodeTy
entry_output name (FiNode t m c s) = Passes (FiNode t m c s)
entry_output name (LogicalNode s) = Passes (LogicalNode s)
entry_output name t = Refuses code.FloatOperand name.place name.text

-- ---- bodies

-- the statements of a function on inputs of these types, inside so many arms, loops and right sides of its callers
abbrev pub body_typed : FileCall → (Ident → NodeTy → Told NodeTy) → List Fun → Fun → List NodeTy → ℕ → Counts → Told Called
body_typed call output fs f ts nesting c =
    statements_typed f.body
    (record {
      variables = variables_of f;
      loops = loops_in f.body;
      inputs = names_of f.inputs;
      functions = map (λ g. g.name.text) fs;
      call = call;
      nesting = nesting;
      round = [];
      in_loop = false;
      in_while = false;
    })
    (inputs_typed f.inputs ts none_seen) c
    >>= (λ b. outputs_typed output f.outputs b.state
    >>= (λ slots. Passes (record { callee = Function f.name.text f.name.place (input_slots f.inputs ts) slots b.block; counts = b.counts })))

-- ---- calls of functions of the file

-- the types of arguments; none where one is `:`
abbrev pub all_types : List (Option ArgumentTy) → Option (List NodeTy)
all_types args = all_of args |> (λ known. Some (map (λ (a : ArgumentTy). a.ty) known))

-- an index and a text are given to no function of the file
unfoldable pub given_told : Place → List ℕ → Option (List NodeTy) → Told (List NodeTy)
given_told at name None = Refuses code.BadArgument at name
given_told at name (Some ts) = when list_all is_assigned ts then Passes ts else Refuses code.FloatOperand at name

-- the conditions of a call in the order of their codes, but for its depth: running are the functions whose bodies are being walked
abbrev pub call_checked : List (List ℕ) → Place → List ℕ → Fun → Given → ℕ → Told (List NodeTy)
call_checked running at name f g wanted =
    when is_listed name running then Refuses code.Recursion at name
    else (when not (nat_eq (length g.types) (length f.inputs)) then Refuses code.ArgCount at (counts_text (length g.types) (length f.inputs))
    else (when nat_lt (length f.outputs) wanted then Refuses code.ArgCount at (counts_text wanted (length f.outputs))
    else given_told at name (all_types g.types)))

unfoldable pub function_told : Place → List ℕ → Option Fun → Told Fun
function_told at name None = Refuses code.UnknownName at name
function_told at name (Some f) = Passes f

-- a call with so many calls still allowed inside each other; its callee is typed anew
abbrev pub file_call : List Fun → ℕ → List (List ℕ) → FileCall
file_call fs zero running at name g wanted nesting =
    function_told at name (function_named fs name)
    >>= (λ f. call_checked running at name f g wanted >>= (λ ts. limited_at at call_limit))
file_call fs (suc depth) running at name g wanted nesting =
    function_told at name (function_named fs name)
    >>= (λ f. call_checked running at name f g wanted
    >>= (λ ts. body_typed (file_call fs depth (name ∷ running)) any_output fs f ts nesting g.counts))

-- ---- files

unfoldable pub entry_told : List ℕ → Option Fun → Told Fun
entry_told entry None = Refuses code.NoEntry start entry
entry_told entry (Some f) = Passes f

-- the typed tree of an entry on inputs of these types and what was walked, or the one refusal
abbrev pub source_typed : List Fun → List ℕ → List NodeTy → Told Called
source_typed fs entry ts =
    entry_told entry (function_named fs entry)
    >>= (λ f. headers_checked fs []
    >>= (λ seen. when nat_eq (length ts) (length f.inputs)
    then body_typed (file_call fs call_limit (f.name.text ∷ [])) entry_output fs f ts 0 no_counts
    else Refuses code.ArgCount f.name.place (counts_text (length ts) (length f.inputs))))
