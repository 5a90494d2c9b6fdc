-- What expressions, statements and functions of a source do, over its tree and without inference.
use Rattle.std.specs.Prelude.{ℕ, Bool, not, ◌||◌, if◌then◌else◌, List, [], ◌∷◌, ◌++◌, map, Option, Some, None, bytes_eq}
use Rattle.std.specs.List.{list_any}
use Rattle.fic_base.specs.declared.place.Place.{Place}
use Rattle.mat_ast.specs.declared.tree.Ident.{Ident}
use Rattle.mat_ast.specs.Tree.{Exp, Number, Words, Name, Apply, End, Unary, Binary, Post, Range, RangeBy, Paren, Matrix, Args, NoArgs, Whole, Item, Sta, Assign, Store, Multi, IfOnly, IfElse, ForEach, WhileTrue, BreakOff, GoOn, Arms, NoArms, Arm, Block, Done, Next, Fun}
use Rattle.fi_eval.specs.Outcome.{Got, Gives, Wrong, ◌>>=◌, or_wrong, when◌then◌else◌}
use Rattle.const_rules.specs.LiteralValues.{literal_of}
use Rattle.fi_rules.specs.Value as val
use Rattle.fi_rules.specs.Value.{Val, Fi, ComplexFi, Logical, scalar}
use Rattle.fi_eval.specs.Operators.{operated, signed}
use Rattle.fi_eval.specs.Calls.{called_name}

-- names with their values, the newest first
abbrev pub Env : Type 0
Env = List (List ℕ × Val)

abbrev pub look_up : {A : Type 0} → List (List ℕ × A) → List ℕ → Option A
look_up [] name = None
look_up (entry ∷ more) name = if bytes_eq entry.0 name then Some entry.1 else look_up more name

-- what stays the same over a function
pub record Context : Type 0 where
  -- the names that are variables throughout it
  pub variables : List (List ℕ)
  -- the names of the file's functions
  pub functions : List (List ℕ)

abbrev pub is_listed : List ℕ → List (List ℕ) → Bool
is_listed name names = list_any (λ other. bytes_eq other name) names

abbrev pub is_variable : Context → List ℕ → Bool
is_variable cx name = is_listed name cx.variables

-- whether a name called may be that of a built-in function: a variable or a function of the file goes before it
abbrev pub is_free : Context → List ℕ → Bool
is_free cx name = not (is_variable cx name || is_listed name cx.functions)

-- a call of a name on values
abbrev pub called : Place → Context → List ℕ → List Val → Got Place Val
called at cx name vs = when is_free cx name then called_name at name vs else Wrong at

-- the value of a variable at this place
abbrev pub variable : Env → Place → List ℕ → Got Place Val
variable env at name = or_wrong at (look_up env name)

-- the constant of a number's text; imaginary ones aren't built yet
abbrev pub number : Place → List ℕ → Bool → Got Place Val
number at text imaginary = when imaginary then Wrong at else (or_wrong at (literal_of text) >>= (λ c. Gives (val.Number scalar (c ∷ []))))

abbrev mutual
  -- the value of an expression; a kind that isn't built yet is wrong at its place
  pub value : Exp → Context → Env → Got Place Val
  value (Number at text imaginary) cx env = number at text imaginary
  value (Words at text) cx env = Gives (val.Words text)
  value (Name at name) cx env = when is_variable cx name then variable env at name else called at cx name []
  value (Apply at name opens args) cx env = values args at cx env >>= called at cx name
  value (End at) cx env = Wrong at
  value (Unary at sign e) cx env = value e cx env >>= signed at sign
  value (Binary at operator a b) cx env = do
    x ← value a cx env
    y ← value b cx env
    operated at operator x y
  value (Post at mark e) cx env = Wrong at
  value (Range at first last) cx env = Wrong at
  value (RangeBy at first step last) cx env = Wrong at
  value (Paren at e) cx env = value e cx env
  value (Matrix at rows) cx env = Wrong at

  -- the values of arguments from left to right; there is none for all of a dimension
  pub values : Args → Place → Context → Env → Got Place (List Val)
  values NoArgs at cx env = Gives []
  values (Whole more) at cx env = Wrong at
  values (Item e more) at cx env = do
    v ← value e cx env
    vs ← values more at cx env
    Gives (v ∷ vs)

-- where a statement leads: on, out of a loop, or to its next turn
pub data Flow : Type 0 where
  Went : Env → Flow
  Broke : Env → Flow
  Continued : Env → Flow

abbrev pub env_of : Flow → Env
env_of (Went env) = env
env_of (Broke env) = env
env_of (Continued env) = env

-- on to the next statement, where the one before has not left the block
abbrev pub then_do : Flow → (Env → Got Place Flow) → Got Place Flow
then_do (Went env) next = next env
then_do (Broke env) next = Gives (Broke env)
then_do (Continued env) next = Gives (Continued env)

-- the place of the first target
abbrev pub first_place : List Ident → Place → Place
first_place [] at = at
first_place (name ∷ names) at = name.place

abbrev pub place_of : Exp → Place
place_of (Number at text imaginary) = at
place_of (Words at text) = at
place_of (Name at name) = at
place_of (Apply at name opens args) = at
place_of (End at) = at
place_of (Unary at sign e) = at
place_of (Binary at operator a b) = at
place_of (Post at mark e) = at
place_of (Range at first last) = at
place_of (RangeBy at first step last) = at
place_of (Paren at e) = at
place_of (Matrix at rows) = at

abbrev mutual
  -- a statement, with at most n turns of each while; a kind that isn't built yet is wrong at its place
  pub run : Sta → Context → ℕ → Env → Got Place Flow
  run (Assign to e) cx n env = value e cx env >>= (λ v. Gives (Went ((to.text, v) ∷ env)))
  run (Store to opens args e) cx n env = Wrong to.place
  run (Multi targets e) cx n env = Wrong (first_place targets (place_of e))
  run (IfOnly at arms) cx n env = Wrong at
  run (IfElse at arms other) cx n env = Wrong at
  run (ForEach at to range body) cx n env = Wrong at
  run (WhileTrue at test body) cx n env = Wrong at
  run (BreakOff at) cx n env = Wrong at
  run (GoOn at) cx n env = Wrong at

  pub run_block : Block → Context → ℕ → Env → Got Place Flow
  run_block Done cx n env = Gives (Went env)
  run_block (Next s more) cx n env = run s cx n env >>= (λ flow. then_do flow (run_block more cx n))

-- ---- functions

abbrev pub names_of : List Ident → List (List ℕ)
names_of = map (λ name. name.text)

-- of several functions of one name the first is meant
abbrev pub function_named : List Fun → List ℕ → Option Fun
function_named [] name = None
function_named (f ∷ fs) name = if bytes_eq f.name.text name then Some f else function_named fs name

abbrev mutual
  -- the targets and loop variables of a statement
  pub targets_of : Sta → List (List ℕ)
  targets_of (Assign to e) = to.text ∷ []
  targets_of (Store to opens args e) = to.text ∷ []
  targets_of (Multi targets e) = names_of targets
  targets_of (IfOnly at arms) = targets_of_arms arms
  targets_of (IfElse at arms other) = targets_of_arms arms ++ targets_of_block other
  targets_of (ForEach at to range body) = to.text ∷ targets_of_block body
  targets_of (WhileTrue at test body) = targets_of_block body
  targets_of (BreakOff at) = []
  targets_of (GoOn at) = []

  pub targets_of_arms : Arms → List (List ℕ)
  targets_of_arms NoArms = []
  targets_of_arms (Arm test body more) = targets_of_block body ++ targets_of_arms more

  pub targets_of_block : Block → List (List ℕ)
  targets_of_block Done = []
  targets_of_block (Next s more) = targets_of s ++ targets_of_block more

-- inputs, outputs, targets and loop variables
abbrev pub variables_of : Fun → List (List ℕ)
variables_of f = names_of f.inputs ++ names_of f.outputs ++ targets_of_block f.body

abbrev pub context_of : List Fun → Fun → Context
context_of fs f = record { variables = variables_of f; functions = map (λ g. g.name.text) fs }

-- the inputs with their values, the last one of a name first; none where their numbers differ
abbrev pub bound : List Ident → List Val → Env → Option Env
bound [] [] env = Some env
bound (name ∷ names) (v ∷ vs) env = bound names vs ((name.text, v) ∷ env)
bound names cx env = None

-- an entry's output is a fi or a logical
unfoldable pub output : Place → Val → Got Place Val
output at (Fi t m s xs) = Gives (Fi t m s xs)
output at (ComplexFi t m s xs ys) = Gives (ComplexFi t m s xs ys)
output at (Logical s xs) = Gives (Logical s xs)
output at v = Wrong at

abbrev pub outputs : List Ident → Env → Got Place (List Val)
outputs [] env = Gives []
outputs (name ∷ names) env = do
  v ← variable env name.place name.text
  w ← output name.place v
  ws ← outputs names env
  Gives (w ∷ ws)

abbrev pub start : Place
start = record { offset = 0; line = 1; col = 1 }

-- an entry of a file on these inputs
abbrev pub entered : List Fun → Fun → List Val → ℕ → Got Place (List Val)
entered fs f vs n = do
  env ← or_wrong f.name.place (bound f.inputs vs [])
  flow ← run_block f.body (context_of fs f) n env
  outputs f.outputs (env_of flow)

-- what a file does from an entry, where each while makes at most n turns
abbrev pub evaluated : List Fun → List ℕ → List Val → ℕ → Got Place (List Val)
evaluated fs entry vs n = or_wrong start (function_named fs entry) >>= (λ f. entered fs f vs n)
