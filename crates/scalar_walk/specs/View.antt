-- Part of the proof: what values of the code stand for. What is claimed of a walk doesn't rest on it.
use Rattle.std.specs.Prelude.{◌≡◌, ℕ, ◌≤◌, Bool, true, false, List, [], ◌∷◌, length, map, Option, Some, Result, Ok, Err, bytes_eq, option_map}
use Rattle.std.specs.Borrow.{Bor}
use Rattle.std.specs.HashMap.{get_by}
use Rattle.fic_base.specs.declared.refusal.Refusal.{Refusal}
use Rattle.num_type.specs.declared.memory.Stop.{Stop}
use Rattle.num_type.specs.declared.memory.Stop.TheVariants as stop
use Rattle.num_type.specs.View.{type_of}
use Rattle.num_type.specs.Types.{NumericType}
use Rattle.fi_rules.specs.Types.{Ty}
use Rattle.fi_rules.specs.View.{ty_view, is_fi}
use Rattle.fi_rules.specs.Calls.{Built, Taken, Attached, SignTaken, Object, is_numeric}
use Rattle.fi_rules.specs.declared.work.Work.{Work}
use Rattle.fi_rules.specs.declared.work.Work.TheVariants as work
use Rattle.fi_rules.specs.Pairs.{Working, FoldsTo, Computes, work_made}
use Rattle.fi_math.specs.Made.{Is}
use Rattle.fi_eval.specs.Operators.{Turn, Negate, Remove}
use Rattle.c_tree.specs.View.{stmt_view}
use Rattle.lower_scalar.specs.Part.{reach}
use Rattle.walk_scope.specs.Told.{Told, Passes, Refuses}
use Rattle.scalar_walk.specs.declared.operand.Spot as code_spot
use Rattle.scalar_walk.specs.declared.operand.Spot.TheVariants as spot
use Rattle.scalar_walk.specs.declared.operand.Operand as code_operand
use Rattle.scalar_walk.specs.declared.operand.Held as code_held
use Rattle.scalar_walk.specs.declared.arguments.Arguments as code_arguments
use Rattle.scalar_walk.specs.declared.turns.Turn as code_turn
use Rattle.scalar_walk.specs.declared.turns.Turn.TheVariants as turn
use Rattle.scalar_walk.specs.declared.variables.Variables.{Variables}
use Rattle.scalar_walk.specs.declared.emitted.Emitted as code_emitted
use Rattle.scalar_walk.specs.Walk.{Types, Typed, Walked}
use Rattle.scalar_program.specs.Lowered.{Spot, Input, Variable, Literal, Operand, Held, Emitted, Names, Low, Behind, Passed, read}

abbrev pub spot_view : code_spot.Spot → Spot
spot_view (spot.Input k) = Input k
spot_view (spot.Variable k) = Variable k
spot_view (spot.Literal signed z) = Literal signed z

abbrev pub operand_view : code_operand.Operand → Operand
operand_view o = record { spot = spot_view o.spot; num = type_of o.num }

abbrev pub held_view : code_held.Held → Held
held_view h = record { spot = spot_view h.spot; ty = ty_view h.ty }

-- the values of the variables by their names
abbrev pub names_view : Variables → Names
names_view v name = option_map held_view (get_by (λ k. bytes_eq name k.items) v.table)

abbrev pub emitted_view : code_emitted.Emitted → Emitted
emitted_view e = record { sets = map stmt_view e.sets; words = e.words }

abbrev pub types_view : Variables → Types
types_view v name = option_map (λ h. h.ty) (names_view v name)

abbrev pub around_view : Option (Bor (List ℕ)) → Option (List ℕ)
around_view = option_map (λ b. b.now)

-- an answer of the code where types are told: there are some, or the refusal is told, unless memory is wanting
abbrev pub TellsTypes : {R : Type 0} → Result R (Stop Refusal) → Told (List NumericType) → Type 0
TellsTypes (Ok x) told = (ts : List NumericType) × (told ≡ Passes ts)
TellsTypes (Err stop.Memory) told = Unit {0}
TellsTypes (Err (stop.Refused r)) told = told ≡ Refuses r.code r.place r.shown

-- the type and the nodes behind a value
abbrev pub typed_view : ℕ → code_held.Held → Typed
typed_view nodes h = (ty_view h.ty, nodes)

-- what a lowered expression is
abbrev pub low_view : code_held.Held → code_emitted.Emitted → Low
low_view h e = record { held = held_view h; emitted = emitted_view e }

-- the types of arguments, and the nodes behind them
abbrev pub types_passed : code_arguments.Arguments → ℕ → List Ty × ℕ
types_passed a nodes = (map ty_view a.types.items, nodes)

-- arguments that are lowered
abbrev pub passed_view : code_arguments.Arguments → code_emitted.Emitted → Passed
passed_view a e = record { types = map ty_view a.types.items; spots = map spot_view a.spots.items; emitted = emitted_view e }

abbrev pub walked_view : Variables → code_emitted.Emitted → Walked
walked_view v e = record { types = types_view v; nodes = e.nodes }

abbrev pub behind_view : Variables → code_emitted.Emitted → Behind
behind_view v e = record { names = names_view v; emitted = emitted_view e }

-- the variables that have a value stand below a number
abbrev pub AreBelow : Names → ℕ → Type 0
AreBelow names n = (name : List ℕ) (h : Held) → names name ≡ Some h → reach (read h.spot) ≤ n

-- a spot stands below the next variable
abbrev pub IsUnder : code_spot.Spot → code_emitted.Emitted → Type 0
IsUnder s e = reach (read (spot_view s)) ≤ length e.words

-- spots stand below the next variable
abbrev pub AreUnder : List code_spot.Spot → ℕ → Type 0
AreUnder [] n = Unit {0}
AreUnder (s ∷ ss) n = (reach (read (spot_view s)) ≤ n) × AreUnder ss n

-- what is computed at run time
unfoldable pub is_computed : Work → Bool
is_computed work.Sum = true
is_computed work.Difference = true
is_computed work.Product = true
is_computed work.Power = false
is_computed work.Division = false
is_computed work.Later = false

-- an operation at run time: it is computed there, and this is the type of its result
unfoldable pub IsMade : Work → Working → Type 0
IsMade w (FoldsTo t) = Unit {0}
IsMade w (Computes a b g t) = (is_computed w ≡ true) × (work_made w g.math a.num b.num ≡ Is t)

-- the first argument of a call is there, and of a class that the call takes
unfoldable pub IsGranted : Built → List Ty → Type 0
IsGranted (Object t) us = Unit {0}
IsGranted (Taken t m) (u ∷ us) = is_numeric u ≡ true
IsGranted (Attached m) (u ∷ us) = is_fi u ≡ true
IsGranted SignTaken (u ∷ us) = is_fi u ≡ true
IsGranted b [] = ⊥

abbrev pub turn_view : code_turn.Turn → Turn
turn_view turn.Negate = Negate
turn_view turn.Remove = Remove
