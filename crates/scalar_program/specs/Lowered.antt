-- Part of the proof: the program that the code writes for a function of scalar assignments. What is claimed of a program doesn't rest on it.
use Rattle.std.specs.Prelude.{◌≡◌, ◌⊎◌, ℕ, suc, ◌^◌, ◌%◌, Bool, true, false, ℤ, pos, negsuc, nat_lt, unsigned_abs, if◌then◌else◌, List, [], ◌∷◌, ◌++◌, length, map, Option, Some, None}
use Rattle.mat_ast.specs.declared.tree.Ident.{Ident}
use Rattle.mat_ast.specs.declared.tree.UnOp.{UnOp}
use Rattle.mat_ast.specs.declared.tree.UnOp.TheVariants as un
use Rattle.mat_ast.specs.Tree as ast
use Rattle.mat_ast.specs.Tree.{Number, Words, Name, Apply, Args, NoArgs, Whole, Item, End, Unary, Post, Range, RangeBy, Paren, Matrix, Assign, Multi, IfOnly, ForEach, WhileTrue, BreakOff, GoOn, Fun}
use Rattle.num_type.specs.Types.{NumericType}
use Rattle.num_type.specs.Constants.{Exact}
use Rattle.fi_math.specs.declared.fimath.Fimath.{Fimath}
use Rattle.const_rules.specs.LiteralValues.{literal_of}
use Rattle.fi_rules.specs.declared.work.Work.{Work}
use Rattle.fi_rules.specs.declared.work.Work.TheVariants as work
use Rattle.fi_rules.specs.declared.built_ins.BuiltIn.{BuiltIn}
use Rattle.fi_rules.specs.Checked.{Fine}
use Rattle.fi_rules.specs.Types.{Ty, FiTy, NumberTy, TextTy}
use Rattle.fi_rules.specs.Pairs.{Side, Working, FoldsTo, Computes, work_of, pair_checked, scalar_number}
use Rattle.fi_rules.specs.Signs.{sign_checked}
use Rattle.fi_rules.specs.Calls.{Built, Taken, Attached, SignTaken, Object, built_in_named, call_checked}
use Rattle.fi_eval.specs.Operators.{Turn, Negate, Remove, math_of}
use Rattle.fi_eval.specs.Calls.{taken_constant}
use Rattle.fi_eval.specs.Meaning.{Context, is_free}
use Rattle.c_tree.specs.declared.tree.CArray.TheVariants as array
use Rattle.c_tree.specs.declared.tree.CWord.{CWord}
use Rattle.c_tree.specs.Tree.{Exp, Signed, Unsigned, Neg, Var, Element, Sta, Set, Store, Return, Fixed, Slot, Program}
use Rattle.c_tree.specs.View.{block_of}
use Rattle.scalar_program.specs.NameMaps.{with_type}
use Rattle.lower_scalar.specs.Part.{Part, Quantises, word_for}
use Rattle.lower_scalar.specs.Part as lower
use Rattle.lower_scalar.specs.Shapes.{below_minus}
use Rattle.lower_scalar.specs.Operators.{Adds, Subtracts, Multiplies, Negates, TakesSign}

-- where a value stands: in an input array, in a variable, or in the text itself, as a stored integer of this signedness
pub data Spot : Type 0 where
  Input : ℕ → Spot
  Variable : ℕ → Spot
  Literal : Bool → ℤ → Spot

-- a stored integer's type, and where it stands
pub record Operand : Type 0 where
  pub spot : Spot
  pub num : NumericType

-- a value's type, and where it stands if it is a fi
pub record Held : Type 0 where
  pub spot : Spot
  pub ty : Ty

-- the variables that have a value so far
abbrev pub Names : Type 0
Names = List ℕ → Option Held

-- statements that set variables, and the types of these
pub record Emitted : Type 0 where
  pub sets : List Sta
  pub words : List CWord

pub record Low : Type 0 where
  pub held : Held
  pub emitted : Emitted

-- a stored integer in the text, at the width of a word
unfoldable pub literal_exp : Bool → ℤ → Exp
literal_exp false z = Unsigned (unsigned_abs z % 2 ^ 64)
literal_exp true (pos n) = Signed (n % 2 ^ 64)
literal_exp true (negsuc n) = if nat_lt (suc n) (2 ^ 63) then Neg (Signed (suc n % 2 ^ 64)) else below_minus (n % 2 ^ 64)

abbrev pub read : Spot → Exp
read (Input k) = Element (array.Input k) (Signed 0)
read (Variable k) = Var k
read (Literal signed z) = literal_exp signed z

-- a fi at a spot
abbrev pub fi_at : Spot → NumericType → Option Fimath → Emitted → Low
fi_at spot t m em = record { held = record { spot = spot; ty = FiTy t m }; emitted = em }

-- where what is known without a run stands
abbrev pub nowhere : Spot
nowhere = Literal true (pos 0)

-- a value that is known without a run
abbrev pub known : Ty → Emitted → Low
known t em = record { held = record { spot = nowhere; ty = t }; emitted = em }

-- a fi of this type into the next variable
abbrev pub next_low : NumericType → Option Fimath → Exp → Emitted → Low
next_low t m e em = fi_at (Variable (length em.words)) t m (record { sets = em.sets ++ (Set (length em.words) e ∷ []); words = em.words ++ (word_for t.signed ∷ []) })

unfoldable pub and_then : {A B : Type 0} → Option A → (A → Option B) → Option B
and_then None next = None
and_then (Some x) next = next x

-- ---- parts

-- what a part reads of an operand
abbrev pub read_operand : Operand → lower.Operand
read_operand o = record { num = o.num; exp = read o.spot }

-- a part behind statements: its own variables and statements, and then its value, of this type, into the next variable
abbrev pub with_part : NumericType → Option Fimath → Part → Emitted → Low
with_part t m p em = next_low t m p.value (record { sets = em.sets ++ p.before; words = em.words ++ p.words })

-- the part computes an operation on two operands by this fimath, in this type
unfoldable pub Operates : Work → Fimath → NumericType → Operand → Operand → ℕ → Part → Type 0
Operates work.Sum m t a b fresh p = Adds m t (read_operand a) (read_operand b) fresh p
Operates work.Difference m t a b fresh p = Subtracts m t (read_operand a) (read_operand b) fresh p
Operates work.Product m t a b fresh p = Multiplies m t (read_operand a) (read_operand b) fresh p
Operates work.Power m t a b fresh p = ⊥
Operates work.Division m t a b fresh p = ⊥
Operates work.Later m t a b fresh p = ⊥

-- the part negates a stored integer or takes its sign away
unfoldable pub Turns : Turn → Fimath → Operand → ℕ → Part → Type 0
Turns Negate m a fresh p = Negates m a.num (read a.spot) fresh p
Turns Remove m a fresh p = TakesSign m a.num (read a.spot) fresh p

-- the statements of an operation with two operands
pub record IsOperated (w : Work) (m : Fimath) (attached : Option Fimath) (t : NumericType) (a b : Operand) (em : Emitted) (low : Low) : Type 0 where
  pub own : Part
  pub operates : Operates w m t a b (length em.words) own
  pub is : low ≡ with_part t attached own em

-- those of an operation with one operand
pub record IsTurned (turn : Turn) (attached : Option Fimath) (a : Operand) (em : Emitted) (low : Low) : Type 0 where
  pub own : Part
  pub turns : Turns turn (math_of attached) a (length em.words) own
  pub is : low ≡ with_part a.num attached own em

-- those of a fi in another type, by the fimath that is attached then
pub record IsTaken (t : NumericType) (m : Option Fimath) (a : Operand) (em : Emitted) (low : Low) : Type 0 where
  pub own : Part
  pub quantises : Quantises (math_of m).rounding (math_of m).overflow t a.num (read a.spot) (length em.words) own
  pub is : low ≡ with_part t m own em

-- ---- operators

-- where an operand stands: a constant beside a fi stands in the text
unfoldable pub operand_at : Spot → Side → Option (List ℤ) → Option Operand
operand_at spot a None = Some (record { spot = spot; num = a.num })
operand_at spot a (Some []) = None
operand_at spot a (Some (z ∷ [])) = Some (record { spot = Literal a.num.signed z; num = a.num })
operand_at spot a (Some (z ∷ y ∷ zs)) = None

-- an operation on two operands: its statements
pub record IsComputed (w : Work) (a b : Side) (m : Fimath) (attached : Option Fimath) (t : NumericType) (p q : Spot) (em : Emitted) (low : Low) : Type 0 where
  pub left : Operand
  pub left_at : operand_at p a a.stored ≡ Some left
  pub right : Operand
  pub right_at : operand_at q b b.stored ≡ Some right
  pub operated : IsOperated w m attached t left right em low

-- what an operation comes to
unfoldable pub IsWorked : Work → Working → Spot → Spot → Emitted → Low → Type 0
IsWorked w (FoldsTo t) p q em low = low ≡ known t em
IsWorked w (Computes a b g t) p q em low = IsComputed w a b g.math g.attached t p q em low

-- an operator behind its operands
pub record IsPaired (w : Work) (x y : Held) (em : Emitted) (low : Low) : Type 0 where
  pub working : Working
  pub checked : pair_checked w x.ty y.ty ≡ Fine working
  pub is : IsWorked w working x.spot y.spot em low

-- minus before an operand of this type, where the result is of that type
unfoldable pub IsNegated : Ty → Spot → Ty → Emitted → Low → Type 0
IsNegated (FiTy t m) spot u em low = IsTurned Negate m (record { spot = spot; num = t }) em low
IsNegated (NumberTy s cs) spot u em low = low ≡ known u em
IsNegated t spot u em low = ⊥

unfoldable pub HasSign : UnOp → Held → Ty → Emitted → Low → Type 0
HasSign un.Plus h u em low = low ≡ record { held = h; emitted = em }
HasSign un.Minus h u em low = IsNegated h.ty h.spot u em low
HasSign un.Not h u em low = ⊥

-- a sign before an operand
pub record IsSigned (sign : UnOp) (x : Held) (em : Emitted) (low : Low) : Type 0 where
  pub ty : Ty
  pub checked : sign_checked sign x.ty ≡ Fine ty
  pub is : HasSign sign x ty em low

-- ---- calls

-- the first argument in a type: a fi by a part, a constant in the text
unfoldable pub IsTakenFrom : NumericType → Option Fimath → Ty → Spot → Emitted → Low → Type 0
IsTakenFrom t m (FiTy u n) spot em low = IsTaken t m (record { spot = spot; num = u }) em low
IsTakenFrom t m (NumberTy s (c ∷ [])) spot em low = low ≡ fi_at (Literal t.signed (taken_constant t m c)) t m em
IsTakenFrom t m u spot em low = ⊥

-- what a call gives, from its first argument
unfoldable pub IsBuilt : Built → List Ty → List Spot → Emitted → Low → Type 0
IsBuilt (Object t) us ps em low = low ≡ known t em
IsBuilt (Taken t m) (u ∷ us) (p ∷ ps) em low = IsTakenFrom t m u p em low
IsBuilt (Attached m) (FiTy t n ∷ us) (p ∷ ps) em low = low ≡ fi_at p t m em
IsBuilt SignTaken (FiTy t m ∷ us) (p ∷ ps) em low = IsTurned Remove m (record { spot = p; num = t }) em low
IsBuilt b us ps em low = ⊥

-- a call of a built-in function behind its arguments, of which these are the types and the spots
pub record IsMadeBy (function : BuiltIn) (us : List Ty) (ps : List Spot) (em : Emitted) (low : Low) : Type 0 where
  pub made : Built
  pub checked : call_checked function us ≡ Fine made
  pub is : IsBuilt made us ps em low

-- a call of its name
pub record IsCalled (cx : Context) (name : List ℕ) (us : List Ty) (ps : List Spot) (em : Emitted) (low : Low) : Type 0 where
  pub free : is_free cx name ≡ true
  pub function : BuiltIn
  pub named : built_in_named name ≡ Some function
  pub by : IsMadeBy function us ps em low

-- a read of a variable
pub record IsRead (names : Names) (name : List ℕ) (em : Emitted) (low : Low) : Type 0 where
  pub held : Held
  pub here : names name ≡ Some held
  pub is : low ≡ record { held = held; emitted = em }

-- a real literal
pub record IsLiteral (text : List ℕ) (em : Emitted) (low : Low) : Type 0 where
  pub constant : Exact
  pub literal : literal_of text ≡ Some constant
  pub is : low ≡ known (scalar_number constant) em

-- ---- expressions, statements and functions

-- arguments that are lowered: their types, where they stand, and the statements so far
pub record Passed : Type 0 where
  pub types : List Ty
  pub spots : List Spot
  pub emitted : Emitted

abbrev pub nothing_passed : Emitted → Passed
nothing_passed em = record { types = []; spots = []; emitted = em }

-- one more
abbrev pub with_passed : Passed → Low → Passed
with_passed p x = record { types = p.types ++ (x.held.ty ∷ []); spots = p.spots ++ (x.held.spot ∷ []); emitted = x.emitted }

abbrev mutual
  -- the statements of an expression behind others, and where its value stands
  pub IsLowered : ast.Exp → Context → Names → Emitted → Low → Type 0
  IsLowered (Name at name) cx names em low = IsRead names name em low ⊎ IsCalled cx name [] [] em low
  IsLowered (Unary at sign e) cx names em low = (x : Low) × IsLowered e cx names em x × IsSigned sign x.held x.emitted low
  IsLowered (ast.Binary at operator a b) cx names em low =
      (x : Low) × IsLowered a cx names em x × (y : Low) × IsLowered b cx names x.emitted y × IsPaired (work_of operator) x.held y.held y.emitted low
  IsLowered (Paren at e) cx names em low = IsLowered e cx names em low
  IsLowered (Apply at name opens args) cx names em low =
      (p : Passed) × AreLowered args cx names (nothing_passed em) p × IsCalled cx name p.types p.spots p.emitted low
  IsLowered (Number at text imaginary) cx names em low = (imaginary ≡ false) × IsLiteral text em low
  IsLowered (Words at text) cx names em low = low ≡ known (TextTy text) em
  IsLowered (End at) cx names em low = ⊥
  IsLowered (Post at mark e) cx names em low = ⊥
  IsLowered (Range at first last) cx names em low = ⊥
  IsLowered (RangeBy at first step last) cx names em low = ⊥
  IsLowered (Matrix at rows) cx names em low = ⊥

  -- arguments behind others
  pub AreLowered : Args → Context → Names → Passed → Passed → Type 0
  AreLowered NoArgs cx names p q = q ≡ p
  AreLowered (Whole more) cx names p q = ⊥
  AreLowered (Item e more) cx names p q =
      (x : Low) × IsLowered e cx names p.emitted x × AreLowered more cx names (with_passed p x) q

-- the variables and the statements behind a block
pub record Behind : Type 0 where
  pub names : Names
  pub emitted : Emitted

abbrev pub IsStaLowered : ast.Sta → Context → Names → Emitted → Behind → Type 0
IsStaLowered (Assign to e) cx names em b =
    (x : Low) × IsLowered e cx names em x × (b ≡ record { names = with_type names to.text x.held; emitted = x.emitted })
IsStaLowered s cx names em b = ⊥

abbrev pub IsBlockLowered : ast.Block → Context → Names → Emitted → Behind → Type 0
IsBlockLowered ast.Done cx names em b = b ≡ record { names = names; emitted = em }
IsBlockLowered (ast.Next s more) cx names em b = (c : Behind) × IsStaLowered s cx names em c × IsBlockLowered more cx c.names c.emitted b

-- a fi as an output
unfoldable pub fi_operand : Spot → Ty → Option Operand
fi_operand spot (FiTy t m) = Some (record { spot = spot; num = t })
fi_operand spot t = None

abbrev pub output_of : Held → Option Operand
output_of h = fi_operand h.spot h.ty

-- the values of the outputs
abbrev pub outputs_lowered : List Ident → Names → Option (List Operand)
outputs_lowered [] names = Some []
outputs_lowered (o ∷ os) names = and_then (and_then (names o.text) output_of) (λ x. and_then (outputs_lowered os names) (λ xs. Some (x ∷ xs)))

-- the stores of the outputs from a number on
abbrev pub stores_from : ℕ → List Operand → List Sta
stores_from k [] = []
stores_from k (o ∷ os) = Store (array.Output k) (Signed 0) (read o.spot) ∷ stores_from (suc k) os

-- an input, without a fimath
abbrev pub input_held : ℕ → NumericType → Held
input_held k t = record { spot = Input k; ty = FiTy t None }

-- the inputs from a number on, the last one of a name first
abbrev pub inputs_from : ℕ → List Ident → List NumericType → Names → Names
inputs_from k (i ∷ is) (t ∷ ts) names = inputs_from (suc k) is ts (with_type names i.text (input_held k t))
inputs_from k is ts names = names

abbrev pub no_names : Names
no_names name = None

abbrev pub real_slot : List ℕ → NumericType → Slot
real_slot name t = record { name = name; kind = Fixed t false; rows = 1; columns = 1 }

abbrev pub real_slots : List Ident → List NumericType → List Slot
real_slots [] ts = []
real_slots (i ∷ is) [] = []
real_slots (i ∷ is) (t ∷ ts) = real_slot i.text t ∷ real_slots is ts

abbrev pub nothing_emitted : Emitted
nothing_emitted = record { sets = []; words = [] }

-- the program from what the body and the outputs give
abbrev pub program_of : Fun → List NumericType → Emitted → List Operand → Program
program_of f ts em outs = record {
  interface = record { entry = f.name.text; inputs = real_slots f.inputs ts; outputs = real_slots f.outputs (map (λ o. o.num) outs) };
  arrays = [];
  words = em.words;
  groups = 0;
  barriers = 0;
  sources = 0;
  turns = 0;
  body = block_of (em.sets ++ (stores_from 0 outs ++ (Return 0 ∷ [])));
}

-- a program of a function at these types of its inputs
pub record IsFunctionLowered (cx : Context) (f : Fun) (ts : List NumericType) (p : Program) : Type 0 where
  pub behind : Behind
  pub body : IsBlockLowered f.body cx (inputs_from 0 f.inputs ts no_names) nothing_emitted behind
  pub outs : List Operand
  pub outputs : outputs_lowered f.outputs behind.names ≡ Some outs
  pub is : program_of f ts behind.emitted outs ≡ p
