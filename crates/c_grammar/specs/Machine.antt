-- A machine that reads the words of a program one by one: a state is what was read, and what it leaves open.
use Rattle.std.specs.Prelude.{ℕ, suc, ◌^◌, Bool, true, false, not, ◌&&◌, nat_lt, List, [], ◌∷◌, ◌++◌, length, Option, Some, None, is_some, slice_get}
use Rattle.num_type.specs.declared.container.Container.TheVariants as container
use Rattle.c_tree.specs.declared.tree.CArray.{CArray}
use Rattle.c_tree.specs.declared.tree.CWord.{CWord}
use Rattle.c_tree.specs.declared.tree.CWord.TheVariants.{I64, U64}
use Rattle.c_tree.specs.declared.tree.CRel.{CRel}
use Rattle.c_tree.specs.declared.tree.COp.{COp}
use Rattle.c_tree.specs.declared.tree.COp.TheVariants.{Add, Sub, Mul, And, Or, Xor, Shl, Shr}
use Rattle.c_tree.specs.declared.array_names.Array.{Array}
use Rattle.c_tree.specs.declared.array_names.Arrays.{Arrays}
use Rattle.c_tree.specs.Names.{array_at, word_of, is_const}
use Rattle.c_tree.specs.Tree.{Signature, Exp, Signed, Unsigned, Var, Element, Cast, Truth, Neg, Binary, Choose, Test, Compare, Sta, Set, Store, Return, Block, Done, Next, Program}
use Rattle.c_tree.specs.WellFormed.{last_is_return}
use Rattle.c_grammar.specs.declared.word.CKeyword.TheVariants as keyword
use Rattle.c_grammar.specs.declared.word.CMacro.TheVariants as macro
use Rattle.c_grammar.specs.declared.word.CSign.TheVariants as sign
use Rattle.c_grammar.specs.declared.word.CWordToken.{CWordToken}
use Rattle.c_grammar.specs.declared.word.CWordToken.TheVariants as word
use Rattle.c_grammar.specs.Words.{parameters_of}
use Rattle.c_grammar.specs.Sentence.{Words, macro_of, store_of, header_words}
use Rattle.c_grammar.specs.Equal.{same_word}

-- which types may come
pub data Want : Type 0 where
  Any : Want
  Only : CWord → Want

-- whether two types are one
abbrev pub same_type : CWord → CWord → Bool
same_type I64 I64 = true
same_type U64 U64 = true
same_type _ _ = false

-- whether a type may come
abbrev pub wants : Want → CWord → Bool
wants Any t = true
wants (Only s) t = same_type s t

-- the other type
abbrev pub other : CWord → CWord
other I64 = U64
other U64 = I64

-- what an expression is for: the value of a variable, the subscript of a store, and its value
pub data Purpose : Type 0 where
  ValueOf : ℕ → CWord → Purpose
  PlaceOf : CArray → Purpose
  ElementOf : CArray → Exp → Purpose

-- what is open round an expression, with its parts that are read
pub data Frame : Type 0 where
  -- behind a parenthesis that may open an operation or a choice
  First : Want → Frame
  InCast : CWord → Frame
  InElement : CArray → Frame
  InNeg : Frame
  -- with the left operand, its type and the type of the right one
  InBinary : COp → Exp → CWord → CWord → Frame
  InTest : Want → CRel → Exp → CWord → Frame
  InThen : CRel → Exp → Exp → CWord → Frame
  InElse : CRel → Exp → Exp → CWord → Exp → CWord → Frame

-- the types of the variables, and the statements so far
pub record Past : Type 0 where
  pub words : List CWord
  pub done : Block

pub data State : Type 0 where
  -- this word must come, then these, and then the state is that one
  Fixed : CWordToken → Words → State → State
  -- a declaration may come
  Declare : List CWord → State
  -- a statement may come
  Within : Past → State
  -- the number of a status
  Status : Past → State
  Need : Want → List Frame → Purpose → Past → State
  -- the number of a constant
  Digits : CWord → List Frame → Purpose → Past → State
  Opened : Want → List Frame → Purpose → Past → State
  -- behind a parenthesis, a type and a parenthesis
  Casting : CWord → List Frame → Purpose → Past → State
  Have : Exp → CWord → List Frame → Purpose → Past → State
  Whole : Past → State
  Stuck : State

abbrev pub when : Bool → State → State
when true q = q
when false q = Stuck

abbrev pub if_some : {A : Type 0} → Option A → (A → State) → State
if_some (Some t) f = f t
if_some None f = Stuck

-- these words must come
abbrev pub owe : Words → State → State
owe [] q = q
owe (w ∷ ws) q = Fixed w ws q

-- ---- expressions

-- an operand is done, and with it each cast of it
abbrev pub give : Exp → CWord → List Frame → Purpose → Past → State
give e t (InCast s ∷ st) h v = give (Cast s e) s st h v
give e t st h v = Have e t st h v

-- a constant of a type
abbrev pub constant : CWord → ℕ → Exp
constant I64 n = Signed n
constant U64 n = Unsigned n

-- the first number that is none of its constants
abbrev pub limit_of : CWord → ℕ
limit_of I64 = 2 ^ 63
limit_of U64 = 2 ^ 64

-- a macro for constants of a type may come
abbrev pub begun : CWord → Want → List Frame → Purpose → Past → State
begun t w st h v = when (wants w t) (Fixed (word.Sign sign.Open) [] (Digits t st h v))

abbrev pub need : Want → CWordToken → List Frame → Purpose → Past → State
need w (word.Macro macro.I64) st h v = begun I64 w st h v
need w (word.Macro macro.U64) st h v = begun U64 w st h v
need w (word.Var k) st h v = if_some (slice_get v.words k) (λ t. when (wants w t) (give (Var k) t st h v))
need w (word.Sign sign.Open) st h v = Opened w st h v
need w _ st h v = Stuck

abbrev pub digits : CWord → CWordToken → List Frame → Purpose → Past → State
digits t (word.Number n) st h v = when (nat_lt n (limit_of t)) (Fixed (word.Sign sign.Close) [] (give (constant t n) t st h v))
digits t _ st h v = Stuck

-- behind a parenthesis and a type
abbrev pub typed : CWord → Want → List Frame → Purpose → Past → State
typed t w st h v = when (wants w t) (Fixed (word.Sign sign.Close) [] (Casting t st h v))

abbrev pub opened : Want → CWordToken → List Frame → Purpose → Past → State
opened w (word.Type container.I64) st h v = typed I64 w st h v
opened w (word.Type container.U64) st h v = typed U64 w st h v
opened w (word.Op Sub) st h v = when (wants w I64) (Need (Only I64) (InNeg ∷ st) h v)
opened w x st h v = need Any x (First w ∷ st) h v

-- an element of an array, under a cast to this type
abbrev pub subscripted : CArray → CWord → List Frame → Purpose → Past → Array → State
subscripted a t st h v it =
    when (same_type (word_of it.container) t) (Fixed (word.Sign sign.OpenSquare) [] (Need (Only I64) (InElement a ∷ st) h v))

abbrev pub casting : Arrays → CWord → CWordToken → List Frame → Purpose → Past → State
casting all t (word.Array a) st h v = if_some (array_at all a) (subscripted a t st h v)
casting all t x st h v = need (Only (other t)) x (InCast t ∷ st) h v

-- the type of the right operand, where the left one has this type
abbrev pub right_type : COp → CWord → Option CWord
right_type Add t = Some t
right_type Sub t = Some t
right_type Mul t = Some t
right_type And U64 = Some U64
right_type Or U64 = Some U64
right_type Xor U64 = Some U64
right_type Shl t = Some U64
right_type Shr t = Some U64
right_type _ _ = None

abbrev pub with_operator : COp → Exp → CWord → List Frame → Purpose → Past → State
with_operator o e t (First w ∷ st) h v = when (wants w t) (if_some (right_type o t) (λ r. Need (Only r) (InBinary o e t r ∷ st) h v))
with_operator o e t _ h v = Stuck

abbrev pub with_relation : CRel → Exp → CWord → List Frame → Purpose → Past → State
with_relation r e t (First w ∷ st) h v = Need (Only t) (InTest w r e t ∷ st) h v
with_relation r e t _ h v = Stuck

abbrev pub close_test : Test → List Frame → Purpose → Past → State
close_test t (InCast I64 ∷ st) h v = give (Truth t) I64 st h v
close_test t _ h v = Stuck

abbrev pub with_close : Exp → CWord → List Frame → Purpose → Past → State
with_close e t (InNeg ∷ st) h v = give (Neg e) I64 st h v
with_close e t (InBinary o a s r ∷ st) h v = give (Binary o a e) s st h v
with_close e t (InTest w r a s ∷ st) h v = close_test (Compare r a e) st h v
with_close e t (InElse r a b s x u ∷ st) h v = give (Choose (Compare r a b) x e) u st h v
with_close e t _ h v = Stuck

abbrev pub with_question : Exp → List Frame → Purpose → Past → State
with_question e (InTest w r a s ∷ st) h v = Need w (InThen r a e s ∷ st) h v
with_question e _ h v = Stuck

abbrev pub with_colon : Exp → CWord → List Frame → Purpose → Past → State
with_colon e t (InThen r a b s ∷ st) h v = Need (Only t) (InElse r a b s e t ∷ st) h v
with_colon e t _ h v = Stuck

-- behind the subscript of a store
abbrev pub placed : Arrays → Exp → Purpose → Past → State
placed all e (PlaceOf a) v =
    Fixed (word.Sign sign.Assign) (word.Sign sign.Open ∷ store_of (array_at all a) ∷ word.Sign sign.Close ∷ [])
    (Need Any [] (ElementOf a e) v)
placed all e _ v = Stuck

abbrev pub element : Arrays → CArray → Exp → List Frame → Purpose → Past → Array → State
element all a e st h v it = give (Element a e) (word_of it.container) st h v

abbrev pub with_square : Arrays → Exp → List Frame → Purpose → Past → State
with_square all e (InElement a ∷ st) h v = if_some (array_at all a) (element all a e st h v)
with_square all e [] h v = placed all e h v
with_square all e _ h v = Stuck

-- ---- statements

-- a block with one more statement at its end
abbrev pub behind : Block → Sta → Block
behind Done s = Next s Done
behind (Next x more) s = Next x (behind more s)

abbrev pub and_then : Sta → Past → State
and_then s v = Within (record { words = v.words; done = behind v.done s })

abbrev pub ended : Exp → Purpose → Past → State
ended e (ValueOf k t) v = and_then (Set k e) v
ended e (ElementOf a x) v = and_then (Store a x e) v
ended e _ v = Stuck

abbrev pub with_semicolon : Exp → List Frame → Purpose → Past → State
with_semicolon e [] h v = ended e h v
with_semicolon e _ h v = Stuck

abbrev pub have : Arrays → Exp → CWord → CWordToken → List Frame → Purpose → Past → State
have all e t (word.Op o) st h v = with_operator o e t st h v
have all e t (word.Rel r) st h v = with_relation r e t st h v
have all e t (word.Sign sign.Close) st h v = with_close e t st h v
have all e t (word.Sign sign.CloseSquare) st h v = with_square all e st h v
have all e t (word.Sign sign.Question) st h v = with_question e st h v
have all e t (word.Sign sign.Colon) st h v = with_colon e t st h v
have all e t (word.Sign sign.Semicolon) st h v = with_semicolon e st h v
have all e t _ st h v = Stuck

-- whether an array may be stored into
abbrev pub is_stored : Arrays → CArray → Bool
is_stored all a = not (is_const a) && is_some (array_at all a)

-- the program of these variables and statements
abbrev pub made : Signature → Past → Program
made i v = record { interface = i; arrays = []; words = v.words; groups = 0; barriers = 0; sources = 0; turns = 0; body = v.done }

abbrev pub within : Arrays → CWordToken → Past → State
within all (word.Var k) v = if_some (slice_get v.words k) (λ t. Fixed (word.Sign sign.Assign) [] (Need (Only t) [] (ValueOf k t) v))
within all (word.Array a) v = when (is_stored all a) (Fixed (word.Sign sign.OpenSquare) [] (Need (Only I64) [] (PlaceOf a) v))
within all (word.Keyword keyword.Return) v = Fixed (word.Macro macro.I32) (word.Sign sign.Open ∷ []) (Status v)
within all (word.Sign sign.CloseBrace) v = when (last_is_return v.done) (Whole v)
within all _ v = Stuck

abbrev pub status : CWordToken → Past → State
status (word.Number n) v =
    when (nat_lt n (2 ^ 31)) (Fixed (word.Sign sign.Close) (word.Sign sign.Semicolon ∷ []) (and_then (Return n) v))
status _ v = Stuck

-- ---- declarations

-- a variable of this type is declared
abbrev pub declaring : CWord → List CWord → State
declaring t words =
    when (nat_lt (suc (length words)) (2 ^ 32))
    (Fixed (word.Var (length words)) (word.Sign sign.Assign ∷ word.Macro (macro_of t) ∷ word.Sign sign.Open ∷ word.Number 0
    ∷ word.Sign sign.Close ∷ word.Sign sign.Semicolon ∷ []) (Declare (words ++ t ∷ [])))

abbrev pub begin : List CWord → Past
begin words = record { words = words; done = Done }

abbrev pub declare : Arrays → CWordToken → List CWord → State
declare all (word.Type container.I64) words = declaring I64 words
declare all (word.Type container.U64) words = declaring U64 words
declare all x words = within all x (begin words)

-- ---- the machine

abbrev pub step : Arrays → State → CWordToken → State
step all (Fixed w ws q) x = when (same_word w x) (owe ws q)
step all (Declare words) x = declare all x words
step all (Within v) x = within all x v
step all (Status v) x = status x v
step all (Need w st h v) x = need w x st h v
step all (Digits t st h v) x = digits t x st h v
step all (Opened w st h v) x = opened w x st h v
step all (Casting t st h v) x = casting all t x st h v
step all (Have e t st h v) x = have all e t x st h v
step all (Whole v) x = Stuck
step all Stuck x = Stuck

abbrev pub steps : Signature → State → Words → State
steps i q [] = q
steps i q (x ∷ xs) = steps i (step (parameters_of i) q x) xs

-- before the first word
abbrev pub start : Signature → State
start i = owe (header_words i []) (Declare [])

-- behind these words
abbrev pub state : Signature → Words → State
state i ws = steps i (start i) ws

-- the program that was read, and none before its end
abbrev pub finish : Signature → State → Option Program
finish i (Whole v) = Some (made i v)
finish i _ = None
