-- The program of a text, or where and why the text is refused.
use Rattle.std.specs.Prelude.{◌≡◌, ℕ, zero, suc, ◌+◌, ◌<◌, ◌≤◌, ◌==◌, Bool, IsTrue, List, [], ◌∷◌, length, take, drop, slice_index, Result, Ok, Err}
use Rattle.num_type.specs.declared.memory.Stop.{Stop}
use Rattle.num_type.specs.declared.memory.Stop.TheVariants as answer
use Rattle.c_tree.specs.declared.program.CProgram.{CProgram}
use Rattle.c_tree.specs.CText.{IsText}
use Rattle.c_tree.specs.Depth.{depth, depth_limit}
use Rattle.c_tree.specs.Depths.{depths}
use Rattle.c_tree.specs.Spelling.{Texts}
use Rattle.c_tree.specs.Tree.{Signature, Program}
use Rattle.c_tree.specs.WellFormed.{IsWellFormed}
use Rattle.c_tree.specs.Whole.{program_of}
use Rattle.c_token.specs.Scan.{Lexeme, AreLexed, texts_of}
use Rattle.c_grammar.specs.Live.{IsBuilt}
use Rattle.c_grammar.specs.Spelled.{IsSpelled, IsLiveText}
use Rattle.c_read.specs.declared.refusal.CBad.{CBad}
use Rattle.c_read.specs.declared.refusal.CBad.TheVariants as bad
use Rattle.c_read.specs.declared.refusal.CRefusal.{CRefusal}
use Rattle.c_read.specs.Front.{HasFront, IsBadFront}

-- the text is that of this program, which is well formed, built, and no deeper than a text may be
pub record IsTextOf (p : Program) (bytes : List ℕ) : Type 0 where
  pub text : IsText p bytes
  pub well_formed : IsWellFormed p
  pub built : IsBuilt p
  pub shallow : depth p ≤ depth_limit

-- behind its first two lines the text has these tokens, up to the first place at which none begins
pub record HasTokens (i : Signature) (end : ℕ) (ts : List Lexeme) (stop : ℕ) (bytes : List ℕ) : Type 0 where
  pub front : HasFront i end bytes
  pub lexed : AreLexed 0 ts stop (drop end bytes)

-- where token number n begins, and behind the last token where no token begins
abbrev pub place : List Lexeme → ℕ → ℕ → ℕ
place [] stop n = stop
place (t ∷ ts) stop zero = t.offset
place (t ∷ ts) stop (suc n) = place ts stop n

-- a program goes on behind the tokens before number n, and none does with that one; where no token is left, a byte that begins none follows,
-- or the tokens are no program's
pub record IsUnfit (i : Signature) (ts : Texts) (at_end : Bool) (n : ℕ) : Type 0 where
  pub within : n ≤ length ts
  -- an interface without inputs and outputs has no program
  pub live : 0 < n → IsLiveText i (take n ts)
  pub next : n < length ts → IsLiveText i (take (suc n) ts) → ⊥
  pub none : n ≡ length ts → IsTrue at_end → (p : Program) → IsSpelled i p ts → ⊥

-- token number n is deeper than a text may be, in a program that goes on behind it
pub record IsDeep (i : Signature) (ts : Texts) (n : ℕ) : Type 0 where
  pub within : n < length ts
  pub live : IsLiveText i (take (suc n) ts)
  pub deep : depth_limit < slice_index (depths live.program) n

-- no token before number n is
abbrev pub IsShallowTo : Signature → Texts → ℕ → Type 0
IsShallowTo i ts n = (k : ℕ) → k < n → IsDeep i ts k → ⊥

-- why tokens are refused at number n; at_end says whether no byte follows them
abbrev pub IsBadToken : CBad → Signature → Texts → Bool → ℕ → Type 0
IsBadToken bad.Token i ts at_end n = IsUnfit i ts at_end n × IsShallowTo i ts n
IsBadToken bad.Limit i ts at_end n = IsDeep i ts n × IsShallowTo i ts n
IsBadToken _ i ts at_end n = ⊥

-- why a text is refused at an offset behind its first two lines
pub record IsBadText (kind : CBad) (offset : ℕ) (bytes : List ℕ) : Type 0 where
  pub interface : Signature
  pub end : ℕ
  pub tokens : List Lexeme
  pub stop : ℕ
  pub number : ℕ
  pub has : HasTokens interface end tokens stop bytes
  pub bad : IsBadToken kind interface (texts_of tokens) (stop == length (drop end bytes)) number
  pub there : offset ≡ end + place tokens stop number

-- why a text is refused at an offset
abbrev pub IsRefusal : CBad → ℕ → List ℕ → Type 0
IsRefusal bad.Include offset bytes = IsBadFront bad.Include offset bytes
IsRefusal bad.Interface offset bytes = IsBadFront bad.Interface offset bytes
IsRefusal bad.Token offset bytes = IsBadText bad.Token offset bytes
IsRefusal bad.Limit offset bytes = IsBadText bad.Limit offset bytes

-- what a reader of texts answers
abbrev pub ReadsProgram : Result CProgram (Stop CRefusal) → List ℕ → Type 0
ReadsProgram (Ok p) bytes = IsTextOf (program_of p) bytes
ReadsProgram (Err answer.Memory) bytes = Unit {0}
ReadsProgram (Err (answer.Refused r)) bytes = IsRefusal r.kind r.offset bytes

-- an answer is this program; want of memory says nothing
abbrev pub GivesBack : Program → Result CProgram (Stop CRefusal) → Type 0
GivesBack p (Ok q) = program_of q ≡ p
GivesBack p (Err answer.Memory) = Unit {0}
GivesBack p (Err (answer.Refused r)) = ⊥
