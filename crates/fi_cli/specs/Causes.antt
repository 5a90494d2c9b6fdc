-- What each status of a call says.
--
-- | Status | Says |
-- |---|---|
-- | 0 | the output gained what the words ask for, and the error stream nothing (IsDone) |
-- | 1 | what was read is refused, which the error stream was told (IsTold, Refused) |
-- | 2 | a file could not be read (IsTold, Unread) |
-- | 3 | a sink failed: the output in what the words ask for (OutFailed), or the error stream in its line (ErrFailed) |
-- | 4 | memory is wanting (IsTold, Wanting) |
-- | 5 | the words have no form (IsTold, Formless) |
--
-- Wherever another status than 3 comes, no put failed: the counts of faults of both sinks are as before.
use Rattle.std.specs.Prelude.{◌≡◌, ◌⊎◌, ℕ, zero, suc, List, Option}
use Rattle.fic_io.specs.Causes.{RoseByOne, appended}
use Rattle.fi_cli.specs.Forms.{Command, IsForm, IsBadAt}
use Rattle.fi_cli.specs.Commands.{Bad, BadSource, BadText, BadCases, files, IsRefusedBy, IsOutput, AllTold, IsOneOf}
use Rattle.fi_cli.specs.Lines.{refusal_line, text_line, case_line, read_line, word_line, memory_line, write_line}
use Rattle.fi_cli.specs.Gains.{GainsPart}

-- what a shelf tells and how it failed
pub record ShelfSide : Type 0 where
  -- the bytes under each name, where they are told
  pub told : List ℕ → Option (List ℕ)
  -- the counts of faults before and after the call, and the name of the last failure
  pub before : ℕ
  pub now : ℕ
  pub last : List ℕ

-- what a sink took and how often it failed, before and after the call
pub record SinkSide : Type 0 where
  pub old : Option (List ℕ)
  pub new : Option (List ℕ)
  pub before : ℕ
  pub now : ℕ

-- why a call writes nothing
pub data Cause : Type 0 where
  -- what was read is refused
  Refused : Bad → Cause
  -- the file of this name could not be read
  Unread : List ℕ → Cause
  -- memory is wanting
  Wanting : Cause
  -- the words have no form, by the first position at which none goes on
  Formless : ℕ → Cause

abbrev pub status_of : Cause → ℕ
status_of (Refused bad) = 1
status_of (Unread name) = 2
status_of Wanting = 4
status_of (Formless n) = 5

abbrev pub bad_line : Bad → List ℕ
bad_line (BadSource r) = refusal_line r
bad_line (BadText r) = text_line r
bad_line (BadCases r) = case_line r

abbrev pub line_of : Cause → List ℕ
line_of (Refused bad) = bad_line bad
line_of (Unread name) = read_line name
line_of Wanting = memory_line
line_of (Formless n) = word_line n

-- the cause stands at this command
abbrev pub StandsAt : Cause → Command → ShelfSide → Type 0
StandsAt (Refused bad) c shelf = AllTold shelf.told (files c) (IsRefusedBy bad c)
StandsAt (Unread name) c shelf = IsOneOf name (files c) × (shelf.last ≡ name) × RoseByOne shelf.before shelf.now
StandsAt Wanting c shelf = Unit {0}
StandsAt (Formless n) c shelf = ⊥

-- the words ask for a command of which this holds
pub record AsksFor (words : List (List ℕ)) (P : Command → Type 0) : Type 0 where
  pub command : Command
  pub form : IsForm command words
  pub holds : P command

-- the cause stands
abbrev pub Stands : Cause → List (List ℕ) → ShelfSide → Type 0
Stands (Formless n) words shelf = IsBadAt words n
Stands Wanting words shelf = Unit {0}
Stands cause words shelf = AsksFor words (λ c. StandsAt cause c shelf)

-- what a command gives, by what the shelf tells
abbrev pub Yields : Command → ShelfSide → List ℕ → Type 0
Yields c shelf bytes = AllTold shelf.told (files c) (λ contents. IsOutput c contents bytes)

-- bytes that the words ask for
abbrev pub IsAsked : List (List ℕ) → ShelfSide → List ℕ → Type 0
IsAsked words shelf bytes = AsksFor words (λ c. Yields c shelf bytes)

-- a sink gained these bytes, and no put failed
abbrev pub Gained : SinkSide → List ℕ → Type 0
Gained s bytes = (s.new ≡ appended s.old bytes) × (s.now ≡ s.before)

-- a sink gained nothing, and no put failed
abbrev pub Rests : SinkSide → Type 0
Rests s = (s.new ≡ s.old) × (s.now ≡ s.before)

-- the output gained such bytes, and the error stream nothing
pub record IsDone (words : List (List ℕ)) (shelf : ShelfSide) (out err : SinkSide) : Type 0 where
  pub text : List ℕ
  pub asked : IsAsked words shelf text
  pub gained : Gained out text
  pub quiet : Rests err

-- the error stream gained the line of a cause that stands, and the output nothing
pub record IsTold (status : ℕ) (words : List (List ℕ)) (shelf : ShelfSide) (out err : SinkSide) : Type 0 where
  pub cause : Cause
  pub stands : Stands cause words shelf
  pub is_status : status ≡ status_of cause
  pub gained : Gained err (line_of cause)
  pub unchanged : Rests out

-- a sink gained these bytes, or it failed and gained a part of them from their front
abbrev pub GainsOrFails : SinkSide → List ℕ → Type 0
GainsOrFails s bytes = Gained s bytes ⊎ GainsPart s.before s.now s.old s.new bytes

-- the output failed in bytes that the words ask for
pub record OutFailed (words : List (List ℕ)) (shelf : ShelfSide) (out err : SinkSide) : Type 0 where
  pub text : List ℕ
  pub asked : IsAsked words shelf text
  pub part : GainsPart out.before out.now out.old out.new text
  pub told : GainsOrFails err write_line

-- the error stream failed in the line of a cause that stands
pub record ErrFailed (words : List (List ℕ)) (shelf : ShelfSide) (out err : SinkSide) : Type 0 where
  pub cause : Cause
  pub stands : Stands cause words shelf
  pub part : GainsPart err.before err.now err.old err.new (line_of cause)
  pub unchanged : Rests out

-- what a status says
abbrev pub Says : ℕ → List (List ℕ) → ShelfSide → SinkSide → SinkSide → Type 0
Says zero words shelf out err = IsDone words shelf out err
Says (suc (suc (suc zero))) words shelf out err = OutFailed words shelf out err ⊎ ErrFailed words shelf out err
Says status words shelf out err = IsTold status words shelf out err
