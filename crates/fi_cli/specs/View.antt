-- Part of the proof: what answers of the code say. What is claimed of the top call doesn't rest on it.
use Rattle.std.specs.Prelude.{◌≡◌, ◌⊎◌, ℕ, List, [], ◌∷◌, take, slice_get, Option, Some, None, false}
use Rattle.fic_io.specs.Causes.{RoseByOne}
use Rattle.shape_rules.specs.declared.declared.Declared.{Declared}
use Rattle.shape_rules.specs.Declarations.{IsScalar}
use Rattle.fi_cli.specs.declared.call.Fault.{Fault}
use Rattle.fi_cli.specs.declared.call.Fault.TheVariants as fault
use Rattle.fi_cli.specs.Gains.{GainsPart}
use Rattle.fi_cli.specs.Lines.{write_line}
use Rattle.c_read.specs.Program as text
use Rattle.fi_cli.specs.declared.results.RunStop.{RunStop}
use Rattle.fi_cli.specs.declared.results.RunStop.TheVariants as run
use Rattle.fi_cli.specs.Commands.{BadSource, BadText, BadCases, AreRefused}
use Rattle.fi_cli.specs.Causes.{Cause, Refused, Unread, Wanting, Formless, SinkSide, Gained, Rests, GainsOrFails, status_of, line_of}
use Rattle.fi_cli.specs.declared.words.Command as code
use Rattle.fi_cli.specs.declared.words.Command.TheVariants as command
use Rattle.fi_cli.specs.declared.words.TypeWords.{TypeWords}
use Rattle.fi_cli.specs.declared.words.TypeWords.TheVariants as words
use Rattle.fi_cli.specs.Forms.{Command, Compile, Run, IsTypeWord, AreTypeWords, IsTurnsWord}
use Rattle.num_type.specs.declared.memory.Stop.{Stop}
use Rattle.num_type.specs.declared.memory.Stop.TheVariants as stop

-- a refusal of which P holds, unless memory is wanting
abbrev pub RefusesAt : {R : Type 0} → Stop R → (R → Type 0) → Type 0
RefusesAt (stop.Refused r) P = P r
RefusesAt stop.Memory P = Unit {0}

-- the first words are those of types, and the one at n isn't
pub record IsNoTypeAt (words : List (List ℕ)) (n : ℕ) : Type 0 where
  pub ds : List Declared
  pub front : AreTypeWords (take n words) ds
  pub word : List ℕ
  pub there : slice_get words n ≡ Some word
  pub none : (d : Declared) → IsTypeWord word d → ⊥

-- what a reader of such a word answers
abbrev pub ReadsWord : Option Declared → List ℕ → Type 0
ReadsWord (Some d) word = IsTypeWord word d
ReadsWord None word = (d : Declared) → IsTypeWord word d → ⊥

-- what a reader of bounds answers
abbrev pub ReadsTurns : Option ℕ → List ℕ → Type 0
ReadsTurns (Some turns) word = IsTurnsWord word turns
ReadsTurns None word = (turns : ℕ) → IsTurnsWord word turns → ⊥

-- what a reader of type words answers
abbrev pub ReadsWords : TypeWords → List (List ℕ) → Type 0
ReadsWords (words.All ds) ws = AreTypeWords ws ds.items
ReadsWords (words.NoneAt n) ws = IsNoTypeAt ws n

-- each is the type of one real element
abbrev pub AreScalars : List Declared → Type 0
AreScalars [] = Unit {0}
AreScalars (d ∷ ds) = IsScalar d.shape × (d.complex ≡ false) × AreScalars ds

-- the cause that a fault is
abbrev pub cause_view : Fault → Cause
cause_view (fault.Source r) = Refused (BadSource r)
cause_view (fault.Text r) = Refused (BadText r)
cause_view (fault.Cases r) = Refused (BadCases r)
cause_view (fault.Unread name) = Unread name.now
cause_view fault.Memory = Wanting
cause_view (fault.Formless n) = Formless n

-- the command that the words of a call stand for
abbrev pub command_view : code.Command → Command
command_view (command.Compile c) = Compile c.file.now c.entry.now c.types.items
command_view (command.Run r) = Run r.file.now r.cases.now r.turns

-- a stop as a cause
abbrev pub StopIs : {R : Type 0} → Cause → (R → Cause) → Stop R → Type 0
StopIs cause refused (stop.Refused r) = cause ≡ refused r
StopIs cause refused stop.Memory = cause ≡ Wanting

-- why there are no results at a C text and cases
abbrev pub StopsRun : RunStop → List ℕ → List ℕ → Type 0
StopsRun (run.Text r) bytes cases = text.IsRefusal r.kind r.offset bytes
StopsRun (run.Cases r) text cases = AreRefused r text cases
StopsRun run.Memory text cases = Unit {0}

-- the cause that such a stop is
abbrev pub run_cause : RunStop → Cause
run_cause (run.Text r) = Refused (BadText r)
run_cause (run.Cases r) = Refused (BadCases r)
run_cause run.Memory = Wanting

-- the types of a command are those of real scalars
abbrev pub HasScalars : Command → Type 0
HasScalars (Compile file entry ds) = AreScalars ds
HasScalars (Run file cases turns) = Unit {0}

-- why a file isn't read: it failed, which was counted, or memory is wanting
abbrev pub IsUnread : Cause → List ℕ → ℕ → ℕ → List ℕ → Type 0
IsUnread (Unread name) file before now last = (name ≡ file) × (last ≡ file) × RoseByOne before now
IsUnread Wanting file before now last = Unit {0}
IsUnread _ file before now last = ⊥

-- the text was written, with the status 0, or the output failed, with the status 3
abbrev pub Delivers : ℕ → List ℕ → SinkSide → SinkSide → Type 0
Delivers status text out err =
    ((status ≡ 0) × Gained out text × Rests err)
    ⊎ ((status ≡ 3) × GainsPart out.before out.now out.old out.new text × GainsOrFails err write_line)

-- the line was written, with this status, or the stream failed, with the status 3
abbrev pub PutsLine : ℕ → ℕ → List ℕ → SinkSide → Type 0
PutsLine result status line err =
    ((result ≡ status) × Gained err line) ⊎ ((result ≡ 3) × GainsPart err.before err.now err.old err.new line)

-- the cause was told, or want of memory
abbrev pub TellsCause : ℕ → Cause → SinkSide → Type 0
TellsCause result cause err = PutsLine result (status_of cause) (line_of cause) err ⊎ PutsLine result (status_of Wanting) (line_of Wanting) err
