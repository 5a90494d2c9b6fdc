-- What answers of the code stand for.
use Rattle.std.specs.Prelude.{ℕ, ℤ, Bool, Option, Some, None, Result, Ok, Err}
use Rattle.c_tree.specs.Outcome.{Outcome, Completes, PastBound, UndefinedAt}
use Rattle.c_tree.specs.Meaning as meaning
use Rattle.c_run.specs.declared.word.Word.{Word}
use Rattle.c_run.specs.declared.word.Word.TheVariants.{Signed, Unsigned}
use Rattle.c_run.specs.declared.flow.Flow.{Flow}
use Rattle.c_run.specs.declared.flow.Flow.TheVariants as flow

-- a word
abbrev pub word_view : Word → meaning.Word
word_view (Signed z) = meaning.Int64 z
word_view (Unsigned n) = meaning.Uint64 n

-- a result, or the number of the token that is undefined
abbrev pub told : {A : Type 0} → Result A ℕ → Outcome A
told (Ok x) = Completes x
told (Err token) = UndefinedAt token

-- the same of a word
abbrev pub word_told : Result Word ℕ → Outcome meaning.Word
word_told (Ok w) = Completes (word_view w)
word_told (Err token) = UndefinedAt token

-- how a statement ended, with the state that it left
abbrev pub flow_told : Flow → meaning.State → Outcome meaning.Flow
flow_told flow.Went st = Completes (meaning.Went st)
flow_told flow.Broke st = Completes (meaning.Broke st)
flow_told flow.Continued st = Completes (meaning.Continued st)
flow_told (flow.Returned status) st = Completes (meaning.Returned status st)
flow_told flow.Over st = PastBound
flow_told (flow.Undefined token) st = UndefinedAt token

-- what comes next, or the way in which it ended before
abbrev pub left_or : Option Flow → (meaning.State → Outcome meaning.Flow) → meaning.State → Outcome meaning.Flow
left_or None next st = next st
left_or (Some f) next st = flow_told f st
