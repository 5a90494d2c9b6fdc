-- What the parts of the reader answer.
use Rattle.std.specs.Prelude.{◌≡◌, ◌≢◌, ◌≤◌, Bool, true, false, [], ◌++◌, IsTrue, Result, Ok, Err}
use Rattle.num_type.specs.declared.memory.Stop.{Stop}
use Rattle.num_type.specs.declared.memory.Stop.TheVariants as answer
use Rattle.c_tree.specs.declared.program.CProgram.{CProgram}
use Rattle.c_tree.specs.Depth.{depth, depth_limit}
use Rattle.c_tree.specs.Spelling.{Texts}
use Rattle.c_tree.specs.Tree.{Signature, Program}
use Rattle.c_tree.specs.Whole.{program_of}
use Rattle.c_grammar.specs.Spelled.{IsSpelled}
use Rattle.c_read.specs.declared.function.BadToken.{BadToken}
use Rattle.c_read.specs.Program.{IsBadToken}

-- whether an interface has an input or an output
abbrev pub TestsSlots : Bool → Signature → Type 0
TestsSlots true i = i.inputs ++ i.outputs ≢ []
TestsSlots false i = i.inputs ++ i.outputs ≡ []

-- the tokens are those of this program, no byte follows them, and none is deeper than a text may be
abbrev pub IsProgramOf : Signature → Program → Texts → Bool → Type 0
IsProgramOf i p ts at_end = IsSpelled i p ts × IsTrue at_end × (depth p ≤ depth_limit)

-- what a reader of tokens answers
abbrev pub ReadsTokens : Result CProgram (Stop BadToken) → Signature → Texts → Bool → Type 0
ReadsTokens (Ok p) i ts at_end = IsProgramOf i (program_of p) ts at_end
ReadsTokens (Err answer.Memory) i ts at_end = Unit {0}
ReadsTokens (Err (answer.Refused b)) i ts at_end = IsBadToken b.kind i ts at_end b.at
