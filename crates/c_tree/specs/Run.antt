-- What a program does.
use Rattle.std.specs.Prelude.{ℕ, ℤ, pos, List, [], ◌∷◌, map, replicate}
use Rattle.c_tree.specs.declared.tree.CWord.{CWord}
use Rattle.c_tree.specs.declared.tree.CWord.TheVariants.{I64, U64}
use Rattle.c_tree.specs.Tree.{Program}
use Rattle.c_tree.specs.declared.array_names.Array.{Array}
use Rattle.c_tree.specs.Names.{arrays_of}
use Rattle.c_tree.specs.Tokens.{body_token, closing_token}
use Rattle.c_tree.specs.Outcome.{Outcome, Completes, PastBound, UndefinedAt}
use Rattle.c_tree.specs.Meaning.{Word, Int64, Uint64, Cells, State, Flow, Went, Broke, Continued, Returned, run_block}

-- a status and what the output arrays hold; a loop past the bound; or an undefined operation, by the number of its token
pub data Result : Type 0 where
  Ended : ℕ → List (List ℤ) → Result
  Over : Result
  Undefined : ℕ → Result

-- arrays that hold these values
abbrev pub filled : List Array → List (List ℤ) → List Cells
filled [] values = []
filled (a ∷ more) [] = []
filled (a ∷ more) (items ∷ values) = record { container = a.container; items = items } ∷ filled more values

-- a local array holds zeros at first (6.7.8)
abbrev pub zeros : Array → Cells
zeros a = record { container = a.container; items = replicate a.extent (pos 0) }

-- a variable is 0 at first
abbrev pub zero_word : CWord → Word
zero_word I64 = Int64 (pos 0)
zero_word U64 = Uint64 0

-- the state before the first statement
abbrev pub start : Program → List (List ℤ) → List (List ℤ) → State
start p inputs outputs = record {
  words = map zero_word p.words;
  counts = record { groups = replicate p.groups 0; barriers = replicate p.barriers 0; sources = replicate p.sources 0; turns = replicate p.turns 0 };
  inputs = filled (arrays_of p).inputs inputs;
  outputs = filled (arrays_of p).outputs outputs;
  locals = map zeros (arrays_of p).locals;
}

-- a function that ends without a return is undefined at its closing brace
abbrev pub result_of : ℕ → Outcome Flow → Result
result_of closing (Completes (Returned status st)) = Ended status (map (λ cells. cells.items) st.outputs)
result_of closing (Completes (Went st)) = Undefined closing
result_of closing (Completes (Broke st)) = Undefined closing
result_of closing (Completes (Continued st)) = Undefined closing
result_of closing PastBound = Over
result_of closing (UndefinedAt token) = Undefined token

-- a run on a list for each input array, with these contents of the output arrays at the call, each `while` making at most n turns
abbrev pub run : Program → List (List ℤ) → List (List ℤ) → ℕ → Result
run p inputs outputs n = result_of (closing_token p) (run_block p.body n (start p inputs outputs) (body_token p))
