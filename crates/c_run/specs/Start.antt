-- The states from which runs begin.
use Rattle.std.specs.Prelude.{◌≡◌, ℕ, ℤ, pos, List, [], ◌∷◌, length, map, replicate, slice_get, Some}
use Rattle.c_tree.specs.declared.array_names.Array.{Array}
use Rattle.c_tree.specs.Names.{arrays_of}
use Rattle.c_tree.specs.Tree.{Program}
use Rattle.c_tree.specs.Meaning.{Word, Cells, State}
use Rattle.c_tree.specs.Run.{zeros, zero_word}
use Rattle.c_run.specs.Fit.{AreFit}

-- zeros for each array
abbrev pub zero_lists : List Array → List (List ℤ)
zero_lists arrays = map (λ a. replicate a.extent (pos 0)) arrays

-- an array with zeros
abbrev pub cleared : Cells → Cells
cleared cells = record { container = cells.container; items = replicate (length cells.items) (pos 0) }

-- arrays that hold these values
abbrev pub refilled : List Cells → List (List ℤ) → List Cells
refilled [] lists = []
refilled (c ∷ more) [] = []
refilled (c ∷ more) (xs ∷ lists) = record { container = c.container; items = xs } ∷ refilled more lists

-- a list for each array, with its length and in the range of its type
abbrev pub AreFilling : List Cells → List (List ℤ) → Type 0
AreFilling [] [] = Unit {0}
AreFilling (c ∷ more) (xs ∷ lists) = ((length xs ≡ length c.items) × AreFit c.container xs) × AreFilling more lists
AreFilling _ _ = ⊥

-- with these words and inputs, and zeros else
abbrev pub restarted : State → List Word → List (List ℤ) → State
restarted st words lists = record {
  words = words;
  counts = record {
    groups = replicate (length st.counts.groups) 0;
    barriers = replicate (length st.counts.barriers) 0;
    sources = replicate (length st.counts.sources) 0;
    turns = replicate (length st.counts.turns) 0;
  };
  inputs = refilled st.inputs lists;
  outputs = map cleared st.outputs;
  locals = map cleared st.locals;
}

-- the state of a program with zeros everywhere
abbrev pub blank : Program → State
blank p = record {
  words = map zero_word p.words;
  counts = record { groups = replicate p.groups 0; barriers = replicate p.barriers 0; sources = replicate p.sources 0; turns = replicate p.turns 0 };
  inputs = map zeros (arrays_of p).inputs;
  outputs = map zeros (arrays_of p).outputs;
  locals = map zeros (arrays_of p).locals;
}
