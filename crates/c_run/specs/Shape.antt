-- What stays the same of a state in a run: how many variables and counters there are, and the types and lengths of the arrays.
use Rattle.std.specs.Prelude.{ℕ, List, length, map}
use Rattle.num_type.specs.declared.container.Container.{Container}
use Rattle.c_tree.specs.declared.array_names.Array.{Array}
use Rattle.c_tree.specs.Names.{arrays_of}
use Rattle.c_tree.specs.Tree.{Program}
use Rattle.c_tree.specs.Meaning.{Cells, State}

-- the type of an array's elements, and how many it has
pub record Extent : Type 0 where
  pub container : Container
  pub count : ℕ

-- of an array that runs
abbrev pub cells_extent : Cells → Extent
cells_extent cells = record { container = cells.container; count = length cells.items }

-- of an array that is declared
abbrev pub array_extent : Array → Extent
array_extent a = record { container = a.container; count = a.extent }

-- what stays the same
pub record Shape : Type 0 where
  pub words : ℕ
  pub groups : ℕ
  pub barriers : ℕ
  pub sources : ℕ
  pub turns : ℕ
  pub inputs : List Extent
  pub outputs : List Extent
  pub locals : List Extent

-- of a state
unfoldable pub shape_of : State → Shape
shape_of st = record {
  words = length st.words;
  groups = length st.counts.groups;
  barriers = length st.counts.barriers;
  sources = length st.counts.sources;
  turns = length st.counts.turns;
  inputs = map cells_extent st.inputs;
  outputs = map cells_extent st.outputs;
  locals = map cells_extent st.locals;
}

-- of the states of a program
unfoldable pub program_shape : Program → Shape
program_shape p = record {
  words = length p.words;
  groups = p.groups;
  barriers = p.barriers;
  sources = p.sources;
  turns = p.turns;
  inputs = map array_extent (arrays_of p).inputs;
  outputs = map array_extent (arrays_of p).outputs;
  locals = map array_extent (arrays_of p).locals;
}
