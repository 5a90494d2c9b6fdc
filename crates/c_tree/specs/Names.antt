-- The arrays and counters that a program declares.
use Rattle.std.specs.Prelude.{ℕ, suc, ◌*◌, Bool, true, false, if◌then◌else◌, nat_le, List, [], ◌∷◌, ◌++◌, flat_map, codes, decimal, Option, slice_get}
use Rattle.num_type.specs.declared.container.Container.{Container}
use Rattle.num_type.specs.declared.container.Container.TheVariants.{I8, I16, I32, I64, U8, U16, U32, U64}
use Rattle.num_type.specs.Containers.{is_signed_container}
use Rattle.c_tree.specs.declared.tree.CounterKind.{CounterKind}
use Rattle.c_tree.specs.declared.tree.CounterKind.TheVariants as counter
use Rattle.c_tree.specs.declared.tree.CArray.{CArray}
use Rattle.c_tree.specs.declared.tree.CArray.TheVariants as array
use Rattle.c_tree.specs.declared.tree.CWord.{CWord}
use Rattle.c_tree.specs.declared.tree.CWord.TheVariants as word
use Rattle.c_tree.specs.declared.tree.LocalArray.{LocalArray}
use Rattle.c_tree.specs.declared.array_names.Array.{Array}
use Rattle.c_tree.specs.declared.array_names.Arrays.{Arrays}
use Rattle.c_tree.specs.Tree.{Kind, Fixed, Logical, Slot, Signature, Program}

-- the narrowest container of this signedness that holds so many bits
abbrev pub container_for : Bool → ℕ → Container
container_for true bits = if nat_le bits 8 then I8 else (if nat_le bits 16 then I16 else (if nat_le bits 32 then I32 else I64))
container_for false bits = if nat_le bits 8 then U8 else (if nat_le bits 16 then U16 else (if nat_le bits 32 then U32 else U64))

-- a truth value stands in a uint8_t
abbrev pub kind_container : Kind → Container
kind_container (Fixed t complex) = container_for t.signed t.word
kind_container Logical = U8

-- whether the elements have two parts
abbrev pub is_complex : Kind → Bool
is_complex (Fixed t complex) = complex
is_complex Logical = false

-- what the names of parameters begin with: where the slot is real, for its real part, and for its imaginary part
pub record Fronts : Type 0 where
  pub plain : List ℕ
  pub re : List ℕ
  pub im : List ℕ

-- of inputs
abbrev pub input_fronts : Fronts
input_fronts = record { plain = codes "in_"; re = codes "inr_"; im = codes "ini_" }

-- of outputs
abbrev pub output_fronts : Fronts
output_fronts = record { plain = codes "out_"; re = codes "outr_"; im = codes "outi_" }

-- one array for a real slot, and the two parts of a complex one
abbrev pub parts : Fronts → List ℕ → Container → ℕ → Bool → List Array
parts f name c n false = record { name = f.plain ++ name; container = c; extent = n } ∷ []
parts f name c n true =
    record { name = f.re ++ name; container = c; extent = n } ∷ record { name = f.im ++ name; container = c; extent = n } ∷ []

-- the arrays of a slot
abbrev pub slot_arrays : Fronts → Slot → List Array
slot_arrays f s = parts f s.name (kind_container s.kind) (s.rows * s.columns) (is_complex s.kind)

-- local arrays are m0, m1, ..
abbrev pub locals_from : ℕ → List LocalArray → List Array
locals_from k [] = []
locals_from k (a ∷ more) = record { name = codes "m" ++ decimal k; container = a.container; extent = a.count } ∷ locals_from (suc k) more

-- the arrays of slots in order
abbrev pub slots_arrays : Fronts → List Slot → List Array
slots_arrays f = flat_map (slot_arrays f)

-- the arrays of the inputs
abbrev pub input_arrays : Signature → List Array
input_arrays i = slots_arrays input_fronts i.inputs

-- the arrays of the outputs
abbrev pub output_arrays : Signature → List Array
output_arrays i = slots_arrays output_fronts i.outputs

-- the arrays of a program
abbrev pub arrays_of : Program → Arrays
arrays_of p = record { inputs = input_arrays p.interface; outputs = output_arrays p.interface; locals = locals_from 0 p.arrays }

-- an array by its number
abbrev pub array_at : Arrays → CArray → Option Array
array_at all (array.Input k) = slice_get all.inputs k
array_at all (array.Output k) = slice_get all.outputs k
array_at all (array.Local k) = slice_get all.locals k

-- input arrays are const
abbrev pub is_const : CArray → Bool
is_const (array.Input k) = true
is_const (array.Output k) = false
is_const (array.Local k) = false

-- the word that an element is read as
abbrev pub word_of : Container → CWord
word_of c = if is_signed_container c then word.I64 else word.U64

-- how many counters of a kind there are
abbrev pub counters_of : Program → CounterKind → ℕ
counters_of p counter.Group = p.groups
counters_of p counter.Barrier = p.barriers
counters_of p counter.Source = p.sources
counters_of p counter.Turn = p.turns
