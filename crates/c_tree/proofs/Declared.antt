-- The names of the arrays that a program declares are words.
use Rattle.std.proofs.Common.{◌≡◌, ℕ, zero, suc, ◌*◌, Bool, true, false, List, [], ◌∷◌, ◌++◌, arith, refl, sym, ◌∙◌, ap}
use Rattle.std.specs.Prelude.{Option, Some, None, slice_get, is_some, All}
use Rattle.std.specs.List.{list_all}
use Rattle.num_type.specs.declared.container.Container.{Container}
use Rattle.fic_base.specs.Names.{is_name_byte}
use Rattle.c_tree.specs.declared.tree.CArray.{CArray}
use Rattle.c_tree.specs.declared.tree.CArray.TheVariants as array
use Rattle.c_tree.specs.declared.tree.LocalArray.{LocalArray}
use Rattle.c_tree.specs.declared.array_names.Array.{Array}
use Rattle.c_tree.specs.declared.array_names.Arrays.{Arrays}
use Rattle.c_tree.specs.Tree.{Slot, Program}
use Rattle.c_tree.specs.Names.{Fronts, input_fronts, output_fronts, parts, slot_arrays, slots_arrays, is_complex, kind_container, locals_from, arrays_of, array_at}
use Rattle.c_tree.specs.WellFormed.{IsSlot, IsWellFormed}
use Rattle.c_tree.specs.CText.{is_word}
use Rattle.c_tree.proofs.Lexing.{decimal_name_bytes}

abbrev pub AreWords : List Array → Type 0
AreWords [] = Unit {0}
AreWords (a ∷ more) = (is_word a.name ≡ true) × AreWords more

append_words : (xs ys : List Array) → AreWords xs → AreWords ys → AreWords (xs ++ ys)
append_words [] ys h k = k
append_words (x ∷ xs) ys h k = (h.0, append_words xs ys h.1 k)

some_is : {a b : Array} → Some a ≡ Some b → a ≡ b
some_is e = cc

found_word : (xs : List Array) (k : ℕ) (a : Array) → AreWords xs → slice_get xs k ≡ Some a → is_word a.name ≡ true
found_word [] k a h e = absurd cc
found_word (x ∷ xs) zero a h e = ap (λ b. is_word b.name) (sym (some_is e)) ∙ h.0
found_word (x ∷ xs) (suc k) a h e = found_word xs k a h.1 e

-- fronts that begin words
record BeginWords (f : Fronts) : Type 0 where
  plain : (name : List ℕ) → list_all is_name_byte name ≡ true → is_word (f.plain ++ name) ≡ true
  re : (name : List ℕ) → list_all is_name_byte name ≡ true → is_word (f.re ++ name) ≡ true
  im : (name : List ℕ) → list_all is_name_byte name ≡ true → is_word (f.im ++ name) ≡ true

input_words : BeginWords input_fronts
input_words = record { plain = λ name h. h; re = λ name h. h; im = λ name h. h }

output_words : BeginWords output_fronts
output_words = record { plain = λ name h. h; re = λ name h. h; im = λ name h. h }

parts_words : (f : Fronts) (name : List ℕ) (c : Container) (n : ℕ) (complex : Bool) → BeginWords f → list_all is_name_byte name ≡ true → AreWords (parts f name c n complex)
parts_words f name c n false begins h = (begins.plain name h, tt)
parts_words f name c n true begins h = (begins.re name h, (begins.im name h, tt))

slots_words : (f : Fronts) (slots : List Slot) → BeginWords f → All IsSlot slots → AreWords (slots_arrays f slots)
slots_words f [] begins all = tt
slots_words f (s ∷ more) begins all =
    append_words (slot_arrays f s) (slots_arrays f more)
    (parts_words f s.name (kind_container s.kind) (s.rows * s.columns) (is_complex s.kind) begins (all 0 s (omega arith)).name.name_bytes)
    (slots_words f more begins (λ k d h. all (suc k) d (omega arith)))

locals_words : (k : ℕ) (arrays : List LocalArray) → AreWords (locals_from k arrays)
locals_words k [] = tt
locals_words k (a ∷ more) = (decimal_name_bytes k, locals_words (suc k) more)

pub record AllWords (all : Arrays) : Type 0 where
  pub inputs : AreWords all.inputs
  pub outputs : AreWords all.outputs
  pub locals : AreWords all.locals

pub program_words : (p : Program) → IsWellFormed p → AllWords (arrays_of p)
program_words p h = record {
  inputs = slots_words input_fronts p.interface.inputs input_words h.interface.inputs;
  outputs = slots_words output_fronts p.interface.outputs output_words h.interface.outputs;
  locals = locals_words 0 p.arrays;
}

array_word : (all : Arrays) → AllWords all → (x : CArray) (a : Array) → array_at all x ≡ Some a → is_word a.name ≡ true
array_word all words (array.Input k) a e = found_word all.inputs k a words.inputs e
array_word all words (array.Output k) a e = found_word all.outputs k a words.outputs e
array_word all words (array.Local k) a e = found_word all.locals k a words.locals e

-- an array that is declared
pub record Found (all : Arrays) (x : CArray) : Type 0 where
  pub array : Array
  pub stands : array_at all x ≡ Some array
  pub name : is_word array.name ≡ true

pub found : (all : Arrays) → AllWords all → (x : CArray) → is_some (array_at all x) ≡ true → Found all x
found all words x h = known (array_at all x) refl h
  where
    known : (o : Option Array) → array_at all x ≡ o → is_some o ≡ true → Found all x
    known None e h = absurd cc
    known (Some a) e h = record { array = a; stands = e; name = array_word all words x a e }
