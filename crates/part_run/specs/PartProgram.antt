-- The program of a part.
use Rattle.std.specs.Prelude.{ℕ, ℤ, Bool, false, List, [], ◌∷◌, ◌++◌, codes}
use Rattle.num_type.specs.Types.{NumericType}
use Rattle.c_tree.specs.declared.tree.CArray.TheVariants.{Input, Output}
use Rattle.c_tree.specs.declared.tree.CWord.{CWord}
use Rattle.c_tree.specs.Tree.{Fixed, Slot, Signature, Exp, Signed, Var, Element, Sta, Set, Store, Return, Program}
use Rattle.c_tree.specs.View.{block_of}
use Rattle.lower_scalar.specs.Part.{Part, Operand, IsPart, word_for}

-- a variable that holds a stored integer of a type
abbrev pub held : ℕ → NumericType → Operand
held k t = record { num = t; exp = Var k }

-- the part computes a stored integer of this signedness from variable 0, or from variables 0 and 1, and its own variables follow these
pub data Computes (first second : NumericType) (signed : Bool) (p : Part) : Type 0 where
  OfFirst : (result : List ℤ → ℤ) → IsPart (held 0 first ∷ []) 2 signed result p → Computes first second signed p
  OfBoth : (result : List ℤ → ℤ) → IsPart (held 0 first ∷ held 1 second ∷ []) 2 signed result p → Computes first second signed p

-- one number of a type
abbrev pub slot : List ℕ → NumericType → Slot
slot name t = record { name = name; kind = Fixed t false; rows = 1; columns = 1 }

-- two inputs and an output
abbrev pub interface : NumericType → NumericType → NumericType → Signature
interface first second to = record {
  entry = codes "f";
  inputs = slot (codes "a") first ∷ slot (codes "b") second ∷ [];
  outputs = slot (codes "y") to ∷ [];
}

-- the variables that hold the inputs, and then the part's own
abbrev pub variables : NumericType → NumericType → List CWord → List CWord
variables first second own = word_for first.signed ∷ word_for second.signed ∷ own

-- the element of an input
abbrev pub input : ℕ → Exp
input k = Element (Input k) (Signed 0)

-- the inputs go to variables 0 and 1, the part runs, and its value goes to the output
abbrev pub statements : Part → List Sta
statements p = Set 0 (input 0) ∷ Set 1 (input 1) ∷ (p.before ++ (Store (Output 0) (Signed 0) p.value ∷ Return 0 ∷ []))

-- the program of a part of operands of these types, and a result of a third type
abbrev pub part_program : NumericType → NumericType → NumericType → Part → Program
part_program first second to p = record {
  interface = interface first second to;
  arrays = [];
  words = variables first second p.words;
  groups = 0;
  barriers = 0;
  sources = 0;
  turns = 0;
  body = block_of (statements p);
}
