-- The line of a result: compact JSON (RFC 8259) with its members in the order of their names, and a newline.
use Rattle.std.specs.Prelude.{◌≡◌, ℕ, ℤ, Bool, true, false, List, [], ◌∷◌, ◌++◌, length, map, flat_map, drop, slice_index_or, codes}
use Rattle.std.specs.Fmt.{decimal, signed_decimal}
use Rattle.std.specs.Ordering.{nat_cmp}
use Rattle.std.specs.Cmp.Lexicographic.{slice_cmp}
use Rattle.std.specs.List.Sorted.{IsPermutation, IsSortedByKey}
use Rattle.c_tree.specs.Tree.{Slot, Signature}
use Rattle.c_tree.specs.Names.{is_complex, output_arrays}
use Rattle.case_io.specs.declared.result.CaseResult.{CaseResult}
use Rattle.case_io.specs.declared.result.CaseResult.TheVariants as result
use Rattle.case_io.specs.Reads.{lists_of}

-- texts with a comma between two
abbrev pub joined : List (List ℕ) → List ℕ
joined [] = []
joined (text ∷ more) = text ++ flat_map (λ next. codes "," ++ next) more

-- a list of numbers
abbrev pub array_text : List ℤ → List ℕ
array_text zs = codes "[" ++ joined (map signed_decimal zs) ++ codes "]"

-- the parts of complex numbers
abbrev pub parts_text : List ℤ → List ℤ → List ℕ
parts_text re im = codes "{\"im\":" ++ array_text im ++ codes ",\"re\":" ++ array_text re ++ codes "}"

-- how many arrays a slot has
abbrev pub part_count : Bool → ℕ
part_count false = 1
part_count true = 2

-- the text of a value, real or complex, from the lists of its arrays: the real part stands before the imaginary one
abbrev pub value_text : Bool → List (List ℤ) → List ℕ
value_text false lists = array_text (slice_index_or lists 0 [])
value_text true lists = parts_text (slice_index_or lists 0 []) (slice_index_or lists 1 [])

-- a member of an object: its name, and the text of its value
pub record Member : Type 0 where
  pub name : List ℕ
  pub text : List ℕ

-- the outputs in order, from the lists of their arrays in order
abbrev pub members : List Slot → List (List ℤ) → List Member
members [] lists = []
members (s ∷ more) lists = record { name = s.name; text = value_text (is_complex s.kind) lists } ∷ members more (drop (part_count (is_complex s.kind)) lists)

-- a member in its object; a name has no byte that is to be escaped
abbrev pub member_text : Member → List ℕ
member_text m = codes "\"" ++ m.name ++ codes "\":" ++ m.text

-- an object of members in this order
abbrev pub object_text : List Member → List ℕ
object_text order = codes "{" ++ joined (map member_text order) ++ codes "}"

-- the text of an object with these members: they stand in ascending order of the bytes of their names
pub record IsObject (ms : List Member) (text : List ℕ) : Type 0 where
  pub order : List Member
  pub permutation : IsPermutation ms order
  pub sorted : IsSortedByKey (λ m. m.name) (slice_cmp nat_cmp) order
  pub whole : text ≡ object_text order

-- the line of a case, by its number and its other member
abbrev pub line_text : ℕ → List ℕ → List ℕ → List ℕ
line_text case name value = codes "{\"case\":" ++ decimal case ++ codes ",\"" ++ name ++ codes "\":" ++ value ++ codes "}\n"

-- the line of a case that ends, with its outputs
pub record IsEndsLine (outputs : List Slot) (case : ℕ) (lists : List (List ℤ)) (line : List ℕ) : Type 0 where
  pub value : List ℕ
  pub object : IsObject (members outputs lists) value
  pub whole : line ≡ line_text case (codes "ends") value

-- the line of a case
abbrev pub IsLine : Signature → ℕ → CaseResult → List ℕ → Type 0
IsLine i case (result.Ends lists) line = IsEndsLine i.outputs case (lists_of lists.items) line
IsLine i case (result.Fault status) line = line ≡ line_text case (codes "fault") (decimal status)
IsLine i case result.Over line = line ≡ line_text case (codes "over") (codes "true")
IsLine i case (result.Undefined token) line = line ≡ line_text case (codes "undefined") (decimal token)

-- a result that ends has one list for each output array, in order
abbrev pub HasLists : Signature → CaseResult → Type 0
HasLists i (result.Ends lists) = length (lists_of lists.items) ≡ length (output_arrays i)
HasLists i _ = Unit {0}
