-- The first two lines of a program's text.
use Rattle.std.specs.Prelude.{ℕ, List, ◌++◌, flat_map, codes}
use Rattle.shape_rules.specs.TypeText.{type_text, shape_text, complex_mark}
use Rattle.c_tree.specs.Tree.{Kind, Fixed, Logical, Slot, Signature}

-- the first line
unfoldable pub include_line : List ℕ
include_line = codes "#include <stdint.h>\n"

-- what the elements are, and the shape, as s8.4:1x1:c or b:1x1
abbrev pub kind_text : Kind → List ℕ → List ℕ
kind_text (Fixed t complex) shape = type_text t ++ codes ":" ++ shape ++ complex_mark complex
kind_text Logical shape = codes "b:" ++ shape

-- an input or an output behind a blank
abbrev pub slot_text : Slot → List ℕ
slot_text s = codes " " ++ s.name ++ codes ":" ++ kind_text s.kind (shape_text s.rows s.columns)

-- inputs or outputs in order
abbrev pub slots_text : List Slot → List ℕ
slots_text = flat_map slot_text

-- the second line, as /* fic f a:s8.4:1x1 -> y:s8.4:1x1 */
abbrev pub interface_line : Signature → List ℕ
interface_line i = codes "/* fic " ++ i.entry ++ slots_text i.inputs ++ codes " ->" ++ slots_text i.outputs ++ codes " */\n"
