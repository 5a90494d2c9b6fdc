-- What tables of words find.
use Rattle.std.specs.Prelude.{◌≡◌, ℕ, suc, false, if◌then◌else◌, List, [], ◌∷◌, map, Option, Some, None, bytes_eq}
use Rattle.std.specs.HashMap.{get_by}
use Rattle.c_tree.specs.Tree.{Signature}
use Rattle.c_tree.specs.Texts.{Text}
use Rattle.c_tree.specs.Names.{Fronts, input_fronts, output_fronts}
use Rattle.c_tree.specs.declared.tree.CArray.{CArray}
use Rattle.c_tree.specs.declared.tree.CArray.TheVariants as array
use Rattle.c_tree.specs.declared.array_names.Array.{Array}
use Rattle.c_grammar.specs.declared.word.CWordToken.{CWordToken}
use Rattle.c_grammar.specs.declared.word.CWordToken.TheVariants as word
use Rattle.c_grammar.specs.Words.{text_of, IsToken}
use Rattle.c_word.specs.declared.table.WordTable.{WordTable}
use Rattle.c_word.specs.declared.parameters.Side.{Side}
use Rattle.c_word.specs.declared.parameters.Side.TheVariants.{Input, Output}
use Rattle.c_word.specs.Fixed.{fixed_text}
use Rattle.c_word.specs.Numbered.{is_numbered}

-- what is found at texts
abbrev pub Found : Type 0
Found = Text → Option CWordToken

-- nothing is found
abbrev pub nothing : Found
nothing text = None

-- what a table finds
abbrev pub found_in : WordTable → Found
found_in table text = get_by (λ key. bytes_eq text key.items) table.table

-- a table finds the tokens of an interface by their texts, but for numbers and what is a letter and a number
pub record IsTableOf (i : Signature) (table : WordTable) : Type 0 where
  pub only : (text : Text) (w : CWordToken) → found_in table text ≡ Some w → IsToken i w × (text_of i w ≡ text)
  pub each : (w : CWordToken) → IsToken i w → is_numbered w ≡ false → found_in table (text_of i w) ≡ Some w

-- a text and its word
abbrev pub Row : Type 0
Row = Text × CWordToken

-- with this word at a text
abbrev pub with_word : Found → Text → CWordToken → Found
with_word f text w other = if bytes_eq text other then Some w else f other

-- with the words of rows at their texts, one after the other
abbrev pub with_rows : Found → List Row → Found
with_rows f [] = f
with_rows f (r ∷ rows) = with_rows (with_word f r.0 r.1) rows

-- rows of words that have the same text beside every interface
abbrev pub fixed_rows : List CWordToken → List Row
fixed_rows ws = map (λ w. (fixed_text w, w)) ws

-- the array of a side with a number
abbrev pub array_of : Side → ℕ → CArray
array_of Input k = array.Input k
array_of Output k = array.Output k

-- what the names of a side begin with
abbrev pub fronts_of : Side → Fronts
fronts_of Input = input_fronts
fronts_of Output = output_fronts

-- rows of arrays by their names, numbered from a number on
abbrev pub array_rows : Side → ℕ → List Array → List Row
array_rows side k [] = []
array_rows side k (a ∷ more) = (a.name, word.Array (array_of side k)) ∷ array_rows side (suc k) more
