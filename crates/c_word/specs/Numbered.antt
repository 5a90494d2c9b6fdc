-- Words that are numbers, or a letter and a number.
use Rattle.std.specs.Prelude.{◌≡◌, ◌≢◌, ℕ, ◌<◌, ◌^◌, Bool, true, false, ◌∷◌, Option, Some, None, decimal}
use Rattle.c_tree.specs.Tree.{Signature}
use Rattle.c_tree.specs.Texts.{Text}
use Rattle.c_tree.specs.declared.tree.CArray.TheVariants as array
use Rattle.c_grammar.specs.declared.word.CWordToken.{CWordToken}
use Rattle.c_grammar.specs.declared.word.CWordToken.TheVariants as word
use Rattle.c_grammar.specs.Words.{text_of, IsToken}

-- the number below 2^64 whose canonical decimal a text is, and none where it is that of none
abbrev pub ReadsNumber : Option ℕ → Text → Type 0
ReadsNumber (Some n) text = (text ≡ decimal n) × (n < 2 ^ 64)
ReadsNumber None text = (n : ℕ) → n < 2 ^ 64 → text ≢ decimal n

-- whether a word is a variable, a counter or a local array: a letter and a number
abbrev pub is_lettered : CWordToken → Bool
is_lettered (word.Var k) = true
is_lettered (word.Counter c) = true
is_lettered (word.Array (array.Local k)) = true
is_lettered _ = false

-- whether a word is a number, or a letter and a number
abbrev pub is_numbered : CWordToken → Bool
is_numbered (word.Number n) = true
is_numbered w = is_lettered w

-- the token, among words of some kind, of which a text is the text beside every interface, and none where it is that of none of them
abbrev pub ReadsAmong : (CWordToken → Bool) → Option CWordToken → Text → Type 0
ReadsAmong kind (Some w) text = (i : Signature) → IsToken i w × (text_of i w ≡ text)
ReadsAmong kind None text = (i : Signature) (w : CWordToken) → kind w ≡ true → IsToken i w → text_of i w ≢ text

-- a letter and a number
abbrev pub ReadsLettered : Option CWordToken → Text → Type 0
ReadsLettered = ReadsAmong is_lettered

-- a letter before a number
abbrev pub ReadsLetter : Option CWordToken → ℕ → ℕ → Type 0
ReadsLetter o letter number = ReadsLettered o (letter ∷ decimal number)

-- a number, or a letter and a number
abbrev pub ReadsNumbered : Option CWordToken → Text → Type 0
ReadsNumbered = ReadsAmong is_numbered
