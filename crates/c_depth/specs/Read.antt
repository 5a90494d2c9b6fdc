-- The depth of each word, read off the words before it.
use Rattle.std.specs.Prelude.{ℕ, suc, Bool, true, false, List, [], ◌∷◌}
use Rattle.c_grammar.specs.declared.word.CSign.TheVariants as sign
use Rattle.c_grammar.specs.declared.word.CWordToken.{CWordToken}
use Rattle.c_grammar.specs.declared.word.CWordToken.TheVariants as word
use Rattle.c_grammar.specs.Sentence.{Words}
use Rattle.c_depth.specs.declared.level.Before.{Before}
use Rattle.c_depth.specs.declared.level.Before.TheVariants as before
use Rattle.c_tree.specs.Depths.{Depths}

-- what is open before a word: what stands directly before it, how many brackets and casts are open, how many of these are left where the
-- casts that opened last have ended, and the latter before each open bracket, the innermost first
pub record Nest : Type 0 where
  pub before : Before
  pub depth : ℕ
  pub base : ℕ
  pub outer : List ℕ

-- before the first word
abbrev pub at_first : Nest
at_first = record { before = before.Other; depth = 0; base = 0; outer = [] }

abbrev pub top : List ℕ → ℕ
top [] = 0
top (b ∷ bs) = b

abbrev pub below : List ℕ → List ℕ
below [] = []
below (b ∷ bs) = bs

-- behind a bracket that opens
abbrev pub enter : Before → Nest → Nest
enter what n = record { before = what; depth = suc n.depth; base = suc n.depth; outer = n.base ∷ n.outer }

-- behind one that closes: casts of what it closes end
abbrev pub leave : Nest → Nest
leave n = record { before = before.Other; depth = top n.outer; base = top n.outer; outer = below n.outer }

-- behind a parenthesis that closes: that of a cast leaves the cast open in place of its own
abbrev pub close : Before → Nest → Nest
close before.OpenType n = record { before = before.Other; depth = n.depth; base = top n.outer; outer = below n.outer }
close _ n = leave n

-- behind an operand: its casts end
abbrev pub operand : Nest → Nest
operand n = record { before = before.Other; depth = n.base; base = n.base; outer = n.outer }

-- behind another word
abbrev pub follow : Before → Nest → Nest
follow what n = record { before = what; depth = n.depth; base = n.base; outer = n.outer }

-- what stands before the word behind a type
abbrev pub type_behind : Before → Before
type_behind before.Open = before.OpenType
type_behind _ = before.Other

-- behind a word; a word of no program counts as a type
abbrev pub see : CWordToken → Nest → Nest
see (word.Sign sign.Open) n = enter before.Open n
see (word.Sign sign.OpenSquare) n = enter before.Other n
see (word.Sign sign.OpenBrace) n = enter before.Other n
see (word.Sign sign.Close) n = close n.before n
see (word.Sign sign.CloseSquare) n = leave n
see (word.Sign sign.CloseBrace) n = leave n
see (word.Type c) n = follow (type_behind n.before) n
see word.Other n = follow (type_behind n.before) n
see (word.Var k) n = operand n
see (word.Counter c) n = operand n
see _ n = follow before.Other n

-- whether a word is a bracket that opens
abbrev pub opens : CWordToken → Bool
opens (word.Sign sign.Open) = true
opens (word.Sign sign.OpenSquare) = true
opens (word.Sign sign.OpenBrace) = true
opens _ = false

abbrev pub if_open : Bool → ℕ → ℕ
if_open true d = suc d
if_open false d = 0

-- the depth of a word
abbrev pub word_depth : CWordToken → Nest → ℕ
word_depth w n = if_open (opens w) n.depth

-- the depths of words
abbrev pub read_depths : Nest → Words → Depths
read_depths n [] = []
read_depths n (w ∷ ws) = word_depth w n ∷ read_depths (see w n) ws

-- the depths of the words of a function, from the first one on
abbrev pub word_depths : Words → Depths
word_depths ws = read_depths at_first ws
