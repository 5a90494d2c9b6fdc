-- What a refusal of a list of words says.
use Rattle.num_type.specs.declared.memory.Stop.{Stop}
use Rattle.num_type.specs.declared.memory.Stop.TheVariants.{Refused, Memory}
use Rattle.c_parse.specs.declared.bad.BadWord.{BadWord}

-- the refusal is like this; want of memory says nothing
abbrev pub RefusesOnly : Stop BadWord → (BadWord → Type 0) → Type 0
RefusesOnly (Refused r) P = P r
RefusesOnly Memory P = Unit {0}
