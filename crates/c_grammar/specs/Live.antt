-- Which lists of words go on to a program.
use Rattle.std.specs.Prelude.{◌≡◌, ℕ, suc, ◌≤◌, ◌<◌, Bool, true, false, ◌&&◌, [], ◌++◌, take, length, IsTrue}
use Rattle.c_tree.specs.Tree.{Signature, Sta, Set, Store, Return, Block, Done, Next, Program}
use Rattle.c_tree.specs.WellFormed.{IsWellFormed}
use Rattle.c_grammar.specs.Sentence.{Words, words_of}

-- the statements of the part of the subset that is built
abbrev pub is_built_statement : Sta → Bool
is_built_statement (Set k value) = true
is_built_statement (Store a at value) = true
is_built_statement (Return status) = true
is_built_statement _ = false

-- each of them is one
abbrev pub are_built : Block → Bool
are_built Done = true
are_built (Next s more) = is_built_statement s && are_built more

-- a program of that part: without local arrays, counters, choices, loops and jumps
pub record IsBuilt (p : Program) : Type 0 where
  pub arrays : p.arrays ≡ []
  pub groups : p.groups ≡ 0
  pub barriers : p.barriers ≡ 0
  pub sources : p.sources ≡ 0
  pub turns : p.turns ≡ 0
  pub body : IsTrue (are_built p.body)

-- the words are those of this program, which is well formed, has this interface and is built
pub record IsSentence (i : Signature) (p : Program) (ws : Words) : Type 0 where
  pub interface : p.interface ≡ i
  pub well_formed : IsWellFormed p
  pub built : IsBuilt p
  pub words : words_of p ≡ ws

-- with more words they are those of a program
pub record IsLive (i : Signature) (ws : Words) : Type 0 where
  pub more : Words
  pub program : Program
  pub sentence : IsSentence i program (ws ++ more)

-- the number of words before the first one with which no program goes on; all of them, where only more words are missing
pub record IsRefused (i : Signature) (ws : Words) (n : ℕ) : Type 0 where
  pub within : n ≤ length ws
  pub live : IsLive i (take n ws)
  pub next : n < length ws → IsLive i (take (suc n) ws) → ⊥
  pub none : (p : Program) → IsSentence i p ws → ⊥
