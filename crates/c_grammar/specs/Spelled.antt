-- Words of texts, and which lists of texts go on to a program.
use Rattle.std.specs.Prelude.{◌≡◌, ◌≢◌, ◌⊎◌, [], ◌∷◌, ◌++◌}
use Rattle.c_tree.specs.Texts.{Text}
use Rattle.c_tree.specs.Spelling.{Texts, spelled}
use Rattle.c_tree.specs.Tree.{Signature, Program}
use Rattle.c_tree.specs.WellFormed.{IsWellFormed}
use Rattle.c_grammar.specs.declared.word.CWordToken.{CWordToken}
use Rattle.c_grammar.specs.declared.word.CWordToken.TheVariants.{Other}
use Rattle.c_grammar.specs.Words.{text_of, IsToken}
use Rattle.c_grammar.specs.Sentence.{Words}
use Rattle.c_grammar.specs.Live.{IsBuilt}

-- a text is this token's, or it is none of the interface
abbrev pub IsWordOf : Signature → Text → CWordToken → Type 0
IsWordOf i t w = (IsToken i w × (text_of i w ≡ t)) ⊎ ((w ≡ Other) × ((v : CWordToken) → IsToken i v → text_of i v ≢ t))

-- the words of texts in order
abbrev pub AreWordsOf : Signature → Texts → Words → Type 0
AreWordsOf i [] [] = Unit {0}
AreWordsOf i (t ∷ ts) (w ∷ ws) = IsWordOf i t w × AreWordsOf i ts ws
AreWordsOf i _ _ = ⊥

-- the texts are the tokens of this program, which is well formed, has this interface and is built
pub record IsSpelled (i : Signature) (p : Program) (ts : Texts) : Type 0 where
  pub interface : p.interface ≡ i
  pub well_formed : IsWellFormed p
  pub built : IsBuilt p
  pub tokens : spelled p ≡ ts

-- with more texts they are the tokens of a program
pub record IsLiveText (i : Signature) (ts : Texts) : Type 0 where
  pub more : Texts
  pub program : Program
  pub spelled : IsSpelled i program (ts ++ more)
