-- The words of a call.
use Rattle.std.specs.Prelude.{◌≡◌, ◌≢◌, ℕ, ◌+◌, ◌<◌, ◌≤◌, false, List, [], ◌∷◌, ◌++◌, length, take, codes, decimal}
use Rattle.fic_base.specs.Names.{IsName}
use Rattle.shape_rules.specs.declared.declared.Declared.{Declared}
use Rattle.shape_rules.specs.Declarations.{IsTypeText, IsScalar}

-- what the words ask for
pub data Command : Type 0 where
  -- the program of an entry: the name of the source, the entry, and the declared types of its inputs
  Compile : List ℕ → List ℕ → List Declared → Command
  -- the results of a program: the names of the C text and of the cases, and the bound on loop turns
  Run : List ℕ → List ℕ → ℕ → Command

-- the word of a type; one real element so far
pub record IsTypeWord (word : List ℕ) (d : Declared) : Type 0 where
  pub text : IsTypeText word d
  pub one : IsScalar d.shape
  pub real : d.complex ≡ false

abbrev pub AreTypeWords : List (List ℕ) → List Declared → Type 0
AreTypeWords [] [] = Unit {0}
AreTypeWords (word ∷ words) (d ∷ ds) = IsTypeWord word d × AreTypeWords words ds
AreTypeWords words ds = ⊥

-- compile FILE ENTRY TYPE ..
pub record IsCompile (file entry : List ℕ) (ds : List Declared) (words : List (List ℕ)) : Type 0 where
  pub types : List (List ℕ)
  pub are : words ≡ codes "compile" ∷ file ∷ entry ∷ types
  pub a_file : file ≢ []
  pub an_entry : IsName entry
  pub are_types : AreTypeWords types ds

-- the word of a bound on loop turns: a decimal without a sign or a leading zero, at most 1,000,000
pub record IsTurnsWord (word : List ℕ) (turns : ℕ) : Type 0 where
  pub text : word ≡ decimal turns
  pub most : turns ≤ 1000000

-- run CFILE CASES TURNS
pub record IsRun (file cases : List ℕ) (turns : ℕ) (words : List (List ℕ)) : Type 0 where
  pub bound : List ℕ
  pub are : words ≡ codes "run" ∷ file ∷ cases ∷ bound ∷ []
  pub a_file : file ≢ []
  pub a_case_file : cases ≢ []
  pub a_bound : IsTurnsWord bound turns

-- the words have this form
abbrev pub IsForm : Command → List (List ℕ) → Type 0
IsForm (Compile file entry ds) words = IsCompile file entry ds words
IsForm (Run file cases turns) words = IsRun file cases turns words

-- some form goes on behind the words
abbrev pub GoesOn : List (List ℕ) → Type 0
GoesOn words = (more : List (List ℕ)) × (c : Command) × IsForm c (words ++ more)

-- the words have no form: n is the first position at which none goes on, or how many words there are
pub record IsBadAt (words : List (List ℕ)) (n : ℕ) : Type 0 where
  pub within : n ≤ length words
  pub front : GoesOn (take n words)
  pub stops : n < length words → GoesOn (take (n + 1) words) → ⊥
  pub ends : n ≡ length words → (c : Command) → IsForm c words → ⊥
