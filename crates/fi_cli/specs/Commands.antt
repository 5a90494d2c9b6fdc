-- What a command gives, and why it is refused, by the contents of the files that it names.
use Rattle.std.specs.Prelude.{◌≡◌, ◌⊎◌, ℕ, List, [], ◌∷◌, Option, Some, IfSome}
use Rattle.fic_base.specs.declared.refusal.Refusal.{Refusal}
use Rattle.c_tree.specs.Tree.{Program}
use Rattle.c_read.specs.declared.refusal.CRefusal.{CRefusal}
use Rattle.c_read.specs.Program as text
use Rattle.c_read.specs.Program.{IsTextOf}
use Rattle.case_io.specs.declared.refusal.CaseRefusal.{CaseRefusal}
use Rattle.case_io.specs.Cases.{input_ranges}
use Rattle.case_io.specs.Plain.{IsBad}
use Rattle.fi_cli.specs.Forms.{Command, Compile, Run}
use Rattle.fi_cli.specs.Source.{IsCompiled, IsSourceRefusal}
use Rattle.fi_cli.specs.Results.{AreResults}

-- a refusal of what is read
pub data Bad : Type 0 where
  BadSource : Refusal → Bad
  BadText : CRefusal → Bad
  BadCases : CaseRefusal → Bad

-- the names of the files, in the order in which they are read
abbrev pub files : Command → List (List ℕ)
files (Compile file entry ds) = file ∷ []
files (Run file cases turns) = file ∷ cases ∷ []

-- the cases are refused at the program of the text
pub record AreRefused (r : CaseRefusal) (text cases : List ℕ) : Type 0 where
  pub program : Program
  pub read : IsTextOf program text
  pub bad : IsBad r.kind r.index (input_ranges program.interface) cases

-- the command is refused so, at these contents of its files; the cases only where the text isn't
abbrev pub IsRefusedBy : Bad → Command → List (List ℕ) → Type 0
IsRefusedBy (BadSource r) (Compile file entry ds) (source ∷ []) = IsSourceRefusal source entry ds r
IsRefusedBy (BadText r) (Run file cases turns) (bytes ∷ more ∷ []) = text.IsRefusal r.kind r.offset bytes
IsRefusedBy (BadCases r) (Run file cases turns) (bytes ∷ more ∷ []) = AreRefused r bytes more
IsRefusedBy _ _ _ = ⊥

-- the bytes are what the command gives, at these contents of its files
abbrev pub IsOutput : Command → List (List ℕ) → List ℕ → Type 0
IsOutput (Compile file entry ds) (source ∷ []) out = IsCompiled source entry ds out
IsOutput (Run file cases turns) (bytes ∷ more ∷ []) out = AreResults bytes more turns out
IsOutput _ _ _ = ⊥

-- what holds of the contents of files, where they are all told
abbrev pub AllTold : (List ℕ → Option (List ℕ)) → List (List ℕ) → (List (List ℕ) → Type 0) → Type 0
AllTold told [] P = P []
AllTold told (name ∷ more) P = IfSome (told name) (λ bytes. AllTold told more (λ contents. P (bytes ∷ contents)))

-- the contents of files
abbrev pub AreContents : (List ℕ → Option (List ℕ)) → List (List ℕ) → List (List ℕ) → Type 0
AreContents told [] [] = Unit {0}
AreContents told (name ∷ more) (bytes ∷ contents) = (told name ≡ Some bytes) × AreContents told more contents
AreContents told _ _ = ⊥

-- the name of one of the files
abbrev pub IsOneOf : List ℕ → List (List ℕ) → Type 0
IsOneOf name [] = ⊥
IsOneOf name (file ∷ more) = (name ≡ file) ⊎ IsOneOf name more
