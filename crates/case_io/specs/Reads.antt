-- What parts of the reader answer.
use Rattle.std.specs.Prelude.{◌≡◌, ℕ, ℤ, List, [], ◌∷◌, map, flat_map, All, Option, Some, None, Result, Ok, Err}
use Rattle.std.specs.Borrow.{Bor}
use Rattle.std.specs.Global.{Vec}
use Rattle.num_type.specs.declared.memory.Stop.{Stop}
use Rattle.num_type.specs.declared.memory.Stop.TheVariants as stop
use Rattle.case_io.specs.declared.refusal.Cases.{Cases}
use Rattle.case_io.specs.declared.refusal.CaseRefusal.{CaseRefusal}
use Rattle.case_io.specs.Cases.{Range, IsWithin, AreInputs}
use Rattle.case_io.specs.Plain.{AreLines, value_of, IsCase, IsBad}

-- the bytes of borrowed texts
abbrev pub texts_of : List (Bor (List ℕ)) → List (List ℕ)
texts_of = map (λ t. t.now)

-- the texts of lines of canonical decimals, and none where the bytes aren't such lines
abbrev pub ReadsLines : Option (Vec (Bor (List ℕ))) → List ℕ → Type 0
ReadsLines (Some texts) bytes = AreLines (texts_of texts.items) bytes
ReadsLines None bytes = (texts : List (List ℕ)) → AreLines texts bytes → ⊥

-- the numbers of decimals, all in range, and none where one isn't
abbrev pub ReadsArray : Option (Vec ℤ) → Range → List (List ℕ) → Type 0
ReadsArray (Some zs) r texts = (zs.items ≡ map value_of texts) × All (IsWithin r) zs.items
ReadsArray None r texts = All (IsWithin r) (map value_of texts) → ⊥

-- lists as contracts see them
abbrev pub lists_of : List (Vec ℤ) → List (List ℤ)
lists_of = map (λ v. v.items)

-- the numbers of decimals, a list for each array, and none where one is out of range
abbrev pub ReadsArrays : Option (Vec (Vec ℤ)) → List Range → List (List ℕ) → Type 0
ReadsArrays (Some arrays) rs texts = AreInputs rs (lists_of arrays.items) × (flat_map (λ zs. zs) (lists_of arrays.items) ≡ map value_of texts)
ReadsArrays None rs texts = (inputs : List (List ℤ)) → AreInputs rs inputs → flat_map (λ zs. zs) inputs ≡ map value_of texts → ⊥

-- what a reader of a case file answers: the one case of the bytes, or why they are refused
abbrev pub ReadsCases : Result Cases (Stop CaseRefusal) → List Range → List ℕ → Type 0
ReadsCases (Ok cases) rs bytes = (arrays : Vec (Vec ℤ)) × (cases.list.items ≡ arrays ∷ []) × IsCase rs (lists_of arrays.items) bytes
ReadsCases (Err stop.Memory) rs bytes = Unit {0}
ReadsCases (Err (stop.Refused r)) rs bytes = IsBad r.kind r.index rs bytes
