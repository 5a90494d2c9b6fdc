-- Results that may be missing.
use Rattle.std.specs.Prelude.{ℕ, Bool, true, false, if◌then◌else◌, List, [], ◌∷◌, Option, Some, None, bytes_eq}

unfoldable pub and_then : {A B : Type 0} → Option A → (A → Option B) → Option B
and_then None next = None
and_then (Some x) next = next x

infixl 10 ◌|>◌
abbrev pub ◌|>◌ : {A B : Type 0} → Option A → (A → Option B) → Option B
x |> next = and_then x next

-- the value where the test holds
unfoldable pub where_so : {A : Type 0} → Bool → A → Option A
where_so true x = Some x
where_so false x = None

-- what stands beside a name in a list
unfoldable pub named : {A : Type 0} → List (List ℕ × A) → List ℕ → Option A
named [] name = None
named (entry ∷ more) name = if bytes_eq entry.0 name then Some entry.1 else named more name

-- all of them, where none is missing
unfoldable pub all_of : {A : Type 0} → List (Option A) → Option (List A)
all_of [] = Some []
all_of (x ∷ xs) = x |> (λ y. all_of xs |> (λ ys. Some (y ∷ ys)))
