-- What reads and puts leave, and when they may fail.
use Rattle.std.specs.Prelude.{◌≡◌, ℕ, ◌+◌, ◌-◌, ◌^◌, ◌≤◌, min, List, ◌++◌, take, length, Option, Some, None, IfSome, Result, Ok, Err, Bool, true, false}
use Rattle.fic_io.specs.declared.shelf.ShelfFault.{ShelfFault}
use Rattle.fic_io.specs.declared.shelf.ShelfFault.TheVariants as fault
use Rattle.fic_io.specs.declared.sink.Failed.{Failed}

-- a count with one more, which stays at its end
abbrev pub one_more : ℕ → ℕ
one_more count = min (count + 1) (2 ^ 64 - 1)

-- a count rose, or stands at its end
abbrev pub Rose : ℕ → ℕ → Type 0
Rose before now = one_more before ≤ now

-- a count rose by one, or stays at its end
abbrev pub RoseByOne : ℕ → ℕ → Type 0
RoseByOne before now = (now ≡ one_more before) × (before ≤ now)

-- bytes with at most so many more behind them
pub record GrewBy (limit : ℕ) (old new : List ℕ) : Type 0 where
  pub came : List ℕ
  pub behind : new ≡ old ++ came
  pub few : length came ≤ limit

-- what a read of a name leaves: the count of faults, the name of the last failure, and the bytes read into
abbrev pub ReadLeaves : Result (Unit {0}) ShelfFault → List ℕ → ℕ → ℕ → Option (List ℕ) → List ℕ → List ℕ → List ℕ → List ℕ → ℕ → Type 0
ReadLeaves (Ok u) name before now told last last_now old new limit =
    (now ≡ before) × (last_now ≡ last) × GrewBy limit old new × IfSome told (λ bytes. new ≡ old ++ take limit bytes)
ReadLeaves (Err fault.Failed) name before now told last last_now old new limit =
    RoseByOne before now × (last_now ≡ name) × (new ≡ old)
ReadLeaves (Err fault.Memory) name before now told last last_now old new limit =
    (now ≡ before) × (last_now ≡ last) × (new ≡ old)

-- what was taken, with more bytes at its end
abbrev pub appended : Option (List ℕ) → List ℕ → Option (List ℕ)
appended None bytes = None
appended (Some old) bytes = Some (old ++ bytes)

-- what a put leaves: the count of faults and the bytes taken
abbrev pub PutLeaves : Result ℕ Failed → List ℕ → ℕ → ℕ → Option (List ℕ) → Option (List ℕ) → Type 0
PutLeaves (Ok n) bytes before now old new =
    (now ≡ before) × (1 ≤ n) × (n ≤ length bytes) × (new ≡ appended old (take n bytes))
PutLeaves (Err e) bytes before now old new = RoseByOne before now × (new ≡ old)

-- what a sink of fixed room takes of some bytes: as many as there are, as it takes in a call and as it has room for; it fails where that is none
abbrev pub TakesByRoom : Result ℕ Failed → List ℕ → ℕ → ℕ → ℕ → Type 0
TakesByRoom (Ok n) bytes most room room_now = (n ≡ min (length bytes) (min most room)) × (room_now + n ≡ room)
TakesByRoom (Err e) bytes most room room_now = (room ≡ 0) × (room_now ≡ 0)

-- when a read of a shelf of chosen failures fails: where its call is one of these, or nothing has the name
abbrev pub FailsAsChosen : Result (Unit {0}) ShelfFault → Bool → Option (List ℕ) → Type 0
FailsAsChosen (Ok u) is_chosen None = ⊥
FailsAsChosen (Ok u) is_chosen (Some bytes) = is_chosen ≡ false
FailsAsChosen (Err fault.Failed) is_chosen None = Unit {0}
FailsAsChosen (Err fault.Failed) is_chosen (Some bytes) = is_chosen ≡ true
FailsAsChosen (Err fault.Memory) is_chosen told = Unit {0}
