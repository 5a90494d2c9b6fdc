-- fimath objects from the names and values of their properties.
use Rattle.std.specs.Prelude.{ℕ, zero, suc, ◌*◌, if◌then◌else◌, List, [], ◌∷◌, get_or, codes, Option, Some, None, unwrap_or, bytes_eq}
use Rattle.std.specs.List.{list_any}
use Rattle.fi_math.specs.declared.fimath.Fimath.{Fimath}
use Rattle.fi_rules.specs.Options.{◌|>◌, named}
use Rattle.fi_rules.specs.Types.{Ty, OtherTy}
use Rattle.fi_rules.specs.Arguments.{text_in, bit_in, rounding_in, overflow_in, mode_in, word_in, fraction_in}

-- a fimath with a property set, and none where the value isn't one of it
abbrev pub Setter : Type 0
Setter = Ty → Fimath → Option Fimath

abbrev pub setters : List (List ℕ × Setter)
setters =
    (codes "RoundingMethod", λ t m. rounding_in t |> (λ r. Some (record m { rounding = r })))
    ∷ (codes "OverflowAction", λ t m. overflow_in t |> (λ a. Some (record m { overflow = a })))
    ∷ (codes "ProductMode", λ t m. mode_in t |> (λ p. Some (record m { product_mode = p })))
    ∷ (codes "ProductWordLength", λ t m. word_in t |> (λ w. Some (record m { product_word = w })))
    ∷ (codes "ProductFractionLength", λ t m. fraction_in t |> (λ f. Some (record m { product_fraction = f })))
    ∷ (codes "SumMode", λ t m. mode_in t |> (λ p. Some (record m { sum_mode = p })))
    ∷ (codes "SumWordLength", λ t m. word_in t |> (λ w. Some (record m { sum_word = w })))
    ∷ (codes "SumFractionLength", λ t m. fraction_in t |> (λ f. Some (record m { sum_fraction = f })))
    ∷ (codes "CastBeforeSum", λ t m. bit_in t |> (λ b. Some (record m { cast_before_sum = b })))
    ∷ []

-- a fimath with the named property set; none where there is no such property, or the value isn't one of it
unfoldable pub with_property : List ℕ → Ty → Fimath → Option Fimath
with_property name t m = named setters name |> (λ set. set t m)

-- pairs of names and values, from left to right; no property is set twice
unfoldable pub with_properties : List Ty → List (List ℕ) → Fimath → Option Fimath
with_properties [] seen m = Some m
with_properties (name ∷ []) seen m = None
with_properties (name ∷ t ∷ more) seen m =
    text_in name |> (λ text. if list_any (bytes_eq text) seen then None else with_property text t m |> (λ n. with_properties more (text ∷ seen) n))

-- the name in an argument; what is no text counts as the empty name, which no property has
abbrev pub name_in : Ty → List ℕ
name_in t = unwrap_or (text_in t) []

-- the names of the first pairs, the last one first
abbrev pub names_before : ℕ → List Ty → List (List ℕ)
names_before zero ts = []
names_before (suc n) ts = name_in (get_or ts (n * 2) OtherTy) ∷ names_before n ts
