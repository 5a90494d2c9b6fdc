-- Numbers: constants, real or complex, as whole numbers, and beside fis.
use Rattle.std.specs.Prelude.{ℕ, ℤ, pos, neg_ℤ, ◌^◌, Bool, ◌&&◌, int_lt, List, [], ◌∷◌, map, Option, None}
use Rattle.num_type.specs.Constants.{Exact}
use Rattle.num_type.specs.Types.{NumericType}
use Rattle.num_type.specs.Precision.{whole}
use Rattle.const_rules.specs.OneForm.{reduced}
use Rattle.const_rules.specs.Stored.{stored_in}
use Rattle.fi_rules.specs.Value.{scalar, is_scalar, Val, Number}
use Rattle.fi_rules.specs.Options.{◌|>◌, where_so, all_of}
use Rattle.fi_rules.specs.Arguments.{whole_of}
use Rattle.fi_rules.specs.Pairs.{beside_type}

-- a whole number as a constant, in its one form
abbrev pub constant : ℤ → Exact
constant z = reduced (whole z)

abbrev pub nought : Exact
nought = whole (pos 0)

abbrev pub one : Exact
one = whole (pos 1)

-- a whole number as a value
abbrev pub whole_value : ℕ → Val
whole_value n = Number scalar (constant (pos n) ∷ [])

-- all are whole numbers
abbrev pub wholes_of : List Exact → Option (List ℤ)
wholes_of cs = all_of (map whole_of cs)

-- within 2 ^ 31 - 1 of 0
abbrev pub is_bound : ℤ → Bool
is_bound z = int_lt (neg_ℤ (pos (2 ^ 31))) z && int_lt z (pos (2 ^ 31))

-- a real scalar whole number within these bounds
unfoldable pub bound_of : Val → Option ℤ
bound_of (Number s (c ∷ [])) = where_so (is_scalar s) c |> whole_of |> (λ z. where_so (is_bound z) z)
bound_of v = None

-- constants beside a fi of this type: their type, with one best fraction length for all, and their stored integers there
abbrev pub stored_beside : NumericType → List Exact → Option (List ℤ)
stored_beside t cs = all_of (map (stored_in (beside_type t cs)) cs)

-- zeros for imaginary parts
abbrev pub nought_parts : List Exact → List Exact
nought_parts = map (λ c. nought)
