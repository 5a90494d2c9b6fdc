-- Constants as values.
use Rattle.std.specs.Prelude.{[], ◌∷◌}
use Rattle.num_type.specs.View.{exact_of}
use Rattle.num_type.specs.declared.dyadic.Dyadic.{Dyadic}
use Rattle.fi_rules.specs.Value.{Val, Number, scalar}

-- a real scalar constant as a value
abbrev pub constant_value : Dyadic → Val
constant_value c = Number scalar (exact_of c ∷ [])
