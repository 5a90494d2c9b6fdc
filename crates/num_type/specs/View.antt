-- What a type and a constant of the code stand for.
use Rattle.num_type.specs.Types.{NumericType}
use Rattle.num_type.specs.Constants.{Exact}
use Rattle.num_type.specs.declared.num_type.NumType.{NumType}
use Rattle.num_type.specs.declared.dyadic.Dyadic.{Dyadic}

abbrev pub type_of : NumType → NumericType
type_of t = record { signed = t.signed; word = t.word; fraction = t.fraction }

abbrev pub exact_of : Dyadic → Exact
exact_of d = record { significand = d.m; exponent = d.e }
