-- What the result of a call that makes a type stands for.
use Rattle.std.specs.Prelude.{Result, Ok, Err}
use Rattle.num_type.specs.View.{type_of}
use Rattle.num_type.specs.declared.num_type.NumType.{NumType}
use Rattle.fi_math.specs.declared.types.NoType.{NoType}
use Rattle.fi_math.specs.declared.types.NoType.TheVariants.{TooWide, FractionOut}
use Rattle.fi_math.specs.Made.{Made, Is, Wide, Out}

-- the type, or why there is none
abbrev pub made_of : Result NumType NoType → Made
made_of (Ok t) = Is (type_of t)
made_of (Err (TooWide w)) = Wide w
made_of (Err (FractionOut f)) = Out f
