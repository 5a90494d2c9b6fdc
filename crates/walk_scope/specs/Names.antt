-- The names that the language gives a meaning.
use Rattle.std.specs.Prelude.{ℕ, Bool, List, [], ◌∷◌, codes, bytes_eq}
use Rattle.std.specs.List.{list_any}

abbrev pub is_listed : List ℕ → List (List ℕ) → Bool
is_listed name names = list_any (λ other. bytes_eq other name) names

-- built-in functions and values
unfoldable pub supported : List (List ℕ)
supported =
    codes "fi" ∷ codes "numerictype" ∷ codes "fimath" ∷ codes "setfimath" ∷ codes "removefimath" ∷ codes "cast" ∷ codes "zeros" ∷ codes "ones" ∷ codes "numel" ∷ codes "length" ∷ codes "size" ∷ codes "true" ∷ codes "false" ∷ codes "abs" ∷ codes "real" ∷ codes "imag" ∷ codes "conj" ∷ codes "complex" ∷ codes "sum" ∷ codes "bitand" ∷ codes "bitor" ∷ codes "bitxor" ∷ codes "bitcmp" ∷ codes "bitsll" ∷ codes "bitsrl" ∷ codes "bitsra" ∷ codes "bitconcat" ∷ codes "bitsliceget" ∷ []

-- names without a meaning here
unfoldable pub unsupported : List (List ℕ)
unsupported =
    codes "single" ∷ codes "double" ∷ codes "int8" ∷ codes "int16" ∷ codes "int32" ∷ codes "int64" ∷ codes "uint8" ∷ codes "uint16" ∷ codes "uint32" ∷ codes "uint64" ∷ codes "logical" ∷ codes "bitshift" ∷ codes "bitget" ∷ codes "bitset" ∷ codes "accumpos" ∷ codes "accumneg" ∷ codes "max" ∷ codes "min" ∷ codes "prod" ∷ codes "mean" ∷ codes "sqrt" ∷ codes "sin" ∷ codes "cos" ∷ codes "atan2" ∷ codes "exp" ∷ codes "log" ∷ codes "floor" ∷ codes "ceil" ∷ codes "round" ∷ codes "fix" ∷ codes "nearest" ∷ codes "convergent" ∷ codes "reshape" ∷ codes "repmat" ∷ codes "any" ∷ codes "all" ∷ codes "find" ∷ codes "isempty" ∷ codes "mpy" ∷ codes "add" ∷ codes "plus" ∷ codes "minus" ∷ codes "times" ∷ codes "mtimes" ∷ codes "sfi" ∷ codes "ufi" ∷ codes "pi" ∷ codes "inf" ∷ codes "Inf" ∷ codes "nan" ∷ codes "NaN" ∷ codes "eps" ∷ codes "globalfimath" ∷ codes "varargin" ∷ codes "varargout" ∷ codes "nargin" ∷ codes "nargout" ∷ []

-- divisions
unfoldable pub divisions : List (List ℕ)
divisions =
    codes "mod" ∷ codes "rem" ∷ codes "divide" ∷ codes "idivide" ∷ []
