-- Casts to what is like a fi.
use Rattle.std.specs.Prelude.{pos, false, List, [], ◌∷◌, map, codes, Option, Some, None}
use Rattle.fi_rules.specs.Value.{Val, Fi, ComplexFi, Words}
use Rattle.fi_meaning.specs.Calls.{Argument}

-- a real fi
unfoldable pub real_only : Val → Option Val
real_only (Fi t m s xs) = Some (Fi t m s xs)
real_only v = None

-- a fi as a complex one
unfoldable pub complex_form : Val → Option Val
complex_form (Fi t m s xs) = Some (ComplexFi t m s xs (map (λ x. pos 0) xs))
complex_form (ComplexFi t m s xs ys) = Some (ComplexFi t m s xs ys)
complex_form v = None

-- an argument that is no word of its own
abbrev pub plain : Val → Argument
plain v = record { value = v; is_word = false }

-- the arguments of a cast to what is like a fi
abbrev pub cast_arguments : Val → Val → List Argument
cast_arguments v like = plain v ∷ plain (Words (codes "like")) ∷ plain like ∷ []
