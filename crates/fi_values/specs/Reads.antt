-- Subscripted reads.
use Rattle.std.specs.Prelude.{ℕ, pos, false, List, Option, Some, None}
use Rattle.fic_base.specs.declared.place.Place.{Place}
use Rattle.fi_rules.specs.Value.{Shape, Val, Fi, ComplexFi, Logical, Number, ComplexNumber, Words, MathObject, TypeObject, scalar}
use Rattle.fi_eval.specs.Outcome.{Got, Gives, Fault, Wrong, ◌>>=◌, or_wrong, when◌then◌else◌}
use Rattle.fi_values.specs.Elements.{picked}
use Rattle.fi_values.specs.Numbers.{nought}
use Rattle.fi_values.specs.Shapes.{is_small}
use Rattle.fi_values.specs.Subscripts.{Subscript, Selection, selection}

-- the shape of a value; an object has one element
abbrev pub shape_of : Val → Shape
shape_of (Fi t m s xs) = s
shape_of (ComplexFi t m s xs ys) = s
shape_of (Logical s bs) = s
shape_of (Number s cs) = s
shape_of (ComplexNumber s xs ys) = s
shape_of (Words text) = scalar
shape_of (MathObject m) = scalar
shape_of (TypeObject t) = scalar

-- the places, or the fault of the access
unfoldable pub or_fault : {W A : Type 0} → ℕ → Option A → Got W A
or_fault site (Some x) = Gives x
or_fault site None = Fault site

-- those elements of a fi or a logical, and of a number by `:` and constants within the extents alone
unfoldable pub selected : Place → ℕ → Val → Selection → Got Place Val
selected at site (Fi t m s xs) k = or_fault site k.places >>= (λ ks. Gives (Fi t m k.shape (picked (pos 0) xs ks)))
selected at site (ComplexFi t m s xs ys) k =
    or_fault site k.places >>= (λ ks. Gives (ComplexFi t m k.shape (picked (pos 0) xs ks) (picked (pos 0) ys ks)))
selected at site (Logical s bs) k = or_fault site k.places >>= (λ ks. Gives (Logical k.shape (picked false bs ks)))
selected at site (Number s cs) k =
    when k.fixed then (or_wrong at k.places >>= (λ ks. Gives (Number k.shape (picked nought cs ks)))) else Wrong at
selected at site (ComplexNumber s xs ys) k =
    when k.fixed
    then (or_wrong at k.places >>= (λ ks. Gives (ComplexNumber k.shape (picked nought xs ks) (picked nought ys ks))))
    else Wrong at
selected at site v k = Wrong at

-- a read of at most 4,096 elements; site is the number of its fault
abbrev pub read : Place → ℕ → Val → List Subscript → Got Place Val
read at site v subs = or_wrong at (selection (shape_of v) subs) >>= (λ k. when is_small k.shape then selected at site v k else Wrong at)
