-- Calls of built-in functions on values of every class.
use Rattle.std.specs.Prelude.{ℕ, pos, Bool, true, false, ◌++◌, bytes_eq, if◌then◌else◌, List, [], ◌∷◌, map, codes, Option, Some, None}
use Rattle.fic_base.specs.declared.place.Place.{Place}
use Rattle.num_type.specs.Constants.{Exact}
use Rattle.num_type.specs.Types.{NumericType}
use Rattle.fi_math.specs.declared.fimath.Fimath.{Fimath}
use Rattle.fi_rules.specs.declared.built_ins.BuiltIn.{BuiltIn}
use Rattle.fi_rules.specs.declared.built_ins.BuiltIn.TheVariants as built_in
use Rattle.fi_rules.specs.Options.{◌|>◌, where_so}
use Rattle.fi_rules.specs.Value.{Shape, scalar, is_scalar, Val, Fi, ComplexFi, Logical, Number, ComplexNumber, Words, MathObject, TypeObject}
use Rattle.fi_rules.specs.Types.{Ty, FiTy, NumberTy, TextTy, MathTy, TypeTy, OtherTy, known_value}
use Rattle.fi_rules.specs.Calls.{Built, Taken, Attached, SignTaken, Object, call_checked, built_in_named}
use Rattle.fi_eval.specs.Calls.{taken, taken_constant}
use Rattle.fi_eval.specs.Operators.{Remove, turned, met_at}
use Rattle.fi_eval.specs.Outcome.{Got, Wrong, ◌>>=◌, or_wrong}
use Rattle.fi_values.specs.Numbers.{nought, one}
use Rattle.fi_values.specs.Stores.{complex_taken}
use Rattle.fi_meaning.specs.Functions.{Function, Filled, function_of, given}

-- an argument: its value, and whether it is the word true or false itself
pub record Argument : Type 0 where
  pub value : Val
  pub is_word : Bool

abbrev pub truth_number : Bool → Exact
truth_number true = one
truth_number false = nought

-- a type whose values a logical one is taken like: a stated type takes it, and best precision doesn't
abbrev pub truth_type : NumericType
truth_type = record { signed = false; word = 1; fraction = pos 0 }

-- the type of a value's elements
unfoldable pub element_ty : Val → Ty
element_ty (Fi t m s xs) = FiTy t m
element_ty (ComplexFi t m s xs ys) = FiTy t m
element_ty (Number s cs) = NumberTy s cs
element_ty (ComplexNumber s xs ys) = NumberTy s (xs ++ ys)
element_ty (Words text) = TextTy text
element_ty (MathObject m) = MathTy m
element_ty (TypeObject t) = TypeTy t
element_ty (Logical s bs) = OtherTy

-- a constant of several numbers is none that a rule asks for
unfoldable pub single_ty : Shape → List Exact → Ty
single_ty s (c ∷ []) = if is_scalar s then NumberTy scalar (c ∷ []) else OtherTy
single_ty s cs = OtherTy

-- where a constant is wanted the words true and false stand for 1 and 0
unfoldable pub constant_ty : Val → Bool → Ty
constant_ty (Logical s (b ∷ [])) true = NumberTy scalar (truth_number b ∷ [])
constant_ty (Number s cs) w = single_ty s cs
constant_ty (ComplexNumber s xs ys) w = OtherTy
constant_ty v w = element_ty v

-- a value that is taken into a type
unfoldable pub value_ty : Val → Ty
value_ty (Logical s bs) = FiTy truth_type None
value_ty v = element_ty v

-- whether a function takes its first argument into a type
unfoldable pub takes : BuiltIn → Bool
takes built_in.Fi = true
takes built_in.Cast = true
takes b = false

abbrev pub constants : List Argument → List Ty
constants = map (λ (a : Argument). constant_ty a.value a.is_word)

-- the types of arguments
unfoldable pub argument_types : Bool → List Argument → List Ty
argument_types true (a ∷ more) = value_ty a.value ∷ constants more
argument_types b args = constants args

-- ---- what a call gives

-- a value in a type, part by part
unfoldable pub taken_value : NumericType → Option Fimath → Val → Option Val
taken_value t m (Fi u n s xs) = Some (Fi t m s (map (λ x. taken t m x u.fraction) xs))
taken_value t m (Number s cs) = Some (Fi t m s (map (taken_constant t m) cs))
taken_value t m (Logical s bs) = Some (Fi t m s (map (λ b. taken_constant t m (truth_number b)) bs))
taken_value t m (ComplexFi u n s xs ys) = complex_taken t m (ComplexFi u n s xs ys) |> (λ p. Some (ComplexFi t m s p.0 p.1))
taken_value t m (ComplexNumber s xs ys) = complex_taken t m (ComplexNumber s xs ys) |> (λ p. Some (ComplexFi t m s p.0 p.1))
taken_value t m v = None

unfoldable pub attached : Option Fimath → Val → Option Val
attached m (Fi t n s xs) = Some (Fi t m s xs)
attached m (ComplexFi t n s xs ys) = Some (ComplexFi t m s xs ys)
attached m v = None

unfoldable pub built_value : Place → Built → List Val → Got Place Val
built_value at (Object t) vs = or_wrong at (known_value t)
built_value at (Taken t m) (v ∷ vs) = or_wrong at (taken_value t m v)
built_value at (Attached m) (v ∷ vs) = or_wrong at (attached m v)
built_value at SignTaken (v ∷ vs) = turned at Remove v
built_value at r [] = Wrong at

-- a cast is complex where the fi that it is like is; none of a complex value where that is real
unfoldable pub cast_like : Val → Val → Option Val
cast_like (ComplexFi t m s xs ys) (ComplexFi u n r us vs) = Some (ComplexFi t m s xs ys)
cast_like (Fi t m s xs) (ComplexFi u n r us vs) = Some (ComplexFi t m s xs (map (λ x. pos 0) xs))
cast_like (Fi t m s xs) (Fi u n r ys) = Some (Fi t m s xs)
cast_like v w = None

unfoldable pub after_rules : BuiltIn → List Val → Val → Option Val
after_rules built_in.Cast (v ∷ a ∷ p ∷ []) r = cast_like r p
after_rules b vs r = Some r

abbrev pub values_of : List Argument → List Val
values_of = map (λ (a : Argument). a.value)

abbrev pub by_rules : Place → BuiltIn → List Argument → Got Place Val
by_rules at b args =
    met_at at (call_checked b (argument_types (takes b) args))
    >>= (λ r. built_value at r (values_of args) >>= (λ v. or_wrong at (after_rules b (values_of args) v)))

-- ---- functions beside those of the rules

-- the number that an argument is where a constant is wanted
unfoldable pub constant_value : Val → Bool → Val
constant_value (Logical s (b ∷ [])) true = Number scalar (truth_number b ∷ [])
constant_value v w = v

-- the first argument args it is, or a constant too where the function makes arrays of a number
unfoldable pub function_values : Function → List Argument → List Val
function_values (Filled z) args = map (λ (a : Argument). constant_value a.value a.is_word) args
function_values f [] = []
function_values f (a ∷ more) = a.value ∷ map (λ (b : Argument). constant_value b.value b.is_word) more

-- an array of one number in the type of a fi: the arguments before the word like, and the fi
unfoldable pub like_at_end : List Val → Option (List Val × Val)
like_at_end (n ∷ Words word ∷ p ∷ []) = where_so (bytes_eq word (codes "like")) (n ∷ [], p)
like_at_end (m ∷ n ∷ Words word ∷ p ∷ []) = where_so (bytes_eq word (codes "like")) (m ∷ n ∷ [], p)
like_at_end vs = None

abbrev pub cast_of : Place → Val → Val → Got Place Val
cast_of at v p =
    by_rules at built_in.Cast
    (record { value = v; is_word = false } ∷ record { value = Words (codes "like"); is_word = false } ∷ record { value = p; is_word = false } ∷ [])

unfoldable pub filled_call : Place → Function → List Val → Option (List Val × Val) → Got Place Val
filled_call at f vs None = or_wrong at (given f vs)
filled_call at f vs (Some like) = or_wrong at (given f like.0) >>= (λ v. cast_of at v like.1)

unfoldable pub function_call : Place → Function → List Val → Got Place Val
function_call at (Filled z) vs = filled_call at (Filled z) vs (like_at_end vs)
function_call at f vs = or_wrong at (given f vs)

-- ---- a call of a name

unfoldable pub by_name : Place → Option BuiltIn → Option Function → List Argument → Got Place Val
by_name at (Some b) f args = by_rules at b args
by_name at None (Some f) args = function_call at f (function_values f args)
by_name at None None args = Wrong at

abbrev pub called_name : Place → List ℕ → List Argument → Got Place Val
called_name at name args = by_name at (built_in_named name) (function_of name) args
