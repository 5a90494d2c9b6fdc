-- Calls of the functions of fi_rules: evaluation without places, and chains of what is asked for.
use Rattle.std.proofs.Common.{◌≡◌, refl, ap, ◌∙◌, Bool, true, false, List, [], ◌∷◌, map}
use Rattle.std.specs.Prelude.{Option, Some, None}
use Rattle.fic_base.specs.declared.code.Code.{Code}
use Rattle.fic_base.specs.declared.code.Code.TheVariants as code
use Rattle.fic_base.specs.declared.place.Place.{Place}
use Rattle.num_type.specs.Types.{NumericType}
use Rattle.fi_math.specs.declared.fimath.Fimath.{Fimath}
use Rattle.fi_math.specs.Made.{Made, Is, Wide, Out, limited}
use Rattle.fi_rules.specs.declared.built_ins.BuiltIn.{BuiltIn}
use Rattle.fi_rules.specs.Calls.{Asked, Takes, MakesType, asked, Built, Taken, Attached, SignTaken, Object, built}
use Rattle.fi_rules.specs.Checked as checked
use Rattle.fi_rules.specs.Checked.{Checked, Itself}
use Rattle.fi_rules.specs.Options.{and_then, ◌|>◌}
use Rattle.fi_rules.specs.Pairs.{limits_checked}
use Rattle.fi_rules.specs.Types.{Ty, TypeTy, known_value}
use Rattle.fi_rules.specs.Value.{Val, Fi}
use Rattle.fi_eval.specs.Operators.{Remove, math_of, met_at, turned, turned_element}
use Rattle.fi_eval.specs.Outcome as outcomes
use Rattle.fi_eval.specs.Outcome.{Got, Gives, Fault, Over, Wrong, ◌>>=◌, or_wrong}
use Rattle.fi_meaning.specs.Calls.{Argument, takes, argument_types, taken_value, attached, built_value, after_rules, values_of, by_rules}
use Rattle.fi_meaning.proofs.ShapesOperators.{Passes, passes, misses}
use Rattle.node_rules.specs.Arguments.{argument_tys, element_types}
use Rattle.node_rules.specs.Makers.{is_supported, takes_parts, maker_worked, maker_ruled}
use Rattle.node_rules.specs.Ruled as rules
use Rattle.node_rules.specs.Ruled.{Ruled, Fine, Missing, Why, Shows, tested, ruled, fine}
use Rattle.node_rules.specs.Types.{NodeTy}
use Rattle.node_rules.proofs.Arguments.{types_are}
use Rattle.node_rules.proofs.Binds.{then_then, missing}
use Rattle.node_rules.proofs.Goes.{Goes, stops, by}
use Rattle.node_rules.proofs.Outcomes.{fine_none, fine_stops}
use Rattle.node_rules.proofs.Ranges.{nothing}

-- ---- what evaluation gives

unfoldable pub sign_taken : Val → Option Val
sign_taken (Fi t m s xs) = Some (Fi t m s (map (turned_element Remove (math_of m) t) xs))
sign_taken v = None

unfoldable pub built_or : Built → List Val → Option Val
built_or (Object t) vs = known_value t
built_or (Taken t m) (v ∷ vs) = taken_value t m v
built_or (Attached m) (v ∷ vs) = attached m v
built_or SignTaken (v ∷ vs) = sign_taken v
built_or r [] = None

-- behind what is asked for
abbrev pub asked_value : BuiltIn → List Val → Asked → Option Val
asked_value b vs a = fine (ruled (built a)) |> (λ r. built_or r vs |> after_rules b vs)

abbrev pub called : BuiltIn → List Ty → List Val → Option Val
called b ts vs = fine (ruled (asked b ts)) |> asked_value b vs

met_is : {A : Type 0} (at : Place) (c : Checked A) → met_at at c ≡ or_wrong at (fine (ruled c))
unfolding met_at ruled fine or_wrong
met_is at (checked.Fine x) = refl
met_is at (checked.Missing kind shown) = refl

fine_bind : {A B : Type 0} (c : Checked A) (f : A → Checked B) → fine (ruled (checked.bind c f)) ≡ (fine (ruled c) |> (λ x. fine (ruled (f x))))
unfolding checked.bind ruled fine and_then
fine_bind (checked.Fine x) f = refl
fine_bind (checked.Missing kind shown) f = refl

pub wrong_then : {A B : Type 0} (at : Place) (o : Option A) (f : A → Option B) → (or_wrong at o >>= (λ x. or_wrong at (f x))) ≡ or_wrong at (o |> f)
unfolding or_wrong outcomes.bind and_then
wrong_then at None f = refl
wrong_then at (Some x) f = refl

pub bind_same : {A B : Type 0} {f g : A → Got Place B} (r : Got Place A) → ((x : A) → f x ≡ g x) → (r >>= f) ≡ (r >>= g)
unfolding outcomes.bind
bind_same (Gives x) e = e x
bind_same (Fault site) e = refl
bind_same Over e = refl
bind_same (Wrong at) e = refl

built_is : (at : Place) (r : Built) (vs : List Val) → built_value at r vs ≡ or_wrong at (built_or r vs)
unfolding built_value built_or turned sign_taken or_wrong
built_is at (Object t) vs = refl
built_is at (Taken t m) (v ∷ vs) = refl
built_is at (Attached m) (v ∷ vs) = refl
built_is at SignTaken (Fi t m s xs ∷ vs) = refl
built_is at SignTaken (v ∷ vs) = refl
built_is at r [] = refl

rules_are : (at : Place) (b : BuiltIn) (ts : List Ty) (vs : List Val)
    → (met_at at (checked.bind (asked b ts) built) >>= (λ r. built_value at r vs >>= (λ v. or_wrong at (after_rules b vs v)))) ≡ or_wrong at (called b ts vs)
rules_are at b ts vs =
    bind_same (met_at at (checked.bind (asked b ts) built)) (λ r. ap (λ g. g >>= (λ v. or_wrong at (after_rules b vs v))) (built_is at r vs) ∙ wrong_then at (built_or r vs) (after_rules b vs))
    ∙ ap (λ g. g >>= (λ r. or_wrong at (built_or r vs |> after_rules b vs))) (met_is at (checked.bind (asked b ts) built))
    ∙ wrong_then at (fine (ruled (checked.bind (asked b ts) built))) (λ r. built_or r vs |> after_rules b vs)
    ∙ ap (λ o. or_wrong at (o |> (λ r. built_or r vs |> after_rules b vs))) (fine_bind (asked b ts) built)
    ∙ ap (λ o. or_wrong at o) (then_then (fine (ruled (asked b ts))) (λ a. fine (ruled (built a))) (λ r. built_or r vs |> after_rules b vs))

-- by the types of the arguments
pub by_types : (at : Place) (b : BuiltIn) (args : List Argument) → by_rules at b args ≡ or_wrong at (called b (element_types (takes b) (argument_tys args)) (values_of args))
by_types at b args = rules_are at b (argument_types (takes b) args) (values_of args) ∙ ap (λ ts. or_wrong at (called b ts (values_of args))) (types_are (takes b) args)

-- ---- conditions

pub passes_none : {A : Type 0} {P : A → Type 0} {c : Checked A} → Passes P c → ((x : A) → P x → ⊥) → fine (ruled c) ≡ None
unfolding ruled fine
passes_none (passes x p) none = absurd (none x p)
passes_none (misses kind shown) none = refl

goes_asked : {P : Asked → Type 0} (val : NodeTy → Val) {c : Checked Asked} (g : Asked → Option Val) (f : Asked → Ruled Asked) (next : Asked → Ruled NodeTy)
    → Passes P c → ((a : Asked) → P a → Goes val (g a) (rules.bind (f a) next)) → Goes val (fine (ruled c) |> g) (rules.bind (rules.bind (ruled c) f) next)
unfolding ruled fine rules.bind and_then
goes_asked val g f next (passes a p) k = k a p
goes_asked val g f next (misses kind shown) k = stops _ _

-- tests that hold
pub goes_pass : {A B : Type 0} {o : Option Val} (val : NodeTy → Val) (kind : Code) (why : Why) (b : Bool) (x : A) (f : A → Ruled B) (next : B → Ruled NodeTy)
    → b ≡ true → Goes val o (rules.bind (f x) next) → Goes val o (rules.bind (rules.bind (tested kind why b x) f) next)
unfolding tested rules.bind
goes_pass val kind why true x f next e h = h
goes_pass val kind why false x f next e h = absurd (cc)

pub goes_here : {A : Type 0} {o : Option Val} (val : NodeTy → Val) (kind : Code) (why : Why) (b : Bool) (x : A) (next : A → Ruled NodeTy)
    → b ≡ true → Goes val o (next x) → Goes val o (rules.bind (tested kind why b x) next)
unfolding tested rules.bind
goes_here val kind why true x next e h = h
goes_here val kind why false x next e h = absurd (cc)

-- one that doesn't
pub goes_refused : {A : Type 0} {o : Option Val} (val : NodeTy → Val) (kind : Code) (why : Why) (b : Bool) (x : A) (next : A → Ruled NodeTy)
    → b ≡ false → o ≡ None → Goes val o (rules.bind (tested kind why b x) next)
unfolding tested rules.bind
goes_refused val kind why true x next e h = absurd (cc)
goes_refused val kind why false x next e h = by val h (stops _ _)

-- ---- a call

-- the law of a call of this function
abbrev pub Law : BuiltIn → List Argument → (NodeTy → Val) → Type 0
Law b args val = Goes val (called b (element_types (takes b) (argument_tys args)) (values_of args)) (maker_ruled b (argument_tys args))

-- behind what is asked for
abbrev pub Behind : BuiltIn → List Argument → (NodeTy → Val) → Asked → Type 0
Behind b args val a = Goes val (asked_value b (values_of args) a) (maker_worked b (argument_tys args) a)

abbrev pub Tested : BuiltIn → List Argument → (NodeTy → Val) → Asked → Type 0
Tested b args val a = Goes val (asked_value b (values_of args) a) (rules.bind (tested code.BadArgument (Shows Itself) (takes_parts b (argument_tys args)) a) (maker_worked b (argument_tys args)))

pub call_tested : {P : Asked → Type 0} (b : BuiltIn) (args : List Argument) (val : NodeTy → Val) → is_supported b (argument_tys args) ≡ true
    → Passes P (asked b (element_types (takes b) (argument_tys args))) → ((a : Asked) → P a → Tested b args val a) → Law b args val
call_tested b args val e h k = goes_pass val _ _ _ _ _ _ e (goes_asked val _ _ _ h k)

-- where nothing is asked for
pub no_call : (b : BuiltIn) (args : List Argument) (val : NodeTy → Val) → fine (ruled (asked b (element_types (takes b) (argument_tys args)))) ≡ None → Law b args val
no_call b args val e = by val (missing _ e) (nothing val (maker_ruled b (argument_tys args)) (fine_stops _ _ (fine_none _ _ (λ _. fine_stops _ _ e))))

-- of a function that takes complex values as they are
pub call_goes : {P : Asked → Type 0} (b : BuiltIn) (args : List Argument) (val : NodeTy → Val) → is_supported b (argument_tys args) ≡ true → takes_parts b (argument_tys args) ≡ true
    → Passes P (asked b (element_types (takes b) (argument_tys args))) → ((a : Asked) → P a → Behind b args val a) → Law b args val
call_goes b args val e f h k = call_tested b args val e h (λ a p. goes_here val _ _ _ _ _ f (k a p))

-- ---- limits

made_goes : (val : NodeTy → Val) (h : NumericType → Built) (g : Built → Option Val) (f : Built → Ruled NodeTy) (x : Made) → ((u : NumericType) → Goes val (g (h u)) (f (h u)))
    → Goes val (fine (ruled (checked.bind (limits_checked x) (λ u. checked.Fine (h u)))) |> g) (rules.bind (ruled (checked.bind (limits_checked x) (λ u. checked.Fine (h u)))) f)
unfolding limits_checked checked.bind ruled fine rules.bind and_then
made_goes val h g f (Is u) k = k u
made_goes val h g f (Wide w) k = stops _ _
made_goes val h g f (Out e) k = stops _ _

pub taken_goes : (val : NodeTy → Val) (t : NumericType) (m : Option Fimath) (g : Built → Option Val) (f : Built → Ruled NodeTy) → ((u : NumericType) → Goes val (g (Taken u m)) (f (Taken u m)))
    → Goes val (fine (ruled (built (Takes t m))) |> g) (rules.bind (ruled (built (Takes t m))) f)
unfolding built
taken_goes val t m g f k = made_goes val (λ u. Taken u m) g f (limited 64 t) k

pub type_goes : (val : NodeTy → Val) (t : NumericType) (g : Built → Option Val) (f : Built → Ruled NodeTy) → ((u : NumericType) → Goes val (g (Object (TypeTy u))) (f (Object (TypeTy u))))
    → Goes val (fine (ruled (built (MakesType t))) |> g) (rules.bind (ruled (built (MakesType t))) f)
unfolding built
type_goes val t g f k = made_goes val (λ u. Object (TypeTy u)) g f (limited 64 t) k

made_none : (h : NumericType → Built) (g : Built → Option Val) (x : Made) → ((u : NumericType) → g (h u) ≡ None) → (fine (ruled (checked.bind (limits_checked x) (λ u. checked.Fine (h u)))) |> g) ≡ None
unfolding limits_checked checked.bind ruled fine and_then
made_none h g (Is u) k = k u
made_none h g (Wide w) k = refl
made_none h g (Out e) k = refl

pub taken_none : (t : NumericType) (m : Option Fimath) (g : Built → Option Val) → ((u : NumericType) → g (Taken u m) ≡ None) → (fine (ruled (built (Takes t m))) |> g) ≡ None
unfolding built
taken_none t m g k = made_none (λ u. Taken u m) g (limited 64 t) k
