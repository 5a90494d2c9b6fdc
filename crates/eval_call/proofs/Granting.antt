-- Calls by what their rules grant.
use Rattle.std.proofs.Common.{◌≡◌, ◌<◌, List, [], ◌∷◌, ◌++◌, length, get_or, map, Option, Some, None, Result, Ok, Err, refl, ap, subst, ◌∙◌, arith}
use Rattle.std.proofs.lemmas.Option.{none-some, same_Some}
use Rattle.fic_base.specs.declared.place.Place.{Place}
use Rattle.fi_rules.specs.declared.built_ins.BuiltIn.{BuiltIn}
use Rattle.fi_rules.specs.declared.built_ins.BuiltIn.TheVariants as built_in
use Rattle.fi_rules.specs.declared.granted.Built as code_built
use Rattle.fi_rules.specs.declared.asked.Asked as code_asked
use Rattle.fi_rules.specs.declared.missing.Missing as code_missing
use Rattle.fi_rules.specs.Calls.{Asked, Built, Taken, Attached, SignTaken, Object, built}
use Rattle.fi_rules.specs.Checked as checked
use Rattle.fi_rules.specs.Checked.{Checked, Fine, Missing}
use Rattle.fi_rules.specs.Value.{Val}
use Rattle.fi_rules.specs.View.{asked_view, built_view, checked_view}
use Rattle.fi_eval.specs.Operators.{met_at}
use Rattle.fi_eval.specs.Outcome.{Got, Gives, Wrong, bind, ◌>>=◌, or_wrong}
use Rattle.fi_meaning.specs.Calls.{Argument, after_rules, built_value, by_rules, cast_like, cast_of, values_of}
use Rattle.eval_value.specs.Tells.{Tells}
use Rattle.eval_value.specs.View.{value_view}
use Rattle.eval_value.specs.declared.halt.Halt.{Halt}
use Rattle.eval_value.specs.declared.value.Value.{Value}
use Rattle.eval_call.specs.Casts.{cast_arguments}
use Rattle.eval_call.specs.View.{argument_view, found}
use Rattle.eval_call.specs.declared.argument.Argument as code_argument
use Rattle.eval_call.proofs.Follow.{some_none}

-- ---- what a rule grants

pub not_asked : (a : Checked Asked) (m : code_missing.Missing) → checked_view asked_view (Err m) ≡ a → None ≡ found (checked.bind a built)
unfolding checked.bind found
not_asked a m h = ap (λ c. found (checked.bind c built)) h

pub not_built : (a : Checked Asked) (q : code_asked.Asked) (m : code_missing.Missing) → checked_view asked_view (Ok q) ≡ a → checked_view built_view (Err m) ≡ built (asked_view q) → None ≡ found (checked.bind a built)
unfolding checked.bind found
not_built a q m h e = ap (λ c. found c) e ∙ ap (λ c. found (checked.bind c built)) h

pub is_built : (a : Checked Asked) (q : code_asked.Asked) (b : code_built.Built) → checked_view asked_view (Ok q) ≡ a → checked_view built_view (Ok b) ≡ built (asked_view q) → Some (built_view b) ≡ found (checked.bind a built)
unfolding checked.bind found
is_built a q b h e = ap (λ c. found c) e ∙ ap (λ c. found (checked.bind c built)) h

-- ---- behind it

pub ungranted : {A : Type 0} (at : Place) (c : Checked Built) (next : Built → Got Place A) → None ≡ found c → (met_at at c >>= next) ≡ Wrong at
unfolding met_at bind found
ungranted at (Fine x) next h = absurd (none-some x h)
ungranted at (Missing code shown) next h = refl

pub granted_goes : (r : Result Value Halt) (at : Place) (c : Checked Built) (b : Built) (next : Built → Got Place Val) → Some b ≡ found c → Tells r value_view (next b) → Tells r value_view (met_at at c >>= next)
unfolding met_at bind found
granted_goes r at (Fine x) b next h t = let e : b ≡ x = same_Some b x h in subst (λ y. Tells r value_view (next y)) e t
granted_goes r at (Missing code shown) b next h t = absurd (some_none b h)

-- ---- the first argument

one_enough : (at : Place) (r : Built) (v : Val) (vs : List Val) → built_value at r (v ∷ []) ≡ built_value at r (v ∷ vs)
unfolding built_value
one_enough at (Taken t m) v vs = refl
one_enough at (Attached m) v vs = refl
one_enough at SignTaken v vs = refl
one_enough at (Object t) v vs = refl

pub first_of : (q : Result Value Halt) (at : Place) (r : Built) (args : List code_argument.Argument) (a : code_argument.Argument) → 0 < length args → a ≡ get_or args 0 a
    → Tells q value_view (built_value at r (value_view a.value ∷ [])) → Tells q value_view (built_value at r (values_of (map argument_view args)))
first_of q at r [] a h e t = absurd (omega (arith, h))
first_of q at r (x ∷ args) a h e t =
    subst (λ g. Tells q value_view g) (one_enough at r (value_view a.value) (values_of (map argument_view args)) ∙ ap (λ (b : code_argument.Argument). built_value at r (value_view b.value ∷ values_of (map argument_view args))) e) t

pub without : (q : Result Value Halt) (at : Place) (r : Built) (args : List code_argument.Argument) → length args ≡ 0 → Tells q value_view (built_value at r []) → Tells q value_view (built_value at r (values_of (map argument_view args)))
without q at r [] h t = t
without q at r (x ∷ args) h t = absurd (omega (arith, h))

-- ---- behind a cast

pub no_cast : (at : Place) (b : BuiltIn) (vs : List Val) (v : Val) → (b ≡ built_in.Cast → ⊥) → or_wrong at (after_rules b vs v) ≡ Gives v
unfolding after_rules or_wrong
no_cast at built_in.Cast vs v h = absurd (h refl)
no_cast at b vs v h = refl

pub cast_of_three : (q : Result Value Halt) (at : Place) (args : List code_argument.Argument) (a : code_argument.Argument) (v : Val) (o : Option Val) → length args ≡ 3 → a ≡ get_or args 2 a → o ≡ cast_like v (value_view a.value)
    → Tells q value_view (or_wrong at o) → Tells q value_view (or_wrong at (after_rules built_in.Cast (values_of (map argument_view args)) v))
unfolding after_rules
cast_of_three q at (x ∷ y ∷ z ∷ []) a v o h e g t =
    subst (λ p. Tells q value_view (or_wrong at p)) (g ∙ ap (λ (b : code_argument.Argument). cast_like v (value_view b.value)) e) t
cast_of_three q at [] a v o h e g t = absurd (omega (arith, h))
cast_of_three q at (x ∷ []) a v o h e g t = absurd (omega (arith, h))
cast_of_three q at (x ∷ y ∷ []) a v o h e g t = absurd (omega (arith, h))
cast_of_three q at (x ∷ y ∷ z ∷ u ∷ args) a v o h e g t = absurd (omega (arith, h))

pub cast_of_others : (at : Place) (args : List code_argument.Argument) (v : Val) → (length args ≡ 3 → ⊥) → or_wrong at (after_rules built_in.Cast (values_of (map argument_view args)) v) ≡ Gives v
unfolding after_rules or_wrong
cast_of_others at [] v h = refl
cast_of_others at (x ∷ []) v h = refl
cast_of_others at (x ∷ y ∷ []) v h = refl
cast_of_others at (x ∷ y ∷ z ∷ []) v h = absurd (h refl)
cast_of_others at (x ∷ y ∷ z ∷ u ∷ args) v h = refl

-- ---- the arguments of a cast

pub three_passed : (a b c : Argument) (ws xs ys zs : List Argument) → ws ≡ [] → xs ≡ ws ++ a ∷ [] → ys ≡ xs ++ b ∷ [] → zs ≡ ys ++ c ∷ [] → zs ≡ a ∷ b ∷ c ∷ []
three_passed a b c ws xs ys zs e f g h = h ∙ ap (λ l. l ++ c ∷ []) (g ∙ ap (λ l. l ++ b ∷ []) (f ∙ ap (λ l. l ++ a ∷ []) e))

pub cast_told : (r : Result Value Halt) (at : Place) (v p : Val) (args : List Argument) → args ≡ cast_arguments v p → Tells r value_view (by_rules at built_in.Cast args) → Tells r value_view (cast_of at v p)
cast_told r at v p args h t = subst (λ l. Tells r value_view (by_rules at built_in.Cast l)) h t
