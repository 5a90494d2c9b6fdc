-- Loops over what is evaluated from left to right.
use Rattle.std.proofs.Common.{◌≡◌, ℕ, suc, Bool, true, false, List, [], ◌∷◌, ◌++◌, map, Option, Some, None, Err, refl, sym, ap, subst, ◌∙◌}
use Rattle.eval_value.specs.Tells.{Tells}
use Rattle.eval_value.specs.declared.halt.Halt.{Halt}
use Rattle.eval_call.proofs.Follow.{after_err}
use Rattle.std.proofs.lemmas.List.{append_assoc}
use Rattle.fic_base.specs.declared.place.Place.{Place}
use Rattle.mat_ast.specs.Tree.{Exp}
use Rattle.mat_ast.specs.View.{args_of}
use Rattle.fi_rules.specs.Value.{Val}
use Rattle.fi_rules.specs.Options.{◌|>◌}
use Rattle.fi_eval.specs.Outcome.{Got, Gives, Fault, Over, Wrong, bind, ◌>>=◌}
use Rattle.fi_values.specs.Reads.{shape_of}
use Rattle.fi_values.specs.Subscripts.{extent}
use Rattle.fi_meaning.specs.Calls.{Argument}
use Rattle.fi_meaning.specs.Environment.{Env}
use Rattle.fi_meaning.specs.Expressions.{Context, value, arguments, subscript_values}
use Rattle.eval_source.specs.Items.{Passed, with_item, closed, item_value, word_at}

-- nothing built yet
pub begins : {A : Type 0} (g : Got Place (List A)) → g ≡ (g >>= (λ xs. Gives ([] ++ xs)))
unfolding bind
begins (Gives xs) = refl
begins (Fault site) = refl
begins Over = refl
begins (Wrong at) = refl

pub appended_nil : {A : Type 0} (xs : List A) → xs ++ [] ≡ xs
appended_nil [] = refl
appended_nil (x ∷ xs) = ap (λ ys. x ∷ ys) (appended_nil xs)

-- nothing left
pub ends : {A : Type 0} (built : List A) (whole left : Got Place (List A)) → whole ≡ (left >>= (λ xs. Gives (built ++ xs))) → left ≡ Gives [] → whole ≡ Gives built
unfolding bind
ends built whole left h e = h ∙ ap (λ g. bind g (λ xs. Gives (built ++ xs))) e ∙ ap Gives (appended_nil built)

pub mapped : {A B : Type 0} (f : A → B) (xs : List A) (x : A) → map f (xs ++ x ∷ []) ≡ map f xs ++ f x ∷ []
mapped f [] x = refl
mapped f (y ∷ ys) x = ap (λ zs. f y ∷ zs) (mapped f ys x)

-- one more
pub goes : {X A : Type 0} (view : X → A) (olds news : List X) (x : X) (first : Got Place A) (left rest whole : Got Place (List A)) → news ≡ olds ++ x ∷ [] → first ≡ Gives (view x)
    → left ≡ (first >>= (λ y. rest >>= (λ ys. Gives (y ∷ ys)))) → whole ≡ (left >>= (λ xs. Gives (map view olds ++ xs))) → whole ≡ (rest >>= (λ xs. Gives (map view news ++ xs)))
unfolding bind
goes {A = A} view olds news x first left rest whole n h l w =
    w ∙ ap (λ g. bind g (λ xs. Gives (map view olds ++ xs))) (l ∙ ap (λ f. bind f (λ y. bind rest (λ ys. Gives (y ∷ ys)))) h) ∙ by rest
    ∙ ap (λ zs. bind rest (λ xs. Gives (zs ++ xs))) (sym (mapped view olds x) ∙ ap (map view) (sym n))
  where
    by : (rest : Got Place (List A)) → bind (bind rest (λ ys. Gives (view x ∷ ys))) (λ xs. Gives (map view olds ++ xs)) ≡ bind rest (λ xs. Gives ((map view olds ++ view x ∷ []) ++ xs))
    by (Gives ys) = ap Gives (sym (append_assoc (map view olds) (view x ∷ []) ys))
    by (Fault site) = refl
    by Over = refl
    by (Wrong at) = refl

-- one that has no result
pub stops : {R S A B : Type 0} (h : Halt) (part : R → A) (view : S → List B) (first : Got Place A) (next : A → Got Place (List B)) (left whole : Got Place (List B)) (more : List B → Got Place (List B)) → left ≡ (first >>= next) → whole ≡ (left >>= more)
    → Tells (Err h) part first → Tells {R = S} (Err h) view whole
stops {S = S} h part view first next left whole more l w t =
    subst (λ g. Tells {R = S} (Err h) view g) (sym w) (subst (λ g. Tells {R = S} (Err h) view (g >>= more)) (sym l) (after_err h view view (first >>= next) more (after_err h part view first next t)))

-- subscripts by their first
pub subscript_first : (o : Option Exp) (os : List (Option Exp)) (cx : Context) (env : Env) (at : Place) (v : Option Val) (k many : ℕ)
    → subscript_values (args_of (o ∷ os)) cx env at v k many
    ≡ (item_value o cx env (v |> (λ u. Some (extent (shape_of u) k many))) >>= (λ x. subscript_values (args_of os) cx env at v (suc k) many >>= (λ xs. Gives (x ∷ xs))))
unfolding bind item_value
subscript_first None os cx env at v k many = refl
subscript_first (Some e) os cx env at v k many = by (value e cx env (v |> (λ u. Some (extent (shape_of u) k many))))
  where
    by : (g : Got Place Val) → bind g (λ x. subscript_values (args_of os) cx env at v (suc k) many >>= (λ xs. Gives (Some x ∷ xs)))
        ≡ bind (bind g (λ x. Gives (Some x))) (λ x. subscript_values (args_of os) cx env at v (suc k) many >>= (λ xs. Gives (x ∷ xs)))
    by (Gives x) = refl
    by (Fault site) = refl
    by Over = refl
    by (Wrong at) = refl

-- arguments by their first
abbrev pub onward : Place → Bool → Got Place (List Argument) → Option Val → Got Place (List Argument)
onward at w rest None = rest >>= (λ vs. Wrong at)
onward at w rest (Some v) = rest >>= (λ vs. Gives (record { value = v; is_word = w } ∷ vs))

pub argument_first : (o : Option Exp) (os : List (Option Exp)) (cx : Context) (env : Env) (at : Place) (ends : Option ℕ)
    → arguments (args_of (o ∷ os)) cx env at ends ≡ (item_value o cx env ends >>= onward at (word_at cx.variables cx.functions o) (arguments (args_of os) cx env at ends))
unfolding bind item_value word_at
argument_first None os cx env at ends = refl
argument_first (Some e) os cx env at ends = by (value e cx env ends)
  where
    w : Bool
    w = word_at cx.variables cx.functions (Some e)

    by : (g : Got Place Val) → bind g (λ v. arguments (args_of os) cx env at ends >>= (λ vs. Gives (record { value = v; is_word = w } ∷ vs))) ≡ bind (bind g (λ v. Gives (Some v))) (onward at w (arguments (args_of os) cx env at ends))
    by (Gives x) = refl
    by (Fault site) = refl
    by Over = refl
    by (Wrong place) = refl

-- arguments behind those that are evaluated
abbrev pub behind : Place → Passed → Got Place (List Argument) → Got Place (List Argument)
behind at p g = g >>= closed at p

pub none_passed : (at : Place) (g : Got Place (List Argument)) → g ≡ behind at (record { arguments = []; colon = false }) g
unfolding bind closed
none_passed at (Gives xs) = refl
none_passed at (Fault site) = refl
none_passed at Over = refl
none_passed at (Wrong place) = refl

is_given : {A : Type 0} → Got Place A → Bool
is_given (Gives x) = true
is_given (Fault site) = false
is_given Over = false
is_given (Wrong at) = false

is_none_given : {A : Type 0} → Got Place (Option A) → Bool
is_none_given (Gives None) = true
is_none_given (Gives (Some x)) = false
is_none_given (Fault site) = false
is_none_given Over = false
is_none_given (Wrong at) = false

-- one more argument
pub argument_goes : (o : Option Exp) (os : List (Option Exp)) (cx : Context) (env : Env) (at : Place) (ends : Option ℕ) (p : Passed) (x : Option Val) → item_value o cx env ends ≡ Gives x
    → behind at p (arguments (args_of (o ∷ os)) cx env at ends) ≡ behind at (with_item p x (word_at cx.variables cx.functions o)) (arguments (args_of os) cx env at ends)
unfolding bind item_value with_item closed word_at is_none_given is_given
argument_goes None os cx env at ends p (Some x) h = absurd (let e : true ≡ false = ap is_none_given h in cc)
argument_goes None os cx env at ends p None h = by p.colon (arguments (args_of os) cx env at ends)
  where
    by : (b : Bool) (g : Got Place (List Argument)) → bind (bind g (λ vs. Wrong at)) (closed at (record { arguments = p.arguments; colon = b })) ≡ bind g (closed at (record { arguments = p.arguments; colon = true }))
    by b (Gives xs) = refl
    by b (Fault site) = refl
    by b Over = refl
    by b (Wrong place) = refl
argument_goes (Some e) os cx env at ends p x h = by (value e cx env ends) h
  where
    w : Bool
    w = word_at cx.variables cx.functions (Some e)

    taken : Option Val → Got Place (Option Val) → Option Val
    taken d (Gives y) = y
    taken d (Fault site) = d
    taken d Over = d
    taken d (Wrong place) = d

    more : (v : Val) (b : Bool) (g : Got Place (List Argument)) → bind (bind g (λ vs. Gives (record { value = v; is_word = w } ∷ vs))) (closed at (record { arguments = p.arguments; colon = b }))
        ≡ bind g (closed at (record { arguments = p.arguments ++ record { value = v; is_word = w } ∷ []; colon = b }))
    more v true (Gives xs) = refl
    more v false (Gives xs) = ap Gives (sym (append_assoc p.arguments (record { value = v; is_word = w } ∷ []) xs))
    more v b (Fault site) = refl
    more v b Over = refl
    more v b (Wrong place) = refl

    by : (g : Got Place Val) → bind g (λ v. Gives (Some v)) ≡ Gives x
        → bind (bind g (λ v. bind (arguments (args_of os) cx env at ends) (λ vs. Gives (record { value = v; is_word = w } ∷ vs)))) (closed at p)
        ≡ bind (arguments (args_of os) cx env at ends) (closed at (with_item p x w))
    by (Gives v) h =
        more v p.colon (arguments (args_of os) cx env at ends)
        ∙ ap (λ y. bind (arguments (args_of os) cx env at ends) (closed at (with_item p y w))) (ap (taken x) h)
    by (Fault site) h = absurd (let e : false ≡ true = ap is_given h in cc)
    by Over h = absurd (let e : false ≡ true = ap is_given h in cc)
    by (Wrong place) h = absurd (let e : false ≡ true = ap is_given h in cc)
