-- Arrays of one number go by their rule.
use Rattle.std.proofs.Common.{◌≡◌, refl, sym, ap, ◌∙◌, Bool, true, false, List, [], ◌∷◌, map}
use Rattle.std.specs.Prelude.{ℕ, nat_lt, codes, Option, Some, None, is_some}
use Rattle.fic_base.specs.declared.place.Place.{Place}
use Rattle.num_type.specs.Constants.{Exact}
use Rattle.fi_rules.specs.declared.built_ins.BuiltIn.TheVariants as built_in
use Rattle.fi_rules.specs.Options.{and_then, ◌|>◌, where_so}
use Rattle.fi_rules.specs.Value.{Shape, count, Val, Fi, ComplexFi, Number, Words}
use Rattle.fi_eval.specs.Outcome.{or_wrong}
use Rattle.fi_values.specs.Elements.{below}
use Rattle.fi_values.specs.Shapes.{is_small}
use Rattle.fi_meaning.specs.Calls.{Argument, takes, like_at_end, filled_call, function_call}
use Rattle.fi_meaning.specs.Functions as functions
use Rattle.fi_meaning.specs.Functions.{Filled, natural, extent, filled_by}
use Rattle.node_rules.specs.Arguments.{word_of, argument_tys, element_types}
use Rattle.node_rules.specs.Filling.{whole_constant, may_size, allowed, extent_ruled, square_ruled, rectangle_ruled, Plain, Like, is_like, like_ruled, filled_met, filled_node, filled_worked, filled_ruled, filled_value}
use Rattle.node_rules.specs.Makers.{maker_value}
use Rattle.node_rules.specs.Ranges.{is_fi}
use Rattle.node_rules.specs.Ruled as rules
use Rattle.node_rules.specs.Ruled.{Ruled, Fine, tested, fine, given}
use Rattle.node_rules.specs.Types.{NodeTy, ty_of, known}
use Rattle.node_rules.proofs.Asked.{is_fi_ty, asked_ty, IsFi, real_fi, complex_fi, FiClass, a_fi, no_fi, fi_class}
use Rattle.node_rules.proofs.Binds.{then_same, then_then, then_none, missing, fine_then, fine_needed, fine_tested, where_true, where_false}
use Rattle.node_rules.proofs.Bits.{natural_known}
use Rattle.node_rules.proofs.Called.{called, wrong_then, bind_same, by_types, goes_pass}
use Rattle.node_rules.proofs.Goes.{Goes, goes, stops, by, goes_on, goes_given}
use Rattle.node_rules.proofs.Makers.{cast_three, cast_none}
use Rattle.node_rules.proofs.Outcomes.{fine_stops}
use Rattle.node_rules.proofs.Ranges.{nothing}

-- ---- shapes

extent_known : (v : Val) → extent (known (ty_of v)) ≡ extent v
extent_known v = ap (λ o. o |> (λ n. where_so (nat_lt 0 n) n)) (natural_known v)

fine_extent : (v : Val) → fine (extent_ruled (ty_of v)) ≡ extent v
fine_extent v = fine_needed _ _ _ ∙ extent_known v

none_of : {A : Type 0} (o : Option A) → is_some o ≡ false → o ≡ None
none_of None e = refl
none_of (Some x) e = absurd (cc)

-- what is told before has no extent
size_none : (v : Val) → may_size (ty_of v) ≡ false → extent v ≡ None
unfolding may_size whole_constant ty_of natural
size_none (Number s (c ∷ [])) e = missing _ (missing _ (none_of _ e))
size_none (Number s []) e = missing _ refl
size_none (Number s (c ∷ d ∷ cs)) e = missing _ refl
size_none v e = missing _ refl

fine_allowed : {A B : Type 0} (b : Bool) (x : A) (f : A → Ruled B) (o : Option B) → (b ≡ false → o ≡ None) → fine (f x) ≡ o → fine (rules.bind (allowed b x) f) ≡ o
unfolding tested rules.bind fine
fine_allowed true x f o n e = e
fine_allowed false x f o n e = sym (n refl)

abbrev shaped : ℕ → ℕ → Shape
shaped r k = record { rows = r; columns = k }

abbrev squared : Val → Option Shape
squared v = extent v |> (λ k. where_so (is_small (shaped k k)) (shaped k k))

abbrev rectangular : Val → Val → Option Shape
rectangular v w = extent v |> (λ r. extent w |> (λ k. where_so (is_small (shaped r k)) (shaped r k)))

fine_square : (v : Val) → fine (square_ruled (ty_of v)) ≡ squared v
fine_square v =
    fine_allowed (may_size (ty_of v)) (ty_of v) _ (squared v) (λ e. missing _ (size_none v e))
    (fine_then _ _ (extent v) (fine_extent v) (λ k _. fine_tested _ _ _ _))

fine_rectangle : (v w : Val) → fine (rectangle_ruled (ty_of v) (ty_of w)) ≡ rectangular v w
fine_rectangle v w =
    fine_allowed (may_size (ty_of v)) (ty_of v) _ (rectangular v w) (λ e. missing _ (size_none v e))
    (fine_allowed (may_size (ty_of w)) (ty_of w) _ (rectangular v w) (λ e. then_none (extent v) (λ r _. missing _ (size_none w e)))
    (fine_then _ _ (extent v) (fine_extent v) (λ r _. fine_then _ _ (extent w) (fine_extent w) (λ k _. fine_tested _ _ _ _))))

-- ---- numbers

abbrev filled_number : Exact → Shape → Val
filled_number z s = Number s (map (λ k. z) (below (count s)))

square_is : (z : Exact) (v : Val) → filled_by z (v ∷ []) ≡ (squared v |> (λ s. Some (filled_number z s)))
unfolding filled_by
square_is z v = sym (then_then (extent v) (λ k. where_so (is_small (shaped k k)) (shaped k k)) (λ s. Some (filled_number z s)))

rectangle_is : (z : Exact) (v w : Val) → filled_by z (v ∷ w ∷ []) ≡ (rectangular v w |> (λ s. Some (filled_number z s)))
unfolding filled_by
rectangle_is z v w =
    then_same (extent v) (λ r _. sym (then_then (extent w) (λ k. where_so (is_small (shaped r k)) (shaped r k)) (λ s. Some (filled_number z s))))
    ∙ sym (then_then (extent v) (λ r. extent w |> (λ k. where_so (is_small (shaped r k)) (shaped r k))) (λ s. Some (filled_number z s)))

plain_law : (z : Exact) (c : Ruled Shape) (o : Option Shape) → fine c ≡ o
    → Goes (λ t. filled_value z t) (o |> (λ s. Some (filled_number z s))) (rules.bind (rules.bind c (λ s. Fine (Plain s))) (filled_worked z))
unfolding rules.bind filled_worked filled_value known ty_of
plain_law z c o e = goes_on _ _ _ c o e (λ s h. goes (filled_node z s) refl)

-- ---- like a fi

abbrev alone : Val → Argument
alone v = record { value = v; is_word = false }

abbrev cast_arguments : Val → Val → List Argument
cast_arguments v p = alone v ∷ alone (Words (codes "like")) ∷ alone p ∷ []

abbrev cast_called : Val → Val → Option Val
cast_called v p = called built_in.Cast (element_types (takes built_in.Cast) (argument_tys (cast_arguments v p))) (v ∷ Words (codes "like") ∷ p ∷ [])

cast_is_none : (v p : Val) → is_fi_ty (asked_ty p false) ≡ false → cast_called v p ≡ None
unfolding takes
cast_is_none v p e = cast_none (alone v) (alone (Words (codes "like"))) (alone p) e

fi_like : (z : Exact) (c : Ruled Shape) (o : Option Shape) {p : Val} → fine c ≡ o → IsFi p
    → Goes (λ t. filled_value z t) (o |> (λ s. cast_called (filled_number z s) p)) (rules.bind (rules.bind c (λ s. Fine (Like s (ty_of p)))) (filled_worked z))
unfolding rules.bind filled_worked filled_value maker_value known ty_of word_of
fi_like z c o e (real_fi t m s xs) =
    goes_on _ _ _ c o e (λ r h. cast_three (λ t. filled_value z t) (alone (filled_number z r)) (alone (Words (codes "like"))) (alone (Fi t m s xs)) (λ u n. refl))
fi_like z c o e (complex_fi t m s xs ys) =
    goes_on _ _ _ c o e (λ r h. cast_three (λ t. filled_value z t) (alone (filled_number z r)) (alone (Words (codes "like"))) (alone (ComplexFi t m s xs ys)) (λ u n. refl))

not_fi : {p : Val} → FiClass p false → is_fi (ty_of p) ≡ false → is_fi_ty (asked_ty p false) ≡ false
unfolding is_fi ty_of
not_fi (a_fi (real_fi t m s xs)) e = absurd (cc)
not_fi (a_fi (complex_fi t m s xs ys)) e = absurd (cc)
not_fi (no_fi f) e = f

-- like any value
any_like : (z : Exact) (c : Ruled Shape) (o : Option Shape) (p : Val) → fine c ≡ o
    → Goes (λ t. filled_value z t) (o |> (λ s. cast_called (filled_number z s) p)) (rules.bind (rules.bind (allowed (is_fi (ty_of p)) (ty_of p)) (λ _. rules.bind c (λ s. Fine (Like s (ty_of p))))) (filled_worked z))
unfolding is_fi ty_of tested rules.bind
any_like z c o (Fi t m s xs) e = fi_like z c o e (real_fi t m s xs)
any_like z c o (ComplexFi t m s xs ys) e = fi_like z c o e (complex_fi t m s xs ys)
any_like z c o p e = by _ (then_none o (λ s _. cast_is_none (filled_number z s) p (not_fi (fi_class p false) refl))) (stops _ _)

-- behind the word like
word_like : (z : Exact) (w : NodeTy) (c : Ruled Shape) (o : Option Shape) (p : Val) (r : Option Val) → fine c ≡ o
    → (is_like w ≡ true → r ≡ (o |> (λ s. cast_called (filled_number z s) p))) → (is_like w ≡ false → r ≡ None)
    → Goes (λ t. filled_value z t) r (rules.bind (like_ruled w (ty_of p) c) (filled_worked z))
word_like z w c o p r e stands lacks = of (is_like w) refl
  where
    of : (b : Bool) → is_like w ≡ b → Goes (λ t. filled_value z t) r (rules.bind (like_ruled w (ty_of p) c) (filled_worked z))
    of true h = by _ (stands h) (goes_pass _ _ _ _ _ _ _ h (any_like z c o p e))
    of false h = by _ (lacks h) (nothing _ (rules.bind (like_ruled w (ty_of p) c) (filled_worked z)) (fine_stops _ _ (fine_stops _ _ (fine_tested _ _ _ _ ∙ where_false _ _ h))))

-- ---- the word like among the arguments

like_two : (v w : Val) → like_at_end (v ∷ w ∷ []) ≡ None
unfolding like_at_end
like_two v (Words word) = refl
like_two v w = refl

like_three : (v w p : Val) → is_like (ty_of w) ≡ true → like_at_end (v ∷ w ∷ p ∷ []) ≡ Some (v ∷ [], p)
unfolding like_at_end is_like ty_of
like_three v (Words word) p e = where_true _ _ e
like_three v w p e = absurd (cc)

unlike_three : (v w p : Val) → is_like (ty_of w) ≡ false → like_at_end (v ∷ w ∷ p ∷ []) ≡ None
unfolding like_at_end is_like ty_of
unlike_three v (Words word) p e = where_false _ _ e
unlike_three v w (Words text) e = refl
unlike_three v w p e = refl

like_four : (v w x p : Val) → is_like (ty_of x) ≡ true → like_at_end (v ∷ w ∷ x ∷ p ∷ []) ≡ Some (v ∷ w ∷ [], p)
unfolding like_at_end is_like ty_of
like_four v (Words text) (Words word) p e = where_true _ _ e
like_four v w (Words word) p e = where_true _ _ e
like_four v w x p e = absurd (cc)

unlike_four : (v w x p : Val) → is_like (ty_of x) ≡ false → like_at_end (v ∷ w ∷ x ∷ p ∷ []) ≡ None
unfolding like_at_end is_like ty_of
unlike_four v (Words text) (Words word) p e = where_false _ _ e
unlike_four v w (Words word) p e = where_false _ _ e
unlike_four v (Words text) x p e = refl
unlike_four v w x p e = refl

unlike_five : (v w x p y : Val) (more : List Val) → like_at_end (v ∷ w ∷ x ∷ p ∷ y ∷ more) ≡ None
unfolding like_at_end
unlike_five v (Words text) (Words word) p y more = refl
unlike_five v w (Words word) p y more = refl
unlike_five v (Words text) x p y more = refl
unlike_five v w x p y more = refl

-- ---- a call

-- what evaluation gives, without places
unfoldable pub filled_or : Exact → List Val → Option (List Val × Val) → Option Val
filled_or z vs None = filled_by z vs
filled_or z vs (Some like) = filled_by z like.0 |> (λ v. cast_called v like.1)

pub filled_call_is : (at : Place) (z : Exact) (vs : List Val) (o : Option (List Val × Val)) → filled_call at (Filled z) vs o ≡ or_wrong at (filled_or z vs o)
unfolding filled_call filled_or functions.given
filled_call_is at z vs None = refl
filled_call_is at z vs (Some like) =
    bind_same (or_wrong at (filled_by z like.0)) (λ v. by_types at built_in.Cast (cast_arguments v like.1)) ∙ wrong_then at (filled_by z like.0) (λ v. cast_called v like.1)

-- the numbers first, and then their cast
cast_numbers : (z : Exact) (p : Val) (r : Option Val) (o : Option Shape) → r ≡ (o |> (λ s. Some (filled_number z s))) → (r |> (λ v. cast_called v p)) ≡ (o |> (λ s. cast_called (filled_number z s) p))
unfolding and_then
cast_numbers z p r o e = ap (λ q. q |> (λ v. cast_called v p)) e ∙ then_then o (λ s. Some (filled_number z s)) (λ v. cast_called v p)

two_law : (z : Exact) (v w : Val) → Goes (λ t. filled_value z t) (filled_or z (v ∷ w ∷ []) (like_at_end (v ∷ w ∷ []))) (filled_ruled z (ty_of v ∷ ty_of w ∷ []))
unfolding filled_or filled_met
two_law z v w =
    by _ (ap (filled_or z (v ∷ w ∷ [])) (like_two v w) ∙ rectangle_is z v w) (plain_law z (rectangle_ruled (ty_of v) (ty_of w)) (rectangular v w) (fine_rectangle v w))

three_law : (z : Exact) (v w p : Val) → Goes (λ t. filled_value z t) (filled_or z (v ∷ w ∷ p ∷ []) (like_at_end (v ∷ w ∷ p ∷ []))) (filled_ruled z (ty_of v ∷ ty_of w ∷ ty_of p ∷ []))
unfolding filled_or filled_by filled_met
three_law z v w p =
    word_like z (ty_of w) (square_ruled (ty_of v)) (squared v) p _ (fine_square v)
    (λ e. ap (filled_or z (v ∷ w ∷ p ∷ [])) (like_three v w p e) ∙ cast_numbers z p (filled_by z (v ∷ [])) (squared v) (square_is z v))
    (λ e. ap (filled_or z (v ∷ w ∷ p ∷ [])) (unlike_three v w p e))

four_law : (z : Exact) (v w x p : Val) → Goes (λ t. filled_value z t) (filled_or z (v ∷ w ∷ x ∷ p ∷ []) (like_at_end (v ∷ w ∷ x ∷ p ∷ []))) (filled_ruled z (ty_of v ∷ ty_of w ∷ ty_of x ∷ ty_of p ∷ []))
unfolding filled_or filled_by filled_met
four_law z v w x p =
    word_like z (ty_of x) (rectangle_ruled (ty_of v) (ty_of w)) (rectangular v w) p _ (fine_rectangle v w)
    (λ e. ap (filled_or z (v ∷ w ∷ x ∷ p ∷ [])) (like_four v w x p e) ∙ cast_numbers z p (filled_by z (v ∷ w ∷ [])) (rectangular v w) (rectangle_is z v w))
    (λ e. ap (filled_or z (v ∷ w ∷ x ∷ p ∷ [])) (unlike_four v w x p e))

pub filled_law : (z : Exact) (vs : List Val) → Goes (λ t. filled_value z t) (filled_or z vs (like_at_end vs)) (filled_ruled z (map ty_of vs))
unfolding filled_or filled_by filled_met like_at_end rules.bind
filled_law z [] = stops _ _
filled_law z (v ∷ []) = by _ (square_is z v) (plain_law z (square_ruled (ty_of v)) (squared v) (fine_square v))
filled_law z (v ∷ w ∷ []) = two_law z v w
filled_law z (v ∷ w ∷ p ∷ []) = three_law z v w p
filled_law z (v ∷ w ∷ x ∷ p ∷ []) = four_law z v w x p
filled_law z (v ∷ w ∷ x ∷ p ∷ y ∷ more) = by _ (ap (filled_or z (v ∷ w ∷ x ∷ p ∷ y ∷ more)) (unlike_five v w x p y more)) (stops _ _)

pub filled_given : (at : Place) (z : Exact) (vs : List Val) → function_call at (Filled z) vs ≡ or_wrong at (given (filled_ruled z (map ty_of vs)) (λ t. filled_value z t))
unfolding function_call
filled_given at z vs = filled_call_is at z vs (like_at_end vs) ∙ ap (λ o. or_wrong at o) (goes_given _ (filled_law z vs))
