-- Calls of names, and of functions that make arrays of one number.
use Rattle.std.proofs.Common.{◌≡◌, ℕ, zero, suc, ◌+◌, ◌<◌, ◌≤◌, Bool, true, false, List, [], ◌∷◌, length, get_or, take, map, Option, Some, None, Result, Err, ◌⊎◌, inl, inr, ⊎_elim, refl, sym, ap, subst, ◌∙◌, arith}
use Rattle.std.specs.Prelude.{bytes_eq, codes, is_some, option_map}
use Rattle.fic_base.specs.declared.place.Place.{Place}
use Rattle.fi_rules.specs.Options.{where_so}
use Rattle.fi_rules.specs.declared.built_ins.BuiltIn.{BuiltIn}
use Rattle.fi_rules.specs.Value.{Val, Words}
use Rattle.fi_eval.specs.Outcome.{Gives, Wrong, or_wrong}
use Rattle.fi_meaning.specs.Calls.{Argument, by_rules, by_name, function_call, function_values, filled_call, like_at_end, cast_of}
use Rattle.fi_meaning.specs.Functions.{Function, Filled, given}
use Rattle.eval_value.specs.Tells.{Tells}
use Rattle.eval_value.specs.View.{value_view}
use Rattle.eval_value.specs.declared.halt.Halt.{Halt}
use Rattle.eval_value.specs.declared.value.Value.{Value}
use Rattle.eval_value.specs.declared.value.Value.TheVariants as value
use Rattle.eval_call.specs.Functions.{is_filled, is_like}
use Rattle.eval_call.specs.View.{function_view}
use Rattle.eval_call.specs.declared.function.Function as code_function
use Rattle.eval_bits.proofs.Classes.{number_cases}
use Rattle.eval_call.proofs.Forms.{fi_cases}
use Rattle.eval_call.proofs.Follow.{after_ok, after_err}

-- ---- names

pub rule_called : (r : Result Value Halt) (at : Place) (b : BuiltIn) (o : Option BuiltIn) (f : Option Function) (args : List Argument) → Some b ≡ o → Tells r value_view (by_rules at b args) → Tells r value_view (by_name at o f args)
unfolding by_name
rule_called r at b o f args h t = subst (λ p. Tells r value_view (by_name at p f args)) h t

pub function_called : (r : Result Value Halt) (at : Place) (g : code_function.Function) (o : Option BuiltIn) (f : Option Function) (args : List Argument) → None ≡ o → option_map function_view (Some g) ≡ f
    → Tells r value_view (function_call at (function_view g) (function_values (function_view g) args)) → Tells r value_view (by_name at o f args)
unfolding by_name
function_called r at g o f args h k t =
    subst (λ p. Tells r value_view (by_name at p f args)) h (subst (λ p. Tells r value_view (by_name at None p args)) k t)

pub nothing_called : (at : Place) (o : Option BuiltIn) (f : Option Function) (args : List Argument) → None ≡ o → option_map function_view None ≡ f → by_name at o f args ≡ Wrong at
unfolding by_name
nothing_called at o f args h k = ap (λ p. by_name at p f args) (sym h) ∙ ap (λ p. by_name at None p args) (sym k)

-- ---- functions on values

pub on_values : (r : Result Value Halt) (at : Place) (f : Function) (xs : List Value) (vs : List Val) → map value_view xs ≡ vs → Tells r value_view (function_call at f (map value_view xs)) → Tells r value_view (function_call at f vs)
on_values r at f xs vs h t = subst (λ us. Tells r value_view (function_call at f us)) h t

pub filled_called : (r : Result Value Halt) (at : Place) (f : Function) (vs us : List Val) → is_filled f ≡ true → us ≡ vs → Tells r value_view (filled_call at f us (like_at_end us)) → Tells r value_view (function_call at f vs)
unfolding function_call is_filled
filled_called r at (Filled z) vs us h e t = subst (λ ws. Tells r value_view (filled_call at (Filled z) ws (like_at_end ws))) e t
filled_called r at f vs us h e t = absurd (let k : false ≡ true = h in cc)

other_is : (at : Place) (f : Function) (vs : List Val) → is_filled f ≡ false → function_call at f vs ≡ or_wrong at (given f vs)
unfolding function_call is_filled
other_is at (Filled z) vs h = absurd (let k : true ≡ false = h in cc)
other_is at f vs h = refl

pub other_called : (r : Result Value Halt) (at : Place) (f : Function) (vs us : List Val) → is_filled f ≡ false → us ≡ vs → Tells r value_view (or_wrong at (given f us)) → Tells r value_view (function_call at f vs)
other_called r at f vs us h e t = subst (λ g. Tells r value_view g) (sym (other_is at f vs h)) (subst (λ ws. Tells r value_view (or_wrong at (given f ws))) e t)

-- ---- the word like

pub no_like : (r : Result Value Halt) (at : Place) (f : Function) (vs : List Val) (o : Option (List Val × Val)) → is_some o ≡ false → Tells r value_view (or_wrong at (given f vs)) → Tells r value_view (filled_call at f vs o)
unfolding filled_call
no_like r at f vs None h t = t
no_like r at f vs (Some p) h t = absurd (let k : true ≡ false = h in cc)

where_some : {A : Type 0} (b : Bool) (x : A) → is_some (where_so b x) ≡ b
unfolding where_so
where_some true x = refl
where_some false x = refl

where_is : {A : Type 0} (b : Bool) (x : A) → is_some (where_so b x) ≡ true → where_so b x ≡ Some x
unfolding where_so
where_is true x h = refl
where_is false x h = absurd (let k : false ≡ true = h in cc)

-- what stands before a word and behind it, where it is the word like
abbrev word_like : Val → List Val → Val → Option (List Val × Val)
word_like (Words word) before p = where_so (bytes_eq word (codes "like")) (before, p)
word_like v before p = None

word_some : (v p : Val) (before : List Val) → is_some (word_like v before p) ≡ is_like v
unfolding is_like
word_some (Words word) p before = where_some (bytes_eq word (codes "like")) (before, p)
word_some v p before = refl

word_split : (v p : Val) (before : List Val) → is_some (word_like v before p) ≡ true → word_like v before p ≡ Some (before, p)
word_split (Words word) p before h = where_is (bytes_eq word (codes "like")) (before, p) h
word_split v p before h = absurd (let k : false ≡ true = h in cc)

three_is : (a b c : Val) → like_at_end (a ∷ b ∷ c ∷ []) ≡ word_like b (a ∷ []) c
unfolding like_at_end
three_is a (Words word) c = refl
three_is a b (Words text) = refl
three_is a b c = refl

four_is : (a b c d : Val) → like_at_end (a ∷ b ∷ c ∷ d ∷ []) ≡ word_like c (a ∷ b ∷ []) d
unfolding like_at_end
four_is a (Words text) (Words word) d = refl
four_is a (Words text) c d = refl
four_is a b (Words word) d = refl
four_is a b c d = refl

three_like : (a b c : Val) → is_some (like_at_end (a ∷ b ∷ c ∷ [])) ≡ is_like b
three_like a b c = ap (λ (o : Option (List Val × Val)). is_some o) (three_is a b c) ∙ word_some b c (a ∷ [])

four_like : (a b c d : Val) → is_some (like_at_end (a ∷ b ∷ c ∷ d ∷ [])) ≡ is_like c
four_like a b c d = ap (λ (o : Option (List Val × Val)). is_some o) (four_is a b c d) ∙ word_some c d (a ∷ b ∷ [])

pub like_of_three : (vs : List Value) (b : Value) → length vs ≡ 3 → b ≡ get_or vs 1 b → is_like (value_view b) ≡ is_some (like_at_end (map value_view vs))
like_of_three (x ∷ y ∷ z ∷ []) b h e = ap (λ v. is_like (value_view v)) e ∙ sym (three_like (value_view x) (value_view y) (value_view z))
like_of_three [] b h e = absurd (omega (arith, h))
like_of_three (x ∷ []) b h e = absurd (omega (arith, h))
like_of_three (x ∷ y ∷ []) b h e = absurd (omega (arith, h))
like_of_three (x ∷ y ∷ z ∷ u ∷ vs) b h e = absurd (omega (arith, h))

pub like_of_four : (vs : List Value) (b : Value) → length vs ≡ 4 → b ≡ get_or vs 2 b → is_like (value_view b) ≡ is_some (like_at_end (map value_view vs))
like_of_four (x ∷ y ∷ z ∷ u ∷ []) b h e = ap (λ v. is_like (value_view v)) e ∙ sym (four_like (value_view x) (value_view y) (value_view z) (value_view u))
like_of_four [] b h e = absurd (omega (arith, h))
like_of_four (x ∷ []) b h e = absurd (omega (arith, h))
like_of_four (x ∷ y ∷ []) b h e = absurd (omega (arith, h))
like_of_four (x ∷ y ∷ z ∷ []) b h e = absurd (omega (arith, h))
like_of_four (x ∷ y ∷ z ∷ u ∷ v ∷ vs) b h e = absurd (omega (arith, h))

five_like : (a b c d e : Val) (vs : List Val) → like_at_end (a ∷ b ∷ c ∷ d ∷ e ∷ vs) ≡ None
unfolding like_at_end
five_like a (Words word) (Words text) d e vs = refl
five_like a (Words word) c d e vs = refl
five_like a b (Words text) d e vs = refl
five_like a b c d e vs = refl

two_like : (a b : Val) → like_at_end (a ∷ b ∷ []) ≡ None
unfolding like_at_end
two_like a (Words word) = refl
two_like a b = refl

pub like_of_others : (vs : List Value) → (length vs ≡ 3 → ⊥) → (length vs ≡ 4 → ⊥) → false ≡ is_some (like_at_end (map value_view vs))
unfolding like_at_end
like_of_others [] h k = refl
like_of_others (x ∷ []) h k = refl
like_of_others (x ∷ y ∷ []) h k = ap (λ o. is_some o) (sym (two_like (value_view x) (value_view y)))
like_of_others (x ∷ y ∷ z ∷ []) h k = absurd (h refl)
like_of_others (x ∷ y ∷ z ∷ u ∷ []) h k = absurd (k refl)
like_of_others (x ∷ y ∷ z ∷ u ∷ v ∷ vs) h k = ap (λ o. is_some o) (sym (five_like (value_view x) (value_view y) (value_view z) (value_view u) (value_view v) (map value_view vs)))

-- what stands before the word like, and behind it
three_split : (a b c : Val) → is_some (like_at_end (a ∷ b ∷ c ∷ [])) ≡ true → like_at_end (a ∷ b ∷ c ∷ []) ≡ Some (a ∷ [], c)
three_split a b c h = three_is a b c ∙ word_split b c (a ∷ []) (sym (ap (λ (o : Option (List Val × Val)). is_some o) (three_is a b c)) ∙ h)

four_split : (a b c d : Val) → is_some (like_at_end (a ∷ b ∷ c ∷ d ∷ [])) ≡ true → like_at_end (a ∷ b ∷ c ∷ d ∷ []) ≡ Some (a ∷ b ∷ [], d)
four_split a b c d h = four_is a b c d ∙ word_split c d (a ∷ b ∷ []) (sym (ap (λ (o : Option (List Val × Val)). is_some o) (four_is a b c d)) ∙ h)

none_like : (o : Option (List Val × Val)) → false ≡ is_some o → is_some o ≡ true → ⊥
none_like o h k = let e : false ≡ true = h ∙ k in cc

-- there are two values or three before the last one
pub like_count : (vs : List Value) → is_some (like_at_end (map value_view vs)) ≡ true → (length vs ≡ 3) ⊎ (length vs ≡ 4)
like_count (x ∷ y ∷ z ∷ []) h = inl refl
like_count (x ∷ y ∷ z ∷ u ∷ []) h = inr refl
like_count [] h = absurd (none_like _ (like_of_others [] (λ e. omega (arith, e)) (λ e. omega (arith, e))) h)
like_count (x ∷ []) h = absurd (none_like _ (like_of_others (x ∷ []) (λ e. omega (arith, e)) (λ e. omega (arith, e))) h)
like_count (x ∷ y ∷ []) h = absurd (none_like _ (like_of_others (x ∷ y ∷ []) (λ e. omega (arith, e)) (λ e. omega (arith, e))) h)
like_count (x ∷ y ∷ z ∷ u ∷ v ∷ vs) h = absurd (none_like _ (like_of_others (x ∷ y ∷ z ∷ u ∷ v ∷ vs) (λ e. omega (arith, e)) (λ e. omega (arith, e))) h)

three_at : (us : List Value) (n : ℕ) (p : Value) → is_some (like_at_end (map value_view us)) ≡ true → n ≡ 1 → length us ≡ 3 → p ≡ get_or us (n + 1) p → like_at_end (map value_view us) ≡ Some (map value_view (take n us), value_view p)
three_at (x ∷ y ∷ z ∷ []) n p h i l g =
    let q : p ≡ z = g ∙ ap (λ k. get_or (x ∷ y ∷ z ∷ []) (k + 1) p) i in
    three_split (value_view x) (value_view y) (value_view z) h ∙ (λ j. Some (map value_view (take (sym i j) (x ∷ y ∷ z ∷ [])), value_view (sym q j)))
three_at [] n p h i l g = absurd (omega (arith, l))
three_at (x ∷ []) n p h i l g = absurd (omega (arith, l))
three_at (x ∷ y ∷ []) n p h i l g = absurd (omega (arith, l))
three_at (x ∷ y ∷ z ∷ u ∷ us) n p h i l g = absurd (omega (arith, l))

four_at : (us : List Value) (n : ℕ) (p : Value) → is_some (like_at_end (map value_view us)) ≡ true → n ≡ 2 → length us ≡ 4 → p ≡ get_or us (n + 1) p → like_at_end (map value_view us) ≡ Some (map value_view (take n us), value_view p)
four_at (x ∷ y ∷ z ∷ u ∷ []) n p h i l g =
    let q : p ≡ u = g ∙ ap (λ k. get_or (x ∷ y ∷ z ∷ u ∷ []) (k + 1) p) i in
    four_split (value_view x) (value_view y) (value_view z) (value_view u) h ∙ (λ j. Some (map value_view (take (sym i j) (x ∷ y ∷ z ∷ u ∷ [])), value_view (sym q j)))
four_at [] n p h i l g = absurd (omega (arith, l))
four_at (x ∷ []) n p h i l g = absurd (omega (arith, l))
four_at (x ∷ y ∷ []) n p h i l g = absurd (omega (arith, l))
four_at (x ∷ y ∷ z ∷ []) n p h i l g = absurd (omega (arith, l))
four_at (x ∷ y ∷ z ∷ u ∷ v ∷ us) n p h i l g = absurd (omega (arith, l))

pub like_split : (vs : List Value) (n : ℕ) (p : Value) → is_some (like_at_end (map value_view vs)) ≡ true → n + 2 ≡ length vs → p ≡ get_or vs (n + 1) p
    → like_at_end (map value_view vs) ≡ Some (map value_view (take n vs), value_view p)
like_split vs n p h e g =
    ⊎_elim (λ l. three_at vs n p h (omega (arith, l, e)) l g) (λ l. four_at vs n p h (omega (arith, l, e)) l g) (like_count vs h)

-- the element at a place
there : (vs : List Value) (k : ℕ) → k < length vs → (p : Value) × (p ≡ get_or vs k p)
there [] k h = absurd (omega (arith, h))
there (v ∷ vs) zero h = (v, refl)
there (v ∷ vs) (suc k) h = there vs k (omega (arith, h))

pub two_at_least : (vs : List Value) → is_some (like_at_end (map value_view vs)) ≡ true → 2 ≤ length vs
two_at_least vs h = ⊎_elim (λ l. omega (arith, l)) (λ l. omega (arith, l)) (like_count vs h)

-- a call with the word like, where its first part has no result, and where it has one
pub like_stops : (h : Halt) (at : Place) (f : Function) (vs us : List Value) (n : ℕ) → is_some (like_at_end (map value_view vs)) ≡ true → n + 2 ≡ length vs → us ≡ take n vs
    → Tells {R = Value} (Err h) value_view (or_wrong at (given f (map value_view us))) → Tells {R = Value} (Err h) value_view (filled_call at f (map value_view vs) (like_at_end (map value_view vs)))
unfolding filled_call
like_stops h at f vs us n is e g t = from (there vs (n + 1) (omega (arith, e)))
  where
    from : (p : Value) × (p ≡ get_or vs (n + 1) p) → Tells {R = Value} (Err h) value_view (filled_call at f (map value_view vs) (like_at_end (map value_view vs)))
    from q =
        subst (λ o. Tells {R = Value} (Err h) value_view (filled_call at f (map value_view vs) o)) (sym (like_split vs n q.0 is e q.1))
        (after_err h value_view value_view (or_wrong at (given f (map value_view (take n vs)))) (λ v. cast_of at v (value_view q.0)) (subst (λ l. Tells {R = Value} (Err h) value_view (or_wrong at (given f (map value_view l)))) g t))

pub like_goes : (r : Result Value Halt) (at : Place) (f : Function) (vs us : List Value) (n : ℕ) (p : Value) (v : Val) → is_some (like_at_end (map value_view vs)) ≡ true → n + 2 ≡ length vs → p ≡ get_or vs (n + 1) p
    → us ≡ take n vs → or_wrong at (given f (map value_view us)) ≡ Gives v → Tells r value_view (cast_of at v (value_view p)) → Tells r value_view (filled_call at f (map value_view vs) (like_at_end (map value_view vs)))
unfolding filled_call
like_goes r at f vs us n p v is e k g h t =
    subst (λ q. Tells r value_view (filled_call at f (map value_view vs) q)) (sym (like_split vs n p is e k))
    (after_ok r value_view (or_wrong at (given f (map value_view (take n vs)))) v (λ w. cast_of at w (value_view p)) (ap (λ l. or_wrong at (given f (map value_view l))) (sym g) ∙ h) t)

-- a value that is no word
pub no_word : (w : Value) → ((text : List ℕ) → w ≡ value.Words text → ⊥) → false ≡ is_like (value_view w)
unfolding is_like
no_word (value.Fi v) h = fi_cases (λ u. false ≡ is_like u) v (λ t m s xs. refl) (λ t m s xs ys. refl)
no_word (value.Logical v) h = refl
no_word (value.Number v) h = number_cases (λ u. false ≡ is_like u) v (λ s cs. refl) (λ s xs ys. refl)
no_word (value.Words text) h = absurd (h text refl)
no_word (value.Math m) h = refl
no_word (value.Type t) h = refl
