-- A call gives the same where one number stands for an array of them.
use Rattle.std.proofs.Common.{◌≡◌, ℕ, Bool, List, [], ◌∷◌, ◌++◌, Option, Some, None, refl, sym, ap, ◌∙◌}
use Rattle.std.specs.Prelude.{bytes_eq, codes}
use Rattle.num_type.specs.Constants.{Exact}
use Rattle.num_type.specs.Types.{NumericType}
use Rattle.fi_math.specs.declared.fimath.Fimath.{Fimath}
use Rattle.fi_rules.specs.declared.built_ins.BuiltIn.{BuiltIn}
use Rattle.fi_rules.specs.declared.built_ins.BuiltIn.TheVariants as built_in
use Rattle.fi_rules.specs.Arguments.{bit_in, length_in, math_in}
use Rattle.fi_rules.specs.Calls.{Takes, Built, asked, fi_asked, fi_one, fi_two, fi_three, fi_four, cast_asked, like_asked, best_asked, best_by, fixed, is_numeric, stated_asked, taken, bad, type_asked, call_checked, built}
use Rattle.fi_rules.specs.Checked.{Checked, Fine, bind, choose, needed, ◌>>=◌}
use Rattle.fi_rules.specs.Types.{Ty, FiTy, NumberTy, TextTy, MathTy, TypeTy, OtherTy}
use Rattle.fi_rules.specs.Value.{Shape, scalar, Val, Number, ComplexNumber}
use Rattle.fi_meaning.specs.Calls.{Argument, argument_types, constants, value_ty, element_ty, takes}
use Rattle.eval_call.specs.Represented.{represented, represented_types, stated_sign, states_sign, widest}
use Rattle.eval_call.specs.View.{found}
use Rattle.eval_call.proofs.Represented.{widest_best}

-- two types of a value that a call takes into a type: it asks for the same, where a best fraction length counts numbers with this sign
record Alike (signed : Bool) (u v : Ty) : Type 0 where
  numeric : is_numeric u ≡ is_numeric v
  best : (word : ℕ) (m : Option Fimath) → best_asked signed word m u ≡ best_asked signed word m v

same : (signed : Bool) (u : Ty) → Alike signed u u
same signed u = record { numeric = refl; best = λ word m. refl }

numbers_alike : (signed : Bool) (cs : List Exact) (s t : Shape) → Alike signed (NumberTy s (widest signed cs ∷ [])) (NumberTy t cs)
unfolding best_asked is_numeric
numbers_alike signed cs s t = record {
  numeric = refl;
  best = λ word m. ap (λ f. Fine (Takes (fixed signed word f) m)) (widest_best signed word cs);
}

alike : (signed : Bool) (v : Val) → Alike signed (represented signed v) (value_ty v)
unfolding represented value_ty element_ty
alike signed (Number s cs) = numbers_alike signed cs scalar s
alike signed (ComplexNumber s xs ys) = numbers_alike signed (xs ++ ys) scalar s
alike signed v = same signed _

-- ---- a type that is stated

stated_alike : (signed : Bool) (u v : Ty) (t : NumericType) (m : Option Fimath) → Alike signed u v → stated_asked t m u ≡ stated_asked t m v
stated_alike signed u v t m h = ap (λ b. choose b (Fine (Takes t m)) bad) h.numeric

-- ---- a best fraction length, by the sign that is stated

with_sign : {A : Type 0} (o : Option Bool) (signed : Bool) (f g : Bool → Checked A) → stated_sign o ≡ signed → f signed ≡ g signed → (taken o >>= f) ≡ (taken o >>= g)
unfolding bind needed
with_sign None signed f g h e = refl
with_sign (Some b) signed f g h e = ap f h ∙ e ∙ sym (ap g h)

best_alike : (u v s w : Ty) (m : Option Fimath) → Alike (stated_sign (bit_in s)) u v → best_by s w m u ≡ best_by s w m v
best_alike u v s w m h =
    with_sign (bit_in s) (stated_sign (bit_in s)) (λ signed. taken (length_in w) >>= (λ word. best_asked signed word m u)) (λ signed. taken (length_in w) >>= (λ word. best_asked signed word m v)) refl
    (λ i. taken (length_in w) >>= (λ word. h.best word m i))

-- ---- fi

sign_alike : (u v a : Ty) → Alike (stated_sign (bit_in a)) u v → (taken (bit_in a) >>= (λ signed. best_asked signed 16 None u)) ≡ (taken (bit_in a) >>= (λ signed. best_asked signed 16 None v))
sign_alike u v a h = with_sign (bit_in a) (stated_sign (bit_in a)) (λ signed. best_asked signed 16 None u) (λ signed. best_asked signed 16 None v) refl (h.best 16 None)

one_alike : (u v a : Ty) → Alike (stated_sign (bit_in a)) u v → fi_one u a ≡ fi_one v a
unfolding fi_one
one_alike u v (TypeTy t) h = stated_alike (stated_sign (bit_in (TypeTy t))) u v t None h
one_alike u v (FiTy t m) h = sign_alike u v (FiTy t m) h
one_alike u v (NumberTy s cs) h = sign_alike u v (NumberTy s cs) h
one_alike u v (TextTy t) h = sign_alike u v (TextTy t) h
one_alike u v (MathTy m) h = sign_alike u v (MathTy m) h
one_alike u v OtherTy h = sign_alike u v OtherTy h

two_alike : (u v a b : Ty) → Alike (stated_sign (bit_in a)) u v → fi_two u a b ≡ fi_two v a b
unfolding fi_two
two_alike u v (TypeTy t) m h = λ i. taken (math_in m) >>= (λ n. stated_alike (stated_sign (bit_in (TypeTy t))) u v t (Some n) h i)
two_alike u v (FiTy t n) w h = best_alike u v (FiTy t n) w None h
two_alike u v (NumberTy s cs) w h = best_alike u v (NumberTy s cs) w None h
two_alike u v (TextTy t) w h = best_alike u v (TextTy t) w None h
two_alike u v (MathTy m) w h = best_alike u v (MathTy m) w None h
two_alike u v OtherTy w h = best_alike u v OtherTy w None h

type_alike : (signed : Bool) (u v : Ty) (c : Checked NumericType) → Alike signed u v → (c >>= (λ t. stated_asked t None u)) ≡ (c >>= (λ t. stated_asked t None v))
type_alike signed u v c h = λ i. c >>= (λ t. stated_alike signed u v t None h i)

three_alike : (u v a b c : Ty) → Alike (stated_sign (bit_in a)) u v → fi_three u a b c ≡ fi_three v a b c
unfolding fi_three
three_alike u v a b (MathTy m) h = best_alike u v a b (Some m) h
three_alike u v a b (FiTy t n) h = type_alike (stated_sign (bit_in a)) u v (type_asked a b (FiTy t n)) h
three_alike u v a b (NumberTy s cs) h = type_alike (stated_sign (bit_in a)) u v (type_asked a b (NumberTy s cs)) h
three_alike u v a b (TextTy t) h = type_alike (stated_sign (bit_in a)) u v (type_asked a b (TextTy t)) h
three_alike u v a b (TypeTy t) h = type_alike (stated_sign (bit_in a)) u v (type_asked a b (TypeTy t)) h
three_alike u v a b OtherTy h = type_alike (stated_sign (bit_in a)) u v (type_asked a b OtherTy) h

four_alike : (u v a b c d : Ty) → Alike (stated_sign (bit_in a)) u v → fi_four u a b c d ≡ fi_four v a b c d
unfolding fi_four
four_alike u v a b c d h = λ i. type_asked a b c >>= (λ t. taken (math_in d) >>= (λ n. stated_alike (stated_sign (bit_in a)) u v t (Some n) h i))

fi_alike : (u v : Ty) (ts : List Ty) → Alike (states_sign ts) u v → fi_asked (u ∷ ts) ≡ fi_asked (v ∷ ts)
unfolding fi_asked
fi_alike u v [] h = h.best 16 None
fi_alike u v (a ∷ []) h = one_alike u v a h
fi_alike u v (a ∷ b ∷ []) h = two_alike u v a b h
fi_alike u v (a ∷ b ∷ c ∷ []) h = three_alike u v a b c h
fi_alike u v (a ∷ b ∷ c ∷ d ∷ []) h = four_alike u v a b c d h
fi_alike u v (a ∷ b ∷ c ∷ d ∷ e ∷ ts) h = refl

-- ---- cast

like_alike : (signed : Bool) (u v a b : Ty) → Alike signed u v → like_asked u a b ≡ like_asked v a b
unfolding like_asked
like_alike signed u v (TextTy word) (FiTy t m) h = ap (λ c. choose (bytes_eq word (codes "like")) c bad) (stated_alike signed u v t m h)
like_alike signed u v (TextTy word) b h = refl
like_alike signed u v a b h = refl

cast_alike : (signed : Bool) (u v : Ty) (ts : List Ty) → Alike signed u v → cast_asked (u ∷ ts) ≡ cast_asked (v ∷ ts)
unfolding cast_asked
cast_alike signed u v [] h = refl
cast_alike signed u v (a ∷ []) h = refl
cast_alike signed u v (a ∷ b ∷ []) h = like_alike signed u v a b h
cast_alike signed u v (a ∷ b ∷ c ∷ ts) h = refl

-- ---- a call

asked_alike : (b : BuiltIn) (args : List Argument) → asked b (represented_types (takes b) args) ≡ asked b (argument_types (takes b) args)
unfolding represented_types argument_types asked takes
asked_alike built_in.Fi [] = refl
asked_alike built_in.Fi (a ∷ more) = fi_alike (represented (states_sign (constants more)) a.value) (value_ty a.value) (constants more) (alike (states_sign (constants more)) a.value)
asked_alike built_in.Cast [] = refl
asked_alike built_in.Cast (a ∷ more) = cast_alike (states_sign (constants more)) (represented (states_sign (constants more)) a.value) (value_ty a.value) (constants more) (alike (states_sign (constants more)) a.value)
asked_alike b args = refl

pub same_rule : (b : BuiltIn) (args : List Argument) (ts : List Ty) (o : Option Built) → ts ≡ represented_types (takes b) args → o ≡ found (call_checked b ts) → o ≡ found (call_checked b (argument_types (takes b) args))
same_rule b args ts o h e = e ∙ ap (λ us. found (call_checked b us)) h ∙ ap (λ c. found (c >>= built)) (asked_alike b args)
