-- The statements of a call of a built-in function lead to a state in which its value stands.
use Rattle.std.proofs.Common.{◌≡◌, ℕ, true, List, [], ◌∷◌, ◌++◌, length, map, ℤ, Some, refl, sym, ap, ◌∙◌, subst}
use Rattle.std.specs.Prelude.{Option, neg_ℤ}
use Rattle.fic_base.specs.declared.place.Place.{Place}
use Rattle.num_type.specs.Constants.{Exact}
use Rattle.num_type.specs.Types.{NumericType, IsWithin}
use Rattle.fi_math.specs.declared.fimath.Fimath.{Fimath}
use Rattle.fi_math.specs.Made.{limited}
use Rattle.fi_rules.specs.declared.built_ins.BuiltIn.{BuiltIn}
use Rattle.fi_rules.specs.Value.{Shape, Val, Fi, Number, MathObject, TypeObject, scalar}
use Rattle.fi_rules.specs.Checked.{Fine}
use Rattle.fi_rules.specs.Types.{Ty, FiTy, NumberTy, TextTy, MathTy, TypeTy, OtherTy, type_of, known_value}
use Rattle.fi_rules.specs.Pairs.{limits_checked}
use Rattle.fi_rules.specs.Calls.{Asked, Takes, Attaches, TakesSign, MakesType, MakesMath, Built, Taken, Attached, SignTaken, Object, asked, built, call_checked, built_in_named}
use Rattle.fi_eval.specs.Outcome as got
use Rattle.fi_eval.specs.Outcome.{Got}
use Rattle.fi_eval.specs.Operators.{met_at, math_of, turned, turned_element, Remove}
use Rattle.fi_eval.specs.Calls as source
use Rattle.fi_eval.specs.Calls.{taken_constant, taken_value, attached, built_value, called_built_in, called_name}
use Rattle.fi_eval.specs.Meaning.{Context, is_free, called}
use Rattle.c_tree.specs.declared.tree.CWord.{CWord}
use Rattle.c_tree.specs.Meaning.{State}
use Rattle.scalar_program.specs.Lowered.{Spot, Literal, Emitted, Low, fi_at, known, IsTurned, IsTaken, IsTakenFrom, IsBuilt, IsCalled}
use Rattle.scalar_program.proofs.Within.{limited_within}
use Rattle.scalar_program.proofs.Rules.{bound, fine_is, limits_are}
use Rattle.scalar_program.proofs.Says.{Stands, HeldStands, stands_typed}
use Rattle.scalar_program.proofs.Runs.{word_type, IsBelow}
use Rattle.scalar_program.proofs.Stepped.{quantised_in, taken_step, turned_step}
use Rattle.scalar_program.proofs.Moves.{Reached, known_reached, stepped_reached, stays_reached}

-- arguments stand where their types and spots say
abbrev pub ArgsStand : State → List Ty → List Spot → List Val → Type 0
ArgsStand st [] [] [] = Unit {0}
ArgsStand st (u ∷ us) (p ∷ ps) (v ∷ vs) = HeldStands st p u v × ArgsStand st us ps vs
ArgsStand st us ps vs = ⊥

abbrev pub AllBelow : List Spot → ℕ → Type 0
AllBelow [] n = Unit {0}
AllBelow (p ∷ ps) n = IsBelow p n × AllBelow ps n

pub args_typed : (st : State) (us : List Ty) (ps : List Spot) (vs : List Val) → ArgsStand st us ps vs → map type_of vs ≡ us
args_typed st [] [] [] h = refl
args_typed st [] [] (v ∷ vs) h = absurd h
args_typed st [] (p ∷ ps) vs h = absurd h
args_typed st (u ∷ us) [] vs h = absurd h
args_typed st (u ∷ us) (p ∷ ps) [] h = absurd h
args_typed st (u ∷ us) (p ∷ ps) (v ∷ vs) h = (λ i. stands_typed st p u v h.0 i ∷ args_typed st us ps vs h.1 i)

-- ---- what the conditions tell of a result

-- a type is within the limits, and an object is a type or a fimath
abbrev pub BuiltAs : Built → Type 0
BuiltAs (Taken t m) = IsWithin t
BuiltAs (Attached m) = Unit {0}
BuiltAs SignTaken = Unit {0}
BuiltAs (Object (TypeTy t)) = Unit {0}
BuiltAs (Object (MathTy m)) = Unit {0}
BuiltAs (Object t) = ⊥

built_as : (k : Asked) (r : Built) → built k ≡ Fine r → BuiltAs r
unfolding built
built_as (Takes t m) r h = let b = bound (limits_checked (limited 64 t)) (λ u. Fine (Taken u m)) r h in subst BuiltAs (fine_is _ r b.2) (limited_within t b.0 (limits_are _ b.0 b.1))
built_as (Attaches m) r h = subst BuiltAs (fine_is _ r h) tt
built_as TakesSign r h = subst BuiltAs (fine_is _ r h) tt
built_as (MakesType t) r h = let b = bound (limits_checked (limited 64 t)) (λ u. Fine (Object (TypeTy u))) r h in subst BuiltAs (fine_is _ r b.2) tt
built_as (MakesMath m) r h = subst BuiltAs (fine_is _ r h) tt

pub call_built : (b : BuiltIn) (us : List Ty) (r : Built) → call_checked b us ≡ Fine r → BuiltAs r
call_built b us r h = let k = bound (asked b us) built r h in built_as k.0 r k.2

-- ---- results

abbrev fi_of : NumericType → Option Fimath → ℤ → Val
fi_of t m z = Fi t m scalar (z ∷ [])

taken_fi : (at : Place) (t : NumericType) (m : Option Fimath) (u : NumericType) (n : Option Fimath) (spot : Spot) (v : Val) (em : Emitted) (low : Low) (st : State) (all rest : List CWord) → IsWithin t → IsTaken t m (record { spot = spot; num = u }) em low → HeldStands st spot (FiTy u n) v → map word_type st.words ≡ all → all ≡ low.emitted.words ++ rest → Reached em low st all (taken_value at t m v)
unfolding HeldStands taken_value
taken_fi at t m u n spot v em low st all rest within h s typed fits =
    stepped_reached em low t m st all (source.taken t m s.0 u.fraction) (taken_value at t m v) (taken_step t m (record { spot = spot; num = u }) em low s.0 st all rest within h s.2 typed fits) (ap (taken_value at t m) s.1)

taken_number : (at : Place) (t : NumericType) (m : Option Fimath) (sh : Shape) (c : Exact) (spot : Spot) (v : Val) (em : Emitted) (low : Low) (st : State) (all : List CWord) → IsWithin t → low ≡ fi_at (Literal t.signed (taken_constant t m c)) t m em → HeldStands st spot (NumberTy sh (c ∷ [])) v → map word_type st.words ≡ all → Reached em low st all (taken_value at t m v)
unfolding HeldStands taken_value
taken_number at t m sh c spot v em low st all within is s typed =
    let z : ℤ = taken_constant t m c in
    let stands : Stands st (record { spot = Literal t.signed z; num = t }) z = record { range = quantised_in (math_of m).rounding (math_of m).overflow t c.significand (neg_ℤ c.exponent) within.one_bit; limits = within; at = (refl, refl) } in
    stays_reached em low (record { spot = Literal t.signed z; ty = FiTy t m }) st all (fi_of t m z) (taken_value at t m v) is typed (z, refl, stands) tt
    (ap (taken_value at t m) (s.1 ∙ ap (λ q. Number q (c ∷ [])) s.0))

taken_reached : (at : Place) (t : NumericType) (m : Option Fimath) (u : Ty) (spot : Spot) (v : Val) (em : Emitted) (low : Low) (st : State) (all rest : List CWord) → IsWithin t → IsTakenFrom t m u spot em low → HeldStands st spot u v → map word_type st.words ≡ all → all ≡ low.emitted.words ++ rest → Reached em low st all (taken_value at t m v)
unfolding IsTakenFrom
taken_reached at t m (FiTy u n) spot v em low st all rest within h s typed fits = taken_fi at t m u n spot v em low st all rest within h s typed fits
taken_reached at t m (NumberTy sh (c ∷ [])) spot v em low st all rest within h s typed fits = taken_number at t m sh c spot v em low st all within h s typed
taken_reached at t m (NumberTy sh []) spot v em low st all rest within h s typed fits = absurd h
taken_reached at t m (NumberTy sh (c ∷ d ∷ cs)) spot v em low st all rest within h s typed fits = absurd h
taken_reached at t m (TextTy text) spot v em low st all rest within h s typed fits = absurd h
taken_reached at t m (MathTy n) spot v em low st all rest within h s typed fits = absurd h
taken_reached at t m (TypeTy u) spot v em low st all rest within h s typed fits = absurd h
taken_reached at t m OtherTy spot v em low st all rest within h s typed fits = absurd h

attached_reached : (at : Place) (m : Option Fimath) (t : NumericType) (n : Option Fimath) (spot : Spot) (v : Val) (em : Emitted) (low : Low) (st : State) (all : List CWord) → low ≡ fi_at spot t m em → HeldStands st spot (FiTy t n) v → IsBelow spot (length em.words) → map word_type st.words ≡ all → Reached em low st all (attached at m v)
unfolding HeldStands attached
attached_reached at m t n spot v em low st all is s below typed =
    stays_reached em low (record { spot = spot; ty = FiTy t m }) st all (fi_of t m s.0) (attached at m v) is typed (s.0, refl, s.2) below (ap (attached at m) s.1)

sign_reached : (at : Place) (t : NumericType) (m : Option Fimath) (spot : Spot) (v : Val) (em : Emitted) (low : Low) (st : State) (all rest : List CWord) → IsTurned Remove m (record { spot = spot; num = t }) em low → HeldStands st spot (FiTy t m) v → map word_type st.words ≡ all → all ≡ low.emitted.words ++ rest → Reached em low st all (turned at Remove v)
unfolding HeldStands turned
sign_reached at t m spot v em low st all rest h s typed fits =
    stepped_reached em low t m st all (turned_element Remove (math_of m) t s.0) (turned at Remove v) (turned_step Remove m (record { spot = spot; num = t }) em low s.0 st all rest h s.2 typed fits) (ap (turned at Remove) s.1)

object_reached : (at : Place) (t : Ty) (us : List Ty) (ps : List Spot) (vs : List Val) (em : Emitted) (low : Low) (st : State) (all : List CWord) → BuiltAs (Object t) → low ≡ known t em → map word_type st.words ≡ all → Reached em low st all (got.or_wrong at (known_value t))
unfolding HeldStands known_value got.or_wrong
object_reached at (TypeTy t) us ps vs em low st all a is typed = known_reached em low (TypeTy t) st all (TypeObject t) _ is typed refl refl
object_reached at (MathTy m) us ps vs em low st all a is typed = known_reached em low (MathTy m) st all (MathObject m) _ is typed refl refl
object_reached at (FiTy t m) us ps vs em low st all a is typed = absurd a
object_reached at (NumberTy s cs) us ps vs em low st all a is typed = absurd a
object_reached at (TextTy text) us ps vs em low st all a is typed = absurd a
object_reached at OtherTy us ps vs em low st all a is typed = absurd a

-- what a call gives, from arguments that stand
built_reached : (at : Place) (r : Built) (us : List Ty) (ps : List Spot) (vs : List Val) (em : Emitted) (low : Low) (st : State) (all rest : List CWord) → BuiltAs r → IsBuilt r us ps em low → ArgsStand st us ps vs → AllBelow ps (length em.words) → map word_type st.words ≡ all → all ≡ low.emitted.words ++ rest → Reached em low st all (built_value at r vs)
unfolding IsBuilt built_value
built_reached at (Object t) us ps vs em low st all rest a h s below typed fits = object_reached at t us ps vs em low st all a h typed
built_reached at (Taken t m) (u ∷ us) (p ∷ ps) (v ∷ vs) em low st all rest a h s below typed fits = taken_reached at t m u p v em low st all rest a h s.0 typed fits
built_reached at (Attached m) (FiTy t n ∷ us) (p ∷ ps) (v ∷ vs) em low st all rest a h s below typed fits = attached_reached at m t n p v em low st all h s.0 below.0 typed
built_reached at SignTaken (FiTy t m ∷ us) (p ∷ ps) (v ∷ vs) em low st all rest a h s below typed fits = sign_reached at t m p v em low st all rest h s.0 typed fits
built_reached at (Taken t m) [] ps vs em low st all rest a h s below typed fits = absurd h
built_reached at (Taken t m) (u ∷ us) [] vs em low st all rest a h s below typed fits = absurd h
built_reached at (Taken t m) (u ∷ us) (p ∷ ps) [] em low st all rest a h s below typed fits = absurd s
built_reached at (Attached m) [] ps vs em low st all rest a h s below typed fits = absurd h
built_reached at (Attached m) (FiTy t n ∷ us) [] vs em low st all rest a h s below typed fits = absurd h
built_reached at (Attached m) (FiTy t n ∷ us) (p ∷ ps) [] em low st all rest a h s below typed fits = absurd s
built_reached at (Attached m) (NumberTy sh cs ∷ us) ps vs em low st all rest a h s below typed fits = absurd h
built_reached at (Attached m) (TextTy text ∷ us) ps vs em low st all rest a h s below typed fits = absurd h
built_reached at (Attached m) (MathTy n ∷ us) ps vs em low st all rest a h s below typed fits = absurd h
built_reached at (Attached m) (TypeTy t ∷ us) ps vs em low st all rest a h s below typed fits = absurd h
built_reached at (Attached m) (OtherTy ∷ us) ps vs em low st all rest a h s below typed fits = absurd h
built_reached at SignTaken [] ps vs em low st all rest a h s below typed fits = absurd h
built_reached at SignTaken (FiTy t m ∷ us) [] vs em low st all rest a h s below typed fits = absurd h
built_reached at SignTaken (FiTy t m ∷ us) (p ∷ ps) [] em low st all rest a h s below typed fits = absurd s
built_reached at SignTaken (NumberTy sh cs ∷ us) ps vs em low st all rest a h s below typed fits = absurd h
built_reached at SignTaken (TextTy text ∷ us) ps vs em low st all rest a h s below typed fits = absurd h
built_reached at SignTaken (MathTy n ∷ us) ps vs em low st all rest a h s below typed fits = absurd h
built_reached at SignTaken (TypeTy t ∷ us) ps vs em low st all rest a h s below typed fits = absurd h
built_reached at SignTaken (OtherTy ∷ us) ps vs em low st all rest a h s below typed fits = absurd h

-- ---- calls

called_is : (at : Place) (cx : Context) (name : List ℕ) (b : BuiltIn) (us : List Ty) (r : Built) (vs : List Val) → is_free cx name ≡ true → built_in_named name ≡ Some b → map type_of vs ≡ us → call_checked b us ≡ Fine r → called at cx name vs ≡ built_value at r vs
unfolding got.choose got.bind called_built_in met_at
called_is at cx name b us r vs free named types h =
    ap (λ f. got.choose f (called_name at name vs) (got.Wrong at)) free
    ∙ ap (λ o. called_built_in at o vs) named
    ∙ ap (λ ts. got.bind (met_at at (call_checked b ts)) (λ q. built_value at q vs)) types
    ∙ ap (λ c. got.bind (met_at at c) (λ q. built_value at q vs)) h

-- a call of a built-in function behind its arguments
pub call_reached : (at : Place) (cx : Context) (name : List ℕ) (us : List Ty) (ps : List Spot) (vs : List Val) (em : Emitted) (low : Low) (st : State) (all rest : List CWord) → IsCalled cx name us ps em low → ArgsStand st us ps vs → AllBelow ps (length em.words) → map word_type st.words ≡ all → all ≡ low.emitted.words ++ rest → Reached em low st all (called at cx name vs)
call_reached at cx name us ps vs em low st all rest h s below typed fits =
    subst (Reached em low st all) (sym (called_is at cx name h.function us h.by.made vs h.free h.named (args_typed st us ps vs s) h.by.checked))
    (built_reached at h.by.made us ps vs em low st all rest (call_built h.function us h.by.made h.by.checked) h.by.is s below typed fits)
