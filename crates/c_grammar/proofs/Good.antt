-- What each step keeps: all that was read is well formed, and what is open can be closed.
use Rattle.std.proofs.Common.{◌≡◌, ℕ, suc, ◌<◌, ◌^◌, Bool, true, false, ◌&&◌, nat_lt, List, [], ◌∷◌, ◌++◌, length, refl, sym, ap, ◌∙◌, arith, subst}
use Rattle.std.specs.Prelude.{Option, Some, None, is_some, slice_get}
use Rattle.std.proofs.lemmas.Bool.{and_parts}
use Rattle.num_type.specs.declared.container.Container.TheVariants as container
use Rattle.c_tree.specs.declared.tree.CArray.{CArray}
use Rattle.c_tree.specs.declared.tree.CWord.{CWord}
use Rattle.c_tree.specs.declared.tree.CWord.TheVariants.{I64, U64}
use Rattle.c_tree.specs.declared.tree.CRel.{CRel}
use Rattle.c_tree.specs.declared.tree.COp.{COp}
use Rattle.c_tree.specs.declared.tree.COp.TheVariants.{Sub}
use Rattle.c_tree.specs.declared.array_names.Array.{Array}
use Rattle.c_tree.specs.Names.{array_at, word_of}
use Rattle.c_tree.specs.Tree.{Signature, Exp, Var, Element, Cast, Truth, Neg, Binary, Choose, Compare, Sta, Set, Store, Return, Block, Done, Next}
use Rattle.c_tree.specs.WellFormed.{type_of_exp, is_test, is_fit, are_fit, has_type, last_is_return}
use Rattle.c_grammar.specs.declared.word.CKeyword.TheVariants as keyword
use Rattle.c_grammar.specs.declared.word.CMacro.TheVariants as macro
use Rattle.c_grammar.specs.declared.word.CSign.TheVariants as sign
use Rattle.c_grammar.specs.declared.word.CWordToken.{CWordToken}
use Rattle.c_grammar.specs.declared.word.CWordToken.TheVariants as word
use Rattle.c_grammar.specs.Equal.{same_word}
use Rattle.c_grammar.specs.Words.{parameters_of}
use Rattle.c_grammar.specs.Sentence.{Words, macro_of}
use Rattle.c_grammar.specs.Live.{is_built_statement, are_built}
use Rattle.c_grammar.specs.Machine.{Want, Any, Only, same_type, wants, other, Purpose, ValueOf, PlaceOf, ElementOf, Frame, First, InCast, InElement, InNeg, InBinary, InTest, InThen, InElse, Past, State, Fixed, Declare, Within, Status, Need, Digits, Opened, Casting, Have, Whole, Stuck, when, if_some, owe, give, constant, limit_of, begun, need, digits, typed, opened, subscripted, casting, right_type, with_operator, with_relation, close_test, with_close, with_question, with_colon, placed, element, with_square, behind, and_then, ended, with_semicolon, have, is_stored, within, status, declaring, begin, declare, step, steps}
use Rattle.c_grammar.proofs.Complete.{scope, length_one_more}
use Rattle.c_grammar.proofs.Front.{type_is}
use Rattle.c_grammar.proofs.Inverted

-- an expression of this type
abbrev pub Typed : Signature → Past → Exp → CWord → Type 0
Typed i v e t = type_of_exp (scope i v.words) e ≡ Some t

-- the statements so far are well formed, and few variables are declared
pub record GoodPast (i : Signature) (v : Past) : Type 0 where
  pub few : length v.words < 2 ^ 32
  pub fit : are_fit (scope i v.words) false v.done ≡ true
  pub built : are_built v.done ≡ true

abbrev pub GoodPurpose : Signature → Past → Want → Purpose → Type 0
GoodPurpose i v w (ValueOf k t) = (w ≡ Only t) × (slice_get v.words k ≡ Some t)
GoodPurpose i v w (PlaceOf a) = (w ≡ Only I64) × (is_stored (parameters_of i) a ≡ true)
GoodPurpose i v w (ElementOf a x) = (w ≡ Any) × (is_stored (parameters_of i) a ≡ true) × Typed i v x I64

-- a type that may come
abbrev pub Accepting : (Want → Type 0) → CWord → Type 0
Accepting f t = (u : Want) × (wants u t ≡ true) × f u

-- an array of this container's word
pub record Reads (i : Signature) (a : CArray) (t : CWord) : Type 0 where
  pub array : Array
  pub stands : array_at (parameters_of i) a ≡ Some array
  pub type_is : word_of array.container ≡ t

abbrev pub GoodFrames : Signature → Past → List Frame → Purpose → Want → Type 0
GoodFrames i v [] h w = GoodPurpose i v w h
GoodFrames i v (First u ∷ st) h w = (w ≡ Any) × GoodFrames i v st h u
GoodFrames i v (InCast t ∷ st) h w = (w ≡ Only (other t)) × Accepting (GoodFrames i v st h) t
GoodFrames i v (InElement a ∷ st) h w = (w ≡ Only I64) × ((t : CWord) × Reads i a t × Accepting (GoodFrames i v st h) t)
GoodFrames i v (InNeg ∷ st) h w = (w ≡ Only I64) × Accepting (GoodFrames i v st h) I64
GoodFrames i v (InBinary o a t u ∷ st) h w = (w ≡ Only u) × Typed i v a t × (right_type o t ≡ Some u) × Accepting (GoodFrames i v st h) t
GoodFrames i v (InTest u p a s ∷ st) h w = (w ≡ Only s) × Typed i v a s × GoodFrames i v st h u
GoodFrames i v (InThen p a b s ∷ st) h w = Typed i v a s × Typed i v b s × GoodFrames i v st h w
GoodFrames i v (InElse p a b s x t ∷ st) h w = (w ≡ Only t) × Typed i v a s × Typed i v b s × Typed i v x t × Accepting (GoodFrames i v st h) t

abbrev pub Accepts : Signature → Past → List Frame → Purpose → CWord → Type 0
Accepts i v st h t = Accepting (GoodFrames i v st h) t

-- the innermost frame is no cast: a cast ends with its operand
abbrev pub NoCast : List Frame → Type 0
NoCast (InCast t ∷ st) = ⊥
NoCast _ = Unit {0}

-- a state that isn't stuck
abbrev pub Going : State → Type 0
Going Stuck = ⊥
Going (Fixed w ws q) = Going q
Going _ = Unit {0}

abbrev pub Good : Signature → State → Type 0
Good i (Fixed w ws q) = Good i q × Going q
Good i (Declare words) = length words < 2 ^ 32
Good i (Within v) = GoodPast i v
Good i (Status v) = GoodPast i v
Good i (Need w st h v) = GoodPast i v × GoodFrames i v st h w
Good i (Digits t st h v) = GoodPast i v × Accepts i v st h t
Good i (Opened w st h v) = GoodPast i v × GoodFrames i v st h w
Good i (Casting t st h v) = GoodPast i v × Accepts i v st h t
Good i (Have e t st h v) = NoCast st × GoodPast i v × Accepts i v st h t × Typed i v e t
Good i (Whole v) = GoodPast i v × (last_is_return v.done ≡ true)
Good i Stuck = Unit {0}

good_when : (i : Signature) (b : Bool) (q : State) → (b ≡ true → Good i q) → Good i (when b q)
good_when i true q f = f refl
good_when i false q f = tt

good_some : {A : Type 0} → (i : Signature) (o : Option A) (k : A → State) → ((t : A) → o ≡ Some t → Good i (k t)) → Good i (if_some o k)
good_some i (Some t) k f = f t refl
good_some i None k f = tt

-- the one type that was wanted
only_is : (w : Want) (s t : CWord) → w ≡ Only s → wants w t ≡ true → s ≡ t
only_is w s t e h = type_is s t (subst (λ u. wants u t ≡ true) e h)

typed_as : (i : Signature) (v : Past) (e : Exp) (w : Want) (s t : CWord) → w ≡ Only s → wants w t ≡ true → Typed i v e t → Typed i v e s
typed_as i v e w s t k m f = f ∙ ap (λ z. Some z) (sym (only_is w s t k m))

good_give : (i : Signature) (e : Exp) (t : CWord) (st : List Frame) (h : Purpose) (v : Past) → GoodPast i v → Accepts i v st h t → Typed i v e t → Good i (give e t st h v)
good_give i e t (InCast s ∷ st) h v g a f =
    good_give i (Cast s e) s st h v g a.2.1 (Inverted.cast_back s (type_of_exp (scope i v.words) e) (typed_as i v e a.0 (other s) t a.2.0 a.1 f))
good_give i e t [] h v g a f = (tt, g, a, f)
good_give i e t (First u ∷ st) h v g a f = (tt, g, a, f)
good_give i e t (InElement b ∷ st) h v g a f = (tt, g, a, f)
good_give i e t (InNeg ∷ st) h v g a f = (tt, g, a, f)
good_give i e t (InBinary o x s u ∷ st) h v g a f = (tt, g, a, f)
good_give i e t (InTest u p x s ∷ st) h v g a f = (tt, g, a, f)
good_give i e t (InThen p x y s ∷ st) h v g a f = (tt, g, a, f)
good_give i e t (InElse p x y s z u ∷ st) h v g a f = (tt, g, a, f)

going_give : (e : Exp) (t : CWord) (st : List Frame) (h : Purpose) (v : Past) → Going (give e t st h v)
going_give e t (InCast s ∷ st) h v = going_give (Cast s e) s st h v
going_give e t [] h v = tt
going_give e t (First u ∷ st) h v = tt
going_give e t (InElement b ∷ st) h v = tt
going_give e t (InNeg ∷ st) h v = tt
going_give e t (InBinary o x s u ∷ st) h v = tt
going_give e t (InTest u p x s ∷ st) h v = tt
going_give e t (InThen p x y s ∷ st) h v = tt
going_give e t (InElse p x y s z u ∷ st) h v = tt

good_begun : (i : Signature) (t : CWord) (w : Want) (st : List Frame) (h : Purpose) (v : Past) → GoodPast i v → GoodFrames i v st h w → Good i (begun t w st h v)
good_begun i t w st h v g f = good_when i (wants w t) (Fixed (word.Sign sign.Open) [] (Digits t st h v)) (λ k. ((g, (w, k, f)), tt))

good_need : (i : Signature) (w : Want) (x : CWordToken) (st : List Frame) (h : Purpose) (v : Past) → GoodPast i v → GoodFrames i v st h w → Good i (need w x st h v)
good_need i w (word.Macro macro.I64) st h v g f = good_begun i I64 w st h v g f
good_need i w (word.Macro macro.U64) st h v g f = good_begun i U64 w st h v g f
good_need i w (word.Var k) st h v g f =
    good_some i (slice_get v.words k) (λ t. when (wants w t) (give (Var k) t st h v)) (λ t e. good_when i (wants w t) (give (Var k) t st h v) (λ m. good_give i (Var k) t st h v g (w, m, f) e))
good_need i w (word.Sign sign.Open) st h v g f = (g, f)
good_need i w _ st h v g f = tt

constant_typed : (i : Signature) (v : Past) (t : CWord) (n : ℕ) → nat_lt n (limit_of t) ≡ true → Typed i v (constant t n) t
constant_typed i v I64 n k = Inverted.given_type (nat_lt n (2 ^ 63)) I64 k
constant_typed i v U64 n k = Inverted.given_type (nat_lt n (2 ^ 64)) U64 k

good_digits : (i : Signature) (t : CWord) (x : CWordToken) (st : List Frame) (h : Purpose) (v : Past) → GoodPast i v → Accepts i v st h t → Good i (digits t x st h v)
good_digits i t (word.Number n) st h v g a = good_when i (nat_lt n (limit_of t)) (Fixed (word.Sign sign.Close) [] (give (constant t n) t st h v)) (λ k. (good_give i (constant t n) t st h v g a (constant_typed i v t n k), going_give (constant t n) t st h v))
good_digits i t _ st h v g a = tt

good_typed : (i : Signature) (t : CWord) (w : Want) (st : List Frame) (h : Purpose) (v : Past) → GoodPast i v → GoodFrames i v st h w → Good i (typed t w st h v)
good_typed i t w st h v g f = good_when i (wants w t) (Fixed (word.Sign sign.Close) [] (Casting t st h v)) (λ k. ((g, (w, k, f)), tt))

good_opened : (i : Signature) (w : Want) (x : CWordToken) (st : List Frame) (h : Purpose) (v : Past) → GoodPast i v → GoodFrames i v st h w → Good i (opened w x st h v)
good_opened i w (word.Type container.I64) st h v g f = good_typed i I64 w st h v g f
good_opened i w (word.Type container.U64) st h v g f = good_typed i U64 w st h v g f
good_opened i w (word.Op Sub) st h v g f = good_when i (wants w I64) (Need (Only I64) (InNeg ∷ st) h v) (λ k. (g, (refl, (w, k, f))))
good_opened i w x st h v g f = good_need i Any x (First w ∷ st) h v g (refl, f)

good_subscripted : (i : Signature) (a : CArray) (t : CWord) (st : List Frame) (h : Purpose) (v : Past) (it : Array) → array_at (parameters_of i) a ≡ Some it → GoodPast i v → Accepts i v st h t → Good i (subscripted a t st h v it)
good_subscripted i a t st h v it e g f =
    good_when i (same_type (word_of it.container) t) (Fixed (word.Sign sign.OpenSquare) [] (Need (Only I64) (InElement a ∷ st) h v))
    (λ k. ((g, (refl, (t, record { array = it; stands = e; type_is = type_is (word_of it.container) t k }, f))), tt))

good_casting : (i : Signature) (t : CWord) (x : CWordToken) (st : List Frame) (h : Purpose) (v : Past) → GoodPast i v → Accepts i v st h t → Good i (casting (parameters_of i) t x st h v)
good_casting i t (word.Array a) st h v g f = good_some i (array_at (parameters_of i) a) (subscripted a t st h v) (λ it e. good_subscripted i a t st h v it e g f)
good_casting i t x st h v g f = good_need i (Only (other t)) x (InCast t ∷ st) h v g (refl, f)

good_operator : (i : Signature) (o : COp) (e : Exp) (t : CWord) (st : List Frame) (h : Purpose) (v : Past) → Good i (Have e t st h v) → Good i (with_operator o e t st h v)
good_operator i o e t (First w ∷ st) h v g =
    good_when i (wants w t) (if_some (right_type o t) (λ u. Need (Only u) (InBinary o e t u ∷ st) h v))
    (λ k. good_some i (right_type o t) (λ u. Need (Only u) (InBinary o e t u ∷ st) h v) (λ u m. (g.1, (refl, g.3, m, (w, k, g.2.2.1)))))
good_operator i o e t _ h v g = tt

good_relation : (i : Signature) (p : CRel) (e : Exp) (t : CWord) (st : List Frame) (h : Purpose) (v : Past) → Good i (Have e t st h v) → Good i (with_relation p e t st h v)
good_relation i p e t (First w ∷ st) h v g = (g.1, (refl, g.3, g.2.2.1))
good_relation i p e t _ h v g = tt

test_typed : (i : Signature) (v : Past) (p : CRel) (a b : Exp) (s : CWord) → Typed i v a s → Typed i v b s → is_test (scope i v.words) (Compare p a b) ≡ true
test_typed i v p a b s f g = Inverted.one_type_back (type_of_exp (scope i v.words) a) (type_of_exp (scope i v.words) b) s f g

good_test : (i : Signature) (w : Want) (p : CRel) (a e : Exp) (s t : CWord) (st : List Frame) (h : Purpose) (v : Past) → Good i (Have e t (InTest w p a s ∷ st) h v) → Good i (close_test (Compare p a e) st h v)
good_test i w p a e s t (InCast I64 ∷ st) h v g =
    good_give i (Truth (Compare p a e)) I64 st h v g.1 g.2.2.2.1
    (Inverted.given_type _ I64 (test_typed i v p a e s g.2.2.1 (typed_as i v e g.2.0 s t g.2.2.0 g.2.1 g.3)))
good_test i w p a e s t _ h v g = tt

good_close : (i : Signature) (e : Exp) (t : CWord) (st : List Frame) (h : Purpose) (v : Past) → Good i (Have e t st h v) → Good i (with_close e t st h v)
good_close i e t (InNeg ∷ st) h v g =
    good_give i (Neg e) I64 st h v g.1 g.2.2.1 (Inverted.negated_back (type_of_exp (scope i v.words) e) (typed_as i v e g.2.0 I64 t g.2.2.0 g.2.1 g.3))
good_close i e t (InBinary o a s u ∷ st) h v g =
    good_give i (Binary o a e) s st h v g.1 g.2.2.3
    (Inverted.operator_back o (type_of_exp (scope i v.words) a) (type_of_exp (scope i v.words) e) s u g.2.2.2 g.2.2.1 (typed_as i v e g.2.0 u t g.2.2.0 g.2.1 g.3))
good_close i e t (InTest w p a s ∷ st) h v g = good_test i w p a e s t st h v g
good_close i e t (InElse p a b s x u ∷ st) h v g =
    good_give i (Choose (Compare p a b) x e) u st h v g.1 g.2.2.4
    (Inverted.choice_back (is_test (scope i v.words) (Compare p a b)) (type_of_exp (scope i v.words) x) (type_of_exp (scope i v.words) e) u
    (test_typed i v p a b s g.2.2.1 g.2.2.2) g.2.2.3 (typed_as i v e g.2.0 u t g.2.2.0 g.2.1 g.3))
good_close i e t _ h v g = tt

good_question : (i : Signature) (e : Exp) (t : CWord) (st : List Frame) (h : Purpose) (v : Past) → Good i (Have e t st h v) → Good i (with_question e st h v)
good_question i e t (InTest w p a s ∷ st) h v g = (g.1, (g.2.2.1, typed_as i v e g.2.0 s t g.2.2.0 g.2.1 g.3, g.2.2.2))
good_question i e t _ h v g = tt

good_colon : (i : Signature) (e : Exp) (t : CWord) (st : List Frame) (h : Purpose) (v : Past) → Good i (Have e t st h v) → Good i (with_colon e t st h v)
good_colon i e t (InThen p a b s ∷ st) h v g = (g.1, (refl, g.2.2.0, g.2.2.1, g.3, (g.2.0, g.2.1, g.2.2.2)))
good_colon i e t _ h v g = tt

good_placed : (i : Signature) (e : Exp) (t : CWord) (h : Purpose) (v : Past) → Good i (Have e t [] h v) → Good i (placed (parameters_of i) e h v)
good_placed i e t (PlaceOf a) v g = ((g.1, (refl, g.2.2.1, typed_as i v e g.2.0 I64 t g.2.2.0 g.2.1 g.3)), tt)
good_placed i e t _ v g = tt

good_element : (i : Signature) (a : CArray) (e : Exp) (t : CWord) (st : List Frame) (h : Purpose) (v : Past) (it : Array) → array_at (parameters_of i) a ≡ Some it → Good i (Have e t (InElement a ∷ st) h v) → Good i (element (parameters_of i) a e st h v it)
good_element i a e t st h v it m g =
    let found = g.2.2.1.1 in
    let same : found.array ≡ it = Inverted.some_same (sym found.stands ∙ m) in
    let type : g.2.2.1.0 ≡ word_of it.container = sym found.type_is ∙ ap (λ z. word_of z.container) same in
    good_give i (Element a e) (word_of it.container) st h v g.1 (subst (Accepts i v st h) type g.2.2.1.2)
    (Inverted.element_back (array_at (parameters_of i) a) (type_of_exp (scope i v.words) e) it m (typed_as i v e g.2.0 I64 t g.2.2.0 g.2.1 g.3))

good_square : (i : Signature) (e : Exp) (t : CWord) (st : List Frame) (h : Purpose) (v : Past) → Good i (Have e t st h v) → Good i (with_square (parameters_of i) e st h v)
good_square i e t (InElement a ∷ st) h v g = good_some i (array_at (parameters_of i) a) (element (parameters_of i) a e st h v) (λ it m. good_element i a e t st h v it m g)
good_square i e t [] h v g = good_placed i e t h v g
good_square i e t _ h v g = tt

both_true : (a b : Bool) → a ≡ true → b ≡ true → a && b ≡ true
both_true a b h k = rw (h, k) refl

fit_behind : (i : Signature) (words : List CWord) (b : Block) (s : Sta) → are_fit (scope i words) false b ≡ true → is_fit (scope i words) false s ≡ true → are_fit (scope i words) false (behind b s) ≡ true
fit_behind i words Done s h k = both_true _ true k refl
fit_behind i words (Next x b) s h k =
    let part = and_parts (is_fit (scope i words) false x) (are_fit (scope i words) false b) h in
    both_true _ _ part.0 (fit_behind i words b s part.1 k)

built_behind : (b : Block) (s : Sta) → are_built b ≡ true → is_built_statement s ≡ true → are_built (behind b s) ≡ true
built_behind Done s h k = both_true _ true k refl
built_behind (Next x b) s h k =
    let part = and_parts (is_built_statement x) (are_built b) h in
    both_true _ _ part.0 (built_behind b s part.1 k)

good_then : (i : Signature) (s : Sta) (v : Past) → GoodPast i v → is_fit (scope i v.words) false s ≡ true → is_built_statement s ≡ true → Good i (and_then s v)
good_then i s v g f b = record { few = g.few; fit = fit_behind i v.words v.done s g.fit f; built = built_behind v.done s g.built b }

known_some : (x : Option CWord) (t : CWord) → x ≡ Some t → is_some x ≡ true
known_some x t h = ap is_some h

good_ended : (i : Signature) (e : Exp) (t : CWord) (h : Purpose) (v : Past) → Good i (Have e t [] h v) → Good i (ended e h v)
good_ended i e t (ValueOf k s) v g =
    good_then i (Set k e) v g.1
    (Inverted.one_type_back (slice_get v.words k) (type_of_exp (scope i v.words) e) s g.2.2.1 (typed_as i v e g.2.0 s t g.2.2.0 g.2.1 g.3)) refl
good_ended i e t (ElementOf a x) v g =
    good_then i (Store a x e) v g.1
    (both_true (is_stored (parameters_of i) a) _ g.2.2.1 (both_true (has_type (scope i v.words) x I64) _ (Inverted.one_type_back (type_of_exp (scope i v.words) x) (Some I64) I64 g.2.2.2 refl) (known_some (type_of_exp (scope i v.words) e) t g.3))) refl
good_ended i e t _ v g = tt

good_semicolon : (i : Signature) (e : Exp) (t : CWord) (st : List Frame) (h : Purpose) (v : Past) → Good i (Have e t st h v) → Good i (with_semicolon e st h v)
good_semicolon i e t [] h v g = good_ended i e t h v g
good_semicolon i e t _ h v g = tt

good_have : (i : Signature) (e : Exp) (t : CWord) (x : CWordToken) (st : List Frame) (h : Purpose) (v : Past) → Good i (Have e t st h v) → Good i (have (parameters_of i) e t x st h v)
good_have i e t (word.Op o) st h v g = good_operator i o e t st h v g
good_have i e t (word.Rel p) st h v g = good_relation i p e t st h v g
good_have i e t (word.Sign sign.Close) st h v g = good_close i e t st h v g
good_have i e t (word.Sign sign.CloseSquare) st h v g = good_square i e t st h v g
good_have i e t (word.Sign sign.Question) st h v g = good_question i e t st h v g
good_have i e t (word.Sign sign.Colon) st h v g = good_colon i e t st h v g
good_have i e t (word.Sign sign.Semicolon) st h v g = good_semicolon i e t st h v g
good_have i e t _ st h v g = tt

good_within : (i : Signature) (x : CWordToken) (v : Past) → GoodPast i v → Good i (within (parameters_of i) x v)
good_within i (word.Var k) v g = good_some i (slice_get v.words k) (λ t. Fixed (word.Sign sign.Assign) [] (Need (Only t) [] (ValueOf k t) v)) (λ t e. ((g, (refl, e)), tt))
good_within i (word.Array a) v g = good_when i (is_stored (parameters_of i) a) (Fixed (word.Sign sign.OpenSquare) [] (Need (Only I64) [] (PlaceOf a) v)) (λ k. ((g, (refl, k)), tt))
good_within i (word.Keyword keyword.Return) v g = (g, tt)
good_within i (word.Sign sign.CloseBrace) v g = good_when i (last_is_return v.done) (Whole v) (λ k. (g, k))
good_within i _ v g = tt

good_status : (i : Signature) (x : CWordToken) (v : Past) → GoodPast i v → Good i (status x v)
good_status i (word.Number n) v g =
    good_when i (nat_lt n (2 ^ 31)) (Fixed (word.Sign sign.Close) (word.Sign sign.Semicolon ∷ []) (and_then (Return n) v)) (λ k. (good_then i (Return n) v g k refl, tt))
good_status i _ v g = tt

below : (n k : ℕ) → nat_lt n k ≡ true → n < k
below n k h = grind arith

good_declaring : (i : Signature) (t : CWord) (words : List CWord) → Good i (declaring t words)
good_declaring i t words =
    good_when i (nat_lt (suc (length words)) (2 ^ 32))
    (Fixed (word.Var (length words)) (word.Sign sign.Assign ∷ word.Macro (macro_of t) ∷ word.Sign sign.Open ∷ word.Number 0 ∷ word.Sign sign.Close ∷ word.Sign sign.Semicolon ∷ []) (Declare (words ++ t ∷ [])))
    (λ k. (subst (λ n. n < 2 ^ 32) (sym (length_one_more words t)) (below (suc (length words)) (2 ^ 32) k), tt))

pub begin_good : (i : Signature) (words : List CWord) → length words < 2 ^ 32 → GoodPast i (begin words)
begin_good i words h = record { few = h; fit = refl; built = refl }

good_declare : (i : Signature) (x : CWordToken) (words : List CWord) → length words < 2 ^ 32 → Good i (declare (parameters_of i) x words)
good_declare i (word.Type container.I64) words h = good_declaring i I64 words
good_declare i (word.Type container.U64) words h = good_declaring i U64 words
good_declare i x words h = good_within i x (begin words) (begin_good i words h)

pub good_owe : (i : Signature) (ws : Words) (q : State) → Good i q × Going q → Good i (owe ws q)
good_owe i [] q g = g.0
good_owe i (w ∷ ws) q g = g

pub good_step : (i : Signature) (q : State) (x : CWordToken) → Good i q → Good i (step (parameters_of i) q x)
good_step i (Fixed w ws q) x g = good_when i (same_word w x) (owe ws q) (λ k. good_owe i ws q g)
good_step i (Declare words) x g = good_declare i x words g
good_step i (Within v) x g = good_within i x v g
good_step i (Status v) x g = good_status i x v g
good_step i (Need w st h v) x g = good_need i w x st h v g.0 g.1
good_step i (Digits t st h v) x g = good_digits i t x st h v g.0 g.1
good_step i (Opened w st h v) x g = good_opened i w x st h v g.0 g.1
good_step i (Casting t st h v) x g = good_casting i t x st h v g.0 g.1
good_step i (Have e t st h v) x g = good_have i e t x st h v g
good_step i (Whole p) x g = tt
good_step i Stuck x g = tt

pub good_steps : (i : Signature) (ws : Words) (q : State) → Good i q → Good i (steps i q ws)
good_steps i [] q g = g
good_steps i (x ∷ xs) q g = good_steps i xs (step (parameters_of i) q x) (good_step i q x g)
