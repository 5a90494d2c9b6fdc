-- Each step adds its word to those that led to the state.
use Rattle.std.proofs.Common.{◌≡◌, ℕ, suc, ◌+◌, ◌^◌, Bool, true, false, nat_lt, List, [], ◌∷◌, ◌++◌, length, refl, ap, ◌∙◌, arith}
use Rattle.std.specs.Prelude.{Option, Some, None, slice_get}
use Rattle.num_type.specs.declared.container.Container.TheVariants as container
use Rattle.c_tree.specs.declared.tree.CArray.{CArray}
use Rattle.c_tree.specs.declared.tree.CWord.{CWord}
use Rattle.c_tree.specs.declared.tree.CWord.TheVariants.{I64, U64}
use Rattle.c_tree.specs.declared.tree.CRel.{CRel}
use Rattle.c_tree.specs.declared.tree.COp.{COp}
use Rattle.c_tree.specs.declared.tree.COp.TheVariants.{Sub}
use Rattle.c_tree.specs.declared.array_names.Array.{Array}
use Rattle.c_tree.specs.Names.{array_at, word_of}
use Rattle.c_tree.specs.Tree.{Signature, Exp, Signed, Unsigned, Var, Element, Cast, Truth, Neg, Binary, Choose, Compare, Sta, Set, Store, Return, Block, Done, Next}
use Rattle.c_tree.specs.WellFormed.{last_is_return}
use Rattle.c_grammar.specs.declared.word.CKeyword.TheVariants as keyword
use Rattle.c_grammar.specs.declared.word.CMacro.TheVariants as macro
use Rattle.c_grammar.specs.declared.word.CSign.TheVariants as sign
use Rattle.c_grammar.specs.declared.word.CWordToken.{CWordToken}
use Rattle.c_grammar.specs.declared.word.CWordToken.TheVariants as word
use Rattle.c_grammar.specs.Equal.{same_word}
use Rattle.c_grammar.specs.Words.{parameters_of}
use Rattle.c_grammar.specs.Sentence.{Words, type_word, macro_of, read_of, store_of, constant_words, exp_words, sta_words, block_words, header_words, start_words, variable_words}
use Rattle.c_grammar.specs.Machine.{Want, Any, Only, same_type, wants, other, Purpose, ValueOf, PlaceOf, ElementOf, Frame, First, InCast, InElement, InNeg, InBinary, InTest, InThen, InElse, Past, State, Fixed, Declare, Within, Status, Need, Digits, Opened, Casting, Have, Whole, Stuck, when, if_some, owe, give, constant, limit_of, begun, need, digits, typed, opened, subscripted, casting, right_type, with_operator, with_relation, close_test, with_close, with_question, with_colon, placed, element, with_square, behind, and_then, ended, with_semicolon, have, is_stored, within, status, declaring, begin, declare, step}
use Rattle.c_grammar.proofs.Alike.{same_word_is}

-- the words of the variables and of the statements so far
abbrev pub past_words : Signature → Past → Words → Words
past_words i v r = header_words i (variable_words 0 v.words (block_words (parameters_of i) v.done r))

abbrev pub purpose_words : Signature → Purpose → Words → Words
purpose_words i (ValueOf k t) r = word.Var k ∷ word.Sign sign.Assign ∷ r
purpose_words i (PlaceOf a) r = word.Array a ∷ word.Sign sign.OpenSquare ∷ r
purpose_words i (ElementOf a x) r =
    word.Array a ∷ word.Sign sign.OpenSquare ∷ exp_words (parameters_of i) x (word.Sign sign.CloseSquare ∷ word.Sign sign.Assign
    ∷ word.Sign sign.Open ∷ store_of (array_at (parameters_of i) a) ∷ word.Sign sign.Close ∷ r)

abbrev pub frame_words : Signature → List Frame → Purpose → Past → Words → Words
frame_words i [] h v r = past_words i v (purpose_words i h r)
frame_words i (First w ∷ st) h v r = frame_words i st h v (word.Sign sign.Open ∷ r)
frame_words i (InCast t ∷ st) h v r = frame_words i st h v (word.Sign sign.Open ∷ type_word t ∷ word.Sign sign.Close ∷ r)
frame_words i (InElement a ∷ st) h v r =
    frame_words i st h v (word.Sign sign.Open ∷ read_of (array_at (parameters_of i) a) ∷ word.Sign sign.Close ∷ word.Array a ∷ word.Sign sign.OpenSquare ∷ r)
frame_words i (InNeg ∷ st) h v r = frame_words i st h v (word.Sign sign.Open ∷ word.Op Sub ∷ r)
frame_words i (InBinary o a t u ∷ st) h v r = frame_words i st h v (word.Sign sign.Open ∷ exp_words (parameters_of i) a (word.Op o ∷ r))
frame_words i (InTest w p a t ∷ st) h v r = frame_words i st h v (word.Sign sign.Open ∷ exp_words (parameters_of i) a (word.Rel p ∷ r))
frame_words i (InThen p a b t ∷ st) h v r =
    frame_words i st h v (word.Sign sign.Open ∷ exp_words (parameters_of i) a (word.Rel p ∷ exp_words (parameters_of i) b (word.Sign sign.Question ∷ r)))
frame_words i (InElse p a b t x u ∷ st) h v r =
    frame_words i st h v (word.Sign sign.Open ∷ exp_words (parameters_of i) a (word.Rel p ∷ exp_words (parameters_of i) b (word.Sign sign.Question
    ∷ exp_words (parameters_of i) x (word.Sign sign.Colon ∷ r))))

-- the words that led to a state, with what follows
abbrev pub front : Signature → State → Words → Words
front i (Fixed w ws q) r = r
front i (Declare words) r = header_words i (variable_words 0 words r)
front i (Within v) r = past_words i v r
front i (Status v) r = past_words i v (word.Keyword keyword.Return ∷ word.Macro macro.I32 ∷ word.Sign sign.Open ∷ r)
front i (Need w st h v) r = frame_words i st h v r
front i (Digits t st h v) r = frame_words i st h v (word.Macro (macro_of t) ∷ word.Sign sign.Open ∷ r)
front i (Opened w st h v) r = frame_words i st h v (word.Sign sign.Open ∷ r)
front i (Casting t st h v) r = frame_words i st h v (word.Sign sign.Open ∷ type_word t ∷ word.Sign sign.Close ∷ r)
front i (Have e t st h v) r = frame_words i st h v (exp_words (parameters_of i) e r)
front i (Whole v) r = past_words i v (word.Sign sign.CloseBrace ∷ r)
front i Stuck r = r

-- these words led to the state: those that must still come are counted as read
abbrev pub Led : Signature → State → (Words → Words) → Type 0
Led i Stuck f = Unit {0}
Led i (Fixed w ws q) f = Led i q (λ r. f (w ∷ (ws ++ r)))
Led i q f = (r : Words) → front i q r ≡ f r

-- along words that are the same
pub led_along : (i : Signature) (q : State) (f g : Words → Words) → ((r : Words) → f r ≡ g r) → Led i q f → Led i q g
led_along i Stuck f g e h = tt
led_along i (Fixed w ws q) f g e h = led_along i q (λ r. f (w ∷ (ws ++ r))) (λ r. g (w ∷ (ws ++ r))) (λ r. e (w ∷ (ws ++ r))) h
led_along i (Declare words) f g e h = λ r. h r ∙ e r
led_along i (Within v) f g e h = λ r. h r ∙ e r
led_along i (Status v) f g e h = λ r. h r ∙ e r
led_along i (Need w st p v) f g e h = λ r. h r ∙ e r
led_along i (Digits t st p v) f g e h = λ r. h r ∙ e r
led_along i (Opened w st p v) f g e h = λ r. h r ∙ e r
led_along i (Casting t st p v) f g e h = λ r. h r ∙ e r
led_along i (Have x t st p v) f g e h = λ r. h r ∙ e r
led_along i (Whole p) f g e h = λ r. h r ∙ e r

led_when : (i : Signature) (b : Bool) (q : State) (f : Words → Words) → (b ≡ true → Led i q f) → Led i (when b q) f
led_when i true q f h = h refl
led_when i false q f h = tt

led_some : {A : Type 0} → (i : Signature) (o : Option A) (k : A → State) (f : Words → Words) → ((t : A) → o ≡ Some t → Led i (k t) f) → Led i (if_some o k) f
led_some i (Some t) k f h = h t refl
led_some i None k f h = tt

pub type_is : (s t : CWord) → same_type s t ≡ true → s ≡ t
type_is I64 I64 h = refl
type_is U64 U64 h = refl
type_is I64 U64 h = absurd cc
type_is U64 I64 h = absurd cc

led_give : (i : Signature) (e : Exp) (t : CWord) (st : List Frame) (h : Purpose) (v : Past) → Led i (give e t st h v) (λ r. frame_words i st h v (exp_words (parameters_of i) e r))
led_give i e t (InCast s ∷ st) h v = led_give i (Cast s e) s st h v
led_give i e t [] h v = λ r. refl
led_give i e t (First w ∷ st) h v = λ r. refl
led_give i e t (InElement a ∷ st) h v = λ r. refl
led_give i e t (InNeg ∷ st) h v = λ r. refl
led_give i e t (InBinary o a s u ∷ st) h v = λ r. refl
led_give i e t (InTest w p a s ∷ st) h v = λ r. refl
led_give i e t (InThen p a b s ∷ st) h v = λ r. refl
led_give i e t (InElse p a b s x u ∷ st) h v = λ r. refl

led_begun : (i : Signature) (t : CWord) (w : Want) (st : List Frame) (h : Purpose) (v : Past) → Led i (begun t w st h v) (λ r. frame_words i st h v (word.Macro (macro_of t) ∷ r))
led_begun i t w st h v = led_when i (wants w t) _ _ (λ k. λ r. refl)

led_need : (i : Signature) (w : Want) (x : CWordToken) (st : List Frame) (h : Purpose) (v : Past) → Led i (need w x st h v) (λ r. frame_words i st h v (x ∷ r))
led_need i w (word.Macro macro.I64) st h v = led_begun i I64 w st h v
led_need i w (word.Macro macro.U64) st h v = led_begun i U64 w st h v
led_need i w (word.Var k) st h v = led_some i (slice_get v.words k) _ _ (λ t e. led_when i (wants w t) (give (Var k) t st h v) _ (λ m. led_give i (Var k) t st h v))
led_need i w (word.Sign sign.Open) st h v = λ r. refl
led_need i w _ st h v = tt

led_constant : (i : Signature) (t : CWord) (n : ℕ) (st : List Frame) (h : Purpose) (v : Past) → Led i (give (constant t n) t st h v) (λ r. frame_words i st h v (constant_words (macro_of t) n r))
led_constant i I64 n st h v = led_give i (Signed n) I64 st h v
led_constant i U64 n st h v = led_give i (Unsigned n) U64 st h v

led_digits : (i : Signature) (t : CWord) (x : CWordToken) (st : List Frame) (h : Purpose) (v : Past) → Led i (digits t x st h v) (λ r. frame_words i st h v (word.Macro (macro_of t) ∷ word.Sign sign.Open ∷ x ∷ r))
led_digits i t (word.Number n) st h v = led_when i (nat_lt n (limit_of t)) (Fixed (word.Sign sign.Close) [] (give (constant t n) t st h v)) _ (λ k. led_constant i t n st h v)
led_digits i t _ st h v = tt

led_typed : (i : Signature) (t : CWord) (w : Want) (st : List Frame) (h : Purpose) (v : Past) → Led i (typed t w st h v) (λ r. frame_words i st h v (word.Sign sign.Open ∷ type_word t ∷ r))
led_typed i t w st h v = led_when i (wants w t) (Fixed (word.Sign sign.Close) [] (Casting t st h v)) _ (λ k. λ r. refl)

led_opened : (i : Signature) (w : Want) (x : CWordToken) (st : List Frame) (h : Purpose) (v : Past) → Led i (opened w x st h v) (λ r. frame_words i st h v (word.Sign sign.Open ∷ x ∷ r))
led_opened i w (word.Type container.I64) st h v = led_typed i I64 w st h v
led_opened i w (word.Type container.U64) st h v = led_typed i U64 w st h v
led_opened i w (word.Op Sub) st h v = led_when i (wants w I64) (Need (Only I64) (InNeg ∷ st) h v) _ (λ k. λ r. refl)
led_opened i w x st h v = led_need i Any x (First w ∷ st) h v

led_subscripted : (i : Signature) (a : CArray) (t : CWord) (st : List Frame) (h : Purpose) (v : Past) (it : Array) → array_at (parameters_of i) a ≡ Some it → Led i (subscripted a t st h v it) (λ r. frame_words i st h v (word.Sign sign.Open ∷ type_word t ∷ word.Sign sign.Close ∷ word.Array a ∷ r))
led_subscripted i a t st h v it e =
    led_when i (same_type (word_of it.container) t) (Fixed (word.Sign sign.OpenSquare) [] (Need (Only I64) (InElement a ∷ st) h v)) _
    (λ k. λ r. ap (λ x. frame_words i st h v (word.Sign sign.Open ∷ x ∷ word.Sign sign.Close ∷ word.Array a ∷ word.Sign sign.OpenSquare ∷ r))
    (ap read_of e ∙ ap type_word (type_is (word_of it.container) t k)))

led_casting : (i : Signature) (t : CWord) (x : CWordToken) (st : List Frame) (h : Purpose) (v : Past) → Led i (casting (parameters_of i) t x st h v) (λ r. frame_words i st h v (word.Sign sign.Open ∷ type_word t ∷ word.Sign sign.Close ∷ x ∷ r))
led_casting i t (word.Array a) st h v = led_some i (array_at (parameters_of i) a) (subscripted a t st h v) _ (λ it e. led_subscripted i a t st h v it e)
led_casting i t x st h v = led_need i (Only (other t)) x (InCast t ∷ st) h v

led_operator : (i : Signature) (o : COp) (e : Exp) (t : CWord) (st : List Frame) (h : Purpose) (v : Past) → Led i (with_operator o e t st h v) (λ r. frame_words i st h v (exp_words (parameters_of i) e (word.Op o ∷ r)))
led_operator i o e t (First w ∷ st) h v = led_when i (wants w t) _ _ (λ k. led_some i (right_type o t) (λ u. Need (Only u) (InBinary o e t u ∷ st) h v) _ (λ u m. λ r. refl))
led_operator i o e t _ h v = tt

led_relation : (i : Signature) (p : CRel) (e : Exp) (t : CWord) (st : List Frame) (h : Purpose) (v : Past) → Led i (with_relation p e t st h v) (λ r. frame_words i st h v (exp_words (parameters_of i) e (word.Rel p ∷ r)))
led_relation i p e t (First w ∷ st) h v = λ r. refl
led_relation i p e t _ h v = tt

led_test : (i : Signature) (w : Want) (p : CRel) (a : Exp) (s : CWord) (e : Exp) (st : List Frame) (h : Purpose) (v : Past) → Led i (close_test (Compare p a e) st h v) (λ r. frame_words i (InTest w p a s ∷ st) h v (exp_words (parameters_of i) e (word.Sign sign.Close ∷ r)))
led_test i w p a s e (InCast I64 ∷ st) h v = led_give i (Truth (Compare p a e)) I64 st h v
led_test i w p a s e _ h v = tt

led_close : (i : Signature) (e : Exp) (t : CWord) (st : List Frame) (h : Purpose) (v : Past) → Led i (with_close e t st h v) (λ r. frame_words i st h v (exp_words (parameters_of i) e (word.Sign sign.Close ∷ r)))
led_close i e t (InNeg ∷ st) h v = led_give i (Neg e) I64 st h v
led_close i e t (InBinary o a s u ∷ st) h v = led_give i (Binary o a e) s st h v
led_close i e t (InTest w p a s ∷ st) h v = led_test i w p a s e st h v
led_close i e t (InElse p a b s x u ∷ st) h v = led_give i (Choose (Compare p a b) x e) u st h v
led_close i e t _ h v = tt

led_question : (i : Signature) (e : Exp) (st : List Frame) (h : Purpose) (v : Past) → Led i (with_question e st h v) (λ r. frame_words i st h v (exp_words (parameters_of i) e (word.Sign sign.Question ∷ r)))
led_question i e (InTest w p a s ∷ st) h v = λ r. refl
led_question i e _ h v = tt

led_colon : (i : Signature) (e : Exp) (t : CWord) (st : List Frame) (h : Purpose) (v : Past) → Led i (with_colon e t st h v) (λ r. frame_words i st h v (exp_words (parameters_of i) e (word.Sign sign.Colon ∷ r)))
led_colon i e t (InThen p a b s ∷ st) h v = λ r. refl
led_colon i e t _ h v = tt

led_placed : (i : Signature) (e : Exp) (h : Purpose) (v : Past) → Led i (placed (parameters_of i) e h v) (λ r. frame_words i [] h v (exp_words (parameters_of i) e (word.Sign sign.CloseSquare ∷ r)))
led_placed i e (PlaceOf a) v = λ r. refl
led_placed i e _ v = tt

led_element : (i : Signature) (a : CArray) (e : Exp) (st : List Frame) (h : Purpose) (v : Past) (it : Array) → Led i (element (parameters_of i) a e st h v it) (λ r. frame_words i (InElement a ∷ st) h v (exp_words (parameters_of i) e (word.Sign sign.CloseSquare ∷ r)))
led_element i a e st h v it = led_give i (Element a e) (word_of it.container) st h v

led_square : (i : Signature) (e : Exp) (st : List Frame) (h : Purpose) (v : Past) → Led i (with_square (parameters_of i) e st h v) (λ r. frame_words i st h v (exp_words (parameters_of i) e (word.Sign sign.CloseSquare ∷ r)))
led_square i e (InElement a ∷ st) h v = led_some i (array_at (parameters_of i) a) (element (parameters_of i) a e st h v) _ (λ it m. led_element i a e st h v it)
led_square i e [] h v = led_placed i e h v
led_square i e _ h v = tt

-- a statement behind others
pub behind_words : (i : Signature) (b : Block) (s : Sta) (r : Words) → block_words (parameters_of i) (behind b s) r ≡ block_words (parameters_of i) b (sta_words (parameters_of i) s r)
behind_words i Done s r = refl
behind_words i (Next x b) s r = ap (λ l. sta_words (parameters_of i) x l) (behind_words i b s r)

led_then : (i : Signature) (s : Sta) (v : Past) → Led i (and_then s v) (λ r. past_words i v (sta_words (parameters_of i) s r))
led_then i s v = λ r. ap (λ l. header_words i (variable_words 0 v.words l)) (behind_words i v.done s r)

led_ended : (i : Signature) (e : Exp) (h : Purpose) (v : Past) → Led i (ended e h v) (λ r. frame_words i [] h v (exp_words (parameters_of i) e (word.Sign sign.Semicolon ∷ r)))
led_ended i e (ValueOf k t) v = led_then i (Set k e) v
led_ended i e (ElementOf a x) v = led_then i (Store a x e) v
led_ended i e _ v = tt

led_semicolon : (i : Signature) (e : Exp) (st : List Frame) (h : Purpose) (v : Past) → Led i (with_semicolon e st h v) (λ r. frame_words i st h v (exp_words (parameters_of i) e (word.Sign sign.Semicolon ∷ r)))
led_semicolon i e [] h v = led_ended i e h v
led_semicolon i e _ h v = tt

led_have : (i : Signature) (e : Exp) (t : CWord) (x : CWordToken) (st : List Frame) (h : Purpose) (v : Past) → Led i (have (parameters_of i) e t x st h v) (λ r. frame_words i st h v (exp_words (parameters_of i) e (x ∷ r)))
led_have i e t (word.Op o) st h v = led_operator i o e t st h v
led_have i e t (word.Rel p) st h v = led_relation i p e t st h v
led_have i e t (word.Sign sign.Close) st h v = led_close i e t st h v
led_have i e t (word.Sign sign.CloseSquare) st h v = led_square i e st h v
led_have i e t (word.Sign sign.Question) st h v = led_question i e st h v
led_have i e t (word.Sign sign.Colon) st h v = led_colon i e t st h v
led_have i e t (word.Sign sign.Semicolon) st h v = led_semicolon i e st h v
led_have i e t _ st h v = tt

led_within : (i : Signature) (x : CWordToken) (v : Past) → Led i (within (parameters_of i) x v) (λ r. past_words i v (x ∷ r))
led_within i (word.Var k) v = led_some i (slice_get v.words k) (λ t. Fixed (word.Sign sign.Assign) [] (Need (Only t) [] (ValueOf k t) v)) _ (λ t e. λ r. refl)
led_within i (word.Array a) v = led_when i (is_stored (parameters_of i) a) (Fixed (word.Sign sign.OpenSquare) [] (Need (Only I64) [] (PlaceOf a) v)) _ (λ k. λ r. refl)
led_within i (word.Keyword keyword.Return) v = λ r. refl
led_within i (word.Sign sign.CloseBrace) v = led_when i (last_is_return v.done) (Whole v) _ (λ k. λ r. refl)
led_within i _ v = tt

led_status : (i : Signature) (x : CWordToken) (v : Past) → Led i (status x v) (λ r. past_words i v (word.Keyword keyword.Return ∷ word.Macro macro.I32 ∷ word.Sign sign.Open ∷ x ∷ r))
led_status i (word.Number n) v = led_when i (nat_lt n (2 ^ 31)) (Fixed (word.Sign sign.Close) (word.Sign sign.Semicolon ∷ []) (and_then (Return n) v)) _ (λ k. led_then i (Return n) v)
led_status i _ v = tt

-- one more variable
one_variable : (k : ℕ) (words : List CWord) (t : CWord) (r : Words) → variable_words k (words ++ t ∷ []) r ≡ variable_words k words (start_words t (word.Var (k + length words)) r)
one_variable k [] t r = let e : k ≡ k + 0 = omega arith in ap (λ n. start_words t (word.Var n) r) e
one_variable k (u ∷ words) t r =
    let e : suc k + length words ≡ k + suc (length words) = omega arith in
    ap (λ l. start_words u (word.Var k) l) (one_variable (suc k) words t r ∙ ap (λ n. variable_words (suc k) words (start_words t (word.Var n) r)) e)

led_declaring : (i : Signature) (t : CWord) (words : List CWord) → Led i (declaring t words) (λ r. header_words i (variable_words 0 words (type_word t ∷ r)))
led_declaring i t words =
    let e : 0 + length words ≡ length words = omega arith in
    led_when i (nat_lt (suc (length words)) (2 ^ 32))
    (Fixed (word.Var (length words)) (word.Sign sign.Assign ∷ word.Macro (macro_of t) ∷ word.Sign sign.Open ∷ word.Number 0 ∷ word.Sign sign.Close ∷ word.Sign sign.Semicolon ∷ []) (Declare (words ++ t ∷ []))) _
    (λ k. λ r. ap (header_words i) (one_variable 0 words t r ∙ ap (λ n. variable_words 0 words (start_words t (word.Var n) r)) e))

led_declare : (i : Signature) (x : CWordToken) (words : List CWord) → Led i (declare (parameters_of i) x words) (λ r. header_words i (variable_words 0 words (x ∷ r)))
led_declare i (word.Type container.I64) words = led_declaring i I64 words
led_declare i (word.Type container.U64) words = led_declaring i U64 words
led_declare i x words = led_within i x (begin words)

led_owe : (i : Signature) (w : CWordToken) (ws : Words) (q : State) (f : Words → Words) → Led i (Fixed w ws q) f → Led i (owe ws q) (λ r. f (w ∷ r))
led_owe i w [] q f h = h
led_owe i w (x ∷ ws) q f h = h

-- each step reads its word
pub led_step : (i : Signature) (q : State) (x : CWordToken) (f : Words → Words) → Led i q f → Led i (step (parameters_of i) q x) (λ r. f (x ∷ r))
led_step i (Fixed w ws q) x f h = led_when i (same_word w x) (owe ws q) _ (λ k. led_along i (owe ws q) (λ r. f (w ∷ r)) (λ r. f (x ∷ r)) (λ r. ap (λ y. f (y ∷ r)) (same_word_is w x k)) (led_owe i w ws q f h))
led_step i (Declare words) x f h = led_along i (declare (parameters_of i) x words) _ (λ r. f (x ∷ r)) (λ r. h (x ∷ r)) (led_declare i x words)
led_step i (Within v) x f h = led_along i (within (parameters_of i) x v) _ (λ r. f (x ∷ r)) (λ r. h (x ∷ r)) (led_within i x v)
led_step i (Status v) x f h = led_along i (status x v) _ (λ r. f (x ∷ r)) (λ r. h (x ∷ r)) (led_status i x v)
led_step i (Need w st p v) x f h = led_along i (need w x st p v) _ (λ r. f (x ∷ r)) (λ r. h (x ∷ r)) (led_need i w x st p v)
led_step i (Digits t st p v) x f h = led_along i (digits t x st p v) _ (λ r. f (x ∷ r)) (λ r. h (x ∷ r)) (led_digits i t x st p v)
led_step i (Opened w st p v) x f h = led_along i (opened w x st p v) _ (λ r. f (x ∷ r)) (λ r. h (x ∷ r)) (led_opened i w x st p v)
led_step i (Casting t st p v) x f h = led_along i (casting (parameters_of i) t x st p v) _ (λ r. f (x ∷ r)) (λ r. h (x ∷ r)) (led_casting i t x st p v)
led_step i (Have e t st p v) x f h = led_along i (have (parameters_of i) e t x st p v) _ (λ r. f (x ∷ r)) (λ r. h (x ∷ r)) (led_have i e t x st p v)
led_step i (Whole p) x f h = tt
led_step i Stuck x f h = tt
