-- The machine reads every program.
use Rattle.std.proofs.Common.{◌≡◌, ℕ, suc, ◌+◌, ◌<◌, ◌^◌, Bool, true, false, not, ◌&&◌, nat_lt, List, [], ◌∷◌, ◌++◌, length, refl, sym, ap, ◌∙◌, arith, subst, append_assoc}
use Rattle.std.specs.Prelude.{Option, Some, is_some, slice_get}
use Rattle.std.proofs.lemmas.Bool.{and_parts}
use Rattle.num_type.specs.declared.container.Container.TheVariants as container
use Rattle.c_tree.specs.declared.tree.Counter.{Counter}
use Rattle.c_tree.specs.declared.tree.CounterKind.{CounterKind}
use Rattle.c_tree.specs.declared.tree.CounterKind.TheVariants as counter
use Rattle.c_tree.specs.declared.tree.CArray.TheVariants as array
use Rattle.c_tree.specs.declared.tree.CWord.{CWord}
use Rattle.c_tree.specs.declared.tree.CWord.TheVariants.{I64, U64}
use Rattle.c_tree.specs.declared.array_names.Array.{Array}
use Rattle.c_tree.specs.Names.{array_at, word_of, is_const, input_arrays, output_arrays}
use Rattle.c_tree.specs.Tree.{Signature, Exp, Signed, Unsigned, Var, Count, Element, Cast, Truth, Neg, Binary, Choose, Compare, Sta, Set, Store, If, IfElse, For, While, Break, Continue, Return, Block, Done, Next, Program}
use Rattle.c_tree.specs.WellFormed.{Scope, scope_of, is_declared, type_of_exp, is_test, has_type, is_fit, are_fit, last_is_return, IsWellFormed}
use Rattle.c_grammar.specs.declared.word.CKeyword.TheVariants as keyword
use Rattle.c_grammar.specs.declared.word.CSign.TheVariants as sign
use Rattle.c_grammar.specs.declared.word.CWordToken.{CWordToken}
use Rattle.c_grammar.specs.declared.word.CWordToken.TheVariants as word
use Rattle.c_grammar.specs.Equal.{same_word}
use Rattle.c_grammar.specs.Words.{parameters_of}
use Rattle.c_grammar.specs.Sentence.{Words, type_word, macro_of, read_of, store_of, exp_words, test_words, sta_words, block_words, array_words, output_words, input_words, parameter_words, header_words, start_words, variable_words, words_of}
use Rattle.c_grammar.specs.Live.{is_built_statement, are_built, IsBuilt, IsSentence}
use Rattle.c_grammar.specs.Machine.{Want, Any, Only, same_type, wants, other, Purpose, ValueOf, PlaceOf, ElementOf, Frame, First, InCast, InElement, InNeg, InBinary, InTest, InThen, InElse, Past, State, Fixed, Declare, Within, Need, Digits, Opened, Casting, Whole, when, if_some, owe, give, subscripted, element, right_type, behind, and_then, made, is_stored, begin, steps, start, state}
use Rattle.c_grammar.proofs.Alike.{same_word_self}
use Rattle.c_grammar.proofs.Inverted

pub same_type_self : (t : CWord) → same_type t t ≡ true
same_type_self I64 = refl
same_type_self U64 = refl

pub on : (i : Signature) (b : Bool) (q : State) (ws : Words) → b ≡ true → steps i (when b q) ws ≡ steps i q ws
on i b q ws h = ap (λ x. steps i (when x q) ws) h

pub on_some : {A : Type 0} → (i : Signature) (o : Option A) (f : A → State) (t : A) (ws : Words) → o ≡ Some t → steps i (if_some o f) ws ≡ steps i (f t) ws
on_some i o f t ws h = ap (λ x. steps i (if_some x f) ws) h

-- the words that must come
pub owed : (i : Signature) (ws : Words) (q : State) (r : Words) → steps i (owe ws q) (ws ++ r) ≡ steps i q r
owed i [] q r = refl
owed i (w ∷ ws) q r = on i (same_word w w) (owe ws q) (ws ++ r) (same_word_self w) ∙ owed i ws q r

-- what a program of the part that is built declares
abbrev pub scope : Signature → List CWord → Scope
scope i words = scope_of (made i (begin words))

no_counter : (i : Signature) (words : List CWord) (c : Counter) → is_declared (scope i words) c ≡ true → ⊥
no_counter i words c h = none c.kind h
  where
    below : (n : ℕ) → nat_lt n 0 ≡ true → ⊥
    below n h = grind arith

    none : (kind : CounterKind) → nat_lt c.number ((scope i words).counters kind) ≡ true → ⊥
    none counter.Group h = below c.number h
    none counter.Barrier h = below c.number h
    none counter.Source h = below c.number h
    none counter.Turn h = below c.number h

after_open : (i : Signature) (e : Exp) (w : Want) (st : List Frame) (h : Purpose) (v : Past) (r : Words) → steps i (Opened w st h v) (exp_words (parameters_of i) e r) ≡ steps i (Need Any (First w ∷ st) h v) (exp_words (parameters_of i) e r)
after_open i (Signed n) w st h v r = refl
after_open i (Unsigned n) w st h v r = refl
after_open i (Var k) w st h v r = refl
after_open i (Count c) w st h v r = refl
after_open i (Element a at) w st h v r = refl
after_open i (Cast to e) w st h v r = refl
after_open i (Truth t) w st h v r = refl
after_open i (Neg e) w st h v r = refl
after_open i (Binary o a b) w st h v r = refl
after_open i (Choose t a b) w st h v r = refl

after_cast : (i : Signature) (e : Exp) (t : CWord) (st : List Frame) (h : Purpose) (v : Past) (r : Words) → steps i (Casting t st h v) (exp_words (parameters_of i) e r) ≡ steps i (Need (Only (other t)) (InCast t ∷ st) h v) (exp_words (parameters_of i) e r)
after_cast i (Signed n) t st h v r = refl
after_cast i (Unsigned n) t st h v r = refl
after_cast i (Var k) t st h v r = refl
after_cast i (Count c) t st h v r = refl
after_cast i (Element a at) t st h v r = refl
after_cast i (Cast to e) t st h v r = refl
after_cast i (Truth u) t st h v r = refl
after_cast i (Neg e) t st h v r = refl
after_cast i (Binary o a b) t st h v r = refl
after_cast i (Choose u a b) t st h v r = refl

-- a type behind a parenthesis, and the parenthesis that closes it
type_read : (i : Signature) (t : CWord) (w : Want) (st : List Frame) (h : Purpose) (v : Past) (r : Words) → wants w t ≡ true → steps i (Opened w st h v) (type_word t ∷ word.Sign sign.Close ∷ r) ≡ steps i (Casting t st h v) r
type_read i I64 w st h v r k = on i (wants w I64) (Fixed (word.Sign sign.Close) [] (Casting I64 st h v)) (word.Sign sign.Close ∷ r) k
type_read i U64 w st h v r k = on i (wants w U64) (Fixed (word.Sign sign.Close) [] (Casting U64 st h v)) (word.Sign sign.Close ∷ r) k

wanted : (w : Want) (s t : CWord) → s ≡ t → wants w t ≡ true → wants w s ≡ true
wanted w s t e k = ap (wants w) e ∙ k

pub expression : (i : Signature) (e : Exp) (t : CWord) (w : Want) (st : List Frame) (h : Purpose) (v : Past) (r : Words) → wants w t ≡ true → type_of_exp (scope i v.words) e ≡ Some t
    → steps i (Need w st h v) (exp_words (parameters_of i) e r) ≡ steps i (give e t st h v) r
expression i (Signed n) t w st h v r k f =
    let it = Inverted.given_is (nat_lt n (2 ^ 63)) I64 t f in
    on i (wants w I64) (Fixed (word.Sign sign.Open) [] (Digits I64 st h v)) (word.Sign sign.Open ∷ word.Number n ∷ word.Sign sign.Close ∷ r) (wanted w I64 t it.type_is k)
    ∙ on i (nat_lt n (2 ^ 63)) (Fixed (word.Sign sign.Close) [] (give (Signed n) I64 st h v)) (word.Sign sign.Close ∷ r) it.holds
    ∙ ap (λ x. steps i (give (Signed n) x st h v) r) it.type_is
expression i (Unsigned n) t w st h v r k f =
    let it = Inverted.given_is (nat_lt n (2 ^ 64)) U64 t f in
    on i (wants w U64) (Fixed (word.Sign sign.Open) [] (Digits U64 st h v)) (word.Sign sign.Open ∷ word.Number n ∷ word.Sign sign.Close ∷ r) (wanted w U64 t it.type_is k)
    ∙ on i (nat_lt n (2 ^ 64)) (Fixed (word.Sign sign.Close) [] (give (Unsigned n) U64 st h v)) (word.Sign sign.Close ∷ r) it.holds
    ∙ ap (λ x. steps i (give (Unsigned n) x st h v) r) it.type_is
expression i (Var n) t w st h v r k f =
    on_some i (slice_get v.words n) (λ s. when (wants w s) (give (Var n) s st h v)) t r f ∙ on i (wants w t) (give (Var n) t st h v) r k
expression i (Count c) t w st h v r k f = absurd (no_counter i v.words c (Inverted.given_is (is_declared (scope i v.words) c) I64 t f).holds)
expression i (Element a at) t w st h v r k f =
    let all = parameters_of i in
    let it = Inverted.element_is (array_at all a) (type_of_exp (scope i v.words) at) t f in
    let u = word_of it.array.container in
    let inner = exp_words all at (word.Sign sign.CloseSquare ∷ r) in
    ap (λ x. steps i (Opened w st h v) (read_of x ∷ word.Sign sign.Close ∷ word.Array a ∷ word.Sign sign.OpenSquare ∷ inner)) it.stands
    ∙ type_read i u w st h v (word.Array a ∷ word.Sign sign.OpenSquare ∷ inner) (wanted w u t it.type_is k)
    ∙ on_some i (array_at all a) (subscripted a u st h v) it.array (word.Sign sign.OpenSquare ∷ inner) it.stands
    ∙ on i (same_type u u) (Fixed (word.Sign sign.OpenSquare) [] (Need (Only I64) (InElement a ∷ st) h v)) (word.Sign sign.OpenSquare ∷ inner) (same_type_self u)
    ∙ expression i at I64 (Only I64) (InElement a ∷ st) h v (word.Sign sign.CloseSquare ∷ r) refl it.subscript
    ∙ on_some i (array_at all a) (element (parameters_of i) a at st h v) it.array r it.stands
    ∙ ap (λ x. steps i (give (Element a at) x st h v) r) it.type_is
expression i (Cast to e) t w st h v r k f =
    let it = Inverted.cast_is to (type_of_exp (scope i v.words) e) t f in
    type_read i to w st h v (exp_words (parameters_of i) e r) (wanted w to t it.type_is k)
    ∙ after_cast i e to st h v r
    ∙ expression i e (other to) (Only (other to)) (InCast to ∷ st) h v r (same_type_self (other to)) it.operand
    ∙ ap (λ x. steps i (give (Cast to e) x st h v) r) it.type_is
expression i (Truth (Compare p a b)) t w st h v r k f =
    let it = Inverted.given_is (is_test (scope i v.words) (Compare p a b)) I64 t f in
    let both = Inverted.one_type_is (type_of_exp (scope i v.words) a) (type_of_exp (scope i v.words) b) it.holds in
    type_read i I64 w st h v (word.Sign sign.Open ∷ test_words (parameters_of i) (Compare p a b) (word.Sign sign.Close ∷ r)) (wanted w I64 t it.type_is k)
    ∙ after_open i a (Only U64) (InCast I64 ∷ st) h v (word.Rel p ∷ exp_words (parameters_of i) b (word.Sign sign.Close ∷ r))
    ∙ expression i a both.type Any (First (Only U64) ∷ InCast I64 ∷ st) h v (word.Rel p ∷ exp_words (parameters_of i) b (word.Sign sign.Close ∷ r)) refl both.left_is
    ∙ expression i b both.type (Only both.type) (InTest (Only U64) p a both.type ∷ InCast I64 ∷ st) h v (word.Sign sign.Close ∷ r) (same_type_self both.type) both.right_is
    ∙ ap (λ x. steps i (give (Truth (Compare p a b)) x st h v) r) it.type_is
expression i (Neg e) t w st h v r k f =
    let it = Inverted.negated_is (type_of_exp (scope i v.words) e) t f in
    on i (wants w I64) (Need (Only I64) (InNeg ∷ st) h v) (exp_words (parameters_of i) e (word.Sign sign.Close ∷ r)) (wanted w I64 t it.type_is k)
    ∙ expression i e I64 (Only I64) (InNeg ∷ st) h v (word.Sign sign.Close ∷ r) refl it.operand
    ∙ ap (λ x. steps i (give (Neg e) x st h v) r) it.type_is
expression i (Binary o a b) t w st h v r k f =
    let it = Inverted.operator_is o (type_of_exp (scope i v.words) a) (type_of_exp (scope i v.words) b) t f in
    let last = exp_words (parameters_of i) b (word.Sign sign.Close ∷ r) in
    after_open i a w st h v (word.Op o ∷ last)
    ∙ expression i a t Any (First w ∷ st) h v (word.Op o ∷ last) refl it.left_is
    ∙ on i (wants w t) (if_some (right_type o t) (λ s. Need (Only s) (InBinary o a t s ∷ st) h v)) last k
    ∙ on_some i (right_type o t) (λ s. Need (Only s) (InBinary o a t s ∷ st) h v) it.right last it.fits
    ∙ expression i b it.right (Only it.right) (InBinary o a t it.right ∷ st) h v (word.Sign sign.Close ∷ r) (same_type_self it.right) it.right_is
expression i (Choose (Compare p a b) x y) t w st h v r k f =
    let all = parameters_of i in
    let it = Inverted.choice_is (is_test (scope i v.words) (Compare p a b)) (type_of_exp (scope i v.words) x) (type_of_exp (scope i v.words) y) t f in
    let both = Inverted.one_type_is (type_of_exp (scope i v.words) a) (type_of_exp (scope i v.words) b) it.holds in
    let last = exp_words all y (word.Sign sign.Close ∷ r) in
    let arms = exp_words all x (word.Sign sign.Colon ∷ last) in
    after_open i a w st h v (word.Rel p ∷ exp_words all b (word.Sign sign.Question ∷ arms))
    ∙ expression i a both.type Any (First w ∷ st) h v (word.Rel p ∷ exp_words all b (word.Sign sign.Question ∷ arms)) refl both.left_is
    ∙ expression i b both.type (Only both.type) (InTest w p a both.type ∷ st) h v (word.Sign sign.Question ∷ arms) (same_type_self both.type) both.right_is
    ∙ expression i x t w (InThen p a b both.type ∷ st) h v (word.Sign sign.Colon ∷ last) k it.left_is
    ∙ expression i y t (Only t) (InElse p a b both.type x t ∷ st) h v (word.Sign sign.Close ∷ r) (same_type_self t) it.right_is

-- ---- statements

store_self : (i : Signature) (w : CWordToken) (q : State) (r : Words) → steps i (Fixed (word.Sign sign.Assign) (word.Sign sign.Open ∷ w ∷ word.Sign sign.Close ∷ []) q) (word.Sign sign.Assign ∷ word.Sign sign.Open ∷ w ∷ word.Sign sign.Close ∷ r) ≡ steps i q r
store_self i w q r = owed i (word.Sign sign.Assign ∷ word.Sign sign.Open ∷ w ∷ word.Sign sign.Close ∷ []) q r

statement : (i : Signature) (s : Sta) (v : Past) (r : Words) → is_built_statement s ≡ true → is_fit (scope i v.words) false s ≡ true → steps i (Within v) (sta_words (parameters_of i) s r) ≡ steps i (and_then s v) r
statement i (Set n e) v r b f =
    let it = Inverted.one_type_is (slice_get v.words n) (type_of_exp (scope i v.words) e) f in
    let last = exp_words (parameters_of i) e (word.Sign sign.Semicolon ∷ r) in
    on_some i (slice_get v.words n) (λ t. Fixed (word.Sign sign.Assign) [] (Need (Only t) [] (ValueOf n t) v)) it.type (word.Sign sign.Assign ∷ last) it.left_is
    ∙ expression i e it.type (Only it.type) [] (ValueOf n it.type) v (word.Sign sign.Semicolon ∷ r) (same_type_self it.type) it.right_is
statement i (Store a at e) v r b f =
    let all = parameters_of i in
    let s = scope i v.words in
    let part = and_parts (not (is_const a) && is_some (array_at all a)) (has_type s at I64 && is_some (type_of_exp s e)) f in
    let right = and_parts (has_type s at I64) (is_some (type_of_exp s e)) part.1 in
    let sub = Inverted.one_type_is (type_of_exp s at) (Some I64) right.0 in
    let value = Inverted.known_is (type_of_exp s e) right.1 in
    let one : sub.type ≡ I64 = Inverted.some_same (sym sub.right_is) in
    let last = exp_words all e (word.Sign sign.Semicolon ∷ r) in
    let between = word.Sign sign.CloseSquare ∷ word.Sign sign.Assign ∷ word.Sign sign.Open ∷ store_of (array_at all a) ∷ word.Sign sign.Close ∷ last in
    on i (is_stored (parameters_of i) a) (Fixed (word.Sign sign.OpenSquare) [] (Need (Only I64) [] (PlaceOf a) v)) (word.Sign sign.OpenSquare ∷ exp_words all at between) part.0
    ∙ expression i at I64 (Only I64) [] (PlaceOf a) v between refl (sub.left_is ∙ ap (λ t. Some t) one)
    ∙ store_self i (store_of (array_at all a)) (Need Any [] (ElementOf a at) v) last
    ∙ expression i e value.type Any [] (ElementOf a at) v (word.Sign sign.Semicolon ∷ r) refl value.is
statement i (Return n) v r b f =
    on i (nat_lt n (2 ^ 31)) (Fixed (word.Sign sign.Close) (word.Sign sign.Semicolon ∷ []) (and_then (Return n) v)) (word.Sign sign.Close ∷ word.Sign sign.Semicolon ∷ r) f
statement i (If t body) v r b f = absurd cc
statement i (IfElse t body more) v r b f = absurd cc
statement i (For c count body) v r b f = absurd cc
statement i (While t body) v r b f = absurd cc
statement i Break v r b f = absurd cc
statement i Continue v r b f = absurd cc

-- a block behind another
abbrev pub joined : Block → Block → Block
joined Done b = b
joined (Next s a) b = Next s (joined a b)

joined_none : (a : Block) → joined a Done ≡ a
joined_none Done = refl
joined_none (Next s a) = ap (Next s) (joined_none a)

joined_next : (a : Block) (s : Sta) (b : Block) → joined (behind a s) b ≡ joined a (Next s b)
joined_next Done s b = refl
joined_next (Next x a) s b = ap (Next x) (joined_next a s b)

abbrev past : List CWord → Block → Past
past words done = record { words = words; done = done }

statements : (i : Signature) (b : Block) (words : List CWord) (done : Block) (r : Words) → are_built b ≡ true → are_fit (scope i words) false b ≡ true → steps i (Within (past words done)) (block_words (parameters_of i) b r) ≡ steps i (Within (past words (joined done b))) r
statements i Done words done r b f = ap (λ d. steps i (Within (past words d)) r) (sym (joined_none done))
statements i (Next s more) words done r b f =
    let built = and_parts (is_built_statement s) (are_built more) b in
    let fit = and_parts (is_fit (scope i words) false s) (are_fit (scope i words) false more) f in
    statement i s (past words done) (block_words (parameters_of i) more r) built.0 fit.0
    ∙ statements i more words (behind done s) r built.1 fit.1
    ∙ ap (λ d. steps i (Within (past words d)) r) (joined_next done s more)

-- ---- declarations

-- what stands behind the type of a variable
abbrev variable_front : List CWord → CWord → Words
variable_front words t =
    word.Var (length words) ∷ word.Sign sign.Assign ∷ word.Macro (macro_of t) ∷ word.Sign sign.Open ∷ word.Number 0 ∷ word.Sign sign.Close ∷ word.Sign sign.Semicolon ∷ []

few_words : (words : List CWord) → suc (length words) < 2 ^ 32 → nat_lt (suc (length words)) (2 ^ 32) ≡ true
few_words words h = grind arith

declared : (i : Signature) (t : CWord) (words : List CWord) (r : Words) → suc (length words) < 2 ^ 32 → steps i (Declare words) (start_words t (word.Var (length words)) r) ≡ steps i (Declare (words ++ t ∷ [])) r
declared i I64 words r h =
    on i (nat_lt (suc (length words)) (2 ^ 32)) (owe (variable_front words I64) (Declare (words ++ I64 ∷ []))) (variable_front words I64 ++ r) (few_words words h)
    ∙ owed i (variable_front words I64) (Declare (words ++ I64 ∷ [])) r
declared i U64 words r h =
    on i (nat_lt (suc (length words)) (2 ^ 32)) (owe (variable_front words U64) (Declare (words ++ U64 ∷ []))) (variable_front words U64 ++ r) (few_words words h)
    ∙ owed i (variable_front words U64) (Declare (words ++ U64 ∷ [])) r

pub length_one_more : {A : Type 0} → (xs : List A) (x : A) → length (xs ++ x ∷ []) ≡ suc (length xs)
length_one_more [] x = refl
length_one_more (y ∷ xs) x = ap (λ n. suc n) (length_one_more xs x)

variables : (i : Signature) (words more : List CWord) (k : ℕ) (r : Words) → length words ≡ k → k + length more < 2 ^ 32 → steps i (Declare words) (variable_words k more r) ≡ steps i (Declare (words ++ more)) r
variables i words [] k r e h = ap (λ l. steps i (Declare l) r) (sym (append_none words))
  where
    append_none : (xs : List CWord) → xs ++ [] ≡ xs
    append_none [] = refl
    append_none (x ∷ xs) = ap (λ l. x ∷ l) (append_none xs)
variables i words (t ∷ more) k r e h =
    ap (λ n. steps i (Declare words) (start_words t (word.Var n) (variable_words (suc k) more r))) (sym e)
    ∙ declared i t words (variable_words (suc k) more r) (let m : length words ≡ k = e in omega arith)
    ∙ variables i (words ++ t ∷ []) more (suc k) r (length_one_more words t ∙ ap (λ n. suc n) e) (omega arith)
    ∙ ap (λ l. steps i (Declare l) r) (append_assoc words (t ∷ []) more)

-- the statements begin with no type
begun : (i : Signature) (words : List CWord) (b : Block) (r : Words) → steps i (Declare words) (block_words (parameters_of i) b (word.Sign sign.CloseBrace ∷ r)) ≡ steps i (Within (begin words)) (block_words (parameters_of i) b (word.Sign sign.CloseBrace ∷ r))
begun i words Done r = refl
begun i words (Next (Set n e) more) r = refl
begun i words (Next (Store a at e) more) r = refl
begun i words (Next (If t body) more) r = refl
begun i words (Next (IfElse t body other) more) r = refl
begun i words (Next (For c count body) more) r = refl
begun i words (Next (While t body) more) r = refl
begun i words (Next Break more) r = refl
begun i words (Next Continue more) r = refl
begun i words (Next (Return n) more) r = refl

-- ---- the header

outputs_append : (k : ℕ) (xs : List Array) (q r : Words) → output_words k xs (q ++ r) ≡ output_words k xs q ++ r
outputs_append k [] q r = refl
outputs_append k (a ∷ xs) q r = ap (λ l. word.Sign sign.Comma ∷ array_words (array.Output k) a l) (outputs_append (suc k) xs q r)

inputs_append : (k : ℕ) (xs : List Array) (q r : Words) → input_words k xs (q ++ r) ≡ input_words k xs q ++ r
inputs_append k [] q r = refl
inputs_append k (a ∷ xs) q r = ap (λ l. word.Sign sign.Comma ∷ word.Keyword keyword.Const ∷ array_words (array.Input k) a l) (inputs_append (suc k) xs q r)

parameters_append : (xs ys : List Array) (q r : Words) → parameter_words xs ys (q ++ r) ≡ parameter_words xs ys q ++ r
parameters_append [] [] q r = refl
parameters_append [] (a ∷ ys) q r = ap (λ l. array_words (array.Output 0) a l) (outputs_append 1 ys q r)
parameters_append (a ∷ xs) ys q r =
    ap (λ l. word.Keyword keyword.Const ∷ array_words (array.Input 0) a (input_words 1 xs l)) (outputs_append 0 ys q r)
    ∙ ap (λ l. word.Keyword keyword.Const ∷ array_words (array.Input 0) a l) (inputs_append 1 xs (output_words 0 ys q) r)

pub header_append : (i : Signature) (r : Words) → header_words i r ≡ header_words i [] ++ r
header_append i r =
    ap (λ l. word.Type container.I32 ∷ word.Function ∷ word.Sign sign.Open ∷ l)
    (parameters_append (input_arrays i) (output_arrays i) (word.Sign sign.Close ∷ word.Sign sign.OpenBrace ∷ []) r)

-- ---- a whole program

made_is_read : (i : Signature) (v : Past) → are_built v.done ≡ true → IsWellFormed (made i v) → state i (words_of (made i v)) ≡ Whole v
made_is_read i v b h =
    let all = parameters_of i in
    let body = block_words all v.done (word.Sign sign.CloseBrace ∷ []) in
    let rest = variable_words 0 v.words body in
    ap (λ l. steps i (start i) l) (header_append i rest)
    ∙ owed i (header_words i []) (Declare []) rest
    ∙ variables i [] v.words 0 body refl (let few = h.declarations.few_words in omega arith)
    ∙ begun i v.words v.done []
    ∙ statements i v.done v.words Done (word.Sign sign.CloseBrace ∷ []) b h.statements
    ∙ on i (last_is_return v.done) (Whole v) [] h.returns

-- the variables and the statements of a program
abbrev pub past_of : Program → Past
past_of p = record { words = p.words; done = p.body }

pub is_made : (i : Signature) (p : Program) → p.interface ≡ i → IsBuilt p → p ≡ made i (past_of p)
is_made i p e b = λ k. record { interface = e k; arrays = b.arrays k; words = p.words; groups = b.groups k; barriers = b.barriers k; sources = b.sources k; turns = b.turns k; body = p.body }

pub complete : (i : Signature) (p : Program) (ws : Words) → IsSentence i p ws → state i ws ≡ Whole (past_of p)
complete i p ws h =
    let e = is_made i p h.interface h.built in
    let formed : IsWellFormed (made i (past_of p)) = subst IsWellFormed e h.well_formed in
    ap (state i) (sym h.words) ∙ ap (λ q. state i (words_of q)) e ∙ made_is_read i (past_of p) h.built.body formed
