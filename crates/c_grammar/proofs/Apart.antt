-- The words of a program are those of no other one.
use Rattle.std.proofs.Common.{◌≡◌, ℕ, Bool, true, false, ◌∷◌, refl, sym, ap, ◌∙◌}
use Rattle.std.specs.Prelude.{Option, Some, None}
use Rattle.c_tree.specs.declared.tree.Counter.{Counter}
use Rattle.c_tree.specs.declared.tree.CArray.{CArray}
use Rattle.c_tree.specs.declared.tree.CWord.{CWord}
use Rattle.c_tree.specs.declared.tree.CWord.TheVariants.{I64, U64}
use Rattle.c_tree.specs.declared.tree.COp.{COp}
use Rattle.c_tree.specs.declared.tree.COp.TheVariants as op
use Rattle.c_tree.specs.declared.array_names.Array.{Array}
use Rattle.c_tree.specs.declared.array_names.Arrays.{Arrays}
use Rattle.c_tree.specs.Names.{array_at, word_of}
use Rattle.c_tree.specs.Tree.{Exp, Signed, Unsigned, Var, Count, Element, Cast, Truth, Neg, Binary, Choose, Test, Compare, Sta, Set, Store, If, IfElse, For, While, Break, Continue, Return, Block, Done, Next}
use Rattle.c_grammar.specs.declared.word.CKeyword.TheVariants as keyword
use Rattle.c_grammar.specs.declared.word.CSign.TheVariants as sign
use Rattle.c_grammar.specs.declared.word.CWordToken.{CWordToken}
use Rattle.c_grammar.specs.declared.word.CWordToken.TheVariants as word
use Rattle.c_grammar.specs.Sentence.{Words, type_word, read_of, exp_words, test_words, for_words, sta_words, block_words}

-- whether an expression may begin with it
is_first : Words → Bool
is_first (word.Macro m ∷ rest) = true
is_first (word.Var k ∷ rest) = true
is_first (word.Counter c ∷ rest) = true
is_first (word.Sign sign.Open ∷ rest) = true
is_first _ = false

first : (all : Arrays) (e : Exp) (r : Words) → is_first (exp_words all e r) ≡ true
unfolding is_first
first all (Signed n) r = refl
first all (Unsigned n) r = refl
first all (Var k) r = refl
first all (Count c) r = refl
first all (Element a at) r = refl
first all (Cast to e) r = refl
first all (Truth t) r = refl
first all (Neg e) r = refl
first all (Binary o a b) r = refl
first all (Choose t a b) r = refl

-- a word with which no expression begins
no_first : (all : Arrays) (e : Exp) (r ws : Words) → is_first ws ≡ false → ws ≡ exp_words all e r → ⊥
no_first all e r ws h k = let x : false ≡ true = sym h ∙ ap is_first k ∙ first all e r in absurd cc

type_first : (to : CWord) (ws : Words) → is_first (type_word to ∷ ws) ≡ false
unfolding is_first
type_first I64 ws = refl
type_first U64 ws = refl

read_first : (a : Option Array) (ws : Words) → is_first (read_of a ∷ ws) ≡ false
unfolding is_first
read_first None ws = refl
read_first (Some a) ws = type_first (word_of a.container) ws

minus_first : (ws : Words) → is_first (word.Op op.Sub ∷ ws) ≡ false
unfolding is_first
minus_first ws = refl

name_first : (a : CArray) (ws : Words) → is_first (word.Array a ∷ ws) ≡ false
unfolding is_first
name_first a ws = refl

pub type_same : (s t : CWord) → type_word s ≡ type_word t → s ≡ t
type_same I64 I64 h = refl
type_same I64 U64 h = absurd cc
type_same U64 I64 h = absurd cc
type_same U64 U64 h = refl

pub tail : {v w : CWordToken} → {r s : Words} → v ∷ r ≡ w ∷ s → r ≡ s
tail h = cc

pub head : {v w : CWordToken} → {r s : Words} → v ∷ r ≡ w ∷ s → v ≡ w
head h = cc

no_element : (x y : Arrays) (a : CArray) (at to_what : Exp) (to : CWord) (r s : Words) → exp_words x (Element a at) r ≡ exp_words y (Cast to to_what) s → ⊥
no_element x y a at e to r s h = no_first y e s _ (name_first a _) (tail (tail (tail h)))

no_truth : (x y : Arrays) (a : CArray) (at : Exp) (t : Test) (r s : Words) → exp_words x (Element a at) r ≡ exp_words y (Truth t) s → ⊥
no_truth x y a at t r s h = let g : word.Array a ≡ word.Sign sign.Open = head (tail (tail (tail h))) in absurd cc

no_test : (all : Arrays) (t : Test) (r ws : Words) → is_first ws ≡ false → ws ≡ test_words all t r → ⊥
no_test all (Compare p a b) r ws h k = no_first all a _ ws h k

minus_type : (x y : Arrays) (to : CWord) (e : Exp) (r s : Words) → type_word to ∷ r ≡ word.Op op.Sub ∷ exp_words y e (word.Sign sign.Close ∷ s) → ⊥
minus_type x y I64 e r s h = absurd cc
minus_type x y U64 e r s h = absurd cc

minus : (x y : Arrays) (a : Option Array) (e : Exp) (r s : Words) → read_of a ∷ r ≡ word.Op op.Sub ∷ exp_words y e (word.Sign sign.Close ∷ s) → ⊥
minus x y None e r s h = absurd cc
minus x y (Some a) e r s h = minus_type x y (word_of a.container) e r s h

mutual
  pub same : (x y : Arrays) (e f : Exp) (r s : Words) → exp_words x e r ≡ exp_words y f s → (e ≡ f) × (r ≡ s)
  same x y (Signed m) (Signed n) r s h = (cc, cc)
  same x y (Unsigned m) (Unsigned n) r s h = (cc, cc)
  same x y (Var j) (Var k) r s h = (cc, cc)
  same x y (Count c) (Count d) r s h = (cc, cc)
  same x y (Element a e) (Element b f) r s h =
      let it = same x y e f _ _ (tail (tail (tail (tail (tail h))))) in
      let name : a ≡ b = cc in
      (let g : e ≡ f = it.0 in cc, tail it.1)
  same x y (Element a e) (Cast to f) r s h = absurd (no_element x y a e f to r s h)
  same x y (Element a e) (Truth t) r s h = absurd (no_truth x y a e t r s h)
  same x y (Element a e) (Neg f) r s h = absurd (minus x y (array_at x a) f _ s (tail h))
  same x y (Element a e) (Binary o f g) r s h = absurd (no_first y f _ _ (read_first (array_at x a) _) (tail h))
  same x y (Element a e) (Choose t f g) r s h = absurd (no_test y t _ _ (read_first (array_at x a) _) (tail h))
  same x y (Cast to e) (Element b f) r s h = absurd (no_element y x b f e to s r (sym h))
  same x y (Cast to e) (Cast into f) r s h =
      let it = same x y e f r s (tail (tail (tail h))) in
      let name : to ≡ into = type_same to into (head (tail h)) in
      (let g : e ≡ f = it.0 in cc, it.1)
  same x y (Cast to e) (Truth t) r s h = absurd (no_cast x y e t r s (tail (tail (tail h))))
  same x y (Cast to e) (Neg f) r s h = absurd (minus_type x y to f _ s (tail h))
  same x y (Cast to e) (Binary o f g) r s h = absurd (no_first y f _ _ (type_first to _) (tail h))
  same x y (Cast to e) (Choose t f g) r s h = absurd (no_test y t _ _ (type_first to _) (tail h))
  same x y (Truth t) (Element b f) r s h = absurd (no_truth y x b f t s r (sym h))
  same x y (Truth t) (Cast to f) r s h = absurd (no_truth_cast x y t f r s (tail (tail (tail h))))
  same x y (Truth t) (Truth u) r s h =
      let it = same_test x y t u _ _ (tail (tail (tail (tail h)))) in
      (let g : t ≡ u = it.0 in cc, tail it.1)
  same x y (Truth t) (Neg f) r s h = absurd (minus_type x y I64 f _ s (tail h))
  same x y (Truth t) (Binary o f g) r s h = absurd (no_first y f _ _ (type_first I64 _) (tail h))
  same x y (Truth t) (Choose u f g) r s h = absurd (no_test y u _ _ (type_first I64 _) (tail h))
  same x y (Neg e) (Element b f) r s h = absurd (minus y x (array_at y b) e _ r (sym (tail h)))
  same x y (Neg e) (Cast to f) r s h = absurd (minus_type y x to e _ r (sym (tail h)))
  same x y (Neg e) (Truth t) r s h = absurd (minus_type y x I64 e _ r (sym (tail h)))
  same x y (Neg e) (Neg f) r s h =
      let it = same x y e f _ _ (tail (tail h)) in
      (let g : e ≡ f = it.0 in cc, tail it.1)
  same x y (Neg e) (Binary o f g) r s h = absurd (no_first y f _ _ (minus_first _) (tail h))
  same x y (Neg e) (Choose t f g) r s h = absurd (no_test y t _ _ (minus_first _) (tail h))
  same x y (Binary o a b) (Element c f) r s h = absurd (no_first x a _ _ (read_first (array_at y c) _) (sym (tail h)))
  same x y (Binary o a b) (Cast to f) r s h = absurd (no_first x a _ _ (type_first to _) (sym (tail h)))
  same x y (Binary o a b) (Truth t) r s h = absurd (no_first x a _ _ (type_first I64 _) (sym (tail h)))
  same x y (Binary o a b) (Neg f) r s h = absurd (no_first x a _ _ (minus_first _) (sym (tail h)))
  same x y (Binary o a b) (Binary p c d) r s h =
      let left = same x y a c _ _ (tail h) in
      let right = same x y b d _ _ (tail left.1) in
      let sign : o ≡ p = cc in
      (let g : a ≡ c = left.0 in let k : b ≡ d = right.0 in cc, tail right.1)
  same x y (Binary o a b) (Choose (Compare p c d) f g) r s h =
      let left = same x y a c _ _ (tail h) in
      let it : word.Op o ≡ word.Rel p = head left.1 in absurd cc
  same x y (Choose t a b) (Element c f) r s h = absurd (no_test x t _ _ (read_first (array_at y c) _) (sym (tail h)))
  same x y (Choose t a b) (Cast to f) r s h = absurd (no_test x t _ _ (type_first to _) (sym (tail h)))
  same x y (Choose t a b) (Truth u) r s h = absurd (no_test x t _ _ (type_first I64 _) (sym (tail h)))
  same x y (Choose t a b) (Neg f) r s h = absurd (no_test x t _ _ (minus_first _) (sym (tail h)))
  same x y (Choose t a b) (Binary o c d) r s h = absurd (no_binary x y t o c _ _ (tail h))
  same x y (Choose t a b) (Choose u c d) r s h =
      let test = same_test x y t u _ _ (tail h) in
      let left = same x y a c _ _ (tail test.1) in
      let right = same x y b d _ _ (tail left.1) in
      (let e : t ≡ u = test.0 in let g : a ≡ c = left.0 in let k : b ≡ d = right.0 in cc, tail right.1)
  same x y e f r s h = absurd cc

  pub same_test : (x y : Arrays) (t u : Test) (r s : Words) → test_words x t r ≡ test_words y u s → (t ≡ u) × (r ≡ s)
  same_test x y (Compare p a b) (Compare q c d) r s h =
      let left = same x y a c _ _ h in
      let right = same x y b d _ _ (tail left.1) in
      let sign : p ≡ q = cc in
      (let g : a ≡ c = left.0 in let k : b ≡ d = right.0 in cc, right.1)

  -- an expression in parentheses is no test in parentheses
  no_cast : (x y : Arrays) (e : Exp) (t : Test) (r s : Words) → exp_words x e r ≡ word.Sign sign.Open ∷ test_words y t (word.Sign sign.Close ∷ s) → ⊥
  no_cast x y (Element a e) t r s h = no_test y t _ _ (read_first (array_at x a) _) (tail h)
  no_cast x y (Cast to e) t r s h = no_test y t _ _ (type_first to _) (tail h)
  no_cast x y (Truth u) t r s h = no_test y t _ _ (type_first I64 _) (tail h)
  no_cast x y (Neg e) t r s h = no_test y t _ _ (minus_first _) (tail h)
  no_cast x y (Binary o a b) (Compare p c d) r s h =
      let left = same x y a c _ _ (tail h) in
      let it : word.Op o ≡ word.Rel p = head left.1 in absurd cc
  no_cast x y (Choose u a b) t r s h =
      let test = same_test x y u t _ _ (tail h) in
      let it : word.Sign sign.Question ≡ word.Sign sign.Close = head test.1 in absurd cc
  no_cast x y e t r s h = absurd cc

  no_truth_cast : (x y : Arrays) (t : Test) (e : Exp) (r s : Words) → word.Sign sign.Open ∷ test_words x t (word.Sign sign.Close ∷ r) ≡ exp_words y e s → ⊥
  no_truth_cast x y t (Element a e) r s h = no_test x t _ _ (read_first (array_at y a) _) (sym (tail h))
  no_truth_cast x y t (Cast to e) r s h = no_test x t _ _ (type_first to _) (sym (tail h))
  no_truth_cast x y t (Truth u) r s h = no_test x t _ _ (type_first I64 _) (sym (tail h))
  no_truth_cast x y t (Neg e) r s h = no_test x t _ _ (minus_first _) (sym (tail h))
  no_truth_cast x y (Compare p a b) (Binary o c d) r s h =
      let left = same x y a c _ _ (tail h) in
      let it : word.Rel p ≡ word.Op o = head left.1 in absurd cc
  no_truth_cast x y (Compare p a b) (Choose (Compare q c d) f g) r s h =
      let left = same x y a c _ _ (tail h) in
      let right = same x y b d _ _ (tail left.1) in
      let it : word.Sign sign.Close ≡ word.Sign sign.Question = head right.1 in absurd cc
  no_truth_cast x y t e r s h = absurd cc

  no_binary : (x y : Arrays) (t : Test) (o : COp) (c : Exp) (r s : Words) → test_words x t r ≡ exp_words y c (word.Op o ∷ s) → ⊥
  no_binary x y (Compare p a b) o c r s h =
      let left = same x y a c _ _ h in
      let it : word.Rel p ≡ word.Op o = head left.1 in absurd cc

-- ---- statements

-- whether an else may not be meant
pub no_else : Words → Bool
no_else (word.Keyword keyword.Else ∷ rest) = false
no_else _ = true

sta_no_else : (all : Arrays) (a : Sta) (r : Words) → no_else (sta_words all a r) ≡ true
unfolding no_else
sta_no_else all (Set k value) r = refl
sta_no_else all (Store a at value) r = refl
sta_no_else all (If t body) r = refl
sta_no_else all (IfElse t body other) r = refl
sta_no_else all (For c count body) r = refl
sta_no_else all (While t body) r = refl
sta_no_else all Break r = refl
sta_no_else all Continue r = refl
sta_no_else all (Return status) r = refl

block_no_else : (all : Arrays) (b : Block) (r : Words) → no_else (block_words all b (word.Sign sign.CloseBrace ∷ r)) ≡ true
unfolding no_else
block_no_else all Done r = refl
block_no_else all (Next a more) r = sta_no_else all a _

is_else : (r s : Words) → no_else r ≡ true → r ≡ word.Keyword keyword.Else ∷ s → ⊥
unfolding no_else
is_else r s h e = let x : true ≡ false = sym h ∙ ap no_else e in absurd cc

-- whether a brace closes
closing : Words → Bool
closing (word.Sign sign.CloseBrace ∷ rest) = true
closing _ = false

sta_closing : (all : Arrays) (a : Sta) (r : Words) → closing (sta_words all a r) ≡ false
unfolding closing
sta_closing all (Set k value) r = refl
sta_closing all (Store a at value) r = refl
sta_closing all (If t body) r = refl
sta_closing all (IfElse t body other) r = refl
sta_closing all (For c count body) r = refl
sta_closing all (While t body) r = refl
sta_closing all Break r = refl
sta_closing all Continue r = refl
sta_closing all (Return status) r = refl

no_closing : (all : Arrays) (a : Sta) (r s : Words) → word.Sign sign.CloseBrace ∷ s ≡ sta_words all a r → ⊥
unfolding closing
no_closing all a r s h = let x : true ≡ false = ap closing h ∙ sta_closing all a r in absurd cc

for_same : (c d : Counter) (m n : ℕ) (r s : Words) → for_words c m r ≡ for_words d n s → (c ≡ d) × (m ≡ n) × (r ≡ s)
for_same c d m n r s h = (cc, cc, cc)

mutual
  pub same_sta : (x y : Arrays) (a b : Sta) (r s : Words) → no_else r ≡ true → no_else s ≡ true → sta_words x a r ≡ sta_words y b s → (a ≡ b) × (r ≡ s)
  same_sta x y (Set j e) (Set k f) r s m n h =
      let it = same x y e f _ _ (tail (tail h)) in
      let name : j ≡ k = cc in
      (let g : e ≡ f = it.0 in cc, tail it.1)
  same_sta x y (Store a at e) (Store b into f) r s m n h =
      let sub = same x y at into _ _ (tail (tail h)) in
      let it = same x y e f _ _ (tail (tail (tail (tail (tail sub.1))))) in
      let name : a ≡ b = cc in
      (let g : at ≡ into = sub.0 in let k : e ≡ f = it.0 in cc, tail it.1)
  same_sta x y (If t a) (If u b) r s m n h =
      let test = same_test x y t u _ _ (tail (tail h)) in
      let it = same_block x y a b _ _ (tail (tail test.1)) in
      (let g : t ≡ u = test.0 in let k : a ≡ b = it.0 in cc, it.1)
  same_sta x y (If t a) (IfElse u b d) r s m n h =
      let test = same_test x y t u _ _ (tail (tail h)) in
      let it = same_block x y a b _ _ (tail (tail test.1)) in
      absurd (is_else r _ m it.1)
  same_sta x y (IfElse t a c) (If u b) r s m n h =
      let test = same_test x y t u _ _ (tail (tail h)) in
      let it = same_block x y a b _ _ (tail (tail test.1)) in
      absurd (is_else s _ n (sym it.1))
  same_sta x y (IfElse t a c) (IfElse u b d) r s m n h =
      let test = same_test x y t u _ _ (tail (tail h)) in
      let it = same_block x y a b _ _ (tail (tail test.1)) in
      let last = same_block x y c d _ _ (tail (tail it.1)) in
      (let g : t ≡ u = test.0 in let k : a ≡ b = it.0 in let l : c ≡ d = last.0 in cc, last.1)
  same_sta x y (For c j a) (For d k b) r s m n h =
      let front = for_same c d j k _ _ h in
      let it = same_block x y a b _ _ (tail front.2) in
      (let g : c ≡ d = front.0 in let l : j ≡ k = front.1 in let o : a ≡ b = it.0 in cc, it.1)
  same_sta x y (While t a) (While u b) r s m n h =
      let test = same_test x y t u _ _ (tail (tail h)) in
      let it = same_block x y a b _ _ (tail (tail test.1)) in
      (let g : t ≡ u = test.0 in let k : a ≡ b = it.0 in cc, it.1)
  same_sta x y Break Break r s m n h = (refl, cc)
  same_sta x y Continue Continue r s m n h = (refl, cc)
  same_sta x y (Return j) (Return k) r s m n h = (cc, cc)
  same_sta x y a b r s m n h = absurd cc

  pub same_block : (x y : Arrays) (a b : Block) (r s : Words) → block_words x a (word.Sign sign.CloseBrace ∷ r) ≡ block_words y b (word.Sign sign.CloseBrace ∷ s) → (a ≡ b) × (r ≡ s)
  same_block x y Done Done r s h = (refl, tail h)
  same_block x y Done (Next b more) r s h = absurd (no_closing y b _ _ h)
  same_block x y (Next a rest) Done r s h = absurd (no_closing x a _ _ (sym h))
  same_block x y (Next a rest) (Next b more) r s h =
      let it = same_sta x y a b _ _ (block_no_else x rest r) (block_no_else y more s) h in
      let last = same_block x y rest more r s it.1 in
      (let g : a ≡ b = it.0 in let k : rest ≡ more = last.0 in cc, last.1)
