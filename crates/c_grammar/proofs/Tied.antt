-- The texts of a well-formed program's words are its tokens.
use Rattle.std.proofs.Common.{◌≡◌, ◌∷◌, map, codes, decimal, refl, ap, ◌∙◌, arith}
use Rattle.std.specs.Prelude.{Option, Some, None}
use Rattle.std.proofs.lemmas.Fmt.{decimal_digit}
use Rattle.c_tree.specs.declared.tree.CArray.{CArray}
use Rattle.c_tree.specs.declared.tree.CWord.{CWord}
use Rattle.c_tree.specs.declared.tree.CWord.TheVariants.{I64, U64}
use Rattle.c_tree.specs.declared.array_names.Array.{Array}
use Rattle.c_tree.specs.declared.array_names.Arrays.{Arrays}
use Rattle.c_tree.specs.Names.{array_at, word_of}
use Rattle.c_tree.specs.Texts.{Text, word_text, container_text, rel_text, op_text, var_text, array_text, read_text, store_text, text_or_none}
use Rattle.c_tree.specs.Spelling.{Texts, spell, spell_test, spell_for, spell_sta, spell_block}
use Rattle.c_tree.specs.Tree.{Signature, Exp, Signed, Unsigned, Var, Count, Element, Cast, Truth, Neg, Binary, Choose, Test, Compare, Sta, Set, Store, If, IfElse, For, While, Break, Continue, Return, Block, Done, Next}
use Rattle.c_grammar.specs.declared.word.CSign.TheVariants as sign
use Rattle.c_grammar.specs.declared.word.CKeyword.TheVariants as keyword
use Rattle.c_grammar.specs.declared.word.CWordToken.{CWordToken}
use Rattle.c_grammar.specs.declared.word.CWordToken.TheVariants as word
use Rattle.c_grammar.specs.Words.{text_of}
use Rattle.c_grammar.specs.Sentence.{Words, type_word, read_of, store_of, exp_words, test_words, sta_words, block_words}

-- the text of a word where these arrays are declared
abbrev pub text_in : Signature → Arrays → CWordToken → Text
text_in i all (word.Array a) = array_text all a
text_in i all w = text_of i w

abbrev pub texts : Signature → Arrays → Words → Texts
texts i all = map (text_in i all)

type_tied : (i : Signature) (all : Arrays) (w : CWord) → text_in i all (type_word w) ≡ word_text w
type_tied i all I64 = refl
type_tied i all U64 = refl

read_tied : (i : Signature) (all : Arrays) (a : CArray) → text_in i all (read_of (array_at all a)) ≡ read_text all a
read_tied i all a = known (array_at all a)
  where
    known : (o : Option Array) → text_in i all (read_of o) ≡ text_or_none (λ a. word_text (word_of a.container)) o
    known None = refl
    known (Some a) = type_tied i all (word_of a.container)

store_tied : (i : Signature) (all : Arrays) (a : CArray) → text_in i all (store_of (array_at all a)) ≡ store_text all a
store_tied i all a = known (array_at all a)
  where
    known : (o : Option Array) → text_in i all (store_of o) ≡ text_or_none (λ a. container_text a.container) o
    known None = refl
    known (Some a) = refl

pub zero_text : decimal 0 ≡ codes "0"
zero_text = decimal_digit 0 (omega arith)

mutual
  exp_tied : (i : Signature) (all : Arrays) (e : Exp) (rest : Words) → texts i all (exp_words all e rest) ≡ spell all e (texts i all rest)
  exp_tied i all (Signed n) rest = refl
  exp_tied i all (Unsigned n) rest = refl
  exp_tied i all (Var k) rest = refl
  exp_tied i all (Count c) rest = refl
  exp_tied i all (Element a at) rest =
      ap (λ t. codes "(" ∷ t ∷ codes ")" ∷ array_text all a ∷ codes "[" ∷ texts i all (exp_words all at (word.Sign sign.CloseSquare ∷ rest))) (read_tied i all a)
      ∙ ap (λ l. codes "(" ∷ read_text all a ∷ codes ")" ∷ array_text all a ∷ codes "[" ∷ l) (exp_tied i all at (word.Sign sign.CloseSquare ∷ rest))
  exp_tied i all (Cast to e) rest =
      ap (λ t. codes "(" ∷ t ∷ codes ")" ∷ texts i all (exp_words all e rest)) (type_tied i all to)
      ∙ ap (λ l. codes "(" ∷ word_text to ∷ codes ")" ∷ l) (exp_tied i all e rest)
  exp_tied i all (Truth t) rest =
      ap (λ l. codes "(" ∷ word_text I64 ∷ codes ")" ∷ codes "(" ∷ l) (test_tied i all t (word.Sign sign.Close ∷ rest))
  exp_tied i all (Neg e) rest = ap (λ l. codes "(" ∷ codes "-" ∷ l) (exp_tied i all e (word.Sign sign.Close ∷ rest))
  exp_tied i all (Binary o a b) rest =
      ap (λ l. codes "(" ∷ l) (exp_tied i all a (word.Op o ∷ exp_words all b (word.Sign sign.Close ∷ rest)))
      ∙ ap (λ l. codes "(" ∷ spell all a (op_text o ∷ l)) (exp_tied i all b (word.Sign sign.Close ∷ rest))
  exp_tied i all (Choose t a b) rest =
      ap (λ l. codes "(" ∷ l) (test_tied i all t (word.Sign sign.Question ∷ exp_words all a (word.Sign sign.Colon ∷ exp_words all b (word.Sign sign.Close ∷ rest))))
      ∙ ap (λ l. codes "(" ∷ spell_test all t (codes "?" ∷ l)) (exp_tied i all a (word.Sign sign.Colon ∷ exp_words all b (word.Sign sign.Close ∷ rest)))
      ∙ ap (λ l. codes "(" ∷ spell_test all t (codes "?" ∷ spell all a (codes ":" ∷ l))) (exp_tied i all b (word.Sign sign.Close ∷ rest))

  test_tied : (i : Signature) (all : Arrays) (t : Test) (rest : Words) → texts i all (test_words all t rest) ≡ spell_test all t (texts i all rest)
  test_tied i all (Compare r a b) rest =
      exp_tied i all a (word.Rel r ∷ exp_words all b rest) ∙ ap (λ l. spell all a (rel_text r ∷ l)) (exp_tied i all b rest)

mutual
  sta_tied : (i : Signature) (all : Arrays) (a : Sta) (rest : Words) → texts i all (sta_words all a rest) ≡ spell_sta all a (texts i all rest)
  sta_tied i all (Set k value) rest = ap (λ l. var_text k ∷ codes "=" ∷ l) (exp_tied i all value (word.Sign sign.Semicolon ∷ rest))
  sta_tied i all (Store a at value) rest =
      let behind = word.Sign sign.Semicolon ∷ rest in
      ap (λ l. array_text all a ∷ codes "[" ∷ l) (exp_tied i all at (word.Sign sign.CloseSquare ∷ word.Sign sign.Assign ∷ word.Sign sign.Open ∷ store_of (array_at all a) ∷ word.Sign sign.Close ∷ exp_words all value behind))
      ∙ ap (λ t. array_text all a ∷ codes "[" ∷ spell all at (codes "]" ∷ codes "=" ∷ codes "(" ∷ t ∷ codes ")" ∷ texts i all (exp_words all value behind))) (store_tied i all a)
      ∙ ap (λ l. array_text all a ∷ codes "[" ∷ spell all at (codes "]" ∷ codes "=" ∷ codes "(" ∷ store_text all a ∷ codes ")" ∷ l)) (exp_tied i all value behind)
  sta_tied i all (If t body) rest =
      let behind = word.Sign sign.CloseBrace ∷ rest in
      ap (λ l. codes "if" ∷ codes "(" ∷ l) (test_tied i all t (word.Sign sign.Close ∷ word.Sign sign.OpenBrace ∷ block_words all body behind))
      ∙ ap (λ l. codes "if" ∷ codes "(" ∷ spell_test all t (codes ")" ∷ codes "{" ∷ l)) (block_tied i all body behind)
  sta_tied i all (IfElse t body other) rest =
      let behind = word.Sign sign.CloseBrace ∷ rest in
      let between = word.Sign sign.CloseBrace ∷ word.Keyword keyword.Else ∷ word.Sign sign.OpenBrace ∷ block_words all other behind in
      ap (λ l. codes "if" ∷ codes "(" ∷ l) (test_tied i all t (word.Sign sign.Close ∷ word.Sign sign.OpenBrace ∷ block_words all body between))
      ∙ ap (λ l. codes "if" ∷ codes "(" ∷ spell_test all t (codes ")" ∷ codes "{" ∷ l)) (block_tied i all body between)
      ∙ ap (λ l. codes "if" ∷ codes "(" ∷ spell_test all t (codes ")" ∷ codes "{" ∷ spell_block all body (codes "}" ∷ codes "else" ∷ codes "{" ∷ l))) (block_tied i all other behind)
  sta_tied i all (For c count body) rest =
      let behind = word.Sign sign.CloseBrace ∷ rest in
      ap (λ l. spell_for c count (codes "{" ∷ l)) (block_tied i all body behind)
  sta_tied i all (While t body) rest =
      let behind = word.Sign sign.CloseBrace ∷ rest in
      ap (λ l. codes "while" ∷ codes "(" ∷ l) (test_tied i all t (word.Sign sign.Close ∷ word.Sign sign.OpenBrace ∷ block_words all body behind))
      ∙ ap (λ l. codes "while" ∷ codes "(" ∷ spell_test all t (codes ")" ∷ codes "{" ∷ l)) (block_tied i all body behind)
  sta_tied i all Break rest = refl
  sta_tied i all Continue rest = refl
  sta_tied i all (Return status) rest = refl

  pub block_tied : (i : Signature) (all : Arrays) (b : Block) (rest : Words) → texts i all (block_words all b rest) ≡ spell_block all b (texts i all rest)
  block_tied i all Done rest = refl
  block_tied i all (Next a more) rest = sta_tied i all a (block_words all more rest) ∙ ap (λ l. spell_sta all a l) (block_tied i all more rest)
