-- The layout of a program is a text of it.
use Rattle.std.proofs.Common.{◌≡◌, ℕ, zero, suc, Bool, true, not, ◌&&◌, nat_lt, ◌^◌, List, [], ◌∷◌, ◌++◌, codes, decimal, arith, refl, subst}
use Rattle.std.specs.Prelude.{is_some, Some, slice_get}
use Rattle.std.proofs.lemmas.Bool.{and_parts}
use Rattle.std.proofs.lemmas.Fmt.{decimal_digit}
use Rattle.num_type.specs.declared.container.Container.{Container}
use Rattle.num_type.specs.declared.container.Container.TheVariants as container
use Rattle.c_tree.specs.declared.tree.Counter.{Counter}
use Rattle.c_tree.specs.declared.tree.CounterKind.TheVariants as counter
use Rattle.c_tree.specs.declared.tree.CArray.{CArray}
use Rattle.c_tree.specs.declared.tree.CWord.{CWord}
use Rattle.c_tree.specs.declared.tree.CWord.TheVariants.{I64, U64}
use Rattle.c_tree.specs.declared.tree.CRel.{CRel}
use Rattle.c_tree.specs.declared.tree.CRel.TheVariants as rel
use Rattle.c_tree.specs.declared.tree.COp.{COp}
use Rattle.c_tree.specs.declared.tree.COp.TheVariants as op
use Rattle.c_tree.specs.Tree.{Exp, Signed, Unsigned, Var, Count, Element, Cast, Truth, Neg, Binary, Choose, Test, Compare, Sta, Set, Store, If, IfElse, For, While, Break, Continue, Return, Block, Done, Next}
use Rattle.c_tree.specs.Names.{array_at, word_of, is_const}
use Rattle.c_tree.specs.declared.array_names.Arrays.{Arrays}
use Rattle.c_tree.specs.Texts.{array_text, read_text, word_text, container_text, rel_text, op_text, var_text, letter_of, counter_text, macro_text}
use Rattle.c_tree.specs.Spelling.{Texts, spell_constant, spell, spell_test, spell_for, spell_sta, spell_block}
use Rattle.c_tree.specs.Layout.{constant_text, exp_text, test_text, indent, start_text, limit_text, step_text, for_text, head_text, sta_text, block_text}
use Rattle.c_tree.specs.CText.{is_word}
use Rattle.c_tree.specs.WellFormed.{Scope, type_of_exp, is_test, is_one_type, is_declared, has_type, is_fit, are_fit}
use Rattle.c_tree.proofs.Lexing.{Spaced, Ends, laid, after_blank, single, apart, word, number, decimal_name_bytes}
use Rattle.c_tree.proofs.Declared.{AllWords, Found, found}
use Rattle.c_tree.proofs.Typed.{given_part, negated_part, cast_part, element_parts, same_parts, operator_parts, choose_parts}

pub blank : {texts : Texts} → {bytes : List ℕ} → Spaced texts bytes → Spaced texts (32 ∷ bytes)
blank = after_blank 32 refl

pub newline : {texts : Texts} → {bytes : List ℕ} → Spaced texts bytes → Spaced texts (10 ∷ bytes)
newline = after_blank 10 refl

pub opens : {texts : Texts} → {bytes : List ℕ} → Spaced texts bytes → Spaced (codes "(" ∷ texts) (40 ∷ bytes)
opens = single 40 refl (λ b. refl)

pub closes : {texts : Texts} → {bytes : List ℕ} → Spaced texts bytes → Spaced (codes ")" ∷ texts) (41 ∷ bytes)
closes = single 41 refl (λ b. refl)

pub semicolon : {texts : Texts} → {bytes : List ℕ} → Spaced texts bytes → Spaced (codes ";" ∷ texts) (59 ∷ bytes)
semicolon = single 59 refl (λ b. refl)

pub begins : {texts : Texts} → {bytes : List ℕ} → Spaced texts bytes → Spaced (codes "{" ∷ texts) (123 ∷ bytes)
begins = single 123 refl (λ b. refl)

pub ends : {texts : Texts} → {bytes : List ℕ} → Spaced texts bytes → Spaced (codes "}" ∷ texts) (125 ∷ bytes)
ends = single 125 refl (λ b. refl)

pub takes : {texts : Texts} → {bytes : List ℕ} → Spaced texts bytes → Spaced (codes "=" ∷ texts) (61 ∷ 32 ∷ bytes)
takes = apart (codes "=") refl refl

-- ---- single tokens

pub word_is_word : (w : CWord) → is_word (word_text w) ≡ true
word_is_word I64 = refl
word_is_word U64 = refl

pub container_is_word : (c : Container) → is_word (container_text c) ≡ true
container_is_word container.I8 = refl
container_is_word container.I16 = refl
container_is_word container.I32 = refl
container_is_word container.I64 = refl
container_is_word container.U8 = refl
container_is_word container.U16 = refl
container_is_word container.U32 = refl
container_is_word container.U64 = refl

counter_is_word : (c : Counter) → is_word (counter_text c) ≡ true
counter_is_word c =
    elim c.kind as (λ k. is_word (letter_of k ++ decimal c.number) ≡ true)
    [ counter.Group ↦ decimal_name_bytes c.number | counter.Barrier ↦ decimal_name_bytes c.number | counter.Source ↦ decimal_name_bytes c.number | counter.Turn ↦ decimal_name_bytes c.number ]

op_laid : (o : COp) → {texts : Texts} → {bytes : List ℕ} → Spaced texts bytes → Spaced (op_text o ∷ texts) (op_text o ++ 32 ∷ bytes)
op_laid op.Add = apart (codes "+") refl refl
op_laid op.Sub = apart (codes "-") refl refl
op_laid op.Mul = apart (codes "*") refl refl
op_laid op.And = apart (codes "&") refl refl
op_laid op.Or = apart (codes "|") refl refl
op_laid op.Xor = apart (codes "^") refl refl
op_laid op.Shl = apart (codes "<<") refl refl
op_laid op.Shr = apart (codes ">>") refl refl

rel_laid : (r : CRel) → {texts : Texts} → {bytes : List ℕ} → Spaced texts bytes → Spaced (rel_text r ∷ texts) (rel_text r ++ 32 ∷ bytes)
rel_laid rel.Eq = apart (codes "==") refl refl
rel_laid rel.Ne = apart (codes "!=") refl refl
rel_laid rel.Lt = apart (codes "<") refl refl
rel_laid rel.Le = apart (codes "<=") refl refl
rel_laid rel.Gt = apart (codes ">") refl refl
rel_laid rel.Ge = apart (codes ">=") refl refl

pub constant_laid : (w : CWord) (n : ℕ) → {texts : Texts} → {bytes : List ℕ} → Spaced texts bytes → Spaced (spell_constant (macro_text w) n texts) (constant_text w n ++ bytes)
constant_laid I64 n {bytes} s =
    laid (codes "INT64_C") (codes "(" ∷ decimal n ∷ codes ")" ∷ []) bytes (word (codes "INT64_C") refl refl (opens (number n refl (closes s))))
constant_laid U64 n {bytes} s =
    laid (codes "UINT64_C") (codes "(" ∷ decimal n ∷ codes ")" ∷ []) bytes (word (codes "UINT64_C") refl refl (opens (number n refl (closes s))))

-- a constant of one digit, as the layout writes it
pub digit_laid : (d : ℕ) (text : List ℕ) → decimal d ≡ text → {texts : Texts} → {bytes : List ℕ} → Spaced texts bytes → Spaced (spell_constant (macro_text I64) d texts) (codes "INT64_C(" ++ (text ++ codes ")") ++ bytes)
digit_laid d text e {texts} {bytes} s =
    subst (λ t. Spaced (spell_constant (macro_text I64) d texts) (codes "INT64_C(" ++ (t ++ codes ")") ++ bytes)) e (constant_laid I64 d s)

zero_laid : {texts : Texts} → {bytes : List ℕ} → Spaced texts bytes → Spaced (spell_constant (macro_text I64) 0 texts) (codes "INT64_C(0)" ++ bytes)
zero_laid = digit_laid 0 (codes "0") (decimal_digit 0 (omega arith))

one_laid : {texts : Texts} → {bytes : List ℕ} → Spaced texts bytes → Spaced (spell_constant (macro_text I64) 1 texts) (codes "INT64_C(1)" ++ bytes)
one_laid = digit_laid 1 (codes "1") (decimal_digit 1 (omega arith))

-- ---- expressions

element_laid : (all : Arrays) (x : CArray) → Found all x → (text bytes : List ℕ) → {texts : Texts} → Spaced texts (text ++ 93 ∷ bytes) → Spaced (codes "(" ∷ read_text all x ∷ codes ")" ∷ array_text all x ∷ codes "[" ∷ texts) (codes "(" ++ read_text all x ++ codes ")" ++ array_text all x ++ codes "[" ++ text ++ codes "]" ++ bytes)
element_laid all x it text bytes h =
    let w = word_text (word_of it.array.container) in
    let n = it.array.name in
    rw it.stands (laid (codes "(") (w ∷ codes ")" ∷ n ∷ codes "[" ∷ text ∷ codes "]" ∷ []) bytes
    (opens (word w (word_is_word _) refl (closes (word n it.name refl (single 91 refl (λ b. refl) h))))))

mutual
  pub exp_laid : (s : Scope) → AllWords s.arrays → (e : Exp) → is_some (type_of_exp s e) ≡ true → {texts : Texts} → {bytes : List ℕ} → Ends bytes → Spaced texts bytes → Spaced (spell s.arrays e texts) (exp_text s.arrays e ++ bytes)
  exp_laid s words (Signed n) h behind x = constant_laid I64 n x
  exp_laid s words (Unsigned n) h behind x = constant_laid U64 n x
  exp_laid s words (Var k) h behind x = word (var_text k) (decimal_name_bytes k) behind x
  exp_laid s words (Count c) h behind x = word (counter_text c) (counter_is_word c) behind x
  exp_laid s words (Element array at) h {bytes} behind x =
      let part = element_parts (array_at s.arrays array) (type_of_exp s at) h in
      element_laid s.arrays array (found s.arrays words array part.0) (exp_text s.arrays at) bytes
      (exp_laid s words at part.1 refl (single 93 refl (λ b. refl) x))
  exp_laid s words (Cast to e) h {bytes} behind x =
      laid (codes "(") (word_text to ∷ codes ")" ∷ exp_text s.arrays e ∷ []) bytes
      (opens (word (word_text to) (word_is_word to) refl (closes (exp_laid s words e (cast_part to _ h) behind x))))
  exp_laid s words (Truth t) h {bytes} behind x =
      laid (codes "(int64_t)(") (test_text s.arrays t ∷ codes ")" ∷ []) bytes
      (opens (word (codes "int64_t") refl refl (closes (opens (test_laid s words t (given_part _ I64 h) refl (closes x))))))
  exp_laid s words (Neg e) h {bytes} behind x =
      laid (codes "(-") (exp_text s.arrays e ∷ codes ")" ∷ []) bytes
      (opens (single 45 refl (λ b. refl) (exp_laid s words e (negated_part _ h) refl (closes x))))
  exp_laid s words (Binary o a b) h {bytes} behind x =
      let part = operator_parts o (type_of_exp s a) (type_of_exp s b) h in
      laid (codes "(") (exp_text s.arrays a ∷ codes " " ∷ op_text o ∷ codes " " ∷ exp_text s.arrays b ∷ codes ")" ∷ []) bytes
      (opens (exp_laid s words a part.0 refl (blank (op_laid o (exp_laid s words b part.1 refl (closes x))))))
  exp_laid s words (Choose t a b) h {bytes} behind x =
      let part = choose_parts (is_test s t) (is_one_type (type_of_exp s a) (type_of_exp s b)) (type_of_exp s a) h in
      let arms = same_parts (type_of_exp s a) (type_of_exp s b) part.1 in
      laid (codes "(") (test_text s.arrays t ∷ codes " ? " ∷ exp_text s.arrays a ∷ codes " : " ∷ exp_text s.arrays b ∷ codes ")" ∷ []) bytes
      (opens (test_laid s words t part.0 refl (blank (apart (codes "?") refl refl (exp_laid s words a arms.0 refl
      (blank (apart (codes ":") refl refl (exp_laid s words b arms.1 refl (closes x)))))))))

  pub test_laid : (s : Scope) → AllWords s.arrays → (t : Test) → is_test s t ≡ true → {texts : Texts} → {bytes : List ℕ} → Ends bytes → Spaced texts bytes → Spaced (spell_test s.arrays t texts) (test_text s.arrays t ++ bytes)
  test_laid s words (Compare r a b) h {bytes} behind x =
      let part = same_parts (type_of_exp s a) (type_of_exp s b) h in
      laid (exp_text s.arrays a) (codes " " ∷ rel_text r ∷ codes " " ∷ exp_text s.arrays b ∷ []) bytes
      (exp_laid s words a part.0 refl (blank (rel_laid r (exp_laid s words b part.1 behind x))))

-- ---- statements

indented : (depth : ℕ) → {texts : Texts} → {bytes : List ℕ} → Spaced texts bytes → Spaced texts (indent depth ++ bytes)
indented zero x = x
indented (suc n) x = blank (blank (indented n x))

-- the head of an if or a while
head_laid : (s : Scope) → AllWords s.arrays → (w : List ℕ) → is_word w ≡ true → (t : Test) → is_test s t ≡ true → (bytes : List ℕ) → {texts : Texts} → Spaced texts bytes → Spaced (w ∷ codes "(" ∷ spell_test s.arrays t (codes ")" ∷ codes "{" ∷ texts)) (head_text s.arrays w t ++ bytes)
head_laid s words w is t h bytes x =
    laid w (codes " (" ∷ test_text s.arrays t ∷ codes ") {\n" ∷ []) bytes
    (word w is refl (blank (opens (test_laid s words t h refl (closes (blank (begins (newline x))))))))

for_laid : (c : Counter) (count : ℕ) (bytes : List ℕ) → {texts : Texts} → Spaced texts bytes → Spaced (spell_for c count (codes "{" ∷ texts)) (for_text c count ++ bytes)
for_laid c count bytes x =
    let name = counter_text c in
    let is = counter_is_word c in
    laid (start_text c) (limit_text c count ∷ step_text c ∷ []) bytes
    (laid (codes "for (") (name ∷ codes " = INT64_C(0); " ∷ []) _ (word (codes "for") refl refl (blank (opens
    (word name is refl (blank (takes (zero_laid (semicolon (blank
    (laid name (codes " < " ∷ constant_text I64 count ∷ codes "; " ∷ []) _
    (word name is refl (blank (apart (codes "<") refl refl (constant_laid I64 count (semicolon (blank
    (laid name (codes " = (" ∷ name ∷ codes " + INT64_C(1))) {\n" ∷ []) bytes
    (word name is refl (blank (takes (opens (word name is refl (blank (apart (codes "+") refl refl
    (one_laid (closes (closes (blank (begins (newline x)))))))))))))))))))))))))))))))

-- a store, by its array, and by what stands for the subscript and the value
store_laid : (s : Scope) → AllWords s.arrays → (array : CArray) → Found s.arrays array → (depth : ℕ) (at value : Exp) → is_some (type_of_exp s at) ≡ true → is_some (type_of_exp s value) ≡ true → (bytes : List ℕ) → {texts : Texts} → Spaced texts bytes → Spaced (spell_sta s.arrays (Store array at value) texts) (sta_text s.arrays depth (Store array at value) ++ bytes)
store_laid s words array it depth at value h k bytes x =
    let n = it.array.name in
    let c = container_text it.array.container in
    let sub = exp_text s.arrays at in
    rw it.stands (laid (indent depth) ((n ++ codes "[" ++ sub ++ codes "] = ") ∷ codes "(" ∷ c ∷ codes ")" ∷ exp_text s.arrays value ∷ codes ";\n" ∷ []) bytes
    (indented depth (laid n (codes "[" ∷ sub ∷ codes "] = " ∷ []) _ (word n it.name refl (single 91 refl (λ b. refl)
    (exp_laid s words at h refl (single 93 refl (λ b. refl) (blank (takes (opens (word c (container_is_word _) refl (closes
    (exp_laid s words value k refl (semicolon (newline x)))))))))))))))

mutual
  pub sta_laid : (s : Scope) → AllWords s.arrays → (loop : Bool) (depth : ℕ) (y : Sta) → is_fit s loop y ≡ true → {texts : Texts} → {bytes : List ℕ} → Spaced texts bytes → Spaced (spell_sta s.arrays y texts) (sta_text s.arrays depth y ++ bytes)
  sta_laid s words loop depth (Set k value) h {bytes} x =
      let part = same_parts (slice_get s.words k) (type_of_exp s value) h in
      laid (indent depth) (var_text k ∷ codes " = " ∷ exp_text s.arrays value ∷ codes ";\n" ∷ []) bytes
      (indented depth (word (var_text k) (decimal_name_bytes k) refl (blank (takes (exp_laid s words value part.1 refl (semicolon (newline x)))))))
  sta_laid s words loop depth (Store array at value) h {bytes} x =
      let part = and_parts (not (is_const array) && is_some (array_at s.arrays array)) (has_type s at I64 && is_some (type_of_exp s value)) h in
      let left = and_parts (not (is_const array)) (is_some (array_at s.arrays array)) part.0 in
      let right = and_parts (has_type s at I64) (is_some (type_of_exp s value)) part.1 in
      store_laid s words array (found s.arrays words array left.1) depth at value (same_parts (type_of_exp s at) (Some I64) right.0).0 right.1 bytes x
  sta_laid s words loop depth (If t body) h {bytes} x =
      let part = and_parts (is_test s t) (are_fit s loop body) h in
      laid (indent depth) (head_text s.arrays (codes "if") t ∷ block_text s.arrays (suc depth) body ∷ indent depth ∷ codes "}\n" ∷ []) bytes
      (indented depth (head_laid s words (codes "if") refl t part.0 _
      (block_laid s words loop (suc depth) body part.1 (indented depth (ends (newline x))))))
  sta_laid s words loop depth (IfElse t body other) h {bytes} x =
      let part = and_parts (is_test s t) (are_fit s loop body && are_fit s loop other) h in
      let arms = and_parts (are_fit s loop body) (are_fit s loop other) part.1 in
      laid (indent depth) (head_text s.arrays (codes "if") t ∷ block_text s.arrays (suc depth) body ∷ indent depth ∷ codes "} else {\n" ∷ block_text s.arrays (suc depth) other ∷ indent depth ∷ codes "}\n" ∷ []) bytes
      (indented depth (head_laid s words (codes "if") refl t part.0 _
      (block_laid s words loop (suc depth) body arms.0 (indented depth (ends (blank (word (codes "else") refl refl (blank (begins (newline
      (block_laid s words loop (suc depth) other arms.1 (indented depth (ends (newline x))))))))))))))
  sta_laid s words loop depth (For c count body) h {bytes} x =
      let part = and_parts (is_declared s c && nat_lt count (2 ^ 63)) (are_fit s true body) h in
      laid (indent depth) (for_text c count ∷ block_text s.arrays (suc depth) body ∷ indent depth ∷ codes "}\n" ∷ []) bytes
      (indented depth (for_laid c count _ (block_laid s words true (suc depth) body part.1 (indented depth (ends (newline x))))))
  sta_laid s words loop depth (While t body) h {bytes} x =
      let part = and_parts (is_test s t) (are_fit s true body) h in
      laid (indent depth) (head_text s.arrays (codes "while") t ∷ block_text s.arrays (suc depth) body ∷ indent depth ∷ codes "}\n" ∷ []) bytes
      (indented depth (head_laid s words (codes "while") refl t part.0 _
      (block_laid s words true (suc depth) body part.1 (indented depth (ends (newline x))))))
  sta_laid s words loop depth Break h {bytes} x =
      laid (indent depth) (codes "break;\n" ∷ []) bytes (indented depth (word (codes "break") refl refl (semicolon (newline x))))
  sta_laid s words loop depth Continue h {bytes} x =
      laid (indent depth) (codes "continue;\n" ∷ []) bytes (indented depth (word (codes "continue") refl refl (semicolon (newline x))))
  sta_laid s words loop depth (Return status) h {bytes} x =
      laid (indent depth) (codes "return " ∷ codes "INT32_C(" ∷ decimal status ∷ codes ");\n" ∷ []) bytes
      (indented depth (word (codes "return") refl refl (blank (word (codes "INT32_C") refl refl (opens (number status refl (closes (semicolon (newline x)))))))))

  pub block_laid : (s : Scope) → AllWords s.arrays → (loop : Bool) (depth : ℕ) (b : Block) → are_fit s loop b ≡ true → {texts : Texts} → {bytes : List ℕ} → Spaced texts bytes → Spaced (spell_block s.arrays b texts) (block_text s.arrays depth b ++ bytes)
  block_laid s words loop depth Done h x = x
  block_laid s words loop depth (Next y more) h {bytes} x =
      let part = and_parts (is_fit s loop y) (are_fit s loop more) h in
      laid (sta_text s.arrays depth y) (block_text s.arrays depth more ∷ []) bytes
      (sta_laid s words loop depth y part.0 (block_laid s words loop depth more part.1 x))
