-- The rows of an interface.
use Rattle.std.proofs.Common.{◌≡◌, ℕ, zero, suc, ◌+◌, Bool, true, false, ◌&&◌, List, [], ◌∷◌, ◌++◌, refl, sym, ap, ◌∙◌, arith}
use Rattle.std.specs.Prelude.{Option, Some, None, is_some, slice_get}
use Rattle.std.specs.List.{list_all}
use Rattle.std.proofs.lemmas.Bool.{false≢true}
use Rattle.num_type.specs.declared.container.Container.TheVariants as container
use Rattle.c_tree.specs.declared.tree.CArray.TheVariants as array
use Rattle.c_tree.specs.declared.tree.CRel.TheVariants as rel
use Rattle.c_tree.specs.declared.tree.COp.TheVariants as op
use Rattle.c_tree.specs.declared.array_names.Array.{Array}
use Rattle.c_tree.specs.Names.{input_arrays, output_arrays}
use Rattle.c_tree.specs.Texts.{Text, text_or_none, function_name}
use Rattle.c_tree.specs.Tree.{Signature}
use Rattle.c_tree.specs.WellFormed.{IsInterface}
use Rattle.c_grammar.specs.declared.word.CKeyword.TheVariants as keyword
use Rattle.c_grammar.specs.declared.word.CMacro.TheVariants as macro
use Rattle.c_grammar.specs.declared.word.CSign.TheVariants as sign
use Rattle.c_grammar.specs.declared.word.CWordToken.{CWordToken}
use Rattle.c_grammar.specs.declared.word.CWordToken.TheVariants as word
use Rattle.c_grammar.specs.Words.{text_of, IsToken}
use Rattle.c_word.specs.declared.fixed.TheConstants.{FIXED}
use Rattle.c_word.specs.declared.parameters.Side.{Side}
use Rattle.c_word.specs.declared.parameters.Side.TheVariants.{Input, Output}
use Rattle.c_word.specs.declared.table.WordTable.{WordTable}
use Rattle.c_word.specs.Numbered.{is_numbered}
use Rattle.c_word.specs.Fixed.{fixed_text}
use Rattle.c_word.specs.Table.{Found, Row, IsTableOf, found_in, nothing, with_word, with_rows, fixed_rows, array_of, array_rows}
use Rattle.c_word.proofs.Rows.{OneWord, AreTokens, In, only_rows, put_row, with_both, both_tokens, in_left, in_right}

-- ---- words with the same text beside every interface

is_fixed : CWordToken → Bool
is_fixed (word.Type c) = true
is_fixed (word.Macro m) = true
is_fixed (word.Keyword k) = true
is_fixed (word.Rel r) = true
is_fixed (word.Op o) = true
is_fixed (word.Sign s) = true
is_fixed _ = false

both_true : (a b : Bool) → (a && b) ≡ true → (a ≡ true) × (b ≡ true)
both_true true b h = (refl, h)
both_true false b h = absurd (false≢true h)

fixed_token : (i : Signature) (w : CWordToken) → is_fixed w ≡ true → IsToken i w × (text_of i w ≡ fixed_text w)
unfolding is_fixed
fixed_token i (word.Type c) h = (tt, refl)
fixed_token i (word.Macro m) h = (tt, refl)
fixed_token i (word.Keyword k) h = (tt, refl)
fixed_token i (word.Rel r) h = (tt, refl)
fixed_token i (word.Op o) h = (tt, refl)
fixed_token i (word.Sign s) h = (tt, refl)
fixed_token i word.Function h = absurd (false≢true h)
fixed_token i (word.Number n) h = absurd (false≢true h)
fixed_token i (word.Var k) h = absurd (false≢true h)
fixed_token i (word.Counter c) h = absurd (false≢true h)
fixed_token i (word.Array a) h = absurd (false≢true h)
fixed_token i word.Other h = absurd (false≢true h)

fixed_tokens : (i : Signature) (ws : List CWordToken) → list_all is_fixed ws ≡ true → AreTokens i (fixed_rows ws)
fixed_tokens i [] h = tt
fixed_tokens i (w ∷ ws) h = let k = both_true (is_fixed w) (list_all is_fixed ws) h in (fixed_token i w k.0, fixed_tokens i ws k.1)

all_fixed : list_all is_fixed FIXED ≡ true
unfolding is_fixed
all_fixed = refl

fixed_place : (w : CWordToken) → is_fixed w ≡ true → (k : ℕ) × (slice_get FIXED k ≡ Some w)
unfolding is_fixed
fixed_place (word.Type container.I8) h = (0, refl)
fixed_place (word.Type container.I16) h = (1, refl)
fixed_place (word.Type container.I32) h = (2, refl)
fixed_place (word.Type container.I64) h = (3, refl)
fixed_place (word.Type container.U8) h = (4, refl)
fixed_place (word.Type container.U16) h = (5, refl)
fixed_place (word.Type container.U32) h = (6, refl)
fixed_place (word.Type container.U64) h = (7, refl)
fixed_place (word.Macro macro.I32) h = (8, refl)
fixed_place (word.Macro macro.I64) h = (9, refl)
fixed_place (word.Macro macro.U64) h = (10, refl)
fixed_place (word.Keyword keyword.Const) h = (11, refl)
fixed_place (word.Keyword keyword.If) h = (12, refl)
fixed_place (word.Keyword keyword.Else) h = (13, refl)
fixed_place (word.Keyword keyword.For) h = (14, refl)
fixed_place (word.Keyword keyword.While) h = (15, refl)
fixed_place (word.Keyword keyword.Break) h = (16, refl)
fixed_place (word.Keyword keyword.Continue) h = (17, refl)
fixed_place (word.Keyword keyword.Return) h = (18, refl)
fixed_place (word.Rel rel.Eq) h = (19, refl)
fixed_place (word.Rel rel.Ne) h = (20, refl)
fixed_place (word.Rel rel.Lt) h = (21, refl)
fixed_place (word.Rel rel.Le) h = (22, refl)
fixed_place (word.Rel rel.Gt) h = (23, refl)
fixed_place (word.Rel rel.Ge) h = (24, refl)
fixed_place (word.Op op.Add) h = (25, refl)
fixed_place (word.Op op.Sub) h = (26, refl)
fixed_place (word.Op op.Mul) h = (27, refl)
fixed_place (word.Op op.And) h = (28, refl)
fixed_place (word.Op op.Or) h = (29, refl)
fixed_place (word.Op op.Xor) h = (30, refl)
fixed_place (word.Op op.Shl) h = (31, refl)
fixed_place (word.Op op.Shr) h = (32, refl)
fixed_place (word.Sign sign.Open) h = (33, refl)
fixed_place (word.Sign sign.Close) h = (34, refl)
fixed_place (word.Sign sign.OpenSquare) h = (35, refl)
fixed_place (word.Sign sign.CloseSquare) h = (36, refl)
fixed_place (word.Sign sign.OpenBrace) h = (37, refl)
fixed_place (word.Sign sign.CloseBrace) h = (38, refl)
fixed_place (word.Sign sign.Comma) h = (39, refl)
fixed_place (word.Sign sign.Semicolon) h = (40, refl)
fixed_place (word.Sign sign.Colon) h = (41, refl)
fixed_place (word.Sign sign.Question) h = (42, refl)
fixed_place (word.Sign sign.Assign) h = (43, refl)
fixed_place word.Function h = absurd (false≢true h)
fixed_place (word.Number n) h = absurd (false≢true h)
fixed_place (word.Var k) h = absurd (false≢true h)
fixed_place (word.Counter c) h = absurd (false≢true h)
fixed_place (word.Array a) h = absurd (false≢true h)
fixed_place word.Other h = absurd (false≢true h)

word_is : {v w : CWordToken} → Some v ≡ Some w → v ≡ w
word_is e = cc

row_at : (ws : List CWordToken) (k : ℕ) (w : CWordToken) → slice_get ws k ≡ Some w → slice_get (fixed_rows ws) k ≡ Some (fixed_text w, w)
row_at [] k w e = absurd cc
row_at (v ∷ ws) zero w e = ap (λ x. Some (fixed_text x, x)) (word_is e)
row_at (v ∷ ws) (suc k) w e = row_at ws k w e

-- ---- arrays

side_arrays : Signature → Side → List Array
side_arrays i Input = input_arrays i
side_arrays i Output = output_arrays i

array_token : (i : Signature) (side : Side) (k : ℕ) (a : Array) → slice_get (side_arrays i side) k ≡ Some a → IsToken i (word.Array (array_of side k)) × (text_of i (word.Array (array_of side k)) ≡ a.name)
unfolding side_arrays
array_token i Input k a e = (ap is_some e, ap (text_or_none (λ a. a.name)) e)
array_token i Output k a e = (ap is_some e, ap (text_or_none (λ a. a.name)) e)

array_tokens : (i : Signature) (side : Side) (k : ℕ) (xs : List Array) → ((j : ℕ) → slice_get xs j ≡ slice_get (side_arrays i side) (k + j)) → AreTokens i (array_rows side k xs)
array_tokens i side k [] h = tt
array_tokens i side k (a ∷ xs) h =
    let first : k ≡ k + 0 = omega arith in
    (array_token i side k a (ap (slice_get (side_arrays i side)) first ∙ sym (h 0)), array_tokens i side (suc k) xs (λ j. h (suc j) ∙ ap (slice_get (side_arrays i side)) (moved j)))
  where
    moved : (j : ℕ) → k + suc j ≡ suc k + j
    moved j = omega arith

side_tokens : (i : Signature) (side : Side) → AreTokens i (array_rows side 0 (side_arrays i side))
side_tokens i side = array_tokens i side 0 (side_arrays i side) (λ j. ap (slice_get (side_arrays i side)) (from_none j))
  where
    from_none : (j : ℕ) → j ≡ 0 + j
    from_none j = omega arith

array_is : {a b : Array} → Some a ≡ Some b → a ≡ b
array_is e = cc

array_at_row : (side : Side) (k : ℕ) (xs : List Array) (j : ℕ) (a : Array) → slice_get xs j ≡ Some a → slice_get (array_rows side k xs) j ≡ Some (a.name, word.Array (array_of side (k + j)))
array_at_row side k [] j a e = absurd cc
array_at_row side k (x ∷ xs) zero a e =
    let first : k ≡ k + 0 = omega arith in
    λ i. Some ((array_is e i).name, word.Array (array_of side (first i)))
array_at_row side k (x ∷ xs) (suc j) a e =
    let moved : suc k + j ≡ k + suc j = omega arith in
    array_at_row side (suc k) xs j a e ∙ ap (λ n. Some (a.name, word.Array (array_of side n))) moved

array_in : (i : Signature) (side : Side) (k : ℕ) → is_some (slice_get (side_arrays i side) k) ≡ true → In (text_of i (word.Array (array_of side k)), word.Array (array_of side k)) (array_rows side 0 (side_arrays i side))
array_in i side k h = by (slice_get (side_arrays i side) k) refl h
  where
    by : (o : Option Array) → slice_get (side_arrays i side) k ≡ o → is_some o ≡ true → In (text_of i (word.Array (array_of side k)), word.Array (array_of side k)) (array_rows side 0 (side_arrays i side))
    by None e h = absurd (false≢true h)
    by (Some a) e h =
        let none : 0 + k ≡ k = omega arith in
        (k, array_at_row side 0 (side_arrays i side) k a e ∙ (λ j. Some (sym (array_token i side k a e).1 j, word.Array (array_of side (none j)))))

-- ---- all rows

-- the function's name and the arrays
named_rows : Signature → List Row
named_rows i = (function_name i.entry, word.Function) ∷ (array_rows Input 0 (input_arrays i) ++ array_rows Output 0 (output_arrays i))

rows_of : Signature → List Row
rows_of i = fixed_rows FIXED ++ named_rows i

named_tokens : (i : Signature) → AreTokens i (named_rows i)
unfolding named_rows side_arrays
named_tokens i = ((tt, refl), both_tokens i (array_rows Input 0 (input_arrays i)) (array_rows Output 0 (output_arrays i)) (side_tokens i Input) (side_tokens i Output))

rows_tokens : (i : Signature) → AreTokens i (rows_of i)
unfolding rows_of
rows_tokens i = both_tokens i (fixed_rows FIXED) (named_rows i) (fixed_tokens i FIXED all_fixed) (named_tokens i)

behind_fixed : (i : Signature) (r : Row) → In r (named_rows i) → In r (rows_of i)
unfolding rows_of
behind_fixed i r h = in_right r (fixed_rows FIXED) (named_rows i) h

function_in : (i : Signature) → In (function_name i.entry, word.Function) (named_rows i)
unfolding named_rows
function_in i = (0, refl)

behind_function : (i : Signature) (r : Row) → In r (array_rows Input 0 (input_arrays i) ++ array_rows Output 0 (output_arrays i)) → In r (named_rows i)
unfolding named_rows
behind_function i r h = (suc h.0, h.1)

fixed_in : (i : Signature) (w : CWordToken) → is_fixed w ≡ true → In (text_of i w, w) (rows_of i)
unfolding rows_of
fixed_in i w h =
    let place = fixed_place w h in
    in_left (text_of i w, w) (fixed_rows FIXED) (named_rows i) (place.0, row_at FIXED place.0 w place.1 ∙ ap (λ t. Some (t, w)) (sym (fixed_token i w h).1))

input_in : (i : Signature) (n : ℕ) → IsToken i (word.Array (array.Input n)) → In (text_of i (word.Array (array.Input n)), word.Array (array.Input n)) (rows_of i)
unfolding side_arrays
input_in i n h =
    behind_fixed i (text_of i (word.Array (array.Input n)), word.Array (array.Input n))
    (behind_function i (text_of i (word.Array (array.Input n)), word.Array (array.Input n))
    (in_left (text_of i (word.Array (array.Input n)), word.Array (array.Input n)) (array_rows Input 0 (input_arrays i)) (array_rows Output 0 (output_arrays i)) (array_in i Input n h)))

output_in : (i : Signature) (n : ℕ) → IsToken i (word.Array (array.Output n)) → In (text_of i (word.Array (array.Output n)), word.Array (array.Output n)) (rows_of i)
unfolding side_arrays
output_in i n h =
    behind_fixed i (text_of i (word.Array (array.Output n)), word.Array (array.Output n))
    (behind_function i (text_of i (word.Array (array.Output n)), word.Array (array.Output n))
    (in_right (text_of i (word.Array (array.Output n)), word.Array (array.Output n)) (array_rows Input 0 (input_arrays i)) (array_rows Output 0 (output_arrays i)) (array_in i Output n h)))

word_in : (i : Signature) (w : CWordToken) → IsToken i w → is_numbered w ≡ false → In (text_of i w, w) (rows_of i)
unfolding is_fixed
word_in i (word.Type c) h k = fixed_in i (word.Type c) refl
word_in i (word.Macro m) h k = fixed_in i (word.Macro m) refl
word_in i (word.Keyword c) h k = fixed_in i (word.Keyword c) refl
word_in i (word.Rel r) h k = fixed_in i (word.Rel r) refl
word_in i (word.Op o) h k = fixed_in i (word.Op o) refl
word_in i (word.Sign s) h k = fixed_in i (word.Sign s) refl
word_in i word.Function h k = behind_fixed i (function_name i.entry, word.Function) (function_in i)
word_in i (word.Array (array.Input n)) h k = input_in i n h
word_in i (word.Array (array.Output n)) h k = output_in i n h
word_in i (word.Array (array.Local n)) h k = absurd (false≢true (sym k))
word_in i (word.Number n) h k = absurd (false≢true (sym k))
word_in i (word.Var n) h k = absurd (false≢true (sym k))
word_in i (word.Counter c) h k = absurd (false≢true (sym k))
word_in i word.Other h k = absurd h

nothing_token : (i : Signature) (text : Text) (w : CWordToken) → nothing text ≡ Some w → IsToken i w × (text_of i w ≡ text)
nothing_token i text w e = absurd cc

table_is : OneWord → (i : Signature) → IsInterface i → (table : WordTable) → found_in table ≡ with_rows nothing (rows_of i) → IsTableOf i table
table_is one i it table same = record {
  only = λ text w e. only_rows i (rows_of i) nothing (rows_tokens i) (nothing_token i) text w (sym (ap (λ f. f text) same) ∙ e);
  each = λ w h k.
      let place = word_in i w h k in
      ap (λ f. f (text_of i w)) same ∙ put_row one i it (rows_of i) nothing (text_of i w) w place.0 (rows_tokens i) place.1;
}

-- the table that is made step by step
pub made : OneWord → (i : Signature) → IsInterface i → (f g h l : Found) (name : Text) (table : WordTable) → f ≡ nothing → g ≡ with_rows f (fixed_rows FIXED) → name ≡ function_name i.entry
    → h ≡ with_word g name word.Function → l ≡ with_rows h (array_rows Input 0 (input_arrays i)) → found_in table ≡ with_rows l (array_rows Output 0 (output_arrays i)) → IsTableOf i table
unfolding rows_of named_rows
made one i it f g h l name table a b c d e same =
    let inputs : List Row = array_rows Input 0 (input_arrays i) in
    let outputs : List Row = array_rows Output 0 (output_arrays i) in
    let second : g ≡ with_rows nothing (fixed_rows FIXED) = b ∙ ap (λ x. with_rows x (fixed_rows FIXED)) a in
    let third : h ≡ with_word (with_rows nothing (fixed_rows FIXED)) (function_name i.entry) word.Function = d ∙ (λ j. with_word (second j) (c j) word.Function) in
    let fourth : found_in table ≡ with_rows (with_word (with_rows nothing (fixed_rows FIXED)) (function_name i.entry) word.Function) (inputs ++ outputs) =
    same ∙ ap (λ x. with_rows x outputs) (e ∙ ap (λ x. with_rows x inputs) third) ∙ sym (with_both (with_word (with_rows nothing (fixed_rows FIXED)) (function_name i.entry) word.Function) inputs outputs) in
    table_is one i it table (fourth ∙ sym (with_both nothing (fixed_rows FIXED) (named_rows i)))
