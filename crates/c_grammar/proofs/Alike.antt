-- Two words are one where their numbers are.
use Rattle.std.proofs.Common.{◌≡◌, ℕ, true, ◌==◌, List, [], ◌∷◌, refl, sym, ap, ◌∙◌}
use Rattle.std.specs.Prelude.{Option, Some, slice_get}
use Rattle.std.proofs.lemmas.Bool.{and_parts, eqb-true, eq-eqb}
use Rattle.num_type.specs.declared.container.Container.TheVariants as container
use Rattle.c_tree.specs.declared.tree.CounterKind.{CounterKind}
use Rattle.c_tree.specs.declared.tree.CounterKind.TheVariants as counter
use Rattle.c_tree.specs.declared.tree.CArray.TheVariants as array
use Rattle.c_tree.specs.declared.tree.CRel.TheVariants as rel
use Rattle.c_tree.specs.declared.tree.COp.TheVariants as op
use Rattle.c_grammar.specs.declared.word.CKeyword.TheVariants as keyword
use Rattle.c_grammar.specs.declared.word.CMacro.TheVariants as macro
use Rattle.c_grammar.specs.declared.word.CSign.TheVariants as sign
use Rattle.c_grammar.specs.declared.word.CWordToken.{CWordToken}
use Rattle.c_grammar.specs.declared.word.CWordToken.TheVariants as word
use Rattle.c_grammar.specs.Equal.{kind_number, own_number, same_word}

-- the words with this number of their own
words_with : ℕ → List CWordToken
words_with n =
    word.Other ∷ word.Function ∷ word.Number n
    ∷ word.Var n ∷ word.Array (array.Input n) ∷ word.Array (array.Output n)
    ∷ word.Array (array.Local n) ∷ word.Counter (record { kind = counter.Group; number = n }) ∷ word.Counter (record { kind = counter.Barrier; number = n })
    ∷ word.Counter (record { kind = counter.Source; number = n }) ∷ word.Counter (record { kind = counter.Turn; number = n }) ∷ word.Type container.I8
    ∷ word.Type container.I16 ∷ word.Type container.I32 ∷ word.Type container.I64
    ∷ word.Type container.U8 ∷ word.Type container.U16 ∷ word.Type container.U32
    ∷ word.Type container.U64 ∷ word.Macro macro.I32 ∷ word.Macro macro.I64
    ∷ word.Macro macro.U64 ∷ word.Keyword keyword.Const ∷ word.Keyword keyword.If
    ∷ word.Keyword keyword.Else ∷ word.Keyword keyword.For ∷ word.Keyword keyword.While
    ∷ word.Keyword keyword.Break ∷ word.Keyword keyword.Continue ∷ word.Keyword keyword.Return
    ∷ word.Rel rel.Eq ∷ word.Rel rel.Ne ∷ word.Rel rel.Lt
    ∷ word.Rel rel.Le ∷ word.Rel rel.Gt ∷ word.Rel rel.Ge
    ∷ word.Op op.Add ∷ word.Op op.Sub ∷ word.Op op.Mul
    ∷ word.Op op.And ∷ word.Op op.Or ∷ word.Op op.Xor
    ∷ word.Op op.Shl ∷ word.Op op.Shr ∷ word.Sign sign.Open
    ∷ word.Sign sign.Close ∷ word.Sign sign.OpenSquare ∷ word.Sign sign.CloseSquare
    ∷ word.Sign sign.OpenBrace ∷ word.Sign sign.CloseBrace ∷ word.Sign sign.Comma
    ∷ word.Sign sign.Semicolon ∷ word.Sign sign.Colon ∷ word.Sign sign.Question
    ∷ word.Sign sign.Assign ∷ []

numbered : ℕ → ℕ → Option CWordToken
numbered k n = slice_get (words_with n) k

counter_is : (kind : CounterKind) (n : ℕ) → numbered (kind_number (word.Counter (record { kind = kind; number = n }))) n ≡ Some (word.Counter (record { kind = kind; number = n }))
unfolding numbered words_with
counter_is counter.Group n = refl
counter_is counter.Barrier n = refl
counter_is counter.Source n = refl
counter_is counter.Turn n = refl

number_is : (w : CWordToken) → numbered (kind_number w) (own_number w) ≡ Some w
unfolding numbered words_with
number_is (word.Counter c) = counter_is c.kind c.number
number_is word.Other = refl
number_is word.Function = refl
number_is (word.Number n) = refl
number_is (word.Var n) = refl
number_is (word.Array (array.Input n)) = refl
number_is (word.Array (array.Output n)) = refl
number_is (word.Array (array.Local n)) = refl
number_is (word.Type container.I8) = refl
number_is (word.Type container.I16) = refl
number_is (word.Type container.I32) = refl
number_is (word.Type container.I64) = refl
number_is (word.Type container.U8) = refl
number_is (word.Type container.U16) = refl
number_is (word.Type container.U32) = refl
number_is (word.Type container.U64) = refl
number_is (word.Macro macro.I32) = refl
number_is (word.Macro macro.I64) = refl
number_is (word.Macro macro.U64) = refl
number_is (word.Keyword keyword.Const) = refl
number_is (word.Keyword keyword.If) = refl
number_is (word.Keyword keyword.Else) = refl
number_is (word.Keyword keyword.For) = refl
number_is (word.Keyword keyword.While) = refl
number_is (word.Keyword keyword.Break) = refl
number_is (word.Keyword keyword.Continue) = refl
number_is (word.Keyword keyword.Return) = refl
number_is (word.Rel rel.Eq) = refl
number_is (word.Rel rel.Ne) = refl
number_is (word.Rel rel.Lt) = refl
number_is (word.Rel rel.Le) = refl
number_is (word.Rel rel.Gt) = refl
number_is (word.Rel rel.Ge) = refl
number_is (word.Op op.Add) = refl
number_is (word.Op op.Sub) = refl
number_is (word.Op op.Mul) = refl
number_is (word.Op op.And) = refl
number_is (word.Op op.Or) = refl
number_is (word.Op op.Xor) = refl
number_is (word.Op op.Shl) = refl
number_is (word.Op op.Shr) = refl
number_is (word.Sign sign.Open) = refl
number_is (word.Sign sign.Close) = refl
number_is (word.Sign sign.OpenSquare) = refl
number_is (word.Sign sign.CloseSquare) = refl
number_is (word.Sign sign.OpenBrace) = refl
number_is (word.Sign sign.CloseBrace) = refl
number_is (word.Sign sign.Comma) = refl
number_is (word.Sign sign.Semicolon) = refl
number_is (word.Sign sign.Colon) = refl
number_is (word.Sign sign.Question) = refl
number_is (word.Sign sign.Assign) = refl

some_is : {v w : CWordToken} → Some v ≡ Some w → v ≡ w
some_is e = cc

pub same_word_is : (v w : CWordToken) → same_word v w ≡ true → v ≡ w
same_word_is v w h =
    let both = and_parts (kind_number v == kind_number w) (own_number v == own_number w) h in
    some_is (sym (number_is v)
    ∙ ap (λ k. numbered k (own_number v)) (eqb-true (kind_number v) (kind_number w) both.0)
    ∙ ap (λ n. numbered (kind_number w) n) (eqb-true (own_number v) (own_number w) both.1)
    ∙ number_is w)

pub same_word_self : (w : CWordToken) → same_word w w ≡ true
same_word_self w = rw (eq-eqb (kind_number w) (kind_number w) refl, eq-eqb (own_number w) (own_number w) refl) refl
