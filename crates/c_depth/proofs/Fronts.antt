-- The depth of a token goes by the words up to it.
use Rattle.std.proofs.Common.{◌≡◌, ◌≢◌, ℕ, zero, suc, ◌<◌, List, [], ◌∷◌, ◌++◌, map, take, length, sym, ap, ◌∙◌, arith, subst, get_or, ⊎_elim}
use Rattle.std.specs.Prelude.{All}
use Rattle.c_tree.specs.Depths.{depths}
use Rattle.c_tree.specs.Texts.{Text}
use Rattle.c_tree.specs.Spelling.{Texts, spelled}
use Rattle.c_tree.specs.Tree.{Signature, Program}
use Rattle.c_grammar.specs.declared.word.CWordToken.{CWordToken}
use Rattle.c_grammar.specs.declared.word.CWordToken.TheVariants.{Other}
use Rattle.c_grammar.specs.Words.{text_of, IsToken}
use Rattle.c_grammar.specs.Sentence.{Words, words_of}
use Rattle.c_grammar.specs.Spelled.{IsWordOf, AreWordsOf, IsSpelled}
use Rattle.c_depth.specs.Read.{Nest, see, at_first, word_depth, read_depths, word_depths}
use Rattle.c_depth.proofs.ReadTree.{depths_read}

-- what the laws of the grammar say
abbrev OneWord : Signature → Type 0
OneWord i = (v w : CWordToken) → IsToken i v → IsToken i w → text_of i v ≡ text_of i w → v ≡ w

-- the word of a token's text is that token
word_is : (i : Signature) → OneWord i → (t : Text) (w v : CWordToken) → IsWordOf i t w → IsToken i v → text_of i v ≡ t → v ≡ w
word_is i one t w v h k e = ⊎_elim
    (λ (a : IsToken i w × (text_of i w ≡ t)). one v w k a.0 (e ∙ sym a.1))
    (λ (a : (w ≡ Other) × ((u : CWordToken) → IsToken i u → text_of i u ≢ t)). absurd (a.1 v k e))
    h

first_text : {s t : Text} → {ss ts : List Text} → s ∷ ss ≡ t ∷ ts → s ≡ t
first_text e = cc

more_texts : {s t : Text} → {ss ts : List Text} → s ∷ ss ≡ t ∷ ts → ss ≡ ts
more_texts e = cc

rest_all : (i : Signature) (v : CWordToken) (vs : Words) → All (IsToken i) (v ∷ vs) → All (IsToken i) vs
rest_all i v vs h k d m = h (suc k) d (omega arith)

-- words whose texts are the same up to one of them have the same depth there
same_depth : (i : Signature) → OneWord i → (x : Nest) (n : ℕ) (ts more : Texts) (ws vs : Words) → AreWordsOf i ts ws → All (IsToken i) vs
    → n < length ts → map (text_of i) vs ≡ take (suc n) ts ++ more → get_or (read_depths x vs) n 0 ≡ get_or (read_depths x ws) n 0
same_depth i one x n [] more ws vs h k m e = let none : ⊥ = omega arith in absurd none
same_depth i one x n (t ∷ ts) more [] vs h k m e = absurd h
same_depth i one x n (t ∷ ts) more (w ∷ ws) [] h k m e = absurd cc
same_depth i one x zero (t ∷ ts) more (w ∷ ws) (v ∷ vs) h k m e =
    ap (λ u. word_depth u x) (word_is i one t w v h.0 (k 0 v (omega arith)) (first_text e))
same_depth i one x (suc n) (t ∷ ts) more (w ∷ ws) (v ∷ vs) h k m e =
    ap (λ u. get_or (read_depths (see u x) vs) n 0) (word_is i one t w v h.0 (k 0 v (omega arith)) (first_text e))
    ∙ same_depth i one (see w x) n ts more ws vs h.1 (rest_all i v vs k) (omega arith) (more_texts e)

pub depth_by_front : (i : Signature) (p : Program) (ts more : Texts) (ws : Words) (n : ℕ) → OneWord i
    → All (IsToken p.interface) (words_of p) → map (text_of p.interface) (words_of p) ≡ spelled p
    → AreWordsOf i ts ws → n < length ts → IsSpelled i p (take (suc n) ts ++ more) → get_or (depths p) n 0 ≡ get_or (word_depths ws) n 0
depth_by_front i p ts more ws n one tokens texts h m s =
    ap (λ ds. get_or ds n 0) (sym (depths_read p))
    ∙ same_depth i one at_first n ts more ws (words_of p) h (subst (λ j. All (IsToken j) (words_of p)) s.interface tokens) m
    (subst (λ j. map (text_of j) (words_of p) ≡ spelled p) s.interface texts ∙ s.tokens)
