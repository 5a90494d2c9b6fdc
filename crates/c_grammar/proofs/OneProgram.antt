-- The tokens of a well-formed program are those of no other one of its interface.
use Rattle.std.proofs.Common.{◌≡◌, zero, suc, List, [], ◌∷◌, map, refl, sym, ◌∙◌, arith, subst}
use Rattle.std.specs.Prelude.{All}
use Rattle.c_tree.specs.Tree.{Signature, Program}
use Rattle.c_tree.specs.Texts.{Text}
use Rattle.c_tree.specs.Spelling.{spelled}
use Rattle.c_tree.specs.WellFormed.{IsInterface, IsWellFormed}
use Rattle.c_grammar.specs.Words.{text_of, IsToken}
use Rattle.c_grammar.specs.Sentence.{Words, words_of}
use Rattle.c_grammar.proofs.OneWord.{one_word}
use Rattle.c_grammar.proofs.ApartProgram.{one_program}
use Rattle.c_grammar.proofs.TiedProgram.{AllTokens, spelled_words, program_tokens}

pub first_text : {s t : Text} → {ss ts : List Text} → s ∷ ss ≡ t ∷ ts → s ≡ t
first_text e = cc

pub more_texts : {s t : Text} → {ss ts : List Text} → s ∷ ss ≡ t ∷ ts → ss ≡ ts
more_texts e = cc

same_words : (i : Signature) → IsInterface i → (vs ws : Words) → AllTokens i vs → AllTokens i ws → map (text_of i) vs ≡ map (text_of i) ws → vs ≡ ws
same_words i it [] [] h k e = refl
same_words i it [] (w ∷ ws) h k e = absurd cc
same_words i it (v ∷ vs) [] h k e = absurd cc
same_words i it (v ∷ vs) (w ∷ ws) h k e =
    let one : v ≡ w = one_word i it v w h.0 k.0 (first_text e) in
    let more : vs ≡ ws = same_words i it vs ws h.1 k.1 (more_texts e) in
    cc

pub one_spelled : (p q : Program) → IsWellFormed p → IsWellFormed q → p.interface ≡ q.interface → spelled p ≡ spelled q → p ≡ q
one_spelled p q h k e s =
    let tokens : AllTokens p.interface (words_of q) = subst (λ i. AllTokens i (words_of q)) (sym e) (program_tokens q k) in
    let texts : map (text_of p.interface) (words_of q) ≡ spelled q = subst (λ i. map (text_of i) (words_of q) ≡ spelled q) (sym e) (spelled_words q k) in
    one_program p q e (same_words p.interface h.interface (words_of p) (words_of q) (program_tokens p h) tokens (spelled_words p h ∙ s ∙ sym texts))

all_of : (i : Signature) (ws : Words) → AllTokens i ws → All (IsToken i) ws
all_of i [] h k d m = let none : ⊥ = omega arith in absurd none
all_of i (w ∷ ws) h zero d m = h.0
all_of i (w ∷ ws) h (suc k) d m = all_of i ws h.1 k d (omega arith)

pub all_tokens : (p : Program) → IsWellFormed p → All (IsToken p.interface) (words_of p)
all_tokens p h = all_of p.interface (words_of p) (program_tokens p h)
