-- A list of texts is a program's exactly where the list of their words is.
use Rattle.std.proofs.Common.{◌≡◌, ◌≢◌, List, [], ◌∷◌, ◌++◌, map, refl, sym, ap, ◌∙◌, subst, ⊎_elim}
use Rattle.c_tree.specs.Texts.{Text}
use Rattle.c_tree.specs.Spelling.{Texts, spelled}
use Rattle.c_tree.specs.Tree.{Signature, Program}
use Rattle.c_tree.specs.WellFormed.{IsInterface, IsWellFormed}
use Rattle.c_grammar.specs.declared.word.CWordToken.{CWordToken}
use Rattle.c_grammar.specs.declared.word.CWordToken.TheVariants.{Other}
use Rattle.c_grammar.specs.Words.{text_of, IsToken}
use Rattle.c_grammar.specs.Sentence.{Words, words_of}
use Rattle.c_grammar.specs.Live.{IsSentence, IsLive}
use Rattle.c_grammar.specs.Spelled.{IsWordOf, AreWordsOf, IsSpelled, IsLiveText}
use Rattle.c_grammar.proofs.OneWord.{one_word}
use Rattle.c_grammar.proofs.OneProgram.{first_text, more_texts}
use Rattle.c_grammar.proofs.TiedProgram.{AllTokens, spelled_words, program_tokens}

map_append : (i : Signature) (vs ws : Words) → map (text_of i) (vs ++ ws) ≡ map (text_of i) vs ++ map (text_of i) ws
map_append i [] ws = refl
map_append i (v ∷ vs) ws = ap (λ l. text_of i v ∷ l) (map_append i vs ws)

append_none : {A : Type 0} → (xs : List A) → xs ++ [] ≡ xs
append_none [] = refl
append_none (x ∷ xs) = ap (λ l. x ∷ l) (append_none xs)

-- a token has its text
text_is : (i : Signature) (t : Text) (w : CWordToken) → IsWordOf i t w → IsToken i w → text_of i w ≡ t
text_is i t w h k = ⊎_elim
    (λ (a : IsToken i w × (text_of i w ≡ t)). a.1)
    (λ (a : (w ≡ Other) × ((v : CWordToken) → IsToken i v → text_of i v ≢ t)). let no_token : IsToken i Other = subst (IsToken i) a.0 k in absurd no_token)
    h

-- the word of a token's text is that token
word_is : (i : Signature) → IsInterface i → (t : Text) (w v : CWordToken) → IsWordOf i t w → IsToken i v → text_of i v ≡ t → v ≡ w
word_is i it t w v h k e = ⊎_elim
    (λ (a : IsToken i w × (text_of i w ≡ t)). one_word i it v w k a.0 (e ∙ sym a.1))
    (λ (a : (w ≡ Other) × ((v : CWordToken) → IsToken i v → text_of i v ≢ t)). absurd (a.1 v k e))
    h

texts_are : (i : Signature) (ts : Texts) (ws more : Words) → AreWordsOf i ts ws → AllTokens i (ws ++ more) → map (text_of i) ws ≡ ts
texts_are i [] [] more h k = refl
texts_are i [] (w ∷ ws) more h k = absurd h
texts_are i (t ∷ ts) [] more h k = absurd h
texts_are i (t ∷ ts) (w ∷ ws) more h k =
    ap (λ x. x ∷ map (text_of i) ws) (text_is i t w h.0 k.0) ∙ ap (λ l. t ∷ l) (texts_are i ts ws more h.1 k.1)

record Rest (i : Signature) (vs ws : Words) (more : Texts) : Type 0 where
  words : Words
  whole : vs ≡ ws ++ words
  texts : map (text_of i) words ≡ more

words_are : (i : Signature) → IsInterface i → (ts : Texts) (ws vs : Words) (more : Texts) → AreWordsOf i ts ws → AllTokens i vs → map (text_of i) vs ≡ ts ++ more → Rest i vs ws more
words_are i it [] [] vs more h k e = record { words = vs; whole = refl; texts = e }
words_are i it [] (w ∷ ws) vs more h k e = absurd h
words_are i it (t ∷ ts) [] vs more h k e = absurd h
words_are i it (t ∷ ts) (w ∷ ws) [] more h k e = absurd cc
words_are i it (t ∷ ts) (w ∷ ws) (v ∷ vs) more h k e =
    let one : v ≡ w = word_is i it t w v h.0 k.0 (first_text e) in
    let r = words_are i it ts ws vs more h.1 k.1 (more_texts e) in
    record { words = r.words; whole = ap (λ x. x ∷ vs) one ∙ ap (λ l. w ∷ l) r.whole; texts = r.texts }

tokens_at : (i : Signature) (p : Program) → p.interface ≡ i → IsWellFormed p → AllTokens i (words_of p)
tokens_at i p e h = subst (λ j. AllTokens j (words_of p)) e (program_tokens p h)

spelled_at : (i : Signature) (p : Program) → p.interface ≡ i → IsWellFormed p → map (text_of i) (words_of p) ≡ spelled p
spelled_at i p e h = subst (λ j. map (text_of j) (words_of p) ≡ spelled p) e (spelled_words p h)

pub to_text : (i : Signature) (p : Program) (ts : Texts) (ws : Words) → AreWordsOf i ts ws → IsSentence i p ws → IsSpelled i p ts
to_text i p ts ws h s =
    let tokens : AllTokens i (ws ++ []) = subst (AllTokens i) (s.words ∙ sym (append_none ws)) (tokens_at i p s.interface s.well_formed) in
    record {
      interface = s.interface;
      well_formed = s.well_formed;
      built = s.built;
      tokens = sym (spelled_at i p s.interface s.well_formed) ∙ ap (map (text_of i)) s.words ∙ texts_are i ts ws [] h tokens;
    }

pub to_words : (i : Signature) → IsInterface i → (p : Program) (ts : Texts) (ws : Words) → AreWordsOf i ts ws → IsSpelled i p ts → IsSentence i p ws
to_words i it p ts ws h s =
    let r = words_are i it ts ws (words_of p) [] h (tokens_at i p s.interface s.well_formed) (spelled_at i p s.interface s.well_formed ∙ s.tokens ∙ sym (append_none ts)) in
    record { interface = s.interface; well_formed = s.well_formed; built = s.built; words = r.whole ∙ ap (λ l. ws ++ l) (no_words r.words r.texts) ∙ append_none ws }
  where
    no_words : (us : Words) → map (text_of i) us ≡ [] → us ≡ []
    no_words [] e = refl
    no_words (u ∷ us) e = absurd cc

pub live_to_text : (i : Signature) (ts : Texts) (ws : Words) → AreWordsOf i ts ws → IsLive i ws → IsLiveText i ts
live_to_text i ts ws h l =
    let s = l.sentence in
    let tokens : AllTokens i (ws ++ l.more) = subst (AllTokens i) s.words (tokens_at i l.program s.interface s.well_formed) in
    record {
      more = map (text_of i) l.more;
      program = l.program;
      spelled = record {
        interface = s.interface;
        well_formed = s.well_formed;
        built = s.built;
        tokens = sym (spelled_at i l.program s.interface s.well_formed) ∙ ap (map (text_of i)) s.words ∙ map_append i ws l.more
            ∙ ap (λ x. x ++ map (text_of i) l.more) (texts_are i ts ws l.more h tokens);
      };
    }

pub live_to_words : (i : Signature) → IsInterface i → (ts : Texts) (ws : Words) → AreWordsOf i ts ws → IsLiveText i ts → IsLive i ws
live_to_words i it ts ws h l =
    let s = l.spelled in
    let r = words_are i it ts ws (words_of l.program) l.more h (tokens_at i l.program s.interface s.well_formed) (spelled_at i l.program s.interface s.well_formed ∙ s.tokens) in
    record { more = r.words; program = l.program; sentence = record { interface = s.interface; well_formed = s.well_formed; built = s.built; words = r.whole } }
