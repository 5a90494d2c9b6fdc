-- Words of one token after the other.
use Rattle.std.proofs.Common.{◌≡◌, ℕ, List, [], ◌∷◌, ◌++◌, take, drop, sym, ap, ◌∙◌, subst, append_assoc, append-nil}
use Rattle.c_tree.specs.Tree.{Signature}
use Rattle.c_token.specs.declared.scan.CToken.{CToken}
use Rattle.c_token.specs.Scan.{lexemes_of, texts_of}
use Rattle.c_grammar.specs.Sentence.{Words}
use Rattle.c_grammar.specs.declared.word.CWordToken.{CWordToken}
use Rattle.c_grammar.specs.Spelled.{IsWordOf, AreWordsOf}

-- words so far, and what the rest gives
abbrev pub Joins : Signature → List ℕ → List CToken → ℕ → Words → Type 0
Joins i bytes tokens at ws = (more : Words) → AreWordsOf i (texts_of (lexemes_of bytes (drop at tokens))) more → AreWordsOf i (texts_of (lexemes_of bytes tokens)) (ws ++ more)

pub word_behind : (i : Signature) (bytes : List ℕ) (tokens : List CToken) (at next : ℕ) (ws us : Words) (t : CToken) (w : CWordToken) → drop at tokens ≡ t ∷ drop next tokens → us ≡ ws ++ w ∷ []
    → IsWordOf i (take t.len (drop t.offset bytes)) w → Joins i bytes tokens at ws → Joins i bytes tokens next us
word_behind i bytes tokens at next ws us t w e is one joins more h =
    subst (AreWordsOf i (texts_of (lexemes_of bytes tokens))) (sym (append_assoc ws (w ∷ []) more) ∙ ap (λ l. l ++ more) (sym is))
    (joins (w ∷ more) (subst (λ ts. AreWordsOf i (texts_of (lexemes_of bytes ts)) (w ∷ more)) (sym e) (one, h)))

pub all_words : (i : Signature) (bytes : List ℕ) (tokens : List CToken) (at : ℕ) (ws : Words) → drop at tokens ≡ [] → Joins i bytes tokens at ws → AreWordsOf i (texts_of (lexemes_of bytes tokens)) ws
all_words i bytes tokens at ws e joins =
    subst (AreWordsOf i (texts_of (lexemes_of bytes tokens))) (append-nil ws) (joins [] (subst (λ ts. AreWordsOf i (texts_of (lexemes_of bytes ts)) []) (sym e) tt))
