-- Each token is spelled as its word says.
use Rattle.std.proofs.Common.{◌≡◌, ℕ, Bool, true, false, List, [], ◌∷◌, refl, ap, sym, ◌∙◌}
use Rattle.std.specs.Prelude.{◌&&◌, nat_eq, bytes_eq, if◌then◌else◌}
use Rattle.std.proofs.lemmas.Bool.{eqb-true}
use Rattle.fic_base.specs.declared.place.Place.{Place}
use Rattle.mat_token.specs.declared.token.Kind.{Kind}
use Rattle.mat_token.specs.declared.token.Kind.TheVariants as kind
use Rattle.mat_token.specs.Lexeme.{Lexeme}
use Rattle.mat_grammar.specs.declared.word.Word.{Word}
use Rattle.mat_grammar.specs.declared.word.Word.TheVariants as word
use Rattle.mat_grammar.specs.Words.{kind_of, spelling, lexeme, same_text, looked_up, operators, keywords, word_of}

pub same_texts : (a b : List ℕ) → same_text a b ≡ true → a ≡ b
same_texts [] [] h = refl
same_texts (a ∷ more) (b ∷ rest) h = split (same_texts more rest) (nat_eq a b) refl h
  where
    split : (same_text more rest ≡ true → more ≡ rest) → (t : Bool) → nat_eq a b ≡ t → t && same_text more rest ≡ true → ◌≡◌ {A = List ℕ} (a ∷ more) (b ∷ rest)
    split ih true e k = ap (λ x. x ∷ more) (eqb-true a b e) ∙ ap (λ x. b ∷ x) (ih k)
    split ih false e k = absurd (cc)
same_texts [] (b ∷ rest) h = absurd (cc)
same_texts (a ∷ more) [] h = absurd (cc)

-- as Rust compares them
pub same_bytes : (a b : List ℕ) → same_text a b ≡ bytes_eq a b
same_bytes [] [] = refl
same_bytes (a ∷ more) (b ∷ rest) = ap (λ t. nat_eq a b && t) (same_bytes more rest)
same_bytes [] (b ∷ rest) = refl
same_bytes (a ∷ more) [] = refl

-- words of one kind that have no text of their own
abbrev Fixed : Kind → List Word → Type 0
Fixed k [] = Unit {0}
Fixed k (w ∷ ws) = (kind_of w ≡ k) × ((own : List ℕ) → spelling w [] ≡ spelling w own) × Fixed k ws

abbrev Spelled : Kind → Word → Place → List ℕ → Type 0
Spelled k w at text = ◌≡◌ {A = Lexeme} (record { place = at; kind = k; text = text }) (lexeme at w text)

same_parts : (at : Place) (k l : Kind) (text own : List ℕ) → k ≡ l → text ≡ own → ◌≡◌ {A = Lexeme} (record { place = at; kind = k; text = text }) (record { place = at; kind = l; text = own })
same_parts at k l text own e f = ap (λ (x : Kind). record { place = at; kind = x; text = text }) e ∙ ap (λ (x : List ℕ). record { place = at; kind = l; text = x }) f

looked_spelled : (ws : List Word) (k : Kind) (other : Word) (at : Place) (text : List ℕ) → Fixed k ws → Spelled k other at text → Spelled k (looked_up ws other text) at text
looked_spelled [] k other at text f h = h
looked_spelled (w ∷ ws) k other at text f h = split (looked_spelled ws k other at text f.2 h) (same_text (spelling w []) text) refl
  where
    split : Spelled k (looked_up ws other text) at text → (t : Bool) → same_text (spelling w []) text ≡ t → Spelled k (if t then w else looked_up ws other text) at text
    split ih true e = same_parts at k (kind_of w) text (spelling w text) (sym f.0) (sym (same_texts (spelling w []) text e) ∙ f.1 text)
    split ih false e = ih

fixed_operators : Fixed kind.Op operators
fixed_operators = (
  refl,
  λ _. refl,
  (
    refl,
    λ _. refl,
    (
      refl,
      λ _. refl,
      (
        refl,
        λ _. refl,
        (
          refl,
          λ _. refl,
          (
            refl,
            λ _. refl,
            (
              refl,
              λ _. refl,
              (
                refl,
                λ _. refl,
                (
                  refl,
                  λ _. refl,
                  (
                    refl,
                    λ _. refl,
                    (
                      refl,
                      λ _. refl,
                      (
                        refl,
                        λ _. refl,
                        (
                          refl,
                          λ _. refl,
                          (
                            refl,
                            λ _. refl,
                            (
                              refl,
                              λ _. refl,
                              (
                                refl,
                                λ _. refl,
                                (
                                  refl,
                                  λ _. refl,
                                  (
                                    refl,
                                    λ _. refl,
                                    (
                                      refl,
                                      λ _. refl,
                                      (
                                        refl,
                                        λ _. refl,
                                        (
                                          refl,
                                          λ _. refl,
                                          (
                                            refl,
                                            λ _. refl,
                                            (
                                              refl,
                                              λ _. refl,
                                              (
                                                refl,
                                                λ _. refl,
                                                (
                                                  refl,
                                                  λ _. refl,
                                                  (
                                                    refl,
                                                    λ _. refl,
                                                    (
                                                      refl,
                                                      λ _. refl,
                                                      (
                                                        refl,
                                                        λ _. refl,
                                                        (
                                                          refl,
                                                          λ _. refl,
                                                          (
                                                            refl,
                                                            λ _. refl,
                                                            (refl, λ _. refl, tt),
                                                          ),
                                                        ),
                                                      ),
                                                    ),
                                                  ),
                                                ),
                                              ),
                                            ),
                                          ),
                                        ),
                                      ),
                                    ),
                                  ),
                                ),
                              ),
                            ),
                          ),
                        ),
                      ),
                    ),
                  ),
                ),
              ),
            ),
          ),
        ),
      ),
    ),
  ),
)

fixed_keywords : Fixed kind.Keyword keywords
fixed_keywords = (refl, λ _. refl, (refl, λ _. refl, (refl, λ _. refl, (refl, λ _. refl, (refl, λ _. refl, (refl, λ _. refl, (refl, λ _. refl, (refl, λ _. refl, (refl, λ _. refl, tt)))))))))

word_spelled : (k : Kind) (at : Place) (text : List ℕ) → Spelled k (word_of k text) at text
word_spelled kind.Name at text = refl
word_spelled kind.Number at text = refl
word_spelled kind.Words at text = refl
word_spelled kind.Newline at text = refl
word_spelled kind.Separator at text = refl
word_spelled kind.Finish at text = refl
word_spelled kind.Op at text = looked_spelled operators kind.Op word.OtherOp at text fixed_operators refl
word_spelled kind.Keyword at text = looked_spelled keywords kind.Keyword word.Reserved at text fixed_keywords refl

-- a token is the token of its word
pub same_lexeme : (t : Lexeme) → t ≡ lexeme t.place (word_of t.kind t.text) t.text
same_lexeme t = word_spelled t.kind t.place t.text
