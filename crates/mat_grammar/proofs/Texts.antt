-- Numbers and texts of the tree, and how their tokens are spelled.
use Rattle.std.proofs.Common.{◌≡◌, ℕ, Bool, true, false, List, [], ◌∷◌, ◌++◌, refl, ap, sym, ◌∙◌, subst, inl, inr, Some, None, Option, ⊎_elim}
use Rattle.std.specs.Prelude.{◌⊎◌, ◌||◌, codes, nat_eq, if◌then◌else◌}
use Rattle.std.specs.Option.{option_map}
use Rattle.std.proofs.lemmas.Bool.{eqb-true, eq-eqb}
use Rattle.fic_base.specs.declared.place.Place.{Place}
use Rattle.mat_token.specs.declared.token.Kind.TheVariants as kind
use Rattle.mat_token.specs.Lexeme.{Lexeme}
use Rattle.mat_grammar.specs.Lang.{one_at}
use Rattle.mat_grammar.specs.Spelling.{has_unit, doubled, quoted}
use Rattle.mat_grammar.specs.Grammar.{number_at, words_at}
use Rattle.mat_grammar.specs.Words.{front_of, digits_of, undoubled, unquoted, lexeme}
use Rattle.mat_grammar.specs.declared.word.Word.TheVariants as word

-- Numbers

unit_split : (own : List ℕ) → has_unit own ≡ true → (own ≡ front_of own ++ codes "i") ⊎ (own ≡ front_of own ++ codes "j")
unit_split [] h = absurd (cc)
unit_split (c ∷ []) h = split (nat_eq c 105) (nat_eq c 106) refl refl h
  where
    split : (a b : Bool) → nat_eq c 105 ≡ a → nat_eq c 106 ≡ b → a || b ≡ true → (◌≡◌ {A = List ℕ} (c ∷ []) (codes "i")) ⊎ (◌≡◌ {A = List ℕ} (c ∷ []) (codes "j"))
    split true b e f k = inl (ap (λ x. x ∷ []) (eqb-true c 105 e))
    split false true e f k = inr (ap (λ x. x ∷ []) (eqb-true c 106 f))
    split false false e f k = absurd (cc)
unit_split (c ∷ d ∷ cs) h = ⊎_elim (λ e. inl (ap (λ x. c ∷ x) e)) (λ e. inr (ap (λ x. c ∷ x) e)) (unit_split (d ∷ cs) h)

same_token : (at : Place) (own text : List ℕ) (ts : List Lexeme) → own ≡ text → one_at at kind.Number text (lexeme at word.Number own ∷ ts) ts
same_token at own text ts e = ap (λ (x : List ℕ). record { place = at; kind = kind.Number; text = x } ∷ ts) e

pub number_holds : (at : Place) (own : List ℕ) (ts : List Lexeme) → number_at at (digits_of own) (has_unit own) (lexeme at word.Number own ∷ ts) ts
number_holds at own ts = split (has_unit own) refl
  where
    split : (b : Bool) → has_unit own ≡ b → number_at at (if b then front_of own else own) b (lexeme at word.Number own ∷ ts) ts
    split true e = ⊎_elim (λ k. inl (same_token at own (front_of own ++ codes "i") ts k)) (λ k. inr (same_token at own (front_of own ++ codes "j") ts k)) (unit_split own e)
    split false e = (e, refl)

unit_behind : (digits : List ℕ) (c : ℕ) → nat_eq c 105 || nat_eq c 106 ≡ true → has_unit (digits ++ c ∷ []) ≡ true
unit_behind [] c h = h
unit_behind (d ∷ []) c h = h
unit_behind (d ∷ e ∷ digits) c h = unit_behind (e ∷ digits) c h

pub front_behind : (digits : List ℕ) (c : ℕ) → front_of (digits ++ c ∷ []) ≡ digits
front_behind [] c = refl
front_behind (d ∷ []) c = refl
front_behind (d ∷ e ∷ digits) c = ap (λ x. d ∷ x) (front_behind (e ∷ digits) c)

-- a token that is a number
pub record NumberToken (at : Place) (digits : List ℕ) (imaginary : Bool) (ts rest : List Lexeme) : Type 0 where
  pub own : List ℕ
  pub is : ts ≡ lexeme at word.Number own ∷ rest
  pub digits_are : digits_of own ≡ digits
  pub unit_is : has_unit own ≡ imaginary

imaginary_token : (at : Place) (digits : List ℕ) (c : ℕ) (ts rest : List Lexeme) → nat_eq c 105 || nat_eq c 106 ≡ true → ts ≡ lexeme at word.Number (digits ++ c ∷ []) ∷ rest → NumberToken at digits true ts rest
imaginary_token at digits c ts rest u h =
    let e : has_unit (digits ++ c ∷ []) ≡ true = unit_behind digits c u in
    record { own = digits ++ c ∷ []; is = h; digits_are = ap (λ b. if b then front_of (digits ++ c ∷ []) else digits ++ c ∷ []) e ∙ front_behind digits c; unit_is = e }

pub number_token : (at : Place) (digits : List ℕ) (imaginary : Bool) (ts rest : List Lexeme) → number_at at digits imaginary ts rest → NumberToken at digits imaginary ts rest
number_token at digits true ts rest h = ⊎_elim (imaginary_token at digits 105 ts rest refl) (imaginary_token at digits 106 ts rest refl) h
number_token at digits false ts rest h = record { own = digits; is = h.1; digits_are = ap (λ b. if b then front_of digits else digits) h.0; unit_is = h.0 }

-- Texts

-- what is mapped to something
some_of : (f : List ℕ → List ℕ) (o : Option (List ℕ)) (y : List ℕ) → option_map f o ≡ Some y → (x : List ℕ) × (o ≡ Some x) × (f x ≡ y)
some_of f (Some x) y h = (x, refl, cc)
some_of f None y h = absurd (cc)

doubled_quote : (q c : ℕ) (more : List ℕ) → nat_eq c q ≡ true → doubled q (c ∷ more) ≡ c ∷ c ∷ doubled q more
doubled_quote q c more h = ap (λ b. if b then c ∷ c ∷ doubled q more else c ∷ doubled q more) h

doubled_other : (q c : ℕ) (more : List ℕ) → nat_eq c q ≡ false → doubled q (c ∷ more) ≡ c ∷ doubled q more
doubled_other q c more h = ap (λ b. if b then c ∷ c ∷ doubled q more else c ∷ doubled q more) h

undoubled_spelled : (q : ℕ) (cs text : List ℕ) → undoubled q cs ≡ Some text → cs ≡ doubled q text ++ q ∷ []
undoubled_spelled q [] text h = absurd (cc)
undoubled_spelled q (c ∷ []) text h = split (nat_eq c q) refl h
  where
    split : (b : Bool) → nat_eq c q ≡ b → (if b then Some [] else None) ≡ Some text → ◌≡◌ {A = List ℕ} (c ∷ []) (doubled q text ++ q ∷ [])
    split true e k =
        let t : ◌≡◌ {A = List ℕ} [] text = cc in
        subst (λ (x : List ℕ). ◌≡◌ {A = List ℕ} (c ∷ []) (doubled q x ++ q ∷ [])) t (ap (λ x. x ∷ []) (eqb-true c q e))
    split false e k = absurd (cc)
undoubled_spelled q (c ∷ d ∷ cs) text h = split (undoubled_spelled q cs) (undoubled_spelled q (d ∷ cs)) (nat_eq c q) (nat_eq d q) refl refl h
  where
    split : ((t : List ℕ) → undoubled q cs ≡ Some t → cs ≡ doubled q t ++ q ∷ []) → ((t : List ℕ) → undoubled q (d ∷ cs) ≡ Some t → d ∷ cs ≡ doubled q t ++ q ∷ [])
        → (a b : Bool) → nat_eq c q ≡ a → nat_eq d q ≡ b
        → (if a then (if b then option_map (λ more. c ∷ more) (undoubled q cs) else None) else option_map (λ more. c ∷ more) (undoubled q (d ∷ cs))) ≡ Some text
        → ◌≡◌ {A = List ℕ} (c ∷ d ∷ cs) (doubled q text ++ q ∷ [])
    split f g true true e k x =
        let s = some_of (λ more. c ∷ more) (undoubled q cs) text x in
        let same : d ≡ c = eqb-true d q k ∙ sym (eqb-true c q e) in
        ap (λ y. c ∷ y ∷ cs) same ∙ ap (λ y. c ∷ c ∷ y) (f s.0 s.1)
        ∙ sym (ap (λ y. y ++ q ∷ []) (ap (doubled q) (sym s.2) ∙ doubled_quote q c s.0 e))
    split f g true false e k x = absurd (cc)
    split f g false b e k x =
        let s = some_of (λ more. c ∷ more) (undoubled q (d ∷ cs)) text x in
        ap (λ y. c ∷ y) (g s.0 s.1)
        ∙ sym (ap (λ y. y ++ q ∷ []) (ap (doubled q) (sym s.2) ∙ doubled_other q c s.0 e))

quoted_token : (at : Place) (own text : List ℕ) (ts : List Lexeme) → own ≡ text → one_at at kind.Words text (lexeme at word.Quoted own ∷ ts) ts
quoted_token at own text ts e = ap (λ (x : List ℕ). record { place = at; kind = kind.Words; text = x } ∷ ts) e

unquoted_spelled : (own text : List ℕ) → unquoted own ≡ Some text → (own ≡ quoted 39 text) ⊎ (own ≡ quoted 34 text)
unquoted_spelled [] text h = absurd (cc)
unquoted_spelled (q ∷ cs) text h = split (nat_eq q 39) (nat_eq q 34) refl refl h
  where
    with_quote : (r : ℕ) → q ≡ r → undoubled q cs ≡ Some text → q ∷ cs ≡ quoted r text
    with_quote r e k = subst (λ (x : ℕ). q ∷ cs ≡ quoted x text) e (ap (λ y. q ∷ y) (undoubled_spelled q cs text k))

    split : (a b : Bool) → nat_eq q 39 ≡ a → nat_eq q 34 ≡ b → (if a || b then undoubled q cs else None) ≡ Some text → (q ∷ cs ≡ quoted 39 text) ⊎ (q ∷ cs ≡ quoted 34 text)
    split true b e f k = inl (with_quote 39 (eqb-true q 39 e) k)
    split false true e f k = inr (with_quote 34 (eqb-true q 34 f) k)
    split false false e f k = absurd (cc)

pub text_holds : (at : Place) (own text : List ℕ) (ts : List Lexeme) → unquoted own ≡ Some text → words_at at text (lexeme at word.Quoted own ∷ ts) ts
text_holds at own text ts e = ⊎_elim (λ k. inl (quoted_token at own (quoted 39 text) ts k)) (λ k. inr (quoted_token at own (quoted 34 text) ts k)) (unquoted_spelled own text e)

-- The other way

same_quote : (q : ℕ) → nat_eq q q ≡ true
same_quote q = eq-eqb q q refl

-- there is always the closing quote
goes_on : (q : ℕ) (text : List ℕ) → (d : ℕ) × (cs : List ℕ) × (doubled q text ++ q ∷ [] ≡ d ∷ cs)
goes_on q [] = (q, [], refl)
goes_on q (c ∷ text) = split (nat_eq c q)
  where
    split : (b : Bool) → (d : ℕ) × (cs : List ℕ) × ((if b then c ∷ c ∷ doubled q text else c ∷ doubled q text) ++ q ∷ [] ≡ d ∷ cs)
    split true = (c, c ∷ doubled q text ++ q ∷ [], refl)
    split false = (c, doubled q text ++ q ∷ [], refl)

other_step : (q c d : ℕ) (cs : List ℕ) → nat_eq c q ≡ false → undoubled q (c ∷ d ∷ cs) ≡ option_map (λ more. c ∷ more) (undoubled q (d ∷ cs))
other_step q c d cs e =
    ap (λ b. if b then (if nat_eq d q then option_map (λ more. c ∷ more) (undoubled q cs) else None) else option_map (λ more. c ∷ more) (undoubled q (d ∷ cs))) e

pub quote_step : (q c : ℕ) (cs : List ℕ) → nat_eq c q ≡ true → undoubled q (c ∷ c ∷ cs) ≡ option_map (λ more. c ∷ more) (undoubled q cs)
quote_step q c cs e =
    ap (λ b. if b then (if b then option_map (λ more. c ∷ more) (undoubled q cs) else None) else option_map (λ more. c ∷ more) (undoubled q (c ∷ cs))) e

pub undoubled_doubled : (q : ℕ) (text : List ℕ) → undoubled q (doubled q text ++ q ∷ []) ≡ Some text
undoubled_doubled q [] = ap (λ b. if b then Some [] else None) (same_quote q)
undoubled_doubled q (c ∷ text) = split (undoubled_doubled q text) (nat_eq c q) refl
  where
    split : undoubled q (doubled q text ++ q ∷ []) ≡ Some text → (b : Bool) → nat_eq c q ≡ b → undoubled q ((if b then c ∷ c ∷ doubled q text else c ∷ doubled q text) ++ q ∷ []) ≡ Some (c ∷ text)
    split ih true e = quote_step q c (doubled q text ++ q ∷ []) e ∙ ap (option_map (λ more. c ∷ more)) ih
    split ih false e =
        let g = goes_on q text in
        ap (λ x. undoubled q (c ∷ x)) g.2 ∙ other_step q c g.0 g.1 e ∙ ap (λ x. option_map (λ more. c ∷ more) (undoubled q x)) (sym g.2) ∙ ap (option_map (λ more. c ∷ more)) ih

-- a token that is a text
pub record WordsToken (at : Place) (text : List ℕ) (ts rest : List Lexeme) : Type 0 where
  pub own : List ℕ
  pub is : ts ≡ lexeme at word.Quoted own ∷ rest
  pub text_is : unquoted own ≡ Some text

pub words_token : (at : Place) (text : List ℕ) (ts rest : List Lexeme) → words_at at text ts rest → WordsToken at text ts rest
words_token at text ts rest h = ⊎_elim
    (λ k. record { own = quoted 39 text; is = k; text_is = undoubled_doubled 39 text })
    (λ k. record { own = quoted 34 text; is = k; text_is = undoubled_doubled 34 text })
    h
