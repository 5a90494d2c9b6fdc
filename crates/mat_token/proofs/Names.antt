-- The text of a name token is a name.
use Rattle.std.proofs.lemmas.Bool.{false≢true}
use Rattle.std.proofs.lemmas.List.{length-take-le}
use Rattle.std.specs.List.{list_all}
use Rattle.std.proofs.Common.{◌≡◌, ℕ, ◌<◌, Bool, true, false, List, [], ◌∷◌, length, take, get_or, refl, sym, ap, ◌∙◌, subst, Some, arith}
use Rattle.std.specs.Prelude.{zero, suc, if◌then◌else◌, ◌||◌, ◌==◌}
use Rattle.fic_base.specs.Names.{is_letter, is_digit, is_name_byte, begins_with_letter, is_keyword, IsName}
use Rattle.fic_base.proofs.NameTests.{no_keyword}
use Rattle.mat_token.specs.declared.token.Kind.{Kind}
use Rattle.mat_token.specs.declared.token.Kind.TheVariants as kind
use Rattle.mat_token.specs.declared.rule.Rule.{Rule}
use Rattle.mat_token.specs.declared.rule.Rule.TheVariants.{Block, Newline, Blank, Comment, Continued, Word, Number, Words, Op}
use Rattle.mat_token.specs.declared.rule.Context.{Context}
use Rattle.mat_token.specs.Rules.{rule_at, kind_of}
use Rattle.mat_token.specs.Texts.{AllPassIn, IsOf, IsPiece}
use Rattle.mat_token.proofs.Numbers.{neither}
use Rattle.mat_token.proofs.Piece.{word_begins}

starts_letter : (s : List ℕ) (n : ℕ) → 0 < n → is_letter (get_or s 0 0) ≡ true → begins_with_letter (take n s) ≡ true
starts_letter [] n some h = absurd (false≢true h)
starts_letter (b ∷ s) zero some h = absurd (omega (arith, some))
starts_letter (b ∷ s) (suc n) some h = h

front_passes : (p : ℕ → Bool) (s : List ℕ) (n : ℕ) → ((k : ℕ) → k < n → p (get_or s k 0) ≡ true) → list_all p (take n s) ≡ true
front_passes p [] zero h = refl
front_passes p [] (suc n) h = refl
front_passes p (b ∷ s) zero h = refl
front_passes p (b ∷ s) (suc n) h = neither _ _ (h 0 (omega arith)) (front_passes p s n (λ k low. h (suc k) (omega (arith, low))))

letter_passes : (b : ℕ) → is_letter b ≡ true → is_name_byte b ≡ true
letter_passes b h = ap (λ (v : Bool). v || (is_digit b || b == 95)) h

kind_same : (j k : Kind) → Some j ≡ Some k → j ≡ k
kind_same j k e = cc

plain_cases : (v : Bool) → (if v then kind.Keyword else kind.Name) ≡ kind.Name → v ≡ false
plain_cases true e = absurd cc
plain_cases false e = refl

-- only the rule of words gives a name, and none that is a keyword
name_rule : (rule : Rule) (text : List ℕ) (k : Kind) → kind_of rule text ≡ Some k → k ≡ kind.Name → (rule ≡ Word) × (is_keyword text ≡ false)
name_rule Word text k e is = (refl, plain_cases (is_keyword text) (kind_same _ _ e ∙ is))
name_rule Block text k e is = absurd cc
name_rule Newline text k e is = absurd cc
name_rule Blank text k e is = absurd cc
name_rule Comment text k e is = absurd cc
name_rule Continued text k e is = absurd cc
name_rule Number text k e is = absurd cc
name_rule Words text k e is = absurd cc
name_rule Op text k e is = absurd cc

name_byte_at : (s : List ℕ) (n k : ℕ) → is_letter (get_or s 0 0) ≡ true → AllPassIn is_name_byte s 1 n → k < n → is_name_byte (get_or s k 0) ≡ true
name_byte_at s n zero first all low = letter_passes (get_or s 0 0) first
name_byte_at s n (suc k) first all low = all (suc k) (omega arith) low

pub name_text : (c : Context) (s : List ℕ) (n : ℕ) (k : Kind) → 0 < length s → IsPiece c s n → kind_of (rule_at c s) (take n s) ≡ Some k → k ≡ kind.Name → IsName (take n s)
name_text c s n k some p e is =
    let r = name_rule (rule_at c s) (take n s) k e is in
    let all : AllPassIn is_name_byte s 1 n = subst (λ (x : Rule). IsOf c x s n) r.0 p.longest.is in
    let one : IsOf c (rule_at c s) s 1 = subst (λ (x : Rule). IsOf c x s 1) (sym r.0) (λ j from to. absurd (omega (arith, from, to))) in
    let first : is_letter (get_or s 0 0) ≡ true = word_begins c s r.0 in
    record {
      letter = starts_letter s n (omega (arith, p.longest.most 1 some one)) first;
      name_bytes = front_passes is_name_byte s n (λ j low. name_byte_at s n j first all low);
      most = omega (arith, length-take-le n s p.longest.within, p.name r.0);
      no_keyword = no_keyword (take n s) r.1;
    }
