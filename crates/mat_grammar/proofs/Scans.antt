-- Reading the texts of numbers and texts byte by byte.
use Rattle.std.proofs.Common.{◌≡◌, ◌≢◌, ℕ, ◌+◌, ◌<◌, true, false, List, [], ◌∷◌, ◌++◌, drop, length, get_or, refl, ap, sym, ◌∙◌, arith, drop-cons, add-one, append_assoc, Option, Some, None}
use Rattle.std.specs.Prelude.{◌||◌, nat_eq, if◌then◌else◌}
use Rattle.std.specs.Option.{option_map}
use Rattle.std.proofs.lemmas.Bool.{ne_eqb, eq-eqb}
use Rattle.mat_grammar.specs.Spelling.{has_unit}
use Rattle.mat_grammar.specs.Words.{front_of, digits_of, undoubled}
use Rattle.mat_grammar.proofs.Texts.{front_behind, quote_step}

has_unit_last : (front : List ℕ) (c : ℕ) → has_unit (front ++ c ∷ []) ≡ (nat_eq c 105 || nat_eq c 106)
has_unit_last [] c = refl
has_unit_last (d ∷ []) c = refl
has_unit_last (d ∷ e ∷ front) c = has_unit_last (e ∷ front) c

pub unit_last : (own front : List ℕ) (c : ℕ) → own ≡ front ++ c ∷ [] → (nat_eq c 105 || nat_eq c 106) ≡ has_unit own
unit_last own front c e = sym (ap has_unit e ∙ has_unit_last front c)

pub digits_front : (own front : List ℕ) (c : ℕ) → own ≡ front ++ c ∷ [] → (nat_eq c 105 || nat_eq c 106) ≡ true → front ≡ digits_of own
digits_front own front c e h =
    let u : has_unit own ≡ true = sym (unit_last own front c e) ∙ h in
    sym (ap (λ b. if b then front_of own else own) u ∙ ap front_of e ∙ front_behind front c)

pub digits_whole : (own front : List ℕ) (c : ℕ) → own ≡ front ++ c ∷ [] → (nat_eq c 105 || nat_eq c 106) ≡ false → own ≡ digits_of own
digits_whole own front c e h =
    let u : has_unit own ≡ false = sym (unit_last own front c e) ∙ h in
    sym (ap (λ b. if b then front_of own else own) u)

-- a byte that is no quote
undoubled_other : (q c : ℕ) (more : List ℕ) → nat_eq c q ≡ false → undoubled q (c ∷ more) ≡ option_map (λ x. c ∷ x) (undoubled q more)
undoubled_other q c [] e = ap (λ b. if b then Some [] else None) e
undoubled_other q c (d ∷ cs) e =
    ap (λ b. if b then (if nat_eq d q then option_map (λ more. c ∷ more) (undoubled q cs) else None) else option_map (λ more. c ∷ more) (undoubled q (d ∷ cs))) e

map_twice : (text : List ℕ) (c : ℕ) (o : Option (List ℕ)) → option_map (λ x. text ++ x) (option_map (λ x. c ∷ x) o) ≡ option_map (λ x. (text ++ c ∷ []) ++ x) o
map_twice text c (Some x) = ap Some (sym (append_assoc text (c ∷ []) x))
map_twice text c None = refl

here : (own : List ℕ) (at : ℕ) → at < length own → drop at own ≡ get_or own at 0 ∷ drop (at + 1) own
here own at h = rw (add-one, drop-cons own at 0)

with_new : (text new : List ℕ) (c : ℕ) (o X : Option (List ℕ)) → new ≡ text ++ c ∷ [] → option_map (λ x. text ++ x) (option_map (λ x. c ∷ x) o) ≡ X → option_map (λ x. new ++ x) o ≡ X
with_new text new c o X e h = ap (λ (y : List ℕ). option_map (λ x. y ++ x) o) e ∙ sym (map_twice text c o) ∙ h

pub step_other : (own : List ℕ) (at q : ℕ) (text new : List ℕ) (X : Option (List ℕ)) → at < length own → get_or own at 0 ≢ q → new ≡ text ++ get_or own at 0 ∷ []
    → option_map (λ more. text ++ more) (undoubled q (drop at own)) ≡ X → option_map (λ more. new ++ more) (undoubled q (drop (at + 1) own)) ≡ X
step_other own at q text new X lt ne e h = with_new text new (get_or own at 0) (undoubled q (drop (at + 1) own)) X e
    (ap (option_map (λ x. text ++ x)) (sym (ap (undoubled q) (here own at lt) ∙ undoubled_other q (get_or own at 0) (drop (at + 1) own) (ne_eqb (get_or own at 0) q ne))) ∙ h)

pub step_quote : (own : List ℕ) (at q : ℕ) (text new : List ℕ) (X : Option (List ℕ)) → at + 1 < length own → get_or own at 0 ≡ q → get_or own (at + 1) 0 ≡ q → new ≡ text ++ get_or own at 0 ∷ []
    → option_map (λ more. text ++ more) (undoubled q (drop at own)) ≡ X → option_map (λ more. new ++ more) (undoubled q (drop (at + 2) own)) ≡ X
step_quote own at q text new X lt e f k h =
    let same : drop at own ≡ get_or own at 0 ∷ get_or own at 0 ∷ drop (at + 2) own =
    here own at (omega arith) ∙ ap (λ x. get_or own at 0 ∷ x) (here own (at + 1) lt)
    ∙ ap (λ x. get_or own at 0 ∷ x ∷ drop (at + 1 + 1) own) (f ∙ sym e)
    ∙ ap (λ n. get_or own at 0 ∷ get_or own at 0 ∷ drop n own) (let s : at + 1 + 1 ≡ at + 2 = omega arith in s) in
    with_new text new (get_or own at 0) (undoubled q (drop (at + 2) own)) X k
    (ap (option_map (λ x. text ++ x)) (sym (ap (undoubled q) same ∙ quote_step q (get_or own at 0) (drop (at + 2) own) (eq-eqb (get_or own at 0) q e))) ∙ h)
