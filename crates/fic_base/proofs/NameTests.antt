-- Tests of names.
use Rattle.std.proofs.Common.{◌≡◌, ◌≢◌, ℕ, ◌≤◌, Bool, true, false, List, [], ◌∷◌, length, refl, sym, ◌∙◌, IsTrue}
use Rattle.std.specs.Prelude.{◌||◌, bytes_eq, not}
use Rattle.std.specs.List.{All, AllByRecursion, list_all, list_any}
use Rattle.std.proofs.lemmas.Bool.{false≢true}
use Rattle.std.proofs.lemmas.List.Elements.{All-from_recursion, All-head, All-tail, All-weaker}
use Rattle.std.proofs.lemmas.Slice.Eq.{bytes_eq-Decides}
use Rattle.fic_base.specs.Names.{IsName, is_name_byte, is_keyword, begins_with_letter, keywords}

both_false : (a b : Bool) → (a || b) ≡ false → (a ≡ false) × (b ≡ false)
both_false true b h = absurd (false≢true (sym h))
both_false false b h = (refl, h)

none_of : (p : List ℕ → Bool) (xs : List (List ℕ)) → list_any p xs ≡ false → AllByRecursion (λ x. p x ≡ false) xs
none_of p [] h = tt
none_of p (x ∷ xs) h = let parts = both_false (p x) (list_any p xs) h in (parts.0, none_of p xs parts.1)

or_false : (a b : Bool) → a ≡ false → b ≡ false → (a || b) ≡ false
or_false a b p q = (λ i. p i || q i)

all_of : (p : List ℕ → Bool) (xs : List (List ℕ)) → All (λ x. p x ≡ false) xs → list_any p xs ≡ false
all_of p [] h = refl
all_of p (x ∷ xs) h = or_false (p x) (list_any p xs) (All-head (λ y. p y ≡ false) x xs h) (all_of p xs (All-tail (λ y. p y ≡ false) x xs h))

differs : (name word : List ℕ) → bytes_eq name word ≡ false → word ≢ name
differs name word h e = false≢true (sym h ∙ (bytes_eq-Decides name word).1 (sym e))

not_same : (name word : List ℕ) → word ≢ name → bytes_eq name word ≡ false
not_same name word h = by (bytes_eq name word) refl
  where
    by : (b : Bool) → bytes_eq name word ≡ b → bytes_eq name word ≡ false
    by false e = e
    by true e = absurd (h (sym ((bytes_eq-Decides name word).0 e)))

pub no_keyword : (name : List ℕ) → is_keyword name ≡ false → All (λ word. word ≢ name) keywords
no_keyword name h =
    All-weaker (λ word. bytes_eq name word ≡ false) (λ word. word ≢ name) (differs name) keywords
    (All-from_recursion (λ word. bytes_eq name word ≡ false) keywords (none_of (bytes_eq name) keywords h))

pub is_no_keyword : (name : List ℕ) → All (λ word. word ≢ name) keywords → is_keyword name ≡ false
is_no_keyword name h =
    all_of (bytes_eq name) keywords (All-weaker (λ word. word ≢ name) (λ word. bytes_eq name word ≡ false) (not_same name) keywords h)

pub name_test : (name : List ℕ) (b : Bool) → b ≡ is_keyword name → begins_with_letter name ≡ true → list_all is_name_byte name ≡ true → length name ≤ 63 → (IsTrue (not b) → IsName name) × (IsName name → IsTrue (not b))
name_test name true k p q r = ((λ h. absurd (false≢true h)), (λ n. absurd (false≢true (sym (is_no_keyword name n.no_keyword) ∙ sym k))))
name_test name false k p q r = ((λ h. record { letter = p; name_bytes = q; most = r; no_keyword = no_keyword name (sym k) }), (λ n. refl))
