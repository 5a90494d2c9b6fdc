-- Tables whose keys are bytes.
use Rattle.std.proofs.Common.{◌≡◌, ℕ, Bool, true, false, ◌||◌, if◌then◌else◌, List, [], ◌∷◌, ◌++◌, Option, Some, is_some, refl, sym, ap, ◌∙◌, subst}
use mathlib.Core.Bool.{cond}
use mathlib.Core.Logic.{⊎_elim}
use Rattle.std.specs.Prelude.{bytes_eq}
use Rattle.std.specs.Global.{Vec}
use Rattle.fic_base.proofs.Tables.{apart, others, is_key}
use Rattle.walk_scope.specs.Names.{is_listed}
use Rattle.std.specs.HashMap as hash
use Rattle.std.specs.HashMap.{HashMap}
use Rattle.std.specs.Map.{update}
use Rattle.std.specs.Cmp.Lexicographic.{bytes_decides, nat_list_eq_equiv}
use Rattle.std.proofs.lemmas.Bool.{cases_Bool, cond-true, cond-false}

-- g is w at bs, and f at other bytes
by_bytes : {W : Type 0} (f g : List ℕ → W) (bs : List ℕ) (w : W) → g bs ≡ w → ((cs : List ℕ) → bytes_eq bs cs ≡ false → g cs ≡ f cs) → (cs : List ℕ) → g cs ≡ cond (bytes_eq bs cs) w (f cs)
by_bytes f g bs w here other cs =
    ⊎_elim
    (λ y. subst (λ l. g l ≡ w) ((bytes_decides bs cs).0 y) here ∙ sym (cond-true (bytes_eq bs cs) w (f cs) y))
    (λ n. other cs n ∙ sym (cond-false (bytes_eq bs cs) w (f cs) n))
    (cases_Bool (bytes_eq bs cs))

-- what a change at a key leaves at any bytes
pub updated : {X S : Type 0} (bs : List ℕ) (m n : HashMap (Vec ℕ) X S) (w : Option X) → hash.UpdatesBy (λ x y. bytes_eq x.items y.items) (λ k. bytes_eq bs k.items) m n w
    → (cs : List ℕ) → hash.get_by (is_key cs) n ≡ update bytes_eq (λ ds. hash.get_by (is_key ds) m) bs w cs
updated bs m n w h = by_bytes (λ ds. hash.get_by (is_key ds) m) (λ ds. hash.get_by (is_key ds) n) bs w h.1 (λ cs e. others _ _ _ _ h.3 _ (λ x y. nat_list_eq_equiv.congr cs x.items y.items) (λ k. apart bs cs k.items e))

-- a name that is put in is among those put in
listed_last : (name x : List ℕ) (xs : List (List ℕ)) → is_listed name (xs ++ x ∷ []) ≡ (if bytes_eq x name then true else is_listed name xs)
listed_last name x [] = by (bytes_eq x name)
  where
    by : (b : Bool) → (b || false) ≡ (if b then true else false)
    by true = refl
    by false = refl
listed_last name x (y ∷ ys) = ap (λ b. bytes_eq y name || b) (listed_last name x ys) ∙ by (bytes_eq y name) (bytes_eq x name) (is_listed name ys)
  where
    by : (a b c : Bool) → (a || (if b then true else c)) ≡ (if b then true else (a || c))
    by true true c = refl
    by true false c = refl
    by false true c = refl
    by false false c = refl

-- a table of the names put in, with one more
pub one_more : {S : Type 0} (u : Unit {0}) (x : List ℕ) (xs : List (List ℕ)) (m n : HashMap (Vec ℕ) (Unit {0}) S) → hash.UpdatesBy (λ x y. bytes_eq x.items y.items) (λ k. bytes_eq x k.items) m n (Some u)
    → ((name : List ℕ) → is_some (hash.get_by (is_key name) m) ≡ is_listed name xs) → (name : List ℕ) → is_some (hash.get_by (is_key name) n) ≡ is_listed name (xs ++ x ∷ [])
one_more u x xs m n h same name = ap is_some (updated x m n (Some u) h name) ∙ by (bytes_eq x name) (hash.get_by (is_key name) m) (is_listed name xs) (same name) ∙ sym (listed_last name x xs)
  where
    by : (b : Bool) (old : Option (Unit {0})) (c : Bool) → is_some old ≡ c → is_some (cond b (Some u) old) ≡ (if b then true else c)
    by true old c h = refl
    by false old c h = h
