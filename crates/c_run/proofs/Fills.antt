-- Arrays that take their elements one after another.
use Rattle.std.proofs.Common.{◌≡◌, ℕ, suc, ◌+◌, ◌<◌, arith, ℤ, List, [], ◌∷◌, ◌++◌, length, map, get_or, take, drop, refl, sym, ap, ◌∙◌, subst, append_assoc, length-drop}
use Rattle.std.specs.Prelude.{slice_set}
use Rattle.std.proofs.lemmas.List.{length-map, take_more_set, drop-set-lt}
use Rattle.std.proofs.Math.ListN.{get_or-map}
use Rattle.c_tree.specs.Meaning.{Cells}
use Rattle.c_run.specs.Fit.{AreFit}
use Rattle.c_run.specs.Start.{refilled, AreFilling}
use Rattle.c_run.proofs.Turns.{item_first}

filling_length : (cs : List Cells) (lists : List (List ℤ)) → AreFilling cs lists → length cs ≡ length lists
filling_length [] [] h = refl
filling_length [] (x ∷ lists) h = absurd h
filling_length (c ∷ cs) [] h = absurd h
filling_length (c ∷ cs) (x ∷ lists) h = ap suc (filling_length cs lists h.1)

-- a list stands there for the next array
pub fill_within : {A : Type 0} → (items : A → List ℤ) (given : List A) (s : List Cells) (k : ℕ) → AreFilling (drop k s) (drop k (map items given)) → k < length s → k < length given
fill_within items given s k h lt =
    let e = filling_length (drop k s) (drop k (map items given)) h in
    omega (arith, e, length-drop k s, length-drop k (map items given), length-map given items, lt)

list_first : {A : Type 0} → (items : A → List ℤ) (given : List A) (k : ℕ) (v : A) → k < length given → v ≡ get_or given k v → drop k (map items given) ≡ items v ∷ drop (k + 1) (map items given)
list_first items given k v lt e =
    let within : k < length (map items given) = omega (arith, length-map given items, lt) in
    item_first (map items given) k (items v) within (ap items e ∙ sym (get_or-map items given k v))

-- it fits, and so do those behind
pub fill_fits : {A : Type 0} → (items : A → List ℤ) (given : List A) (s : List Cells) (k : ℕ) (c : Cells) (v : A) → AreFilling (drop k s) (drop k (map items given))
    → k < length s → k < length given → c ≡ get_or s k c → v ≡ get_or given k v
    → ((length (items v) ≡ length c.items) × AreFit c.container (items v)) × AreFilling (drop (k + 1) s) (drop (k + 1) (map items given))
fill_fits items given s k c v h lt within ec ev =
    subst (λ lists. AreFilling (c ∷ drop (k + 1) s) lists) (list_first items given k v within ev)
    (subst (λ cs. AreFilling cs (drop k (map items given))) (item_first s k c lt ec) h)

-- with one more array
pub fill_step : {A : Type 0} → (items : A → List ℤ) (given : List A) (s : List Cells) (k : ℕ) (c w : Cells) (v : A) → k < length s → k < length given → c ≡ get_or s k c → v ≡ get_or given k v
    → w ≡ record { container = c.container; items = items v }
    → take k s ++ refilled (drop k s) (drop k (map items given)) ≡ take (k + 1) (slice_set s k w) ++ refilled (drop (k + 1) (slice_set s k w)) (drop (k + 1) (map items given))
fill_step items given s k c w v lt within ec ev ew =
    let lists = map items given in
    let rest = refilled (drop (k + 1) s) (drop (k + 1) lists) in
    ap (λ cs. take k s ++ refilled cs (drop k lists)) (item_first s k c lt ec)
    ∙ ap (λ ls. take k s ++ refilled (c ∷ drop (k + 1) s) ls) (list_first items given k v within ev)
    ∙ ap (λ x. take k s ++ (x ∷ rest)) (sym ew)
    ∙ sym (append_assoc (take k s) (w ∷ []) rest)
    ∙ ap (λ t. t ++ rest) (sym (take_more_set s k w lt))
    ∙ ap (λ cs. take (k + 1) (slice_set s k w) ++ refilled cs (drop (k + 1) lists)) (sym (drop-set-lt (k + 1) s k w (omega arith)))
