-- Arrays of numbers, read one behind the other.
use Rattle.std.proofs.Common.{◌+◌, take, drop, arith, zero, suc, ◌<◌, Bor, ◌≡◌, ℕ, List, [], ◌∷◌, ◌++◌, length, map, refl, sym, ap, ◌∙◌, subst, append_assoc, length-append}
use Rattle.std.specs.Prelude.{ℤ, All, IsTrue, flat_map, slice_index_or}
use Rattle.std.proofs.lemmas.Grind.{flat_map-append}
use Rattle.std.proofs.lemmas.List.{length-map, map-append, append-nil, take-append-drop}
use Rattle.std.proofs.lemmas.List.Elements.{All-nil, All-cons, All-head, All-tail}
use Rattle.case_io.specs.Cases.{Range, IsWithin, AreInputs, elements}
use Rattle.case_io.specs.Plain.{value_of, is_canonical}
use Rattle.case_io.specs.Reads.{texts_of}

-- the arrays before are read, and these texts are left for these ranges
pub record BehindArrays (ranges : List Range) (texts : List (List ℕ)) (done : List (List ℤ)) (left : List Range) (rest : List (List ℕ)) : Type 0 where
  pub before : List Range
  pub whole : ranges ≡ before ++ left
  pub inputs : AreInputs before done
  pub values : map value_of texts ≡ flat_map (λ zs. zs) done ++ map value_of rest
  pub canonical : All (λ t. IsTrue (is_canonical t)) rest
  pub count : length rest ≡ elements left

-- what holds of each text holds of one
pub text_at : (P : List ℕ → Type 0) (texts : List (Bor (List ℕ))) (k : ℕ) (d : Bor (List ℕ)) → k < length texts → All P (texts_of texts) → P (slice_index_or texts k d).now
text_at P [] k d h all = absurd (omega (arith, h))
text_at P (t ∷ ts) zero d h all = All-head P t.now (texts_of ts) all
text_at P (t ∷ ts) (suc k) d h all = text_at P ts k d (omega (arith, h)) (All-tail P t.now (texts_of ts) all)

-- what holds of each value holds of the value of one text
pub value_at : (P : ℤ → Type 0) (texts : List (Bor (List ℕ))) (k : ℕ) (d : Bor (List ℕ)) → k < length texts → All P (map value_of (texts_of texts)) → P (value_of (slice_index_or texts k d).now)
value_at P [] k d h all = absurd (omega (arith, h))
value_at P (t ∷ ts) zero d h all = All-head P (value_of t.now) (map value_of (texts_of ts)) all
value_at P (t ∷ ts) (suc k) d h all = value_at P ts k d (omega (arith, h)) (All-tail P (value_of t.now) (map value_of (texts_of ts)) all)

-- ---- all of a list and of its parts

pub all_front : {A : Type 0} (P : A → Type 0) (xs ys : List A) → All P (xs ++ ys) → All P xs
all_front P [] ys h = All-nil P
all_front P (x ∷ xs) ys h = All-cons P x xs (All-head P x (xs ++ ys) h) (all_front P xs ys (All-tail P x (xs ++ ys) h))

pub all_back : {A : Type 0} (P : A → Type 0) (xs ys : List A) → All P (xs ++ ys) → All P ys
all_back P [] ys h = h
all_back P (x ∷ xs) ys h = all_back P xs ys (All-tail P x (xs ++ ys) h)

-- fronts of one length
same_front : {A : Type 0} (a b c d : List A) → length a ≡ length c → a ++ b ≡ c ++ d → (a ≡ c) × (b ≡ d)
same_front [] b [] d h e = (refl, e)
same_front [] b (y ∷ c) d h e = absurd (omega (arith, h))
same_front (x ∷ a) b [] d h e = absurd (omega (arith, h))
same_front (x ∷ a) b (y ∷ c) d h e =
    let rest = same_front a b c d (omega (arith, h)) (cc) in
    let first : x ≡ y = cc in
    (λ i. first i ∷ rest.0 i, rest.1)

-- ---- inputs and their ranges

abbrev pub flat : List (List ℤ) → List ℤ
flat = flat_map (λ zs. zs)

elements_are : (rs : List Range) (zss : List (List ℤ)) → AreInputs rs zss → length (flat zss) ≡ elements rs
elements_are [] [] h = refl
elements_are [] (zs ∷ more) h = absurd h
elements_are (r ∷ rs) [] h = absurd h
elements_are (r ∷ rs) (zs ∷ more) h = omega (arith, length-append zs (flat more), h.0, elements_are rs more h.2)

one_input : (r : Range) (zs : List ℤ) → length zs ≡ r.count → All (IsWithin r) zs → AreInputs (r ∷ []) (zs ∷ [])
one_input r zs n w = (n, w, tt)

inputs_more : (before : List Range) (done : List (List ℤ)) (r : Range) (zs : List ℤ) → AreInputs before done → length zs ≡ r.count → All (IsWithin r) zs → AreInputs (before ++ r ∷ []) (done ++ zs ∷ [])
inputs_more [] [] r zs h n w = one_input r zs n w
inputs_more [] (d ∷ ds) r zs h n w = absurd h
inputs_more (b ∷ bs) [] r zs h n w = absurd h
inputs_more (b ∷ bs) (d ∷ ds) r zs h n w = (h.0, h.1, inputs_more bs ds r zs h.2 n w)

-- the list of a range among inputs
record Found (before : List Range) (r : Range) (inputs : List (List ℤ)) : Type 0 where
  done : List (List ℤ)
  zs : List ℤ
  more : List (List ℤ)
  whole : inputs ≡ done ++ zs ∷ more
  first : AreInputs before done
  size : length zs ≡ r.count
  within : All (IsWithin r) zs

found : (before : List Range) (r : Range) (left : List Range) (inputs : List (List ℤ)) → AreInputs (before ++ r ∷ left) inputs → Found before r inputs
found [] r left [] h = absurd h
found [] r left (zs ∷ more) h = record { done = []; zs = zs; more = more; whole = refl; first = tt; size = h.0; within = h.1 }
found (b ∷ bs) r left [] h = absurd h
found (b ∷ bs) r left (d ∷ ds) h =
    let f = found bs r left ds h.2 in
    record { done = d ∷ f.done; zs = f.zs; more = f.more; whole = ap (λ l. d ∷ l) f.whole; first = (h.0, h.1, f.first); size = f.size; within = f.within }

-- one more array is read
pub array_read : (ranges left : List Range) (r : Range) (texts rest own behind : List (List ℕ)) (done : List (List ℤ)) (zs : List ℤ) → BehindArrays ranges texts done (r ∷ left) rest → rest ≡ own ++ behind → length own ≡ r.count
    → zs ≡ map value_of own → All (IsWithin r) zs → BehindArrays ranges texts (done ++ zs ∷ []) left behind
array_read ranges left r texts rest own behind done zs b split size are within =
    let P : List ℕ → Type 0 = λ t. IsTrue (is_canonical t) in
    record {
      before = b.before ++ r ∷ [];
      whole = b.whole ∙ sym (append_assoc b.before (r ∷ []) left);
      inputs = inputs_more b.before done r zs b.inputs (ap length are ∙ length-map own value_of ∙ size) within;
      values =
          b.values ∙ ap (λ l. flat done ++ map value_of l) split ∙ ap (λ l. flat done ++ l) (map-append value_of own behind) ∙ sym (append_assoc (flat done) (map value_of own) (map value_of behind))
          ∙ ap (λ l. l ++ map value_of behind) (ap (λ l. flat done ++ l) (sym are) ∙ sym (flat_map-append (λ zs. zs) done (zs ∷ []) ∙ ap (λ l. flat done ++ l) (append-nil zs)));
      canonical = all_back P own behind (subst (All P) split b.canonical);
      count = omega (arith, b.count, ap length split, length-append own behind, size);
    }

-- an array with a number out of range leaves no inputs
pub array_bad : (ranges left : List Range) (r : Range) (texts rest own behind : List (List ℕ)) (done : List (List ℤ)) → BehindArrays ranges texts done (r ∷ left) rest → rest ≡ own ++ behind → length own ≡ r.count
    → (All (IsWithin r) (map value_of own) → ⊥) → (inputs : List (List ℤ)) → AreInputs ranges inputs → flat inputs ≡ map value_of texts → ⊥
array_bad ranges left r texts rest own behind done b split size bad inputs are same =
    let f = found b.before r left inputs (subst (λ l. AreInputs l inputs) b.whole are) in
    let whole : flat f.done ++ (f.zs ++ flat f.more) ≡ flat done ++ (map value_of own ++ map value_of behind) =
    sym (ap flat f.whole ∙ flat_map-append (λ zs. zs) f.done (f.zs ∷ f.more)) ∙ same ∙ b.values ∙ ap (λ l. flat done ++ map value_of l) split ∙ ap (λ l. flat done ++ l) (map-append value_of own behind) in
    let front = same_front (flat f.done) (f.zs ++ flat f.more) (flat done) (map value_of own ++ map value_of behind) (elements_are b.before f.done f.first ∙ sym (elements_are b.before done b.inputs)) whole in
    let own_is = same_front f.zs (flat f.more) (map value_of own) (map value_of behind) (f.size ∙ sym (length-map own value_of ∙ size)) front.1 in
    bad (subst (All (IsWithin r)) own_is.0 f.within)

-- ---- parts of lists

drop_nil : {A : Type 0} (n : ℕ) → drop {A = A} n [] ≡ []
drop_nil zero = refl
drop_nil (suc n) = refl

drop_twice : {A : Type 0} (xs : List A) (a n : ℕ) → drop n (drop a xs) ≡ drop (a + n) xs
drop_twice xs zero n = let same : n ≡ 0 + n = omega arith in ap (λ m. drop m xs) same
drop_twice [] (suc a) n = drop_nil n ∙ sym (drop_nil (suc a + n))
drop_twice (x ∷ xs) (suc a) n = let shift : suc (a + n) ≡ suc a + n = omega arith in drop_twice xs a n ∙ ap (λ m. drop m (x ∷ xs)) shift

-- so many from a place on, and those behind
pub cut : {A B : Type 0} (f : A → B) (xs : List A) (at n : ℕ) (own : List A) → own ≡ take n (drop at xs) → map f (drop at xs) ≡ map f own ++ map f (drop (at + n) xs)
cut f xs at n own e =
    ap (map f) (sym (take-append-drop n (drop at xs)))
    ∙ map-append f (take n (drop at xs)) (drop n (drop at xs))
    ∙ (λ i. map f (sym e i) ++ map f (drop_twice xs at n i))

-- what is left at a place
pub left_at : {A : Type 0} (xs : List A) (k : ℕ) (x d : A) → k < length xs → x ≡ slice_index_or xs k d → drop k xs ≡ x ∷ drop (k + 1) xs
left_at [] k x d h e = absurd (omega (arith, h))
left_at (y ∷ ys) zero x d h e = ap (λ z. z ∷ ys) (sym e)
left_at (y ∷ ys) (suc k) x d h e = let shift : suc k + 1 ≡ suc (k + 1) = omega arith in left_at ys k x d (omega (arith, h)) e ∙ ap (λ n. x ∷ drop n (y ∷ ys)) (sym shift)
