-- Texts split at the first such byte.
use Rattle.std.proofs.Common.{inl, inr, ◌⊎◌, ◌≡◌, ◌≢◌, ℕ, suc, ◌<◌, ◌≤◌, true, false, List, [], ◌∷◌, ◌++◌, length, take, drop, refl, sym, ap, ◌∙◌, subst, arith, nat_eq}
use Rattle.std.specs.Prelude.{if◌then◌else◌}
use Rattle.std.proofs.lemmas.Bool.Decides.{eqb_tells}
use Rattle.shape_rules.specs.Pieces.{Lacks, place_of}

-- the one way to split
pub same_split : (m : ℕ) (a b c d : List ℕ) → Lacks m a → Lacks m c → a ++ m ∷ b ≡ c ++ m ∷ d → (a ≡ c) × (b ≡ d)
same_split m [] b [] d p q e = (refl, cc)
same_split m [] b (y ∷ c) d p q e = absurd (q.0 (cc))
same_split m (x ∷ a) b [] d p q e = absurd (p.0 (cc))
same_split m (x ∷ a) b (y ∷ c) d p q e =
    let rest = same_split m a b c d p.1 q.1 (cc) in
    let first : x ≡ y = cc in
    (λ i. first i ∷ rest.0 i, rest.1)

pub no_mark : (m : ℕ) (a b : List ℕ) → Lacks m (a ++ m ∷ b) → ⊥
no_mark m [] b h = h.0 refl
no_mark m (x ∷ a) b h = no_mark m a b h.1

pub lacks_both : (m : ℕ) (a b : List ℕ) → Lacks m a → Lacks m b → Lacks m (a ++ b)
lacks_both m [] b p q = q
lacks_both m (x ∷ a) b p q = (p.0, lacks_both m a b p.1 q)

-- what stands before the first such byte, and behind it
pub record IsSplit (m : ℕ) (bs : List ℕ) (k : ℕ) : Type 0 where
  pub whole : bs ≡ take k bs ++ m ∷ drop (suc k) bs
  pub none : Lacks m (take k bs)

pub at_place : (m : ℕ) (bs : List ℕ) → place_of m bs < length bs → IsSplit m bs (place_of m bs)
at_place m [] h = absurd (omega (arith, h))
at_place m (b ∷ bs) h = by (eqb_tells b m) (at_place m bs)
  where
    by : ((nat_eq b m ≡ true) × (b ≡ m)) ⊎ ((nat_eq b m ≡ false) × (b ≢ m)) → (place_of m bs < length bs → IsSplit m bs (place_of m bs)) → IsSplit m (b ∷ bs) (place_of m (b ∷ bs))
    by (inl p) rest = subst (IsSplit m (b ∷ bs)) (sym (ap (λ t. if t then 0 else suc (place_of m bs)) p.0)) (record { whole = ap (λ x. x ∷ bs) p.1; none = tt })
    by (inr p) rest =
        let at : place_of m (b ∷ bs) ≡ suc (place_of m bs) = ap (λ t. if t then 0 else suc (place_of m bs)) p.0 in
        let more = rest (omega (arith, h, at)) in
        subst (IsSplit m (b ∷ bs)) (sym at) (record { whole = ap (λ x. b ∷ x) more.whole; none = (p.1, more.none) })

pub no_place : (m : ℕ) (bs : List ℕ) → length bs ≤ place_of m bs → Lacks m bs
no_place m [] h = tt
no_place m (b ∷ bs) h = by (eqb_tells b m) (no_place m bs)
  where
    by : ((nat_eq b m ≡ true) × (b ≡ m)) ⊎ ((nat_eq b m ≡ false) × (b ≢ m)) → (length bs ≤ place_of m bs → Lacks m bs) → Lacks m (b ∷ bs)
    by (inl p) rest = absurd (omega (arith, h, ap (λ t. if t then 0 else suc (place_of m bs)) p.0))
    by (inr p) rest =
        let at : place_of m (b ∷ bs) ≡ suc (place_of m bs) = ap (λ t. if t then 0 else suc (place_of m bs)) p.0 in
        (p.1, rest (omega (arith, h, at)))

pub split_at_place : (m : ℕ) (bs : List ℕ) (k : ℕ) (a b : List ℕ) → k ≡ place_of m bs → k < length bs → a ≡ take k bs → b ≡ drop (suc k) bs → (bs ≡ a ++ m ∷ b) × Lacks m a
split_at_place m bs k a b p h q r =
    let at = subst (IsSplit m bs) (sym p) (at_place m bs (subst (λ n. n < length bs) p h)) in
    (at.whole ∙ (λ i. sym q i ++ m ∷ sym r i), subst (Lacks m) (sym q) at.none)
