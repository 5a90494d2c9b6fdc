-- A text has at most one outcome.
use Rattle.std.proofs.lemmas.Bool.{cases_lt}
use Rattle.std.proofs.Common.{◌≡◌, ℕ, List, length, take, drop, refl, sym, ap, ◌∙◌, subst, inl, inr}
use Rattle.fic_base.specs.declared.place.Place.{Place}
use Rattle.mat_token.specs.declared.rule.Context.{Context}
use Rattle.mat_token.specs.Rules.{rule_at, kind_of}
use Rattle.mat_token.specs.Reads.{Outcome, Reads, Ends, Stops, GoesOn, place_after, after_piece, tokens_of, preceded}
use Rattle.mat_token.proofs.Piece.{piece_once}
use Rattle.mat_token.specs.Outcome.{IsOutcome, with_separators}

-- the next piece has the same length
next_same : (c : Context) (at : Place) (s : List ℕ) (m n : ℕ) (o : Outcome) → n ≡ m →
    Reads (after_piece c at (rule_at c s) (take n s) s (kind_of (rule_at c s) (take n s))) (place_after at (take n s)) (drop n s) o →
    Reads (after_piece c at (rule_at c s) (take m s) s (kind_of (rule_at c s) (take m s))) (place_after at (take m s)) (drop m s) o
next_same c at s m n o e h =
    subst (λ (k : ℕ). Reads (after_piece c at (rule_at c s) (take k s) s (kind_of (rule_at c s) (take k s))) (place_after at (take k s)) (drop k s) o) e h

joined_same : (c : Context) (at : Place) (s : List ℕ) (m n : ℕ) (o p x y : Outcome) → n ≡ m → x ≡ y →
    o ≡ preceded (tokens_of c at m (kind_of (rule_at c s) (take m s))) x →
    p ≡ preceded (tokens_of c at n (kind_of (rule_at c s) (take n s))) y → o ≡ p
joined_same c at s m n o p x y e d h k = rw (h, k, e, d) refl

pub reads_once : (c : Context) (at : Place) (s : List ℕ) (o p : Outcome) → Reads c at s o → Reads c at s p → o ≡ p
reads_once c at s o p (Ends c1 at1 s1 o1 empty is) (Ends c2 at2 s2 o2 empty2 is2) = is ∙ sym is2
reads_once c at s o p (Ends c1 at1 s1 o1 empty is) (Stops c2 at2 s2 o2 full none is2) = absurd (full empty)
reads_once c at s o p (Ends c1 at1 s1 o1 empty is) (GoesOn c2 at2 s2 o2 n x full long goes is2) = absurd (full empty)
reads_once c at s o p (Stops c1 at1 s1 o1 full none is) (Ends c2 at2 s2 o2 empty2 is2) = absurd (full empty2)
reads_once c at s o p (Stops c1 at1 s1 o1 full none is) (Stops c2 at2 s2 o2 full2 none2 is2) = is ∙ sym is2
reads_once c at s o p (Stops c1 at1 s1 o1 full none is) (GoesOn c2 at2 s2 o2 n x full2 long goes is2) = absurd (none n long)
reads_once c at s o p (GoesOn c1 at1 s1 o1 m y full1 long1 goes1 is) (Ends c2 at2 s2 o2 empty2 is2) = absurd (full1 empty2)
reads_once c at s o p (GoesOn c1 at1 s1 o1 m y full1 long1 goes1 is) (Stops c2 at2 s2 o2 full2 none2 is2) = absurd (none2 m long1)
reads_once c at s o p (GoesOn c1 at1 s1 o1 m y full1 long1 goes1 is) (GoesOn c2 at2 s2 o2 n x full long goes is2) =
    let e : n ≡ m = piece_once c s n m long long1 in
    joined_same c at s m n o p y x e (reads_once _ _ _ y x goes1 (next_same c at s m n x e goes)) is is2

pub outcome_once : (bytes : List ℕ) (o p : Outcome) → IsOutcome bytes o → IsOutcome bytes p → o ≡ p
outcome_once bytes o p h k =
    elim (cases_lt 1048576 (length bytes)) as (λ _. o ≡ p) [
      | inl long ↦ h.long long ∙ sym (k.long long)
      | inr short ↦
          let a = h.short short in
          let b = k.short short in
          a.2 ∙ ap (with_separators bytes) (reads_once _ _ _ a.0 b.0 a.1 b.1) ∙ sym b.2
    ]
