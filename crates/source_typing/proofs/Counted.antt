-- Counting stays within the limits.
use Rattle.std.proofs.Common.{◌≡◌, ℕ, suc, ◌+◌, ◌≤◌, ◌<◌, Bool, true, false, refl, arith}
use Rattle.std.specs.Prelude.{nat_lt, nat_le}
use Rattle.fic_base.specs.declared.place.Place.{Place}
use Rattle.fi_rules.specs.Texts.{Around}
use Rattle.node_rules.specs.Ruled.{Ruled}
use Rattle.node_rules.specs.Types.{NodeTy, shape_of}
use Rattle.typed_ir.specs.Tree.{TExp}
use Rattle.walk_scope.specs.Told.{Told, Passes, choose}
use Rattle.source_typing.specs.Counts.{Counts, counted, node_limit, element_limit, limited_at, elements_in, nested}
use Rattle.source_typing.specs.Pending.{Pending, Typed, node, node_by, told_at}
use Rattle.source_typing.specs.Within.{IsWithin}
use Rattle.source_typing.proofs.Passing.{Passing, Any, goes_on, after_any, either}

below : (n k : ℕ) → nat_lt n k ≡ true → suc n ≤ k
below n k h = grind arith

up_to : (n k : ℕ) → nat_le n k ≡ true → n ≤ k
up_to n k h = grind arith

pub counted_within : (at : Place) (n : ℕ) (c : Counts) → IsWithin c → Passing IsWithin (counted at n c)
unfolding choose
counted_within at n c h = of (nat_le (c.elements + n) element_limit) refl (nat_lt c.nodes node_limit) refl
  where
    of : (p : Bool) → nat_le (c.elements + n) element_limit ≡ p → (q : Bool) → nat_lt c.nodes node_limit ≡ q
        → Passing IsWithin (choose p (choose q (Passes (record { nodes = suc c.nodes; elements = c.elements + n })) (limited_at at node_limit)) (limited_at at element_limit))
    of true e true f = record { nodes = below c.nodes node_limit f; elements = up_to (c.elements + n) element_limit e }
    of true e false f = tt
    of false e q f = tt

-- what a typed node has counted
abbrev pub TypedWithin : Typed → Type 0
TypedWithin x = IsWithin x.counts

pub node_within : (at : Place) (t : NodeTy) (make : NodeTy → TExp) (c : Counts) → IsWithin c → Passing TypedWithin (node at t make c)
node_within at t make c h = goes_on IsWithin TypedWithin (counted at (elements_in (shape_of t)) c) _ (counted_within at _ c h) (λ n k. k)

pub node_by_within : (at : Place) (around : Around) (r : Ruled Pending) (make : NodeTy → TExp) (c : Counts) → IsWithin c → Passing TypedWithin (node_by at around r make c)
node_by_within at around r make c h =
    after_any TypedWithin (told_at at around r) _ (λ p. goes_on IsWithin TypedWithin (counted at (elements_in p.shape) c) _ (counted_within at _ c h)
    (λ n k. after_any TypedWithin (told_at at around p.rest) _ (λ t. k)))

pub nested_within : {A : Type 0} (P : A → Type 0) (at : Place) (nesting : ℕ) (x : A) → P x → Passing P (nested at nesting x)
nested_within P at nesting x h = either P _ (Passes x) _ h tt
