-- Functions that ask for a shape go by their rules.
use Rattle.std.proofs.Common.{◌≡◌, refl, ◌∙◌}
use Rattle.fi_rules.specs.Options.{◌|>◌}
use Rattle.fi_rules.specs.Value.{Val, Fi, ComplexFi, Logical, Number, ComplexNumber}
use Rattle.fi_values.specs.Queries.{array_shape, element_count, greater_extent, extent_along, extent_of}
use Rattle.fi_meaning.specs.Functions.{natural}
use Rattle.node_rules.specs.Queries.{asked_shape, shape_ruled, whole_node, numel_ruled, length_ruled, size_ruled}
use Rattle.node_rules.specs.Ruled.{fine}
use Rattle.node_rules.specs.Types.{ty_of, known}
use Rattle.node_rules.proofs.Binds.{fine_needed}
use Rattle.node_rules.proofs.Bits.{fine_natural}
use Rattle.node_rules.proofs.Goes.{Goes, goes, goes_then}

asked_is : (v : Val) → asked_shape (ty_of v) ≡ array_shape v
unfolding asked_shape array_shape ty_of
asked_is (Fi t m s xs) = refl
asked_is (ComplexFi t m s xs ys) = refl
asked_is (Logical s bs) = refl
asked_is (Number s cs) = refl
asked_is (ComplexNumber s xs ys) = refl
asked_is v = refl

fine_shape : (v : Val) → fine (shape_ruled (ty_of v)) ≡ array_shape v
fine_shape v = fine_needed _ _ _ ∙ asked_is v

pub numel_law : (v : Val) → Goes known (element_count v) (numel_ruled (ty_of v))
unfolding known ty_of
numel_law v = goes_then _ _ (shape_ruled (ty_of v)) (array_shape v) (fine_shape v) (λ s h. goes (whole_node _) refl)

pub length_law : (v : Val) → Goes known (greater_extent v) (length_ruled (ty_of v))
unfolding known ty_of
length_law v = goes_then _ _ (shape_ruled (ty_of v)) (array_shape v) (fine_shape v) (λ s h. goes (whole_node _) refl)

pub size_law : (v d : Val) → Goes known (natural d |> (λ n. extent_of n v)) (size_ruled (ty_of v) (ty_of d))
unfolding known ty_of
size_law v d =
    goes_then _ _ _ (natural d) (fine_natural d) (λ k g.
    goes_then _ _ (shape_ruled (ty_of v)) (array_shape v) (fine_shape v) (λ s h.
    goes_then _ _ _ (extent_along k s) (fine_needed _ _ _) (λ n i. goes (whole_node n) refl)))
