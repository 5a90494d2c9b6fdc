use Rattle.std.proofs.Common.{◌++◌, ◌∙◌, subst, nat_cmp}
use Rattle.std.specs.Cmp.Lexicographic.{slice_cmp}
use Rattle.std.specs.List.Sorted.{IsPermutation}
use Rattle.std.proofs.lemmas.List.Sorted.{IsPermutation-map}
use Rattle.case_io.specs.View.{member_view, members_view}
use Rattle.case_io.specs.ResultLines.{object_text}
use Rattle.case_io.proofs.OutputMembers.{first_in_order, names_in_order}
use Rattle.case_io.proofs.outputs.outputs_text.Goals as goal

pub returns : goal.returns
returns c =
    let sorted = c.sort_unstable.new.self.items in
    record {
      order = members_view sorted;
      permutation = subst (λ ms. IsPermutation ms (members_view sorted)) c.in_ok-members.ensures (IsPermutation-map member_view c.in_ok-members.members.items sorted c.sort_unstable.ensures.permutation);
      sorted = names_in_order sorted (first_in_order (λ x y. slice_cmp nat_cmp x.name.items y.name.items) (λ x y. slice_cmp nat_cmp x.text.items y.text.items) sorted c.sort_unstable.ensures.sorted);
      whole = c.in_ok-put_object.ensures ∙ (λ i. c.new-text.ensures.items i ++ object_text (members_view (c.as_slice.ensures.value i)));
    }
