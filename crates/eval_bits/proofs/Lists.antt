-- The bits of several values put together, as far as they are.
use Rattle.std.proofs.Common.{◌≡◌, ◌+◌, ◌<◌, ◌≤◌, ℕ, List, Option, Some, None, length, get_or, drop, map, refl, ap, sym, ◌∙◌}
use Rattle.std.proofs.lemmas.List.{drop_more, drop_all}
use Rattle.fi_rules.specs.Options.{and_then}
use Rattle.fi_rules.specs.Value.{Val}
use Rattle.fi_values.specs.Bits.{concatenated_all, concatenated_pair}
use Rattle.eval_value.specs.View.{value_view}
use Rattle.eval_value.specs.declared.value.Value.{Value}

in_turn : (o : Option Val) (f g : Val → Option Val) → and_then (and_then o f) g ≡ and_then o (λ u. and_then (f u) g)
unfolding and_then
in_turn None f g = refl
in_turn (Some x) f g = refl

itself : (o : Option Val) → and_then o (λ u. Some u) ≡ o
unfolding and_then
itself None = refl
itself (Some x) = refl

pub joined_next : (o r x : Option Val) (values : List Value) (k : ℕ) (w : Value) → k < length values → w ≡ get_or values k w → r ≡ and_then o (λ u. concatenated_pair u (value_view w))
    → and_then o (λ u. concatenated_all u (map value_view (drop k values))) ≡ x → and_then r (λ u. concatenated_all u (map value_view (drop (k + 1) values))) ≡ x
joined_next o r x values k w l e n h =
    ap (λ q. and_then q (λ u. concatenated_all u (map value_view (drop (k + 1) values)))) n
    ∙ in_turn o (λ u. concatenated_pair u (value_view w)) (λ u. concatenated_all u (map value_view (drop (k + 1) values)))
    ∙ (λ i. and_then o (λ u. and_then (concatenated_pair u (value_view (e i))) (λ t. concatenated_all t (map value_view (drop (k + 1) values)))))
    ∙ (λ i. and_then o (λ u. concatenated_all u (map value_view (sym (drop_more values k w l) i))))
    ∙ h

pub joined_all : (o x : Option Val) (values : List Value) (k : ℕ) → length values ≤ k → and_then o (λ u. concatenated_all u (map value_view (drop k values))) ≡ x → o ≡ x
joined_all o x values k l h = sym (itself o) ∙ (λ i. and_then o (λ u. concatenated_all u (map value_view (sym (drop_all k values l) i)))) ∙ h
