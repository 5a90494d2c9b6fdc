use Rattle.std.proofs.Common.{◌≡◌, ◌∙◌, sym, ap, ◌^◌}
use Rattle.std.specs.Prelude.{ℤ, pos, ◌+ℤ◌, ◌*ℤ◌}
use Rattle.std.specs.Ordering.{int_cmp, ordering_reverse}
use Rattle.num_type.specs.View.{exact_of}
use Rattle.num_type.proofs.Raised.{plain_m, plain_e}
use Rattle.num_type.proofs.Orders.{order_above, order_below}
use Rattle.num_type.proofs.dyadic.Dyadic.compare.Goals as goal

pub returns-then-self-o : goal.returns-then-self-o
returns-then-self-o c =
    let x = c.args.self in
    let y = c.args.o in
    let gap : y.e ≡ x.e +ℤ pos c.gap.result = sym (plain_e y) ∙ c.gap.ensures ∙ ap (λ (z : ℤ). z +ℤ pos c.gap.result) (plain_e x) in
    c.reverse.ensures
    ∙ ap ordering_reverse (c.compare_shifted.ensures ∙ (λ i. int_cmp (plain_m y i *ℤ pos (2 ^ c.gap.result)) (plain_m x i)))
    ∙ order_below (exact_of x) (exact_of y) c.gap.result gap

pub returns-else-self-o : goal.returns-else-self-o
returns-else-self-o c =
    let x = c.args.self in
    let y = c.args.o in
    let gap : x.e ≡ y.e +ℤ pos c.gap-else-self-o.result = sym (plain_e x) ∙ c.gap-else-self-o.ensures ∙ ap (λ (z : ℤ). z +ℤ pos c.gap-else-self-o.result) (plain_e y) in
    c.compare_shifted-else-self-o.ensures
    ∙ (λ i. int_cmp (plain_m x i *ℤ pos (2 ^ c.gap-else-self-o.result)) (plain_m y i))
    ∙ order_above (exact_of x) (exact_of y) c.gap-else-self-o.result gap
