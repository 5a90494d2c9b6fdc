use Rattle.std.proofs.Common.{◌≡◌, ◌++◌, ap, ◌∙◌, arith, to_z, of_z}
use Rattle.std.specs.Int.{w32}
use Rattle.std.proofs.lemmas.Int.{ints, clamps}
use Rattle.fi_rules.specs.Texts.{truth_text}
use Rattle.rule_texts.proofs.Joined.{sized_text, math_behind}
use Rattle.rule_texts.proofs.maths.put_math.Goals as goal

pub returns : goal.returns
returns c =
    let m = c.args.m.now in
    let product : to_z w32 (of_z w32 m.product_fraction) ≡ m.product_fraction = omega (arith, ints, clamps) in
    let sum : to_z w32 (of_z w32 m.sum_fraction) ≡ m.sum_fraction = omega (arith, ints, clamps) in
    c.in_ok-put_truth.ensures
    ∙ ap (λ l. l ++ truth_text m.cast_before_sum)
    (c.in_ok-put_sized-2.ensures
    ∙ ap (λ f. c.put_sized.new.out.items ++ sized_text m.sum_mode m.sum_word f) sum
    ∙ ap (λ l. l ++ sized_text m.sum_mode m.sum_word m.sum_fraction)
    (c.in_ok-put_sized.ensures
    ∙ ap (λ f. c.put_methods.new.out.items ++ sized_text m.product_mode m.product_word f) product
    ∙ ap (λ l. l ++ sized_text m.product_mode m.product_word m.product_fraction) c.in_ok-put_methods.ensures))
    ∙ math_behind c.args.out.now.items m
