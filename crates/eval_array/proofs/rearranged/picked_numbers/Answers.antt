use Rattle.std.proofs.Common.{ap, ◌∙◌, map}
use Rattle.num_type.specs.View.{exact_of}
use Rattle.eval_array.proofs.Elements.{picked_numbers}
use Rattle.eval_array.proofs.rearranged.picked_numbers.Goals as goal

pub returns : goal.returns
returns c = ap (λ ds. map exact_of ds) c.in_ok-v.ensures ∙ picked_numbers c.zero.result c.args.all.now c.args.places.now c.zero.ensures.significand c.zero.ensures.exponent
