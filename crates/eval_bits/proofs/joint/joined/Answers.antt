use Rattle.std.proofs.Common.{map, ap, ◌∙◌}
use Rattle.std.proofs.lemmas.List.Elements.{All-same}
use Rattle.num_type.specs.Types.{IsInRange}
use Rattle.num_type.specs.View.{type_of}
use Rattle.fi_eval.specs.Operators.{pairwise}
use Rattle.eval_bits.specs.Joints.{AreInRange, beside, joined_pair}
use Rattle.eval_bits.proofs.Pairs.{All-pairwise, map-pairwise}
use Rattle.eval_bits.proofs.joint.joined.Goals as goal

pub each-requires-clause-inside : goal.each-requires-clause-inside
each-requires-clause-inside c =
    All-same (AreInRange (type_of c.args.a) (type_of c.args.b)) c.as_slice.result.now (pairwise beside c.args.xs.now c.args.ys.now) (c.as_slice.ensures.value ∙ c.in_ok-pairs.ensures.pairs)
    (All-pairwise (IsInRange (type_of c.args.a)) (IsInRange (type_of c.args.b)) (AreInRange (type_of c.args.a) (type_of c.args.b)) beside (λ x y p q. (p, q)) c.args.xs.now c.args.ys.now c.requires.left c.requires.right)

pub returns-clause-elements : goal.returns-clause-elements
returns-clause-elements c =
    c.in_ok-out.ensures.elements
    ∙ ap (map (joined_pair c.args.joint.now (type_of c.args.a) (type_of c.args.b))) (c.as_slice.ensures.value ∙ c.in_ok-pairs.ensures.pairs)
    ∙ map-pairwise (joined_pair c.args.joint.now (type_of c.args.a) (type_of c.args.b)) beside c.args.xs.now c.args.ys.now
