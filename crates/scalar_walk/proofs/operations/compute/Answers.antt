use Rattle.std.proofs.Common.{length, refl, ap, ◌∙◌}
use Rattle.std.specs.Prelude.{true, pos}
use Rattle.num_type.specs.View.{type_of, exact_of}
use Rattle.lower_scalar.specs.Part.{part_view}
use Rattle.fi_rules.specs.Pairs.{scalar_number, work_made}
use Rattle.fi_rules.specs.View.{ty_view}
use Rattle.scalar_walk.specs.View.{spot_view, operand_view, emitted_view, low_view}
use Rattle.scalar_walk.proofs.Computed.{known_low, worked_folds, worked_computes}
use Rattle.scalar_walk.proofs.Granted.{made_parts}
use Rattle.scalar_walk.proofs.Passed.{literal_under}
use Rattle.scalar_walk.proofs.operations.compute.Goals as goal

pub part_of-requires-clause-computed : goal.part_of-requires-clause-computed
part_of-requires-clause-computed c = (made_parts c.args.work c.args.working c.in-Computes.left c.in-Computes.right c.in-Computes.governed c.in-Computes.num c.in-Computes.is c.requires.made).0

pub part_of-requires-clause-made : goal.part_of-requires-clause-made
part_of-requires-clause-made c =
    (λ i. work_made c.args.work c.in-Computes.governed.math (type_of (c.stand-a.ensures.num i)) (type_of (c.stand-b.ensures.num i)))
    ∙ (made_parts c.args.work c.args.working c.in-Computes.left c.in-Computes.right c.in-Computes.governed c.in-Computes.num c.in-Computes.is c.requires.made).1

pub returns-in-FoldsTo-clause-low : goal.returns-in-FoldsTo-clause-low
returns-in-FoldsTo-clause-low c =
    worked_folds c.args.work c.args.working c.in-FoldsTo.c (spot_view c.args.x) (spot_view c.args.y) (emitted_view c.args.out.now) (low_view c.known.result c.args.out.now) c.in-FoldsTo.is
    (known_low c.known.result (scalar_number (exact_of c.in-FoldsTo.c)) (emitted_view c.args.out.now) c.args.out.now (ap ty_view c.known.ensures.ty) c.known.ensures.spot refl)

pub returns-in-FoldsTo-clause-below : goal.returns-in-FoldsTo-clause-below
returns-in-FoldsTo-clause-below c = literal_under c.known.result.spot true (pos 0) (length c.args.out.now.words) c.known.ensures.spot

pub returns-in_ok-h-in-Computes-clause-low : goal.returns-in_ok-h-in-Computes-clause-low
returns-in_ok-h-in-Computes-clause-low c =
    worked_computes c.args.work c.args.working c.in-Computes.left c.in-Computes.right c.in-Computes.governed c.in-Computes.num (spot_view c.args.x) (spot_view c.args.y) (emitted_view c.args.out.now)
    (low_view c.in_ok-h-in-Computes.h c.set_part.new.out) c.in-Computes.is
    (record {
      left = operand_view c.stand-a.result;
      left_at = c.stand-a.ensures.at;
      right = operand_view c.stand-b.result;
      right_at = c.stand-b.ensures.at;
      operated = record { own = part_view c.in_ok-part-in-Computes.part; operates = c.in_ok-part-in-Computes.ensures.part; is = c.in_ok-h-in-Computes.ensures.low };
    })
