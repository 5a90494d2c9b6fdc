use Rattle.std.specs.Prelude.{All}
use Rattle.num_type.specs.Types.{IsInRange}
use Rattle.num_type.specs.View.{type_of}
use Rattle.eval_array.specs.declared.parts.Parts.{Parts}
use Rattle.eval_array.proofs.Joined.{for_some, noughts_inside}
use Rattle.eval_array.proofs.taken.real_parts.Goals as goal

pub returns-in_ok-im-in-Some-clause-imaginary : goal.returns-in_ok-im-in-Some-clause-imaginary
returns-in_ok-im-in-Some-clause-imaginary c =
    for_some _ (λ (p : Parts). All (IsInRange (type_of c.args.num)) p.im.items) (noughts_inside (type_of c.args.num) c.in_ok-im-in-Some.im.items c.as_slice.result.now c.in_ok-im-in-Some.ensures)
