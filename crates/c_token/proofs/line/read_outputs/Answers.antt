use Rattle.std.proofs.Common.{sym, subst, map}
use Rattle.std.proofs.lemmas.Bool.{false≢true}
use Rattle.c_tree.specs.View.{slot_view}
use Rattle.c_tree.specs.WellFormed.{AreNamedApart}
use Rattle.c_token.proofs.Sides.{same_outputs}
use Rattle.c_token.proofs.line.read_outputs.Goals as goal

pub returns-then-not-names_differ-2 : goal.returns-then-not-names_differ-2
returns-then-not-names_differ-2 c =
    same_outputs c.args.entry.now c.args.inputs c.read_slots.new.slots c.args.start c.in-Some.end c.args.bytes.now (rw c.in-Some.is at c.in_ok-read_slots.ensures)
    (λ n. false≢true (c.if-not-names_differ-2.ensures.1 (subst (λ l. AreNamedApart (map slot_view l)) (sym c.as_slice-in-Some.ensures) n)))
