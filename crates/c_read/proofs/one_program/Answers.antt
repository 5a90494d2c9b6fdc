use Rattle.std.proofs.Common.{◌≡◌, ◌++◌, sym, ◌∙◌, subst, append_assoc}
use Rattle.std.proofs.lemmas.List.{append_cancel_left}
use Rattle.c_tree.specs.CText.{AreTokens}
use Rattle.c_tree.specs.Interface.{include_line, interface_line}
use Rattle.c_tree.specs.Spelling.{spelled}
use Rattle.c_read.proofs.one_program.Goals as goal

pub returns : goal.returns
returns c p q bytes wp wq tp tq =
    let whole : include_line ++ (interface_line p.interface ++ tp.function) ≡ include_line ++ (interface_line q.interface ++ tq.function) =
    sym (append_assoc include_line (interface_line p.interface) tp.function) ∙ sym tp.whole ∙ tq.whole ∙ append_assoc include_line (interface_line q.interface) tq.function in
    let lines = c.one_interface.ensures p.interface q.interface tp.function tq.function ((c.interface_has_a_slot.ensures p.interface).0 wp.interface).0 ((c.interface_has_a_slot.ensures q.interface).0 wq.interface).0
    (append_cancel_left include_line (interface_line p.interface ++ tp.function) (interface_line q.interface ++ tq.function) whole) in
    c.at_most_one_program.ensures p q wp wq lines.0 (c.one_token_list.ensures tq.function (spelled p) (spelled q) (subst (AreTokens (spelled p)) lines.1 tp.tokens) tq.tokens)
