use Rattle.std.proofs.Common.{◌++◌, codes, ap, sym, ◌∙◌, append_assoc}
use Rattle.c_tree.specs.Layout.{indent}
use Rattle.c_write.proofs.Lines.{indent_next}
use Rattle.c_write.proofs.pieces.put_indent.Goals as goal

pub loop-preserved : goal.loop-preserved
loop-preserved c =
    c.in_ok-put.ensures ∙ ap (λ l. l ++ codes "  ") c.loop.invariant
    ∙ append_assoc c.args.out.now.items (indent c.loop.counter) (codes "  ")
    ∙ ap (λ l. c.args.out.now.items ++ l) (sym (indent_next c.loop.counter))
