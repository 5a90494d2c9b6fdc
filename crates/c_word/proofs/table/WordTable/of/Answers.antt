use Rattle.std.proofs.Common.{◌++◌, map, ap, ◌∙◌}
use Rattle.std.specs.Prelude.{codes}
use Rattle.c_tree.specs.View.{interface_view, slot_view}
use Rattle.c_tree.specs.Names.{input_fronts, output_fronts, slots_arrays}
use Rattle.c_word.specs.declared.parameters.Side.TheVariants.{Input, Output}
use Rattle.c_word.specs.Table.{array_rows, found_in, with_rows}
use Rattle.c_word.proofs.Interfaces.{made}
use Rattle.c_word.proofs.table.WordTable.of.Goals as goal

pub returns : goal.returns
returns c =
    made c.one_word.ensures (interface_view c.args.interface.now) c.requires
    (found_in c.new-table.result) (found_in c.put_fixed.new.self) (found_in c.put.new.self) (found_in c.put_slots.new.table) c.in_ok-name.name.items c.put_slots-2.new.table
    c.new-table.ensures c.in_ok-put_fixed.ensures (c.in_ok-name.ensures ∙ ap (λ l. codes "fic_" ++ l) c.as_bytes.ensures) c.in_ok-put.ensures
    (c.in_ok-put_slots.ensures ∙ ap (λ s. with_rows (found_in c.put.new.self) (array_rows Input 0 (slots_arrays input_fronts (map slot_view s)))) c.as_slice.ensures)
    (c.in_ok-put_slots-2.ensures ∙ ap (λ s. with_rows (found_in c.put_slots.new.table) (array_rows Output 0 (slots_arrays output_fronts (map slot_view s)))) c.as_slice-2.ensures)
