use Rattle.std.proofs.Common.{◌≡◌, ◌≤◌, ◌-◌, take, length}
use Rattle.c_tree.specs.View.{interface_view}
use Rattle.c_grammar.specs.Machine.{state}
use Rattle.c_parts.specs.View.{reader_view}
use Rattle.c_parse.proofs.parser.read.Given as goal

abbrev pub invariant-loop-index : goal.invariant-loop-index
invariant-loop-index l = record {
  within : l.index ≤ length l.words;
  is : reader_view l.reader ≡ state (interface_view l.interface) (take l.index l.words);
}

abbrev pub decreases-loop-index : goal.decreases-loop-index
decreases-loop-index l = length l.initial.words - l.index
