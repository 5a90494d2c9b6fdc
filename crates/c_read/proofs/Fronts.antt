-- The first two lines of a text.
use Rattle.std.proofs.Common.{◌≡◌, ℕ, List, ◌++◌, drop, length, Some, None, sym, ap, ◌∙◌, append_assoc}
use Rattle.std.proofs.lemmas.List.{append_cancel_left}
use Rattle.c_tree.specs.View.{interface_view}
use Rattle.c_tree.specs.Interface.{include_line, interface_line}
use Rattle.c_token.specs.declared.line.InterfaceLine.{InterfaceLine}
use Rattle.c_token.specs.Line.{ReadsInterface}
use Rattle.c_read.specs.Front.{HasFront, HasNoInterface}

pub has_front : (l : InterfaceLine) (bytes : List ℕ) → bytes ≡ include_line ++ drop (length include_line) bytes → ReadsInterface (Some l) bytes → HasFront (interface_view l.interface) l.end bytes
has_front l bytes e read = record {
  signature = read.0;
  whole = e ∙ ap (λ rest. include_line ++ rest) read.1 ∙ sym (append_assoc include_line (interface_line (interface_view l.interface)) (drop l.end bytes));
  within = read.2;
}

pub has_none : (bytes : List ℕ) → bytes ≡ include_line ++ drop (length include_line) bytes → ReadsInterface None bytes → HasNoInterface bytes
has_none bytes e read = record {
  rest = drop (length include_line) bytes;
  include = e;
  none = λ i behind is whole. read i behind is (append_cancel_left include_line (drop (length include_line) bytes) (interface_line i ++ behind) (sym e ∙ whole ∙ append_assoc include_line (interface_line i) behind));
}
