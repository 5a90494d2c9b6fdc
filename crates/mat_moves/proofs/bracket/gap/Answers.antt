use Rattle.std.proofs.Common.{ℕ, List, ◌∷◌, ◌≡◌, ◌∙◌, ap, sym, refl}
use Rattle.fic_base.specs.declared.place.Place.{Place}
use Rattle.mat_ast.specs.Tree.{Row, Rows}
use Rattle.mat_ast.specs.View.{rows_view}
use Rattle.mat_parts.specs.View.{cells_view}
use Rattle.mat_grammar.specs.declared.word.Word.{Word}
use Rattle.mat_grammar.specs.declared.word.Word.TheVariants as word
use Rattle.mat_grammar.specs.Machine.{Stack, Purpose, Cells, need, gap}
use Rattle.mat_parts.specs.Pending.{stack_of, purpose_view, frame_view}
use Rattle.mat_moves.proofs.Goes.{goes}
use Rattle.mat_moves.proofs.bracket.gap.Goals as goal

next_cell : (opens : Place) (rows : Rows) (cells : Row) (at : Place) (w : Word) (own : List ℕ) (st : Stack) (k : Purpose) → (w ≡ word.Semicolon → ⊥) → (w ≡ word.Newline → ⊥)
    → (w ≡ word.CloseSquare → ⊥) → need at w own (Cells opens rows cells ∷ st) k ≡ gap opens rows cells at w own st k
unfolding gap
next_cell opens rows cells at word.Semicolon own st k s n q = absurd (s refl)
next_cell opens rows cells at word.Newline own st k s n q = absurd (n refl)
next_cell opens rows cells at word.CloseSquare own st k s n q = absurd (q refl)
next_cell opens rows cells at _ own st k s n q = refl

at_word : (opens : Place) (rows : Rows) (cells : Row) (at : Place) (w v : Word) (own : List ℕ) (st : Stack) (k : Purpose) → w ≡ v → gap opens rows cells at v own st k ≡ gap opens rows cells at w own st k
at_word opens rows cells at w v own st k e = ap (λ x. gap opens rows cells at x own st k) (sym e)

pub returns-in-Semicolon : goal.returns-in-Semicolon
unfolding gap
returns-in-Semicolon c =
    goes c.row_end.result _ _
    (at_word c.args.opens (rows_view c.args.grid.rows) (cells_view c.args.line.cells) c.args.place c.args.word word.Semicolon c.args.own.now (stack_of c.args.pending.frames) (purpose_view c.args.pending.purpose) c.in-Semicolon.is)
    c.row_end.ensures

pub returns-in-Newline : goal.returns-in-Newline
unfolding gap
returns-in-Newline c =
    goes c.row_end-in-Newline.result _ _
    (at_word c.args.opens (rows_view c.args.grid.rows) (cells_view c.args.line.cells) c.args.place c.args.word word.Newline c.args.own.now (stack_of c.args.pending.frames) (purpose_view c.args.pending.purpose) c.in-Newline.is)
    c.row_end-in-Newline.ensures

pub returns-in-CloseSquare : goal.returns-in-CloseSquare
unfolding gap
returns-in-CloseSquare c =
    goes c.last_row.result _ _
    (at_word c.args.opens (rows_view c.args.grid.rows) (cells_view c.args.line.cells) c.args.place c.args.word word.CloseSquare c.args.own.now (stack_of c.args.pending.frames) (purpose_view c.args.pending.purpose) c.in-CloseSquare.is)
    c.last_row.ensures

pub returns-in_default : goal.returns-in_default
unfolding frame_view
returns-in_default c =
    goes c.cell.result _ _
    (next_cell c.args.opens (rows_view c.args.grid.rows) (cells_view c.args.line.cells) c.args.place c.args.word c.args.own.now (stack_of c.args.pending.frames) (purpose_view c.args.pending.purpose)
    c.in_default.not-Semicolon c.in_default.not-Newline c.in_default.not-CloseSquare)
    c.cell.ensures
