use Rattle.std.proofs.Common.{ℕ, List, ◌∷◌, ◌≡◌, ◌∙◌, ap, sym, refl}
use Rattle.fic_base.specs.declared.place.Place.{Place}
use Rattle.mat_ast.specs.Tree.{Row, RowEnd, Rows}
use Rattle.mat_ast.specs.View.{rows_view}
use Rattle.mat_parts.specs.View.{cells_view}
use Rattle.mat_grammar.specs.declared.word.Word.{Word}
use Rattle.mat_grammar.specs.declared.word.Word.TheVariants as word
use Rattle.mat_grammar.specs.Machine.{Stack, Purpose, Cells, need, between}
use Rattle.mat_parts.specs.Pending.{stack_of, purpose_view, frame_view, state_view}
use Rattle.mat_moves.proofs.Goes.{goes}
use Rattle.mat_moves.proofs.bracket.between.Goals as goal

first_cell : (opens : Place) (rows : Rows) (at : Place) (w : Word) (own : List ℕ) (st : Stack) (k : Purpose) → (w ≡ word.Semicolon → ⊥) → (w ≡ word.Newline → ⊥) → (w ≡ word.Comma → ⊥)
    → (w ≡ word.CloseSquare → ⊥) → need at w own (Cells opens rows RowEnd ∷ st) k ≡ between opens rows at w own st k
unfolding between
first_cell opens rows at word.Semicolon own st k s n c q = absurd (s refl)
first_cell opens rows at word.Newline own st k s n c q = absurd (n refl)
first_cell opens rows at word.Comma own st k s n c q = absurd (c refl)
first_cell opens rows at word.CloseSquare own st k s n c q = absurd (q refl)
first_cell opens rows at _ own st k s n c q = refl

at_word : (opens : Place) (rows : Rows) (at : Place) (w v : Word) (own : List ℕ) (st : Stack) (k : Purpose) → w ≡ v → between opens rows at v own st k ≡ between opens rows at w own st k
at_word opens rows at w v own st k e = ap (λ x. between opens rows at x own st k) (sym e)

pub returns-in-Semicolon : goal.returns-in-Semicolon
unfolding state_view between
returns-in-Semicolon c = at_word c.args.opens (rows_view c.args.grid.rows) c.args.place c.args.word word.Semicolon c.args.own.now (stack_of c.args.pending.frames) (purpose_view c.args.pending.purpose) c.in-Semicolon.is

pub returns-in-Newline : goal.returns-in-Newline
unfolding state_view between
returns-in-Newline c = at_word c.args.opens (rows_view c.args.grid.rows) c.args.place c.args.word word.Newline c.args.own.now (stack_of c.args.pending.frames) (purpose_view c.args.pending.purpose) c.in-Newline.is

pub returns-in-Comma : goal.returns-in-Comma
unfolding state_view between
returns-in-Comma c = at_word c.args.opens (rows_view c.args.grid.rows) c.args.place c.args.word word.Comma c.args.own.now (stack_of c.args.pending.frames) (purpose_view c.args.pending.purpose) c.in-Comma.is

pub returns-in-CloseSquare : goal.returns-in-CloseSquare
unfolding between
returns-in-CloseSquare c =
    goes c.shut.result _ _ (at_word c.args.opens (rows_view c.args.grid.rows) c.args.place c.args.word word.CloseSquare c.args.own.now (stack_of c.args.pending.frames) (purpose_view c.args.pending.purpose) c.in-CloseSquare.is) c.shut.ensures

pub returns-in_default : goal.returns-in_default
unfolding frame_view
returns-in_default c =
    goes c.cell.result _ _
    (ap (λ (row_made : Row). need c.args.place c.args.word c.args.own.now (Cells c.args.opens (rows_view c.args.grid.rows) row_made ∷ stack_of c.args.pending.frames) (purpose_view c.args.pending.purpose)) c.no_cells.ensures
    ∙ first_cell c.args.opens (rows_view c.args.grid.rows) c.args.place c.args.word c.args.own.now (stack_of c.args.pending.frames) (purpose_view c.args.pending.purpose)
    c.in_default.not-Semicolon c.in_default.not-Newline c.in_default.not-Comma c.in_default.not-CloseSquare)
    c.cell.ensures
