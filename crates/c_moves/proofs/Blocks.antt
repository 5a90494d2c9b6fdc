-- Statements of the code in order, with one more at their end.
use Rattle.std.proofs.Common.{◌≡◌, List, [], ◌∷◌, ◌++◌, refl, ap, sym, ◌∙◌}
use Rattle.std.specs.Prelude.{Bool}
use Rattle.c_tree.specs.declared.tree.CStmt.{CStmt}
use Rattle.c_tree.specs.declared.tree.CWord.{CWord}
use Rattle.c_tree.specs.Tree.{Block, Next}
use Rattle.c_tree.specs.View.{stmt_view, block_view}
use Rattle.c_tree.specs.WellFormed.{is_return, last_is_return}
use Rattle.c_grammar.specs.Machine as machine
use Rattle.c_grammar.specs.Machine.{behind}
use Rattle.c_parts.specs.declared.pending.Past.{Past}
use Rattle.c_parts.specs.View.{past_view}

pub behind_last : (done : List CStmt) (s : CStmt) → block_view (done ++ s ∷ []) ≡ behind (block_view done) (stmt_view s)
behind_last [] s = refl
behind_last (d ∷ ds) s = ap (Next (stmt_view d)) (behind_last ds s)

return_last : (done : List CStmt) (s : CStmt) → last_is_return (block_view (done ++ s ∷ [])) ≡ is_return (stmt_view s)
return_last [] s = refl
return_last (d ∷ []) s = refl
return_last (d ∷ e ∷ ds) s = return_last (e ∷ ds) s

-- whether the last statement is a return
pub ends : (all done : List CStmt) (s : CStmt) (b : Bool) → all ≡ done ++ s ∷ [] → b ≡ is_return (stmt_view s) → b ≡ last_is_return (block_view all)
ends all done s b e h = h ∙ sym (ap (λ l. last_is_return (block_view l)) e ∙ return_last done s)

abbrev past_of : List CWord → Block → machine.Past
past_of ws b = record { words = ws; done = b }

-- what was read, with one more statement
pub with_one : (p : Past) (made : List CStmt) (s : CStmt) → made ≡ p.done ++ s ∷ []
    → past_view (record { words = p.words; done = made }) ≡ past_of (past_view p).words (behind (past_view p).done (stmt_view s))
unfolding past_view
with_one p made s e = ap (past_of p.words) (ap block_view e ∙ behind_last p.done s)
