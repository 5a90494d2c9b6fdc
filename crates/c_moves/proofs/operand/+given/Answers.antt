use Rattle.std.proofs.Common.{◌<◌, ◌∙◌, length, arith, ap, sym}
use Rattle.c_tree.specs.Tree.{Cast}
use Rattle.c_tree.specs.View.{expr_view}
use Rattle.c_grammar.specs.Machine.{give}
use Rattle.c_parts.specs.View.{frames_of, purpose_view, past_view, reading_view, top_cast}
use Rattle.c_moves.proofs.Casts.{no_cast, in_cast, gives, shorter}
use Rattle.c_moves.proofs.operand.+given.Goals as goal

pub returns-in-None : goal.returns-in-None
unfolding reading_view
returns-in-None t c =
    no_cast (expr_view c.args.e) c.args.t (frames_of c.args.pending.frames) (purpose_view c.args.pending.purpose) (past_view c.args.pending.past)
    (ap (λ fs. top_cast (frames_of fs)) (sym c.as_slice.ensures) ∙ sym c.top_cast.ensures ∙ c.in-None.is)

pub returns-in-Ok : goal.returns-in-Ok
returns-in-Ok t c =
    gives c.given.result _ _
    (ap (λ e. give e c.in-Some.s (frames_of c.without_top.result.frames) (purpose_view c.without_top.result.purpose) (past_view c.without_top.result.past)) c.in-Ok.ensures
    ∙ ap (λ h. give (Cast c.in-Some.s (expr_view c.args.e)) c.in-Some.s (frames_of c.without_top.result.frames) (purpose_view h) (past_view c.without_top.result.past)) c.without_top.ensures.purpose
    ∙ ap (λ v. give (Cast c.in-Some.s (expr_view c.args.e)) c.in-Some.s (frames_of c.without_top.result.frames) (purpose_view c.args.pending.purpose) (past_view v)) c.without_top.ensures.past
    ∙ in_cast (expr_view c.args.e) c.args.t c.in-Some.s (frames_of c.args.pending.frames) (frames_of c.without_top.result.frames) (purpose_view c.args.pending.purpose) (past_view c.args.pending.past)
    (ap (λ fs. top_cast (frames_of fs)) (sym c.as_slice.ensures) ∙ sym c.top_cast.ensures ∙ c.in-Some.is)
    c.without_top.ensures.frames)
    c.given.ensures

pub given-requires : goal.given-requires
given-requires t c =
    let h : length (frames_of c.without_top.result.frames) < length (frames_of c.args.pending.frames) =
    shorter (frames_of c.args.pending.frames) (frames_of c.without_top.result.frames) c.in-Some.s
    (ap (λ fs. top_cast (frames_of fs)) (sym c.as_slice.ensures) ∙ sym c.top_cast.ensures ∙ c.in-Some.is)
    c.without_top.ensures.frames in
    let g : length (frames_of c.without_top.result.frames) < t = omega (arith, h, c.decreases) in
    (g, tt)
