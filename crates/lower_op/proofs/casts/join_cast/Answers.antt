use Rattle.std.proofs.Common.{ℕ, suc, ◌+◌, ◌≡◌, ◌∙◌, Bool, sym, ap, arith}
use Rattle.num_type.specs.View.{type_of}
use Rattle.c_tree.specs.View.{expr_view}
use Rattle.lower_scalar.specs.Part.{part_view}
use Rattle.lower_scalar.specs.Operators.{left_part}
use Rattle.lower_op.specs.Arguments.{operand, joined_at}
use Rattle.lower_op.specs.Ends.{fitted}
use Rattle.lower_op.proofs.Whole.{Given, cast_is}
use Rattle.lower_op.proofs.casts.join_cast.Goals as goal

pub returns-in_ok-r-in-Ok : goal.returns-in_ok-r-in-Ok
returns-in_ok-r-in-Ok c =
    let g : Given (type_of c.args.t) (operand c.args.p c.args.a) (operand c.args.q c.args.b) c.args.fresh = record { one = c.args.t.one_bit; most = c.args.t.bits; left = record { some = c.args.p.one_bit; most = c.args.p.bits; reads = c.requires.left }; right = record { some = c.args.q.one_bit; most = c.args.q.bits; reads = c.requires.right } } in
    let k : ℕ = c.behind-last.result in
    let one : k + 1 ≡ suc k = omega arith in
    cast_is c.args.how c.args.m (type_of c.args.t) (operand c.args.p c.args.a) (operand c.args.q c.args.b) c.args.fresh _ _ _ _ _ _ g c.requires.rule c.in_ok-both.ensures.left c.behind-next.ensures (c.in_ok-both.ensures.right ∙ ap (left_part c.args.m (type_of c.args.t) (operand c.args.q c.args.b)) (sym c.behind-next.ensures)) c.behind-last.ensures
    (c.in-Ok.ensures ∙ (ap (λ (s : Bool). fitted c.args.how c.args.m.overflow s c.word-word.result k (k + 1)) c.signed-signed.ensures
    ∙ (ap (λ (w : ℕ). fitted c.args.how c.args.m.overflow c.args.t.signed w k (k + 1)) c.word-word.ensures.value ∙ ap (λ (j : ℕ). fitted c.args.how c.args.m.overflow c.args.t.signed c.args.t.word k j) one)))
    (c.in_ok-r-in-Ok.ensures ∙ ap (λ (s : Bool). joined_at k s (part_view c.in_ok-both.both.0) (part_view c.in_ok-both.both.1) (expr_view c.in-Ok.value)) c.signed-signed.ensures)
