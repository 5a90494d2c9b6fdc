use Rattle.std.proofs.Common.{◌≡◌, ◌∙◌, ap, sym, inl, inr, ◌⊎◌, ◌<◌, ◌≤◌, Bool, true, false, arith}
use Rattle.std.specs.Prelude.{nat_abs}
use Rattle.std.proofs.lemmas.Bool.{ltb-true, ltb-false}
use Rattle.num_type.specs.View.{type_of}
use Rattle.fi_quant.proofs.Fits.{end_of, fit_end, fit_same}
use Rattle.fi_quant.proofs.fitting.fit_wide.Goals as goal
use Rattle.fi_quant.proofs.fitting.fit_wide.Goals.{then-neg, else-neg, then-over, else-over}

pub returns-then-low-magnitude : goal.returns-then-low-magnitude
returns-then-low-magnitude c c' o =
    let e : c.if-neg.end ≡ end_of c.args.neg c.args.t.signed c.args.t.word =
    elim c.if-neg.branch [
      | then-neg w ↦ w.end-is ∙ w.low-end.ensures ∙ ap (λ (b : Bool). end_of b c.args.t.signed c.args.t.word) (sym w.if-neg.true)
      | else-neg w ↦ w.end-is ∙ w.high-end.ensures ∙ ap (λ (b : Bool). end_of b c.args.t.signed c.args.t.word) (sym w.if-neg.false)
    ] in
    let d : (c.args.over ≡ true) ⊎ (nat_abs c.if-neg.end < c.args.low) =
    elim c.if-over.branch [
      | then-over w ↦ inl w.if-over.true
      | else-over w ↦ inr (let l = ltb-true _ _ (sym w.value-is ∙ c.if-low-magnitude.true) in omega (arith, l, w.magnitude.ensures))
    ] in
    fit_end c.args.action (type_of c.args.t) c.args.neg c.args.over c.args.low c' c.if-neg.end (omega (arith, c.args.t.bits)) c.in-Saturate.is e o d

pub returns-else-low-magnitude : goal.returns-else-low-magnitude
returns-else-low-magnitude c c' o =
    let e : c.if-neg.end ≡ end_of c.args.neg c.args.t.signed c.args.t.word =
    elim c.if-neg.branch [
      | then-neg w ↦ w.end-is ∙ w.low-end.ensures ∙ ap (λ (b : Bool). end_of b c.args.t.signed c.args.t.word) (sym w.if-neg.true)
      | else-neg w ↦ w.end-is ∙ w.high-end.ensures ∙ ap (λ (b : Bool). end_of b c.args.t.signed c.args.t.word) (sym w.if-neg.false)
    ] in
    let d : (c.args.over ≡ false) × (c.args.low ≤ nat_abs c.if-neg.end) =
    elim c.if-over.branch [
      | then-over w ↦ let f = c.if-low-magnitude.false in let g = w.value-is in cc
      | else-over w ↦ (w.if-over.false, let l = ltb-false _ _ (sym w.value-is ∙ c.if-low-magnitude.false) in omega (arith, l, w.magnitude.ensures))
    ] in
    fit_same c.args.action (type_of c.args.t) c.args.neg c.args.over c.args.low c' c.if-neg.end c.of.result c.in-Saturate.is e o d c.of.ensures
