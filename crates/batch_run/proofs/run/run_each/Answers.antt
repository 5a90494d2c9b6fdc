use Rattle.std.proofs.Common.{◌≡◌, ℕ, ◌<◌, ◌≤◌, ◌+◌, List, ℤ, length, take, map, vec_items, get_or, ◌++◌, ◌∷◌, [], sym, ap, ◌∙◌, subst, arith}
use Rattle.std.proofs.lemmas.List.{map-append, length-map, length-take-le}
use Rattle.std.proofs.lemmas.List.Elements.{All-get_or}
use Rattle.std.proofs.Math.ListN.{get_or-map}
use Rattle.c_tree.specs.Whole.{program_of}
use Rattle.case_io.specs.Cases.{AreInputs, input_ranges}
use Rattle.case_io.specs.Reads.{lists_of}
use Rattle.batch_run.specs.Lines.{AreLines, IsCaseLine}
use Rattle.batch_run.proofs.Cases.{next_case, next_line}
use Rattle.batch_run.proofs.run.run_each.Goals as goal

pub run_case-requires-clause-inputs : goal.run_case-requires-clause-inputs
run_case-requires-clause-inputs c =
    let items = c.args.cases.now in
    let k = c.loop-case.case-index in
    let within : k < length (map (λ v. lists_of v.items) items) = omega (arith, length-map items (λ v. lists_of v.items), c.loop-case-test.true) in
    subst (λ v. AreInputs (input_ranges (program_of c.args.p.now).interface) (lists_of v)) (sym c.as_slice.ensures.value)
    (subst (AreInputs (input_ranges (program_of c.args.p.now).interface)) (get_or-map (λ v. lists_of v.items) items k c.case-item.result ∙ ap (λ v. lists_of v.items) (sym c.case-item.is))
    (All-get_or (AreInputs (input_ranges (program_of c.args.p.now).interface)) (map (λ v. lists_of v.items) items) k (lists_of c.case-item.result.items) within c.requires))

pub loop-case-preserved : goal.loop-case-preserved
loop-case-preserved c =
    let items = c.args.cases.now in
    let k = c.loop-case.case-index in
    let p = program_of c.args.p.now in
    let before = take k (map (λ v. lists_of v.items) items) in
    let line = c.in_ok-line.line.items in
    let case : List (List ℤ) = lists_of c.case-item.result.items in
    let within : k ≤ length (map (λ v. lists_of v.items) items) = omega (arith, length-map items (λ v. lists_of v.items), c.loop-case-test.true) in
    let number : c.loop-case.number ≡ 0 + length before = omega (arith, c.loop-case.invariant.0, length-take-le k (map (λ v. lists_of v.items) items) within) in
    let made : IsCaseLine p c.args.turns (0 + length before) case line =
    subst (λ (n : ℕ). IsCaseLine p c.args.turns n case line) number (subst (λ v. IsCaseLine p c.args.turns c.loop-case.number (lists_of v) line) c.as_slice.ensures.value c.in_ok-line.ensures.line) in
    let lines : map vec_items c.push.new.self.items ≡ map vec_items c.loop-case.lines.items ++ line ∷ [] =
    ap (map vec_items) c.in_ok-push.ensures.items ∙ map-append vec_items c.loop-case.lines.items (c.in_ok-line.line ∷ []) in (
      omega (arith, c.loop-case.invariant.0),
      c.run_case.ensures.program,
      subst (λ xs. AreLines p c.args.turns 0 xs (map vec_items c.push.new.self.items)) (sym (next_case (λ v. lists_of v.items) items k c.case-item.result c.loop-case-test.true c.case-item.is))
          (subst (AreLines p c.args.turns 0 (before ++ case ∷ [])) (sym lines)
          (next_line p c.args.turns 0 before (map vec_items c.loop-case.lines.items) case line c.loop-case.invariant.2 made)),
    )
