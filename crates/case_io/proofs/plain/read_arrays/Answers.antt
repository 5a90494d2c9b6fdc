use Rattle.std.proofs.Common.{◌≡◌, ◌+◌, [], ◌∷◌, ◌++◌, drop, take, length, arith, sym, ap, ◌∙◌, subst, Some}
use Rattle.std.proofs.lemmas.List.{length-map, length-drop, map-append}
use Rattle.std.specs.Prelude.{IsTrue, All}
use Rattle.case_io.specs.View.{range_view, ranges_view}
use Rattle.case_io.specs.Plain.{is_canonical}
use Rattle.case_io.specs.Reads.{texts_of, lists_of, ReadsArray}
use Rattle.case_io.proofs.Arrays.{BehindArrays, all_front, array_read, array_bad, left_at, cut}
use Rattle.case_io.proofs.plain.read_arrays.Goals as goal

pub split_at-requires : goal.split_at-requires
split_at-requires c = c.loop-range.invariant.1

pub read_array-requires : goal.read_array-requires
read_array-requires c =
    let n = c.range-item.result.count in
    let own = c.split_at-in-loop-range.result.0.now in
    let split = cut (λ t. t.now) c.args.texts.now c.loop-range.at n own (c.split_at-in-loop-range.ensures.front ∙ ap (take n) c.split_at.ensures.back) in
    all_front (λ t. IsTrue (is_canonical t)) (texts_of own) (texts_of (drop (c.loop-range.at + n) c.args.texts.now)) (subst (All (λ t. IsTrue (is_canonical t))) split c.loop-range.invariant.0.canonical)

pub returns-in-None : goal.returns-in-None
returns-in-None c =
    let at = c.loop-range.at in
    let texts = c.args.texts.now in
    let ranges = c.args.ranges.now in
    let r = c.range-item.result in
    let own = c.split_at-in-loop-range.result.0.now in
    let split = cut (λ t. t.now) texts at r.count own (c.split_at-in-loop-range.ensures.front ∙ ap (take r.count) c.split_at.ensures.back) in
    let left = ap ranges_view (left_at ranges c.loop-range.range-index r _ c.loop-range-test.true c.range-item.is) in
    let behind = subst (λ l. BehindArrays (ranges_view ranges) (texts_of texts) (lists_of c.loop-range.arrays.items) l (texts_of (drop at texts))) left c.loop-range.invariant.0 in
    let size : length (texts_of own) ≡ r.count = length-map own (λ t. t.now) ∙ c.split_at-in-loop-range.ensures.front_len in
    array_bad (ranges_view ranges) (ranges_view (drop (c.loop-range.range-index + 1) ranges)) (range_view r) (texts_of texts) (texts_of (drop at texts)) (texts_of own) (texts_of (drop (at + r.count) texts)) (lists_of c.loop-range.arrays.items)
    behind split size (subst (λ f. ReadsArray f (range_view r) (texts_of own)) c.in-None.is c.in_ok-read_array.ensures)

pub loop-range-preserved : goal.loop-range-preserved
loop-range-preserved c =
    let at = c.loop-range.at in
    let texts = c.args.texts.now in
    let ranges = c.args.ranges.now in
    let r = c.range-item.result in
    let own = c.split_at-in-loop-range.result.0.now in
    let split = cut (λ t. t.now) texts at r.count own (c.split_at-in-loop-range.ensures.front ∙ ap (take r.count) c.split_at.ensures.back) in
    let left = ap ranges_view (left_at ranges c.loop-range.range-index r _ c.loop-range-test.true c.range-item.is) in
    let behind = subst (λ l. BehindArrays (ranges_view ranges) (texts_of texts) (lists_of c.loop-range.arrays.items) l (texts_of (drop at texts))) left c.loop-range.invariant.0 in
    let size : length (texts_of own) ≡ r.count = length-map own (λ t. t.now) ∙ c.split_at-in-loop-range.ensures.front_len in
    let read : ReadsArray (Some c.in-Some.values) (range_view r) (texts_of own) = subst (λ f. ReadsArray f (range_view r) (texts_of own)) c.in-Some.is c.in_ok-read_array.ensures in
    let next = array_read (ranges_view ranges) (ranges_view (drop (c.loop-range.range-index + 1) ranges)) (range_view r) (texts_of texts) (texts_of (drop at texts)) (texts_of own) (texts_of (drop (at + r.count) texts)) (lists_of c.loop-range.arrays.items) c.in-Some.values.items
    behind split size read.0 read.1 in
    let pushed : lists_of c.push.new.self.items ≡ lists_of c.loop-range.arrays.items ++ c.in-Some.values.items ∷ [] = ap lists_of c.in_ok-push-in-Some.ensures.items ∙ map-append (λ v. v.items) c.loop-range.arrays.items (c.in-Some.values ∷ []) in (
      subst (λ l. BehindArrays (ranges_view ranges) (texts_of texts) l (ranges_view (drop (c.loop-range.range-index + 1) ranges)) (texts_of (drop (at + r.count) texts))) (sym pushed) next,
      omega (arith, c.loop-range.invariant.1, behind.count, length-map (drop at texts) (λ t. t.now), length-drop at texts),
    )
