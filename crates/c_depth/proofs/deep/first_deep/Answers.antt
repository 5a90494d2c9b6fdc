use Rattle.std.proofs.Common.{arith}
use Rattle.c_tree.specs.Depth.{depth_limit}
use Rattle.c_depth.specs.Read.{at_first, word_depths}
use Rattle.c_depth.specs.View.{level_view}
use Rattle.c_depth.proofs.Walk.{all_shallow, as_many, deep_there, depth_there, depths_behind, first_nest, more_shallow, not_deeper}
use Rattle.c_depth.proofs.deep.first_deep.Goals as goal

pub loop-at-init : goal.loop-at-init
unfolding level_view
loop-at-init c = record {
  within = omega arith;
  left = first_nest c.new.result c.args.words.now c.new.ensures;
  before = λ k h. absurd (omega arith);
}

pub loop-at-preserved : goal.loop-at-preserved
loop-at-preserved c =
    let words = c.args.words.now in
    let nest = level_view c.loop-at.level in
    let inv = c.loop-at.invariant in
    record {
      within = omega (arith, c.loop-at-test.true);
      left = depths_behind words (word_depths words) nest (level_view c.see.new.level) c.loop-at.at _ c.loop-at-test.true inv.left c.in_ok-see.ensures;
      before = more_shallow (word_depths words) depth_limit c.loop-at.at _ inv.before (depth_there words (word_depths words) nest c.loop-at.at _ c.loop-at-test.true inv.left)
          (not_deeper c.is_too_deep.result depth_limit _ c.is_too_deep.ensures.1 c.if-is_too_deep.false);
    }

pub returns-then-is_too_deep : goal.returns-then-is_too_deep
returns-then-is_too_deep c =
    let words = c.args.words.now in
    let nest = level_view c.loop-at.level in
    let deep = deep_there words (word_depths words) depth_limit nest c.loop-at.at _ c.loop-at-test.true c.loop-at.invariant.left (c.is_too_deep.ensures.0 c.if-is_too_deep.true) in
    (omega (arith, as_many at_first words, c.loop-at-test.true), deep, c.loop-at.invariant.before)

pub returns : goal.returns
returns c = all_shallow (word_depths c.args.words.now) depth_limit c.loop-at.at (omega (arith, as_many at_first c.args.words.now, c.loop-at-test.false)) c.loop-at.invariant.before
