use Rattle.std.proofs.Common.{◌≡◌, ◌+◌, ◌++◌, drop, length}
use Rattle.scalar_walk.proofs.emitted.extend.Given as goal

abbrev pub invariant-loop-word : goal.invariant-loop-word
invariant-loop-word l =
    (l.initial.words ++ l.more ≡ l.words ++ drop l.word-index l.more)
    × (length l.words + length (drop l.word-index l.more) ≡ length l.initial.words + length l.more)
