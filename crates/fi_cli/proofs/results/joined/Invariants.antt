use Rattle.std.proofs.Common.{◌≡◌, ◌++◌, map, vec_items, drop}
use Rattle.std.specs.Prelude.{flat_map}
use Rattle.fi_cli.proofs.results.joined.Given as goal

abbrev pub invariant-loop-line : goal.invariant-loop-line
invariant-loop-line l = flat_map (λ line. line) (map vec_items l.lines) ≡ l.bytes.items ++ flat_map (λ line. line) (map vec_items (drop l.line-index l.lines))
