use Rattle.std.proofs.Common.{◌≡◌, ◌++◌, map, flat_map, codes, drop}
use Rattle.std.specs.Fmt.{signed_decimal}
use Rattle.case_io.proofs.json_text.put_more.Given as goal

abbrev pub invariant-loop-z : goal.invariant-loop-z
invariant-loop-z l =
    l.out.items ++ flat_map (λ next. codes "," ++ next) (map signed_decimal (drop l.z-index l.numbers)) ≡ l.initial.out.items ++ flat_map (λ next. codes "," ++ next) (map signed_decimal l.numbers)
