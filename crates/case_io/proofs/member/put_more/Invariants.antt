use Rattle.std.proofs.Common.{◌≡◌, ◌++◌, map, flat_map, codes, drop}
use Rattle.case_io.specs.View.{members_view}
use Rattle.case_io.specs.ResultLines.{member_text}
use Rattle.case_io.proofs.member.put_more.Given as goal

abbrev pub invariant-loop-member : goal.invariant-loop-member
invariant-loop-member l =
    l.out.items ++ flat_map (λ next. codes "," ++ next) (map member_text (members_view (drop l.member-index l.members))) ≡ l.initial.out.items ++ flat_map (λ next. codes "," ++ next) (map member_text (members_view l.members))
