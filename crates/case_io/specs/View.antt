-- What parts of the code stand for.
use Rattle.std.specs.Prelude.{List, map}
use Rattle.case_io.specs.declared.range.Range as code
use Rattle.case_io.specs.declared.member.Member as own
use Rattle.case_io.specs.Cases.{Range}
use Rattle.case_io.specs.ResultLines.{Member}

abbrev pub range_view : code.Range → Range
range_view r = record { count = r.count; least = r.least; most = r.most }

abbrev pub ranges_view : List code.Range → List Range
ranges_view = map range_view

abbrev pub member_view : own.Member → Member
member_view m = record { name = m.name.items; text = m.text.items }

abbrev pub members_view : List own.Member → List Member
members_view = map member_view
