-- What is known of the shelves and sinks of this crate.
use Rattle.std.specs.Prelude.{ℕ, Bool, List, Option, string_bytes, nat_eq}
use Rattle.std.specs.List.{list_any}
use Rattle.fic_io.specs.Lookup.{bytes_under}
use Rattle.fic_io.specs.declared.mem_shelf.MemShelf.{MemShelf}
use Rattle.fic_io.specs.declared.file_shelf.FileShelf.{FileShelf}
use Rattle.fic_io.specs.declared.mem_sink.MemSink.{MemSink}
use Rattle.fic_io.specs.declared.streams.OutSink.{OutSink}
use Rattle.fic_io.specs.declared.streams.ErrSink.{ErrSink}

-- the bytes under a name
abbrev pub bytes_on : MemShelf → List ℕ → Option (List ℕ)
bytes_on s name = bytes_under s.files.items name

-- how often a shelf has failed, and at which name last
abbrev pub mem_faults : MemShelf → ℕ
mem_faults s = s.faults

abbrev pub mem_last : MemShelf → List ℕ
mem_last s = string_bytes s.last

-- the numbers of the calls that fail, from 0, and how many calls there were: a count that stays at its end
abbrev pub chosen_of : MemShelf → List ℕ
chosen_of s = s.fails.items

abbrev pub calls_of : MemShelf → ℕ
calls_of s = s.calls

-- whether the next call is one of those that fail
abbrev pub is_chosen : MemShelf → Bool
is_chosen s = list_any (λ number. nat_eq number (calls_of s)) (chosen_of s)

abbrev pub file_faults : FileShelf → ℕ
file_faults s = s.faults

abbrev pub file_last : FileShelf → List ℕ
file_last s = string_bytes s.last

-- the bytes in a sink, and how often one has failed
abbrev pub bytes_in : MemSink → List ℕ
bytes_in s = s.bytes.items

abbrev pub sink_faults : MemSink → ℕ
sink_faults s = s.faults

-- how many more bytes a sink has room for, and how many it takes at most in a call
abbrev pub room_in : MemSink → ℕ
room_in s = s.room

abbrev pub most_in : MemSink → ℕ
most_in s = s.most

abbrev pub out_faults : OutSink → ℕ
out_faults s = s.faults

abbrev pub err_faults : ErrSink → ℕ
err_faults s = s.faults
