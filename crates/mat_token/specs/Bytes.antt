-- Bytes of a source, and what its lines look like.
pub use Rattle.fic_base.specs.Names.{is_digit, is_letter, is_name_byte, keywords}
use Rattle.std.specs.Prelude.{ℕ, Bool, true, false, List, [], ◌∷◌, drop, not, ◌&&◌, ◌||◌, ◌==◌, nat_le, slice_index, if◌then◌else◌}

-- any byte but a line feed
abbrev pub is_line_byte : ℕ → Bool
is_line_byte b = not (b == 10)

-- what a text may have between its quotes
abbrev pub is_printable : ℕ → Bool
is_printable b = nat_le 32 b && nat_le b 126

-- a blank comes first: a space, a tab, or a carriage return directly before a line feed
abbrev pub starts_blank : List ℕ → Bool
starts_blank s = slice_index s 0 == 32 || (slice_index s 0 == 9 || (slice_index s 0 == 13 && slice_index s 1 == 10))

-- `...` comes first
abbrev pub starts_dots : List ℕ → Bool
starts_dots s = slice_index s 0 == 46 && (slice_index s 1 == 46 && slice_index s 2 == 46)

-- only blanks stand before the end of the line
abbrev pub rest_is_blank : List ℕ → Bool
rest_is_blank [] = true
rest_is_blank (b ∷ s) = b == 10 || (starts_blank (b ∷ s) && rest_is_blank s)

-- `%`, this byte and nothing but blanks stand before the end of the line
abbrev pub starts_mark : ℕ → List ℕ → Bool
starts_mark brace s = slice_index s 0 == 37 && (slice_index s 1 == brace && rest_is_blank (drop 2 s))

-- only blanks and `%` with this byte stand before the end of the line
abbrev pub line_marks : ℕ → List ℕ → Bool
line_marks brace [] = false
line_marks brace (b ∷ s) = if starts_blank (b ∷ s) then line_marks brace s else starts_mark brace (b ∷ s)
