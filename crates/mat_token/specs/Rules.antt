-- Which rule gives the piece at a place, and what is known after it.
use Rattle.std.specs.Prelude.{ℕ, ◌+◌, ◌-◌, Bool, true, false, List, [], ◌∷◌, not, ◌&&◌, ◌||◌, ◌==◌, nat_lt, slice_index, if◌then◌else◌, Option, Some, None, codes, bytes_eq}
use Rattle.std.specs.List.{list_any}
use Rattle.fic_base.specs.declared.place.Place.{Place}
use Rattle.fic_base.specs.Names.{is_keyword}
use Rattle.mat_token.specs.declared.token.Kind.{Kind}
use Rattle.mat_token.specs.declared.token.Kind.TheVariants as kind
use Rattle.mat_token.specs.declared.rule.Rule.{Rule}
use Rattle.mat_token.specs.declared.rule.Rule.TheVariants.{Block, Newline, Blank, Comment, Continued, Word, Number, Words, Op}
use Rattle.mat_token.specs.declared.rule.Context.{Context}
use Rattle.mat_token.specs.Bytes.{is_digit, is_letter, starts_blank, starts_dots, starts_mark, line_marks}

-- how many block comments are open after a line
abbrev pub depth_after : ℕ → List ℕ → ℕ
depth_after depth s = if line_marks 123 s then depth + 1 else (if line_marks 125 s then depth - 1 else depth)

-- a line that has only blanks and `%{` begins a block comment
abbrev pub rule_of_comment : Context → List ℕ → Rule
rule_of_comment c s = if c.fresh && starts_mark 123 s then Block else Comment

-- a `'` directly after what can be transposed is an operator, any other opens a text
abbrev pub rule_of_token : Context → List ℕ → Rule
rule_of_token c s =
    if is_letter (slice_index s 0) then Word
    else (if is_digit (slice_index s 0) || (slice_index s 0 == 46 && is_digit (slice_index s 1)) then Number
    else (if slice_index s 0 == 34 || (slice_index s 0 == 39 && not c.operand) then Words
    else Op))

-- the rule that the first bytes call for
abbrev pub rule_at : Context → List ℕ → Rule
rule_at c s =
    if nat_lt 0 c.depth then Block
    else (if slice_index s 0 == 10 then Newline
    else (if starts_blank s then Blank
    else (if slice_index s 0 == 37 then rule_of_comment c s
    else (if starts_dots s then Continued
    else rule_of_token c s))))

-- a word is a keyword or a name
abbrev pub word_kind : List ℕ → Kind
word_kind text = if is_keyword text then kind.Keyword else kind.Name

-- the kind of token that a piece is; blanks and comments are none
abbrev pub kind_of : Rule → List ℕ → Option Kind
kind_of Newline text = Some kind.Newline
kind_of Word text = Some (word_kind text)
kind_of Number text = Some kind.Number
kind_of Words text = Some kind.Words
kind_of Op text = Some kind.Op
kind_of _ text = None

-- a closing bracket or a transpose
abbrev pub closes_operand : List ℕ → Bool
closes_operand text = list_any (bytes_eq text) (codes ")" ∷ codes "]" ∷ codes "'" ∷ codes ".'" ∷ [])

-- whether an operand ends with a token
abbrev pub ends_operand : Kind → List ℕ → Bool
ends_operand kind.Name text = true
ends_operand kind.Number text = true
ends_operand kind.Words text = true
ends_operand kind.Keyword text = bytes_eq text (codes "end")
ends_operand kind.Op text = closes_operand text
ends_operand _ text = false

-- whether a `'` directly after a token transposes
abbrev pub takes_transpose : Kind → List ℕ → Bool
takes_transpose kind.Words text = false
takes_transpose sort text = ends_operand sort text

-- what is known after a token
abbrev pub after_token : Context → Kind → List ℕ → Context
after_token c kind.Newline text = record c { fresh = true; gap = false; operand = false }
after_token c sort text = record c { fresh = false; gap = false; operand = takes_transpose sort text }

-- what is known after a blank or a comment at a place, from which on the text is `s`
abbrev pub after_gap : Context → Place → Rule → List ℕ → Context
after_gap c at Block s =
    record { fresh = false; gap = true; operand = false; depth = depth_after c.depth s; opening = if c.depth == 0 then at else c.opening }
after_gap c at Comment s = record c { fresh = false; gap = true; operand = false }
after_gap c at Continued s = record c { fresh = true; gap = true; operand = false }
after_gap c at _ s = record c { gap = true; operand = false }
