-- The lengths of pieces as the code computes them. That each is the length of the longest text of its rule is proved in proofs/Piece.antt.
use Rattle.std.specs.Prelude.{ℕ, ◌+◌, Bool, false, List, [], ◌∷◌, length, min, drop, not, ◌&&◌, ◌||◌, ◌==◌, nat_lt, slice_index, if◌then◌else◌, Option, Some, None, option_map}
use Rattle.std.specs.List.{prefix_len}
use Rattle.fic_base.specs.Decimal.{is_exponent_letter, is_sign}
use Rattle.mat_token.specs.declared.rule.Rule.{Rule}
use Rattle.mat_token.specs.declared.rule.Rule.TheVariants.{Block, Newline, Blank, Comment, Continued, Word, Number, Words, Op}
use Rattle.mat_token.specs.declared.rule.Context.{Context}
use Rattle.mat_token.specs.Bytes.{is_digit, is_name_byte, is_line_byte, is_printable}
use Rattle.mat_token.specs.Rules.{depth_after}
use Rattle.mat_token.specs.Texts.{takes_point, is_operator, is_long_operator}

-- the bytes before the end of the line
abbrev pub line_len : List ℕ → ℕ
line_len s = prefix_len is_line_byte s

-- the line with its end
abbrev pub full_line_len : List ℕ → ℕ
full_line_len s = min (line_len s + 1) (length s)

-- a byte and the rest of its line
abbrev pub comment_len : List ℕ → ℕ
comment_len s = 1 + line_len (drop 1 s)

-- a byte and the letters, digits and `_` that follow
abbrev pub word_len : List ℕ → ℕ
word_len s = 1 + prefix_len is_name_byte (drop 1 s)

-- the digits that come first
abbrev pub digits_len : List ℕ → ℕ
digits_len s = prefix_len is_digit s

-- a point that belongs to the digits before it comes first
abbrev pub starts_point : List ℕ → Bool
starts_point s = slice_index s 0 == 46 && (not (takes_point (slice_index s 1)) && not (slice_index s 1 == 46 && slice_index s 2 == 46))

-- a point and the digits after it
abbrev pub fraction_len : List ℕ → ℕ
fraction_len s = if starts_point s then 1 + digits_len (drop 1 s) else 0

-- a digit or a point, and the digits that follow
abbrev pub head_len : List ℕ → ℕ
head_len s = 1 + digits_len (drop 1 s)

-- digits, digits with a point and digits, or a point with digits
abbrev pub mantissa_len : List ℕ → ℕ
mantissa_len s = if is_digit (slice_index s 0) then head_len s + fraction_len (drop (head_len s) s) else head_len s

-- `e` and a sign, or `e` alone
abbrev pub exponent_head : List ℕ → ℕ
exponent_head s = if is_sign (slice_index s 1) then 2 else 1

-- an exponent with at least one digit
abbrev pub exponent_len : List ℕ → ℕ
exponent_len s =
    if is_exponent_letter (slice_index s 0) && nat_lt 0 (digits_len (drop (exponent_head s) s))
    then exponent_head s + digits_len (drop (exponent_head s) s)
    else 0

-- `i` or `j`, after which no name goes on
abbrev pub unit_len : List ℕ → ℕ
unit_len s = if (slice_index s 0 == 105 || slice_index s 0 == 106) && not (is_name_byte (slice_index s 1)) then 1 else 0

-- a number without its `i` or `j`
abbrev pub real_len : List ℕ → ℕ
real_len s = mantissa_len s + exponent_len (drop (mantissa_len s) s)

-- a number: its digits, then an exponent if there is one, then `i` or `j`
abbrev pub number_len : List ℕ → ℕ
number_len s = real_len s + unit_len (drop (real_len s) s)

-- what follows the opening quote, with the closing one; `half` says that a quote stands before, which may be the first of two
abbrev pub closing_len : ℕ → Bool → List ℕ → Option ℕ
closing_len quote half [] = if half then Some 0 else None
closing_len quote half (b ∷ s) =
    if b == quote then option_map (λ n. 1 + n) (closing_len quote (not half) s)
    else (if half then Some 0 else (if is_printable b then option_map (λ n. 1 + n) (closing_len quote false s) else None))

-- a text with its quotes
abbrev pub text_len : List ℕ → Option ℕ
text_len s = option_map (λ n. 1 + n) (closing_len (slice_index s 0) false (drop 1 s))

-- the longest operator that comes first
abbrev pub operator_len : List ℕ → Option ℕ
operator_len s =
    if is_long_operator (slice_index s 0) (slice_index s 1) then Some 2
    else (if is_operator (slice_index s 0) then Some 1 else None)

-- a line of a block comment; the end of its last line is no part of it
abbrev pub block_len : ℕ → List ℕ → ℕ
block_len depth s = if depth_after depth s == 0 then comment_len s else full_line_len s

-- a name has at most 63 bytes
abbrev pub name_len : List ℕ → Option ℕ
name_len s = if nat_lt 63 (word_len s) then None else Some (word_len s)

-- the length of the piece that a rule gives
abbrev pub piece_len : Context → Rule → List ℕ → Option ℕ
piece_len c Block s = Some (block_len c.depth s)
piece_len c Newline s = Some 1
piece_len c Blank s = Some 1
piece_len c Comment s = Some (comment_len s)
piece_len c Continued s = Some (full_line_len s)
piece_len c Word s = name_len s
piece_len c Number s = Some (number_len s)
piece_len c Words s = text_len s
piece_len c Op s = operator_len s
