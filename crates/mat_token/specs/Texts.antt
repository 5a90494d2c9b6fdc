-- Which texts each rule has. A text is the first `n` bytes of what stands from its place on, `s`.
use Rattle.std.specs.Prelude.{◌≡◌, ◌≢◌, ℕ, ◌+◌, ◌-◌, ◌<◌, ◌≤◌, Bool, not, ◌&&◌, ◌||◌, ◌==◌, List, length, drop, slice_index, IsTrue, codes}
use Rattle.std.specs.List.{list_any}
use Rattle.fic_base.specs.Decimal.{MantissaTo, ExponentTo}
use Rattle.mat_token.specs.declared.rule.Rule.{Rule}
use Rattle.mat_token.specs.declared.rule.Rule.TheVariants.{Block, Newline, Blank, Comment, Continued, Word, Number, Words, Op}
use Rattle.mat_token.specs.declared.rule.Context.{Context}
use Rattle.mat_token.specs.Bytes.{is_name_byte, is_line_byte, is_printable}
use Rattle.mat_token.specs.Rules.{depth_after, rule_at}

-- the bytes from one index up to another pass a test
abbrev pub AllPassIn : (ℕ → Bool) → List ℕ → ℕ → ℕ → Type 0
AllPassIn p s from to = (k : ℕ) → from ≤ k → k < to → IsTrue (p (slice_index s k))

-- whether a byte after the point of a number makes the point part of an operator
abbrev pub takes_point : ℕ → Bool
takes_point b = b == 42 || (b == 47 || (b == 92 || (b == 94 || b == 39)))

-- a point after digits is part of the number unless an operator or `...` begins with it
abbrev pub point_belongs : List ℕ → ℕ → Bool
point_belongs s k = not (takes_point (slice_index s (k + 1))) && not (slice_index s (k + 1) == 46 && slice_index s (k + 2) == 46)

-- a point of a number, behind its first digit, belongs to it
abbrev pub KeepsPoint : List ℕ → ℕ → Type 0
KeepsPoint s to = (k : ℕ) → 0 < k → k < to → slice_index s k ≡ 46 → IsTrue (point_belongs s k)

-- `i` or `j`
abbrev pub is_unit : ℕ → Bool
is_unit b = b == 105 || b == 106

-- nothing, or `i` or `j` after which no name goes on
pub data UnitTo (s : List ℕ) (from to : ℕ) : Type 0 where
  Real : from ≡ to → UnitTo s from to
  Imaginary : IsTrue (is_unit (slice_index s from)) → IsTrue (not (is_name_byte (slice_index s (from + 1)))) →
      from + 1 ≡ to → UnitTo s from to

-- a number: digits and a point, an exponent or none, `i` or `j` or none
pub record NumberTo (s : List ℕ) (to : ℕ) : Type 0 where
  pub mantissa : ℕ
  pub exponent : ℕ
  pub digits : MantissaTo s mantissa
  pub point : KeepsPoint s mantissa
  pub power : ExponentTo s mantissa exponent
  pub unit : UnitTo s exponent to

-- what follows the opening quote, with the closing one: a single quote closes, two of them are one quote of the text
pub data ClosesTo (quote : ℕ) : List ℕ → ℕ → Type 0 where
  Closed : (s : List ℕ) (to : ℕ) → slice_index s 0 ≡ quote → slice_index s 1 ≢ quote → to ≡ 1 → ClosesTo quote s to
  Doubled : (s : List ℕ) (to more : ℕ) → slice_index s 0 ≡ quote → slice_index s 1 ≡ quote →
      ClosesTo quote (drop 2 s) more → to ≡ 2 + more → ClosesTo quote s to
  Inside : (s : List ℕ) (to more : ℕ) → slice_index s 0 ≢ quote → IsTrue (is_printable (slice_index s 0)) →
      ClosesTo quote (drop 1 s) more → to ≡ 1 + more → ClosesTo quote s to

-- a text with its quotes
abbrev pub TextTo : List ℕ → ℕ → Type 0
TextTo s to = (more : ℕ) × ClosesTo (slice_index s 0) (drop 1 s) more × (to ≡ 1 + more)

-- one of these bytes
abbrev pub is_one_of : List ℕ → ℕ → Bool
is_one_of bytes b = list_any (λ c. c == b) bytes

-- an operator of one byte
abbrev pub is_operator : ℕ → Bool
is_operator b = is_one_of (codes "+-*/\\^'=<>&|~:,;()[]") b

-- an operator of two bytes
abbrev pub is_long_operator : ℕ → ℕ → Bool
is_long_operator a b =
    (a == 46 && is_one_of (codes "*/\\^'") b) || ((b == 61 && is_one_of (codes "=~<>") a) || (a == b && is_one_of (codes "&|") a))

-- an operator of one byte or of two
pub data OperatorTo (s : List ℕ) (to : ℕ) : Type 0 where
  Short : IsTrue (is_operator (slice_index s 0)) → to ≡ 1 → OperatorTo s to
  Long : IsTrue (is_long_operator (slice_index s 0) (slice_index s 1)) → to ≡ 2 → OperatorTo s to

-- a line of a block comment; the line that closes the outermost one is taken without its end
pub data BlockTo (depth : ℕ) (s : List ℕ) (to : ℕ) : Type 0 where
  Last : depth_after depth s ≡ 0 → AllPassIn is_line_byte s 1 to → BlockTo depth s to
  More : depth_after depth s ≢ 0 → AllPassIn is_line_byte s 0 (to - 1) → BlockTo depth s to

-- the first bytes, as many as that, are a text of the rule that the first bytes call for
abbrev pub IsOf : Context → Rule → List ℕ → ℕ → Type 0
IsOf c Block s n = BlockTo c.depth s n
IsOf c Newline s n = n ≡ 1
IsOf c Blank s n = n ≡ 1
IsOf c Comment s n = AllPassIn is_line_byte s 1 n
IsOf c Continued s n = AllPassIn is_line_byte s 0 (n - 1)
IsOf c Word s n = AllPassIn is_name_byte s 1 n
IsOf c Number s n = NumberTo s n
IsOf c Words s n = TextTo s n
IsOf c Op s n = OperatorTo s n

-- the longest text of the rule
pub record Longest (c : Context) (rule : Rule) (s : List ℕ) (n : ℕ) : Type 0 where
  pub within : n ≤ length s
  pub is : IsOf c rule s n
  pub most : (m : ℕ) → m ≤ length s → IsOf c rule s m → m ≤ n

-- the piece that comes first: the longest text of its rule; a name has at most 63 bytes
pub record IsPiece (c : Context) (s : List ℕ) (n : ℕ) : Type 0 where
  pub longest : Longest c (rule_at c s) s n
  pub name : rule_at c s ≡ Word → n ≤ 63
