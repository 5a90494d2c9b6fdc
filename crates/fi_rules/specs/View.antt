-- What values of the code stand for.
use Rattle.std.specs.Prelude.{◌≡◌, ℕ, ℤ, pos, Bool, true, false, [], ◌∷◌, Some, None, option_map, unwrap_or, Result, Ok, Err}
use Rattle.mat_ast.specs.declared.tree.UnOp.{UnOp}
use Rattle.mat_ast.specs.declared.tree.UnOp.TheVariants as un
use Rattle.num_type.specs.View as numbers
use Rattle.num_type.specs.Constants.{Exact}
use Rattle.num_type.specs.View.{exact_of}
use Rattle.num_type.specs.declared.dyadic.Dyadic.{Dyadic}
use Rattle.num_type.specs.Types.{NumericType}
use Rattle.const_rules.specs.BestFraction.{best_fraction_of}
use Rattle.const_rules.specs.Stored.{stored_at}
use Rattle.fi_rules.specs.declared.ty.Ty as code_ty
use Rattle.fi_rules.specs.declared.ty.Ty.TheVariants as ty
use Rattle.fi_rules.specs.declared.missing.Shown as code_shown
use Rattle.fi_rules.specs.declared.missing.Shown.TheVariants as shown
use Rattle.fi_rules.specs.declared.missing.Missing as code_missing
use Rattle.fi_rules.specs.declared.pairs.Side as code_side
use Rattle.fi_rules.specs.declared.pairs.Side.TheVariants as side
use Rattle.fi_rules.specs.declared.pairs.Operand as code_operand
use Rattle.fi_rules.specs.declared.pairs.Meeting as code_meeting
use Rattle.fi_rules.specs.declared.pairs.Meeting.TheVariants as meeting
use Rattle.fi_rules.specs.declared.pairs.Working as code_working
use Rattle.fi_rules.specs.declared.pairs.Working.TheVariants as working
use Rattle.fi_rules.specs.declared.signs.Signed as code_signed
use Rattle.fi_rules.specs.declared.signs.Signed.TheVariants as signed
use Rattle.fi_rules.specs.declared.asked.Stated as code_stated
use Rattle.fi_rules.specs.declared.asked.Stated.TheVariants as stated
use Rattle.fi_rules.specs.declared.asked.Asked as code_asked
use Rattle.fi_rules.specs.declared.asked.Asked.TheVariants as asked
use Rattle.fi_rules.specs.declared.granted.Built as code_built
use Rattle.fi_rules.specs.declared.granted.Built.TheVariants as built
use Rattle.fi_rules.specs.Checked.{Checked, Fine, Missing, Shown, Itself, LeftConstant, RightConstant, Counts, Whole, Differs}
use Rattle.fi_rules.specs.Types.{Ty, FiTy, NumberTy, TextTy, MathTy, TypeTy, OtherTy}
use Rattle.fi_rules.specs.Options.{◌|>◌}
use Rattle.fi_rules.specs.Arguments.{length_of, whole_of}
use Rattle.fi_rules.specs.Calls.{Asked, Takes, Attaches, TakesSign, MakesType, MakesMath, Built, Taken, Attached, SignTaken, Object, fixed}
use Rattle.fi_rules.specs.Pairs.{Side, Meeting, Folds, Meets, Working, FoldsTo, Computes, fi_side, scalar_number}

abbrev pub ty_view : code_ty.Ty → Ty
ty_view (ty.Fi t m) = FiTy (numbers.type_of t) m
ty_view (ty.Number c) = scalar_number (exact_of c)
ty_view (ty.Words text) = TextTy text
ty_view (ty.Math m) = MathTy m
ty_view (ty.Type t) = TypeTy (numbers.type_of t)
ty_view ty.Other = OtherTy

abbrev pub shown_view : code_shown.Shown → Shown
shown_view shown.Itself = Itself
shown_view shown.LeftConstant = LeftConstant
shown_view shown.RightConstant = RightConstant
shown_view (shown.Counts have want) = Counts have want
shown_view (shown.Word w) = Whole (pos w)
shown_view (shown.Fraction f) = Whole f
shown_view (shown.Whole c) = Whole (stored_at (exact_of c) (pos 0))
shown_view (shown.Differs m n) = Differs m n

-- a word length that a source states: 0 stands for a constant that is none
abbrev pub stated_word : Dyadic → ℕ
stated_word c = unwrap_or (whole_of (exact_of c) |> length_of) 0

-- a fraction length that a source states: 0 stands for a constant that is none
abbrev pub stated_fraction : Dyadic → ℤ
stated_fraction c = unwrap_or (whole_of (exact_of c)) (pos 0)

-- a scalar constant
abbrev pub number_view : Dyadic → Ty
number_view c = scalar_number (exact_of c)

-- an answer of the code as what its conditions come to
abbrev pub checked_view : {R A : Type 0} → (R → A) → Result R code_missing.Missing → Checked A
checked_view view (Ok x) = Fine (view x)
checked_view view (Err m) = Missing m.code (shown_view m.shown)

-- a type with another fraction length
abbrev pub at_fraction : NumericType → ℤ → NumericType
at_fraction t f = record { signed = t.signed; word = t.word; fraction = f }

abbrev pub side_view : code_side.Side → Side
side_view (side.Fi t m) = fi_side (numbers.type_of t) m
side_view (side.Constant t f z) = record { num = at_fraction (numbers.type_of t) f; math = None; stored = Some (z ∷ []) }

abbrev pub meeting_view : code_meeting.Meeting → Meeting
meeting_view (meeting.Folds c) = Folds (scalar_number (exact_of c))
meeting_view (meeting.Meets a b) = Meets (side_view a) (side_view b)

-- an operand within the limits
abbrev pub operand_side : code_operand.Operand → Side
operand_side o = record { num = numbers.type_of o.num; math = o.math; stored = option_map (λ z. z ∷ []) o.stored }

abbrev pub working_view : code_working.Working → Working
working_view (working.FoldsTo c) = FoldsTo (scalar_number (exact_of c))
working_view (working.Computes a b g t) = Computes (operand_side a) (operand_side b) g (numbers.type_of t)

-- what a sign before an operand of a type gives
abbrev pub signed_view : Ty → code_signed.Signed → Ty
signed_view t signed.Same = t
signed_view t signed.Turned = t
signed_view t (signed.Constant c) = number_view c

abbrev pub is_fi : Ty → Bool
is_fi (FiTy t m) = true
is_fi t = false

abbrev pub is_number : Ty → Bool
is_number (NumberTy s cs) = true
is_number t = false

-- which sign before which operand gives it
abbrev pub IsSigned : UnOp → Ty → code_signed.Signed → Type 0
IsSigned op t signed.Same = op ≡ un.Plus
IsSigned op t signed.Turned = (op ≡ un.Minus) × (is_fi t ≡ true)
IsSigned op t (signed.Constant c) = (op ≡ un.Minus) × (is_number t ≡ true)

-- a type at the best fraction length of a constant
abbrev pub best_fixed : Bool → ℕ → Exact → NumericType
best_fixed signed word c = fixed signed word (best_fraction_of signed word (c ∷ []))

abbrev pub stated_view : code_stated.Stated → NumericType
stated_view (stated.Of t) = numbers.type_of t
stated_view (stated.Stated s w f) = fixed s (stated_word w) (stated_fraction f)
stated_view (stated.Best s w c) = best_fixed s (stated_word w) (exact_of c)

abbrev pub asked_view : code_asked.Asked → Asked
asked_view (asked.Takes t m) = Takes (stated_view t) m
asked_view (asked.Attaches m) = Attaches m
asked_view asked.TakesSign = TakesSign
asked_view (asked.MakesType t) = MakesType (stated_view t)
asked_view (asked.MakesMath m) = MakesMath m

abbrev pub built_view : code_built.Built → Built
built_view (built.Taken t m) = Taken (numbers.type_of t) m
built_view (built.Attached m) = Attached m
built_view built.SignTaken = SignTaken
built_view (built.Type t) = Object (TypeTy (numbers.type_of t))
built_view (built.Math m) = Object (MathTy m)
