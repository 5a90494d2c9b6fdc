-- What the conditions of a node come to: a result, or the first of them that is missing.
use Rattle.std.specs.Prelude.{ℕ, ℤ, Bool, true, false, Option, Some, None}
use Rattle.fic_base.specs.declared.code.Code.{Code}
use Rattle.fi_math.specs.declared.fimath.Fimath.{Fimath}

-- what a refusal shows
pub data Shown : Type 0 where
  -- the operator, or the name that is called
  Itself : Shown
  -- the constant to its left or to its right where that is a literal behind at most one minus, and else the operator
  LeftConstant : Shown
  RightConstant : Shown
  -- so many arguments, and so many that are wanted
  Counts : ℕ → ℕ → Shown
  -- a word length or a fraction length
  Whole : ℤ → Shown
  -- two unequal fimaths
  Differs : Fimath → Fimath → Shown

pub data Checked (A : Type 0) : Type 0 where
  Fine : A → Checked A
  -- the code, and what is shown
  Missing : Code → Shown → Checked A

-- goes on with the result, if there is one
unfoldable pub bind : {A B : Type 0} → Checked A → (A → Checked B) → Checked B
bind (Fine x) f = f x
bind (Missing code shown) f = Missing code shown

infixl 10 ◌>>=◌
abbrev pub ◌>>=◌ : {A B : Type 0} → Checked A → (A → Checked B) → Checked B
x >>= f = bind x f

-- a result that has to be there
unfoldable pub needed : {A : Type 0} → Code → Shown → Option A → Checked A
needed code shown None = Missing code shown
needed code shown (Some x) = Fine x

-- the first where the test holds, else the second
unfoldable pub choose : {A : Type 0} → Bool → Checked A → Checked A → Checked A
choose true x y = x
choose false x y = y

infix 5 when◌then◌else◌
abbrev pub when◌then◌else◌ : {A : Type 0} → Bool → Checked A → Checked A → Checked A
when b then x else y = choose b x y
