-- Two operands element by element.
use Rattle.std.specs.Prelude.{◌≡◌, ℕ, ◌+◌, ◌≤◌, Bool, ◌&&◌, ◌||◌, ℤ, List, nat_eq, if◌then◌else◌}
use Rattle.num_type.specs.Types.{NumericType, IsInRange, word_limit}
use Rattle.num_type.specs.View.{type_of}
use Rattle.num_type.specs.declared.num_type.NumType.{NumType}
use Rattle.fi_ops.specs.Elements.{Element}
use Rattle.fi_ops.specs.Bits.{anded, ored, xored, concatenated, word_type}
use Rattle.eval_bits.specs.declared.joint.Bitwise.{Bitwise}
use Rattle.eval_bits.specs.declared.joint.Bitwise.TheVariants as bitwise
use Rattle.eval_bits.specs.declared.joint.Joint.{Joint}
use Rattle.eval_bits.specs.declared.joint.Joint.TheVariants as joint
use Rattle.eval_bits.specs.declared.logicals.Connective.{Connective}
use Rattle.eval_bits.specs.declared.logicals.Connective.TheVariants as connective

-- what a logical operator makes of two truth values
abbrev pub connects : Connective → Bool → Bool → Bool
connects connective.And b c = b && c
connects connective.Or b c = b || c

-- of a pair
abbrev pub connected_pair : Connective → Bool × Bool → Bool
connected_pair op p = connects op p.0 p.1

-- what an operation makes of the bits of two elements
abbrev pub bits_met : Bitwise → Element → Element → ℤ
bits_met bitwise.And = anded
bits_met bitwise.Or = ored
bits_met bitwise.Xor = xored

-- the stored integer that two elements of these types make
unfoldable pub joined : Joint → NumericType → NumericType → ℤ → ℤ → ℤ
joined (joint.Met op) a b x y = bits_met op (record { num = a; z = x }) (record { num = b; z = y })
joined joint.Concatenated a b x y = (concatenated (record { num = a; z = x }) (record { num = b; z = y })).z

-- that of a pair
abbrev pub joined_pair : Joint → NumericType → NumericType → ℤ × ℤ → ℤ
joined_pair op a b p = joined op a b p.0 p.1

-- a pair of stored integers of these types
abbrev pub AreInRange : NumericType → NumericType → ℤ × ℤ → Type 0
AreInRange a b p = IsInRange a p.0 × IsInRange b p.1

-- its type
unfoldable pub joint_type : Joint → NumericType → NumericType → NumericType
joint_type (joint.Met op) a b = a
joint_type joint.Concatenated a b = word_type (a.word + b.word)

-- one type, or no more bits than a word has
abbrev pub CanJoin : Joint → NumType → NumType → Type 0
CanJoin (joint.Met op) a b = a ≡ b
CanJoin joint.Concatenated a b = a.word + b.word ≤ word_limit

-- two elements side by side
abbrev pub beside : {A : Type 0} → A → A → A × A
beside x y = (x, y)

-- so many elements go with so many: one with each, or as many
abbrev pub IsFitting : ℕ → ℕ → Type 0
IsFitting m n = (m ≡ 1 → ⊥) → (n ≡ 1 → ⊥) → m ≡ n

-- how many there are then
abbrev pub paired_count : ℕ → ℕ → ℕ
paired_count m n = if nat_eq m 1 then n else m
