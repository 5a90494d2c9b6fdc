-- What single expressions of a program give.
use Rattle.std.proofs.Common.{◌≡◌, ℕ, ◌+◌, ◌%◌, ◌<◌, ◌≤◌, Bool, true, false, ◌||◌, [], ◌∷◌, ℤ, pos, Some, refl, sym, ap, ◌∙◌, subst, arith, if◌then◌else◌}
use Rattle.std.specs.Prelude.{unsigned_abs, slice_get}
use Rattle.num_type.specs.Containers.{is_signed_container}
use Rattle.num_type.specs.Types.{IsWithin}
use Rattle.c_tree.specs.Tree.{Exp}
use Rattle.c_tree.specs.Outcome.{Completes, ◌>>=◌, bind, when◌then◌else◌, found_at}
use Rattle.c_tree.specs.Meaning.{Word, Int64, Uint64, Cells, State, value, element, loaded}
use Rattle.lower_scalar.specs.Part.{word}
use Rattle.fi_rules.specs.Value.{Val, Fi, Number, Words, MathObject, TypeObject, scalar}
use Rattle.fi_rules.specs.Types.{Ty, FiTy, NumberTy, TextTy, MathTy, TypeTy, OtherTy, type_of}
use Rattle.scalar_program.specs.Lowered.{Spot, Input, Variable, Literal, Operand, literal_exp, read}
use Rattle.scalar_program.proofs.Literals.{literal_gives}
use Rattle.scalar_program.proofs.Ranges.{InRange}

-- a stored integer as a word
abbrev pub word_z : Bool → ℤ → Word
word_z = word

-- the integer stands at a spot
abbrev pub At : State → Spot → Bool → ℤ → Type 0
At st (Input k) signed z = (c : Cells) × (slice_get st.inputs k ≡ Some c) × (c.items ≡ z ∷ []) × (is_signed_container c.container ≡ signed)
At st (Variable k) signed z = slice_get st.words k ≡ Some (word_z signed z)
At st (Literal s y) signed z = (s ≡ signed) × (y ≡ z)

-- the expression gives this word, wherever its tokens begin
pub record Says (e : Exp) (st : State) (w : Word) : Type 0 where
  pub says : (at : ℕ) → value e st at ≡ Completes w

pub mod_small : (n k : ℕ) → n < k → n % k ≡ n
mod_small n k h = grind arith

-- a variable, and the one element of an input
spot_says : (spot : Spot) (signed : Bool) (w : ℕ) (z : ℤ) (st : State) → InRange signed w z → w ≤ 64 → At st spot signed z → Says (read spot) st (word_z signed z)
unfolding bind found_at element
spot_says (Variable k) signed w z st r l h = record { says = λ at. ap (found_at at) h }
spot_says (Input k) signed w z st r l h = record {
  says = λ at.
      ap (λ o. found_at (at + 3) o >>= (λ cells. element (at + 4) cells (Int64 (pos 0)))) h.1
      ∙ ap (λ l. found_at (at + 4) (slice_get l 0) >>= (λ x. Completes (loaded h.0.container x))) h.2
      ∙ ap (λ b. Completes (if b then Int64 z else Uint64 (unsigned_abs z))) h.3
      ∙ as_word signed;
}
  where
    as_word : (b : Bool) → Completes (if b then Int64 z else Uint64 (unsigned_abs z)) ≡ Completes (word_z b z)
    as_word true = refl
    as_word false = refl
spot_says (Literal s y) signed w z st r l h =
    subst (λ b. Says (literal_exp b y) st (word_z signed z)) (sym h.0)
    (subst (λ x. Says (literal_exp signed x) st (word_z signed z)) (sym h.1) (record { says = (literal_gives signed w z st l r).says }))

-- an operand holds a stored integer of its type
pub record Stands (st : State) (o : Operand) (z : ℤ) : Type 0 where
  pub range : InRange o.num.signed o.num.word z
  pub limits : IsWithin o.num
  pub at : At st o.spot o.num.signed z

pub read_says : (o : Operand) (z : ℤ) (st : State) → Stands st o z → Says (read o.spot) st (word_z o.num.signed z)
read_says o z st h = spot_says o.spot o.num.signed o.num.word z st h.range h.limits.bits h.at

-- ---- values

-- a value stands where a type and a spot say: a fi as its stored integer, and what is known without a run as itself
unfoldable pub HeldStands : State → Spot → Ty → Val → Type 0
HeldStands st spot (FiTy t m) v = (z : ℤ) × (v ≡ Fi t m scalar (z ∷ [])) × Stands st (record { spot = spot; num = t }) z
HeldStands st spot (NumberTy s cs) v = (s ≡ scalar) × (v ≡ Number s cs)
HeldStands st spot (TextTy text) v = v ≡ Words text
HeldStands st spot (MathTy m) v = v ≡ MathObject m
HeldStands st spot (TypeTy t) v = v ≡ TypeObject t
HeldStands st spot OtherTy v = ⊥

-- its type is that type
pub stands_typed : (st : State) (spot : Spot) (u : Ty) (v : Val) → HeldStands st spot u v → type_of v ≡ u
unfolding HeldStands type_of
stands_typed st spot (FiTy t m) v h = ap type_of h.1
stands_typed st spot (NumberTy s cs) v h = ap type_of h.1
stands_typed st spot (TextTy text) v h = ap type_of h
stands_typed st spot (MathTy m) v h = ap type_of h
stands_typed st spot (TypeTy t) v h = ap type_of h
stands_typed st spot OtherTy v h = absurd h

-- ---- truth values

pub or_left : (a b : Bool) → a ≡ true → (a || b) ≡ true
or_left true b e = refl
or_left false b e = absurd (cc)

pub or_right : (a b : Bool) → b ≡ true → (a || b) ≡ true
or_right true b e = refl
or_right false b e = e
