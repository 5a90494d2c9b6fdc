-- Operations of the code on words are those of the definitions.
use Rattle.std.proofs.Common.{◌≡◌, ℕ, zero, suc, ◌+◌, ◌-◌, ◌*◌, ◌%◌, ◌^◌, ◌<◌, ◌≤◌, Bool, true, false, ℤ, pos, negsuc, ◌+ℤ◌, ◌-ℤ◌, arith, refl, sym, ap, ◌∙◌}
use Rattle.std.specs.Prelude.{Option, Some, None, FitsSigned, SomeIff, unsigned_abs}
use Rattle.std.specs.Int.{w64, cast_unsigned, int_rem_euclid}
use Rattle.std.proofs.lemmas.Grind.{common_steps}
use Rattle.std.proofs.lemmas.Int.{ints, int_rem_euclid_is}
use Rattle.num_type.specs.declared.container.Container.{Container}
use Rattle.num_type.specs.declared.container.Container.TheVariants.{I8, I16, I32, I64, U8, U16, U32, U64}
use Rattle.num_type.specs.Containers.{bits_of}
use Rattle.c_tree.specs.Outcome.{Completes, UndefinedAt, choose, when◌then◌else◌}
use Rattle.c_tree.specs.Meaning.{Int64, signed_at, fits_signed, wrapped}
use Rattle.c_run.specs.Signed.{given}

fits : (z : ℤ) → FitsSigned w64 z → fits_signed 64 z ≡ true
fits (pos n) h = grind (arith, ints)
fits (negsuc n) h = grind (arith, ints)

fits_not : (z : ℤ) → ¬ FitsSigned w64 z → fits_signed 64 z ≡ false
fits_not (pos n) h = grind (arith, common_steps, ints)
fits_not (negsuc n) h = grind (arith, common_steps, ints)

pub signed_fits : (token : ℕ) (z : ℤ) → FitsSigned w64 z → signed_at token z ≡ Completes (Int64 z)
unfolding signed_at choose
signed_fits token z h = ap (λ b. when b then Completes (Int64 z) else UndefinedAt token) (fits z h)

pub signed_fits_not : (token : ℕ) (z : ℤ) → ¬ FitsSigned w64 z → signed_at token z ≡ UndefinedAt token
unfolding signed_at choose
signed_fits_not token z h = ap (λ b. when b then Completes (Int64 z) else UndefinedAt token) (fits_not z h)

pub given_is : (token : ℕ) (z : ℤ) (o : Option ℤ) → SomeIff o (FitsSigned w64 z) z → given token o ≡ signed_at token z
given_is token z (Some y) h = ap (λ v. Completes (Int64 v)) h.1 ∙ sym (signed_fits token z h.0)
given_is token z None h = sym (signed_fits_not token z h)

-- the remainder of a number that 2 ^ 64 was added to
remainder : (z : ℤ) (m : ℕ) → z +ℤ pos (1 * 2 ^ 64) ≡ pos m → wrapped 64 z ≡ m % 2 ^ 64
remainder z m e = ap unsigned_abs (int_rem_euclid_is z (pos (2 ^ 64)) (2 ^ 64) 1 m (omega arith) refl e)

mod_small : (n k : ℕ) → n < k → n % k ≡ n
mod_small n k h = grind arith

pub wrapped_is : (z : ℤ) → FitsSigned w64 z → cast_unsigned w64 z ≡ wrapped 64 z
wrapped_is (pos n) h = sym (mod_small n (2 ^ 64) (grind (arith, ints)))
wrapped_is (negsuc n) h = sym (remainder (negsuc n) (2 ^ 64 - suc n) (omega (arith, ints)) ∙ mod_small (2 ^ 64 - suc n) (2 ^ 64) (omega arith))

pub difference_is : (m n : ℕ) → n ≤ 2 ^ 64 → (m + (2 ^ 64 - n)) % 2 ^ 64 ≡ wrapped 64 (pos m -ℤ pos n)
difference_is m n h = sym (remainder (pos m -ℤ pos n) (m + (2 ^ 64 - n)) (omega (arith, ints)))

bits_8 : (z : ℤ) → wrapped 64 z % 2 ^ 8 ≡ wrapped 8 z
bits_8 (pos n) = omega arith
bits_8 (negsuc n) = omega arith

bits_16 : (z : ℤ) → wrapped 64 z % 2 ^ 16 ≡ wrapped 16 z
bits_16 (pos n) = omega arith
bits_16 (negsuc n) = omega arith

bits_32 : (z : ℤ) → wrapped 64 z % 2 ^ 32 ≡ wrapped 32 z
bits_32 (pos n) = omega arith
bits_32 (negsuc n) = omega arith

bits_64 : (z : ℤ) → wrapped 64 z % 2 ^ 64 ≡ wrapped 64 z
bits_64 (pos n) = omega arith
bits_64 (negsuc n) = omega arith

pub wrapped_again : (c : Container) (z : ℤ) → wrapped 64 z % 2 ^ bits_of c ≡ wrapped (bits_of c) z
wrapped_again I8 z = bits_8 z
wrapped_again U8 z = bits_8 z
wrapped_again I16 z = bits_16 z
wrapped_again U16 z = bits_16 z
wrapped_again I32 z = bits_32 z
wrapped_again U32 z = bits_32 z
wrapped_again I64 z = bits_64 z
wrapped_again U64 z = bits_64 z
