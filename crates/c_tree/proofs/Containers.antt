-- Containers of types: the narrowest one is that which a type's word length picks; its sign and its bits.
use Rattle.std.proofs.Common.{◌≡◌, ℕ, ◌≤◌, Bool, true, false, refl, arith, if◌then◌else◌, nat_le}
use Rattle.num_type.specs.declared.container.Container.{Container}
use Rattle.num_type.specs.declared.container.Container.TheVariants.{I8, I16, I32, I64, U8, U16, U32, U64}
use Rattle.num_type.specs.Containers.{bits_of, is_signed_container}
use Rattle.c_tree.specs.Names.{container_for}

pub picked : (c : Container) (bits : ℕ) → bits ≤ bits_of c → ((d : Container) → bits ≤ bits_of d → bits_of c ≤ bits_of d) → c ≡ container_for (is_signed_container c) bits
picked I8 bits holds least = grind (arith, holds)
picked I16 bits holds least = grind (arith, holds, least I8)
picked I32 bits holds least = grind (arith, holds, least I16, least I8)
picked I64 bits holds least = grind (arith, holds, least I32, least I16, least I8)
picked U8 bits holds least = grind (arith, holds)
picked U16 bits holds least = grind (arith, holds, least U8)
picked U32 bits holds least = grind (arith, holds, least U16, least U8)
picked U64 bits holds least = grind (arith, holds, least U32, least U16, least U8)

pub container_sign : (s : Bool) (w : ℕ) → is_signed_container (container_for s w) ≡ s
container_sign true w = by (nat_le w 8) (nat_le w 16) (nat_le w 32)
  where
    by : (a b c : Bool) → is_signed_container (if a then I8 else (if b then I16 else (if c then I32 else I64))) ≡ true
    by true b c = refl
    by false true c = refl
    by false false true = refl
    by false false false = refl
container_sign false w = by (nat_le w 8) (nat_le w 16) (nat_le w 32)
  where
    by : (a b c : Bool) → is_signed_container (if a then U8 else (if b then U16 else (if c then U32 else U64))) ≡ false
    by true b c = refl
    by false true c = refl
    by false false true = refl
    by false false false = refl

le_of : (m n : ℕ) → nat_le m n ≡ true → m ≤ n
le_of m n h = grind arith

pub container_bits : (s : Bool) (w : ℕ) → w ≤ 64 → w ≤ bits_of (container_for s w)
container_bits true w h = by (nat_le w 8) (nat_le w 16) (nat_le w 32) (le_of w 8) (le_of w 16) (le_of w 32)
  where
    by : (a b c : Bool) → (a ≡ true → w ≤ 8) → (b ≡ true → w ≤ 16) → (c ≡ true → w ≤ 32) → w ≤ bits_of (if a then I8 else (if b then I16 else (if c then I32 else I64)))
    by true b c f g k = f refl
    by false true c f g k = g refl
    by false false true f g k = k refl
    by false false false f g k = h
container_bits false w h = by (nat_le w 8) (nat_le w 16) (nat_le w 32) (le_of w 8) (le_of w 16) (le_of w 32)
  where
    by : (a b c : Bool) → (a ≡ true → w ≤ 8) → (b ≡ true → w ≤ 16) → (c ≡ true → w ≤ 32) → w ≤ bits_of (if a then U8 else (if b then U16 else (if c then U32 else U64)))
    by true b c f g k = f refl
    by false true c f g k = g refl
    by false false true f g k = k refl
    by false false false f g k = h
