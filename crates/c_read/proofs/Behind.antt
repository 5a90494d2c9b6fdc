-- The tokens of a text behind its first two lines.
use Rattle.std.proofs.Common.{◌≡◌, ◌≢◌, ℕ, zero, suc, ◌+◌, ◌<◌, ◌≤◌, Bool, true, false, not, List, [], ◌∷◌, ◌++◌, map, length, get_or, refl, sym, ap, ◌∙◌, arith, length-append}
use Rattle.std.specs.Prelude.{◌↔◌, IsTrue}
use Rattle.c_tree.specs.declared.interface.CSlot.{CSlot}
use Rattle.c_tree.specs.declared.interface.Interface.{Interface}
use Rattle.c_tree.specs.Tree.{Slot}
use Rattle.c_tree.specs.View.{slot_view, interface_view}
use Rattle.c_token.specs.declared.scan.CToken.{CToken}
use Rattle.c_token.specs.Scan.{Lexeme, AreLexed, lexemes_of}
use Rattle.c_read.specs.Program.{place}
use Rattle.c_read.specs.Tokens.{TestsSlots}

-- ---- slots

pub some_first : (xs : List CSlot) (ys : List Slot) (a : Bool) → (IsTrue a ↔ (xs ≡ [])) → a ≡ false → map slot_view xs ++ ys ≢ []
some_first [] ys a h e = λ k. clash a e (h.1 refl)
  where
    clash : (a : Bool) → a ≡ false → IsTrue a → ⊥
    clash true e k = absurd cc
    clash false e k = absurd cc
some_first (x ∷ xs) ys a h e = λ k. absurd cc

some_last : (xs ys : List CSlot) (b : Bool) → xs ≡ [] → (IsTrue b ↔ (ys ≡ [])) → b ≡ false → map slot_view xs ++ map slot_view ys ≢ []
some_last xs ys b e h k m = some_first ys [] b h k (append_none (map slot_view ys) ∙ sym (ap (λ l. map slot_view l ++ map slot_view ys) e) ∙ m)
  where
    append_none : (l : List Slot) → l ++ [] ≡ l
    append_none [] = refl
    append_none (x ∷ l) = ap (λ r. x ∷ r) (append_none l)

none_at_all : (xs ys : List CSlot) → xs ≡ [] → ys ≡ [] → map slot_view xs ++ map slot_view ys ≡ []
none_at_all xs ys e f = ap (λ l. map slot_view l ++ map slot_view ys) e ∙ ap (map slot_view) f

pub last_tested : (it : Interface) (b : Bool) → it.inputs ≡ [] → (IsTrue b ↔ (it.outputs ≡ [])) → TestsSlots (not b) (interface_view it)
last_tested it true e h = none_at_all it.inputs it.outputs e (h.0 refl)
last_tested it false e h = some_last it.inputs it.outputs false e h refl

-- ---- places

pub place_there : (bytes : List ℕ) (ts : List CToken) (stop k : ℕ) (d : CToken) → k < length ts → place (lexemes_of bytes ts) stop k ≡ (get_or ts k d).offset
place_there bytes [] stop k d h = let none : ⊥ = omega arith in absurd none
place_there bytes (t ∷ ts) stop zero d h = refl
place_there bytes (t ∷ ts) stop (suc k) d h = place_there bytes ts stop k d (omega arith)

pub place_past : (bytes : List ℕ) (ts : List CToken) (stop k : ℕ) → length ts ≤ k → place (lexemes_of bytes ts) stop k ≡ stop
place_past bytes [] stop k h = refl
place_past bytes (t ∷ ts) stop zero h = let none : ⊥ = omega arith in absurd none
place_past bytes (t ∷ ts) stop (suc k) h = place_past bytes ts stop k (omega arith)

pub place_within : (at : ℕ) (ts : List Lexeme) (stop n : ℕ) (bytes : List ℕ) → AreLexed at ts stop bytes → place ts stop n ≤ at + length bytes
place_within at [] stop n bytes h = let e = h.0 in omega arith
place_within at (t ∷ ts) stop zero bytes h = let e = h.offset in omega arith
place_within at (t ∷ ts) stop (suc n) bytes h =
    let m = place_within (at + length t.text + length h.blanks) ts stop n h.behind h.rest in
    let e : length bytes ≡ length t.text + (length h.blanks + length h.behind) = ap length h.whole ∙ length-append t.text (h.blanks ++ h.behind) ∙ ap (λ k. length t.text + k) (length-append h.blanks h.behind) in
    omega arith
