-- Which frames a word closes.
use Rattle.std.proofs.Common.{◌≡◌, ℕ, ◌<◌, ◌≤◌, [], ◌∷◌, refl, ap}
use Rattle.std.specs.Prelude.{if◌then◌else◌}
use Rattle.std.proofs.lemmas.Bool.{lt-ltb, le-ltb}
use Rattle.mat_ast.specs.Tree.{Exp}
use Rattle.mat_grammar.specs.Machine.{Frame, Stack, level, top, closed, Operand, settle}

-- a frame that the next token ends
pub settle_on : (r : ℕ) (e : Exp) (f : Frame) (st : Stack) → r < level f → settle r e (f ∷ st) ≡ settle r (closed f e) st
settle_on r e f st h = ap (λ b. if b then settle r (closed f e) st else record { is = e; under = f ∷ st }) (lt-ltb r (level f) h)

pub stay : (r : ℕ) (e : Exp) (st : Stack) → top st ≤ r → ◌≡◌ {A = Operand} (settle r e st) (record { is = e; under = st })
stay r e [] h = refl
stay r e (f ∷ st) h = ap (λ b. if b then settle r (closed f e) st else record { is = e; under = f ∷ st }) (le-ltb r (level f) h)
