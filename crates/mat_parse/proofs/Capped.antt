-- Depths that agree up to 101 stay so.
use Rattle.std.proofs.Common.{◌≡◌, ℕ, ◌+◌, min, List, [], ◌∷◌, ◌++◌, take, length, get_or, ◌<◌, arith, refl, ap, sym, ◌∙◌}
use Rattle.std.proofs.lemmas.List.{take_all, take_more}
use Rattle.mat_parts.specs.declared.pending.Frame.{Frame}
use Rattle.mat_parts.specs.declared.pending.Body.{Body}
use Rattle.mat_grammar.specs.Machine as machine
use Rattle.mat_grammar.specs.Machine.{Right, Call, To, ByTo, Cells, Stack, Around, IfBody, ElseBody, WhileBody, ForBody, FunBody, Use, Target, Callee, Purpose, AssignTo, StoreTo, ArmTest, WhileTest, ForRange, Argument, Caller, InValue, InStatement}
use Rattle.mat_grammar.specs.Least.{around_depth, use_depth, purpose_depth, frame_depth, stack_depth, operand_depth, caller_depth}
use Rattle.mat_parts.specs.Pending.{frame_view, stack_of, body_view, within_bodies}
use Rattle.mat_parts.proofs.Stacks.{stack_last, bodies_last}

pub around_capped : (out : Around) (c d : ℕ) → min c 101 ≡ min d 101 → min (around_depth c out) 101 ≡ min (around_depth d out) 101
around_capped (IfBody b at arms e out) c d h = around_capped out _ _ (omega arith)
around_capped (ElseBody b at arms out) c d h = around_capped out _ _ (omega arith)
around_capped (WhileBody b at e out) c d h = around_capped out _ _ (omega arith)
around_capped (ForBody b at to e out) c d h = around_capped out _ _ (omega arith)
around_capped (FunBody mode fs header) c d h = omega arith

pub use_capped : (u : Use) (c d : ℕ) → min c 101 ≡ min d 101 → min (use_depth c u) 101 ≡ min (use_depth d u) 101
use_capped (Target b out) c d h = around_capped out _ _ (omega arith)
use_capped (Callee b targets out) c d h = around_capped out _ _ (omega arith)

pub purpose_capped : (k : Purpose) (c d : ℕ) → min c 101 ≡ min d 101 → min (purpose_depth c k) 101 ≡ min (purpose_depth d k) 101
purpose_capped (AssignTo b to out) c d h = around_capped out _ _ (omega arith)
purpose_capped (StoreTo b to opens args out) c d h = around_capped out _ _ (omega arith)
purpose_capped (ArmTest b at arms out) c d h = around_capped out _ _ (omega arith)
purpose_capped (WhileTest b at out) c d h = around_capped out _ _ (omega arith)
purpose_capped (ForRange b at to out) c d h = around_capped out _ _ (omega arith)
purpose_capped (Argument u at text opens args) c d h = use_capped u _ _ (omega arith)

frame_capped : (f : machine.Frame) (c d : ℕ) → min c 101 ≡ min d 101 → min (frame_depth f c) 101 ≡ min (frame_depth f d) 101
frame_capped (Right at op a) c d h = omega arith
frame_capped (Call at text opens args) c d h = omega arith
frame_capped (To at first) c d h = omega arith
frame_capped (ByTo at first step) c d h = omega arith
frame_capped (Cells at rows row) c d h = omega arith
frame_capped _ c d h = omega arith

pub stack_capped : (st : Stack) (c d : ℕ) → min c 101 ≡ min d 101 → min (stack_depth c st) 101 ≡ min (stack_depth d st) 101
stack_capped [] c d h = h
stack_capped (f ∷ st) c d h = stack_capped st (frame_depth f c) (frame_depth f d) (frame_capped f c d h)

pub operand_capped : (st : Stack) (k : Purpose) (c d : ℕ) → min c 101 ≡ min d 101 → min (operand_depth c st k) 101 ≡ min (operand_depth d st k) 101
operand_capped st k c d h = purpose_capped k (stack_depth c st) (stack_depth d st) (stack_capped st c d h)

pub caller_capped : (caller : Caller) (c d : ℕ) → min c 101 ≡ min d 101 → min (caller_depth c caller) 101 ≡ min (caller_depth d caller) 101
caller_capped (InValue st k) c d h = operand_capped st k (c + 1) (d + 1) (omega arith)
caller_capped (InStatement u) c d h = use_capped u c d h

-- an open block round a part
pub same_around : (out inner : Around) (r d e : ℕ) → around_depth d inner ≡ around_depth e out → min r 101 ≡ min e 101
    → min (around_depth r out) 101 ≡ min (around_depth d inner) 101
same_around out inner r d e eq h = around_capped out r e h ∙ sym (ap (λ x. min x 101) eq)

-- the elements up to one that was read
pub took : {X : Type 0} → (xs : List X) (i : ℕ) (x : X) → i < length xs → x ≡ get_or xs i x → take (i + 1) xs ≡ take i xs ++ x ∷ []
took xs i x h e = take_more xs i x h ∙ ap (λ y. take i xs ++ y ∷ []) (sym e)

-- one frame less
pub stack_down : (frames : List Frame) (left n inner next : ℕ) (f : Frame) (X : ℕ) → n + 1 ≡ left → take (n + 1) frames ≡ take n frames ++ f ∷ []
    → next ≡ min (frame_depth (frame_view f) inner) 101
    → min (stack_depth inner (stack_of (take left frames))) 101 ≡ X → min (stack_depth next (stack_of (take n frames))) 101 ≡ X
stack_down frames left n inner next f X le t e h =
    stack_capped (stack_of (take n frames)) next (frame_depth (frame_view f) inner) (omega (arith, e))
    ∙ sym (ap (λ st. min (stack_depth inner st) 101) (ap (λ m. stack_of (take m frames)) (sym le) ∙ ap stack_of t ∙ stack_last (take n frames) f))
    ∙ h

-- one open block less
pub around_down : (bodies : List Body) (left n inner next : ℕ) (b : Body) (out : Around) (X : ℕ) → n + 1 ≡ left → take (n + 1) bodies ≡ take n bodies ++ b ∷ []
    → ((o : Around) → min (around_depth next o) 101 ≡ min (around_depth inner (body_view b o)) 101)
    → min (around_depth inner (within_bodies (take left bodies) out)) 101 ≡ X → min (around_depth next (within_bodies (take n bodies) out)) 101 ≡ X
around_down bodies left n inner next b out X le t e h =
    e (within_bodies (take n bodies) out)
    ∙ sym (ap (λ o. min (around_depth inner o) 101)
    (ap (λ m. within_bodies (take m bodies) out) (sym le) ∙ ap (λ bs. within_bodies bs out) t ∙ bodies_last (take n bodies) b out))
    ∙ h

-- no frame more
pub stack_done : (frames : List Frame) (left inner X : ℕ) → left ≡ 0 → min (stack_depth inner (stack_of (take left frames))) 101 ≡ X → min inner 101 ≡ X
unfolding stack_of
stack_done frames left inner X e h = sym (ap (λ n. min (stack_depth inner (stack_of (take n frames))) 101) e) ∙ h

-- all open blocks
pub around_all : (bodies all : List Body) (d : ℕ) (out : Around) → bodies ≡ all
    → min (around_depth d (within_bodies (take (length bodies) bodies) out)) 101 ≡ min (around_depth d (within_bodies all out)) 101
around_all bodies all d out e = ap (λ bs. min (around_depth d (within_bodies bs out)) 101) (take_all (length bodies) bodies (omega arith) ∙ e)

pub no_frames : (frames : List Frame) → length frames ≡ 0 → stack_of frames ≡ []
unfolding stack_of
no_frames [] h = refl
no_frames (f ∷ fs) h = absurd (omega arith)
