-- States that are the same.
use Rattle.std.proofs.Common.{◌≡◌, ℕ, ◌+◌, ◌<◌, ◌≤◌, ◌++◌, ◌∙◌, false, arith, subst, List, [], ◌∷◌, refl, ap, sym}
use Rattle.std.specs.Prelude.{if◌then◌else◌}
use Rattle.std.proofs.lemmas.Bool.{le-leb, lt-leb}
use Rattle.fic_base.specs.declared.place.Place.{Place}
use Rattle.mat_ast.specs.declared.tree.UnOp.{UnOp}
use Rattle.std.specs.Prelude.{Option, Some, None, Result, Ok, Err, IfOk}
use Rattle.mat_parts.specs.declared.pending.Reading.{Reading}
use Rattle.mat_parts.specs.declared.pending.Frame.{Frame}
use Rattle.mat_parts.specs.declared.pending.Frame.TheVariants as frame
use Rattle.mat_parts.specs.declared.pending.Opened.{Opened}
use Rattle.mat_parts.specs.declared.part.Given.{Given}
use Rattle.mat_ast.specs.declared.tree.BinOp.{BinOp}
use Rattle.mat_ast.specs.declared.tree.BinOp.TheVariants as bin
use Rattle.mat_ast.specs.declared.tree.PostOp.{PostOp}
use Rattle.mat_ast.specs.Tree.{Exp, Name, Post, Block, Fun}
use Rattle.mat_parts.specs.declared.pending.Body.{Body}
use Rattle.mat_grammar.specs.declared.word.Word.{Word}
use Rattle.mat_grammar.specs.declared.word.Word.TheVariants as word
use Rattle.mat_grammar.specs.declared.word.Mode.{Mode}
use Rattle.mat_grammar.specs.Grammar.{rank}
use Rattle.mat_grammar.specs.Machine as machine
use Rattle.mat_grammar.specs.Machine.{State, Stuck, Stack, Purpose, Need, Have, Begun, InValue, Operand, FunBody, Sign, ExponentSign, Right, To, ByTo, level, top, is_name, rank_of, tightness, settle, with_sign, with_colon_item, with_operator, with_turn, with_to, with_by, with_colon, with_open, have, go, body_ended, block_ended, with_fun}
use Rattle.mat_grammar.proofs.Settle.{stay}
use Rattle.mat_parts.proofs.Stacks.{bodies_last}
use Rattle.mat_parts.specs.Pending.{Goes, frame_view, body_view, within_bodies}

pub goes : {E : Type 0} (r : Result (Option Reading) E) (p q : State) → p ≡ q → IfOk r (λ next. Goes next p) → IfOk r (λ next. Goes next q)
goes (Ok next) p q e h = subst (Goes next) e h
goes (Err x) p q e h = h

pub goes_option : (next : Option Reading) (p q : State) → p ≡ q → Goes next p → Goes next q
goes_option next p q e h = subst (Goes next) e h

pub no_call : (f : Frame) (st : Stack) (k : Purpose) → ((o : Opened) (g : Given) → f ≡ frame.Call o g → ⊥) → Stuck ≡ with_colon_item (frame_view f ∷ st) k
unfolding frame_view with_colon_item
no_call (frame.Call o g) st k h = absurd (h o g refl)
no_call _ st k h = refl

pub signed : (at : Place) (sign : UnOp) (st : Stack) (k : Purpose) → top st ≤ 8 → Need (Sign at sign ∷ st) k ≡ with_sign at sign st k
unfolding with_sign
signed at sign st k h = sym (ap (λ b. if b then Need (Sign at sign ∷ st) k else Need (ExponentSign at sign ∷ st) k) (le-leb (top st) 8 h))

pub signed_deep : (at : Place) (sign : UnOp) (st : Stack) (k : Purpose) → 8 < top st → Need (ExponentSign at sign ∷ st) k ≡ with_sign at sign st k
unfolding with_sign
signed_deep at sign st k h = sym (ap (λ b. if b then Need (Sign at sign ∷ st) k else Need (ExponentSign at sign ∷ st) k) (lt-leb (top st) 8 h))

-- Behind an operand

pub taken : (at : Place) (o : BinOp) (e : Exp) (st : Stack) (k : Purpose) → rank o ≤ rank_of e → Need (Right at o e ∷ st) k ≡ with_operator at o e st k
unfolding with_operator
taken at o e st k h = sym (ap (λ b. if b then Need (Right at o e ∷ st) k else Stuck) (le-leb (rank o) (rank_of e) h))

pub untaken : (at : Place) (o : BinOp) (e : Exp) (st : Stack) (k : Purpose) → rank_of e < rank o → Stuck ≡ with_operator at o e st k
unfolding with_operator
untaken at o e st k h = sym (ap (λ b. if b then Need (Right at o e ∷ st) k else Stuck) (lt-leb (rank o) (rank_of e) h))

pub turned : (at : Place) (mark : PostOp) (e : Exp) (st : Stack) (k : Purpose) → 10 ≤ rank_of e → Have (Post at mark e) st k ≡ with_turn at mark e st k
unfolding with_turn
turned at mark e st k h = sym (ap (λ b. if b then Have (Post at mark e) st k else Stuck) (le-leb 10 (rank_of e) h))

pub unturned : (at : Place) (mark : PostOp) (e : Exp) (st : Stack) (k : Purpose) → rank_of e < 10 → Stuck ≡ with_turn at mark e st k
unfolding with_turn
unturned at mark e st k h = sym (ap (λ b. if b then Have (Post at mark e) st k else Stuck) (lt-leb 10 (rank_of e) h))

pub to_taken : (at : Place) (e : Exp) (st : Stack) (k : Purpose) → 6 ≤ rank_of e → Need (To at e ∷ st) k ≡ with_to at e st k
unfolding with_to
to_taken at e st k h = sym (ap (λ b. if b then Need (To at e ∷ st) k else Stuck) (le-leb 6 (rank_of e) h))

pub to_untaken : (at : Place) (e : Exp) (st : Stack) (k : Purpose) → rank_of e < 6 → Stuck ≡ with_to at e st k
unfolding with_to
to_untaken at e st k h = sym (ap (λ b. if b then Need (To at e ∷ st) k else Stuck) (lt-leb 6 (rank_of e) h))

pub by_taken : (at : Place) (first e : Exp) (st : Stack) (k : Purpose) → 6 ≤ rank_of e → Need (ByTo at first e ∷ st) k ≡ with_by at first e st k
unfolding with_by
by_taken at first e st k h = sym (ap (λ b. if b then Need (ByTo at first e ∷ st) k else Stuck) (le-leb 6 (rank_of e) h))

pub by_untaken : (at : Place) (first e : Exp) (st : Stack) (k : Purpose) → rank_of e < 6 → Stuck ≡ with_by at first e st k
unfolding with_by
by_untaken at first e st k h = sym (ap (λ b. if b then Need (ByTo at first e ∷ st) k else Stuck) (lt-leb 6 (rank_of e) h))

pub right_to : (at opens : Place) (o : BinOp) (a e : Exp) (st : Stack) (k : Purpose) → rank o ≤ 4 → with_to at e (Right opens o a ∷ st) k ≡ with_colon at e (Right opens o a ∷ st) k
unfolding with_colon
right_to at opens o a e st k h = sym (ap (λ b. if b then with_to at e (Right opens o a ∷ st) k else Stuck) (le-leb (rank o + 1) 5 (omega arith)))

pub right_stuck : (at opens : Place) (o : BinOp) (a e : Exp) (st : Stack) (k : Purpose) → 4 < rank o → Stuck ≡ with_colon at e (Right opens o a ∷ st) k
unfolding with_colon
right_stuck at opens o a e st k h = sym (ap (λ b. if b then with_to at e (Right opens o a ∷ st) k else Stuck) (lt-leb (rank o + 1) 5 (omega arith)))

-- a colon in a frame that a range may begin in
pub inner_to : (at : Place) (e : Exp) (st under : Stack) (k l : Purpose) → with_colon at e st k ≡ with_to at e st k → under ≡ st → l ≡ k → with_to at e under l ≡ with_colon at e st k
inner_to at e st under k l c s p = ap (λ x. with_to at e x l) s ∙ ap (λ x. with_to at e st x) p ∙ sym c

pub after_settle : (at : Place) (w : Word) (own : List ℕ) (e made : Exp) (st under : Stack) (k : Purpose) (r : ℕ) → r ≡ tightness w → ◌≡◌ {A = Operand} (settle r e st) (record { is = made; under = under })
    → have at w own made under k ≡ go (Have e st k) at w own
after_settle at w own e made st under k r h eq =
    sym (ap (λ (n : ℕ). have at w own (settle n e st).is (settle n e st).under k) (sym h) ∙ ap (λ (o : Operand). have at w own o.is o.under k) eq)

level_small : (f : machine.Frame) → level f ≤ 11
level_small (Right at bin.OrOr a) = omega arith
level_small (Right at _ a) = omega arith
level_small _ = omega arith

pub top_small : (st : Stack) → top st ≤ 11
top_small [] = omega arith
top_small (f ∷ st) = level_small f

pub open_name : (name at : Place) (text own : List ℕ) (st : Stack) (k : Purpose) → Begun (InValue st k) name text at ≡ go (Have (Name name text) st k) at word.Open own
unfolding have with_open
open_name name at text own st k = sym (ap (λ (o : Operand). have at word.Open own o.is o.under k) (stay 12 (Name name text) st (omega (arith, top_small st))))

no_open : (at : Place) (e : Exp) (st : Stack) (k : Purpose) → is_name e ≡ false → Stuck ≡ with_open at e st k
unfolding with_open
no_open at (Name name text) st k h = absurd (cc)
no_open at _ st k h = refl

pub open_stuck : (at : Place) (own : List ℕ) (e : Exp) (st : Stack) (k : Purpose) → is_name e ≡ false → Stuck ≡ go (Have e st k) at word.Open own
unfolding have
open_stuck at own e st k h = no_open at e st k h ∙ sym (ap (λ (o : Operand). have at word.Open own o.is o.under k) (stay 12 e st (omega (arith, top_small st))))

-- Ends of blocks

pub entered : (old new : List Body) (b : Body) (out : machine.Around) → new ≡ old ++ b ∷ [] → within_bodies new out ≡ body_view b (within_bodies old out)
entered old new b out e = ap (λ bs. within_bodies bs out) e ∙ bodies_last old b out

pub inner_block : (w : Word) (b : Block) (old new : List Body) (body : Body) (out : machine.Around) → old ≡ new ++ body ∷ [] → block_ended w b (body_view body (within_bodies new out)) ≡ block_ended w b (within_bodies old out)
inner_block w b old new body out e = ap (block_ended w b) (sym (entered new old body out e))

pub function_block : (w : Word) (b : Block) (old : List Body) (mode : Mode) (fs made : List Fun) (h : machine.Header) → old ≡ [] → made ≡ with_fun fs h b → body_ended w mode made ≡ block_ended w b (within_bodies old (FunBody mode fs h))
unfolding block_ended
function_block w b old mode fs made h e k = ap (body_ended w mode) k ∙ sym (ap (λ bs. block_ended w b (within_bodies bs (FunBody mode fs h))) e)

pub turned_view : (at : Place) (mark : PostOp) (e made : Exp) (st : Stack) (k : Purpose) → made ≡ Post at mark e → 10 ≤ rank_of e → Have made st k ≡ with_turn at mark e st k
turned_view at mark e made st k eq h = ap (λ x. Have x st k) eq ∙ turned at mark e st k h

pub none_to : (at : Place) (e : Exp) (old new : Stack) (k : Purpose) → old ≡ [] → new ≡ [] → with_to at e new k ≡ with_colon at e old k
unfolding with_colon
none_to at e old new k o n = ap (λ st. with_to at e st k) n ∙ sym (ap (λ st. with_colon at e st k) o)
