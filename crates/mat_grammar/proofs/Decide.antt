-- Each token list that ends with the end of the file has its file, or its refusal.
use Rattle.std.proofs.Common.{◌≡◌, ◌≢◌, ℕ, ◌+◌, ◌<◌, ◌≤◌, Bool, true, false, List, [], ◌∷◌, ◌++◌, take, length, arith, refl, ap, sym, ◌∙◌, subst, ⊎_elim, inl, inr, Some, append_assoc}
use Rattle.std.specs.Prelude.{◌⊎◌, slice_get, codes, nat_le}
use Rattle.std.proofs.lemmas.Bool.{leb-true, leb-false}
use Rattle.fic_base.specs.declared.place.Place.{Place}
use Rattle.fic_base.specs.declared.refusal.Refusal.{Refusal}
use Rattle.fic_base.specs.declared.code.Code.TheVariants as code
use Rattle.mat_ast.specs.Tree.{Exp, Fun, Block}
use Rattle.mat_ast.specs.Depth.{file_depth}
use Rattle.mat_token.specs.declared.token.Kind.{Kind}
use Rattle.mat_token.specs.declared.token.Kind.TheVariants as kind
use Rattle.mat_grammar.specs.Words.{word_of}
use Rattle.mat_token.specs.Lexeme.{Lexeme}
use Rattle.mat_grammar.specs.Grammar.{file, IsLive, IsShallow, IsBad}
use Rattle.mat_grammar.specs.Refused.{shown, IsRefused}
use Rattle.mat_grammar.specs.declared.word.Word.{Word}
use Rattle.mat_grammar.specs.declared.word.Word.TheVariants as word
use Rattle.mat_grammar.specs.declared.word.Mode.{Mode}
use Rattle.mat_grammar.specs.declared.word.Mode.TheVariants as mode
use Rattle.mat_grammar.specs.Machine.{Inside, Call, Cells, Stack, Around, IfBody, ElseBody, WhileBody, ForBody, FunBody, Purpose, AssignTo, StoreTo, ArmTest, WhileTest, ForRange, Argument, State, Need, Begun, Listed, Between, Bare, Gap, Have, Within, After, Called, Top, Complete, Stuck, settle, with_fun, need, begun, listed, between, bare, gap, celled, body_end, body_next, body_finish, arm_ended, statement_ended, body_ended, block_ended, within, after, purposed, closing, ended_in, ended, with_operator, with_turn, with_to, with_by, with_colon, with_open, have, named, subscripted, targeted, calling, called, looping, looped, names_closed, edge, edge_comma, listing, list_comma, list_next, tail, tail_comma, between_functions, heading, head_out, head_equal, headed, head_name, params, param, param_comma, with_sign, with_infix, with_text, with_end, argument_colon, with_colon_item, used, applied, argued, caller_stack, caller_purpose, go, step, finish, run, start, state}
use Rattle.mat_grammar.specs.Least.{least}
use Rattle.mat_grammar.proofs.Sound.{run_whole}
use Rattle.mat_grammar.proofs.Ends.{live, unlive, shallow, unshallow, shallow_live, steps_append}

-- the end of the file is read, or the machine is stuck
abbrev Over : State → Type 0
Over q = (q ≡ Stuck) ⊎ ((fs : List Fun) × (q ≡ Complete fs))

finish_over : (m : Mode) (fs : List Fun) → Over (body_finish m fs)
unfolding need begun listed between bare gap celled body_end body_next body_finish arm_ended statement_ended body_ended block_ended within after purposed closing ended_in ended with_operator with_turn with_to with_by with_colon with_open have named subscripted targeted calling called looping looped names_closed edge edge_comma listing list_comma list_next tail tail_comma between_functions heading head_out head_equal headed head_name params param param_comma with_sign with_infix with_text with_end argument_colon with_colon_item used applied argued caller_stack caller_purpose
finish_over mode.Ended fs = inl refl
finish_over mode.Unended fs = inr (fs, refl)
finish_over mode.Unknown fs = inr (fs, refl)

block_over : (b : Block) (out : Around) → Over (block_ended word.Finish b out)
unfolding need begun listed between bare gap celled body_end body_next body_finish arm_ended statement_ended body_ended block_ended within after purposed closing ended_in ended with_operator with_turn with_to with_by with_colon with_open have named subscripted targeted calling called looping looped names_closed edge edge_comma listing list_comma list_next tail tail_comma between_functions heading head_out head_equal headed head_name params param param_comma with_sign with_infix with_text with_end argument_colon with_colon_item used applied argued caller_stack caller_purpose
block_over b (IfBody before at arms c out) = inl refl
block_over b (ElseBody before at arms out) = inl refl
block_over b (WhileBody before at c out) = inl refl
block_over b (ForBody before at to c out) = inl refl
block_over b (FunBody m fs h) = finish_over m (with_fun fs h b)

purposed_over : (at : Place) (own : List ℕ) (e : Exp) (k : Purpose) → Over (purposed at word.Finish own e k)
unfolding need begun listed between bare gap celled body_end body_next body_finish arm_ended statement_ended body_ended block_ended within after purposed closing ended_in ended with_operator with_turn with_to with_by with_colon with_open have named subscripted targeted calling called looping looped names_closed edge edge_comma listing list_comma list_next tail tail_comma between_functions heading head_out head_equal headed head_name params param param_comma with_sign with_infix with_text with_end argument_colon with_colon_item used applied argued caller_stack caller_purpose
purposed_over at own e (AssignTo b to out) = block_over _ out
purposed_over at own e (StoreTo b to opens args out) = block_over _ out
purposed_over at own e (ArmTest b opens arms out) = inl refl
purposed_over at own e (WhileTest b opens out) = inl refl
purposed_over at own e (ForRange b opens to out) = inl refl
purposed_over at own e (Argument u name text opens args) = inl refl

ended_over : (at : Place) (own : List ℕ) (e : Exp) (st : Stack) (k : Purpose) → Over (ended at word.Finish own e st k)
unfolding need begun listed between bare gap celled body_end body_next body_finish arm_ended statement_ended body_ended block_ended within after purposed closing ended_in ended with_operator with_turn with_to with_by with_colon with_open have named subscripted targeted calling called looping looped names_closed edge edge_comma listing list_comma list_next tail tail_comma between_functions heading head_out head_equal headed head_name params param param_comma with_sign with_infix with_text with_end argument_colon with_colon_item used applied argued caller_stack caller_purpose
ended_over at own e [] k = purposed_over at own e k
ended_over at own e (Inside opens ∷ st) k = inl refl
ended_over at own e (Call name text opens args ∷ st) k = inl refl
ended_over at own e (Cells opens rows row ∷ st) k = inl refl
ended_over at own e (_ ∷ st) k = inl refl

go_over : (q : State) (at : Place) (own : List ℕ) → Over (go q at word.Finish own)
unfolding need begun listed between bare gap celled body_end body_next body_finish arm_ended statement_ended body_ended block_ended within after purposed closing ended_in ended with_operator with_turn with_to with_by with_colon with_open have named subscripted targeted calling called looping looped names_closed edge edge_comma listing list_comma list_next tail tail_comma between_functions heading head_out head_equal headed head_name params param param_comma with_sign with_infix with_text with_end argument_colon with_colon_item used applied argued caller_stack caller_purpose
go_over (Need st k) at own = inl refl
go_over (Begun c name text opens) at own = inl refl
go_over (Listed c name text opens args) at own = inl refl
go_over (Between opens rows st k) at own = inl refl
go_over (Bare opens rows st k) at own = inl refl
go_over (Gap opens rows row st k) at own = inl refl
go_over (Have e st k) at own = ended_over at own (settle 0 e st).is (settle 0 e st).under k
go_over (Within b out) at own = block_over b out
go_over (After b out) at own = block_over b out
go_over (Called b targets name text out) at own = block_over _ out
go_over (Top m fs) at own = inr (fs, refl)
go_over _ at own = inl refl

word_over : (q : State) (at : Place) (w : Word) (own : List ℕ) → w ≡ word.Finish → Over (go q at w own)
word_over q at w own e = subst (λ (x : Word). Over (go q at x own)) (sym e) (go_over q at own)

-- whether a machine is stuck
abbrev is_stuck : State → Bool
is_stuck Stuck = true
is_stuck _ = false

stuck_is : (q : State) → is_stuck q ≡ true → q ≡ Stuck
stuck_is Stuck h = refl
stuck_is (Complete fs) h = absurd (cc)
stuck_is _ h = absurd (cc)

stuck_not : (q : State) → is_stuck q ≡ false → q ≢ Stuck
stuck_not q h e = let x : true ≡ false = sym (ap is_stuck e) ∙ h in absurd (cc)

-- the list with one more token goes on to a file of depth at most 100, or it is too deep, or it goes on to none
pub data Front (ts : List Lexeme) : Type 0 where
  Goes : IsShallow ts → Front ts
  Deep : IsLive ts → (IsShallow ts → ⊥) → Front ts
  Dead : (IsLive ts → ⊥) → Front ts

front : (ts : List Lexeme) → Front ts
front ts = split (is_stuck (state ts)) (nat_le (least (state ts)) 100) refl refl
  where
    split : (a b : Bool) → is_stuck (state ts) ≡ a → nat_le (least (state ts)) 100 ≡ b → Front ts
    split true b e f = Dead (λ h. unlive ts h (stuck_is (state ts) e))
    split false true e f = Goes (shallow ts (stuck_not (state ts) e) (leb-true (least (state ts)) 100 f))
    split false false e f = Deep (live ts (stuck_not (state ts) e)) (λ h. let l : least (state ts) ≤ 100 = unshallow ts h in let d : 100 < least (state ts) = leb-false (least (state ts)) 100 f in absurd (omega arith))

take_front : (done rest : List Lexeme) → take (length done) (done ++ rest) ≡ done
take_front [] rest = refl
take_front (t ∷ done) rest = ap (λ x. t ∷ x) (take_front done rest)

take_next : (done rest : List Lexeme) (t : Lexeme) → take (length done + 1) (done ++ t ∷ rest) ≡ done ++ t ∷ []
take_next done rest t =
    ap (take (length done + 1)) (sym (append_assoc done (t ∷ []) rest)) ∙ ap (λ n. take n ((done ++ t ∷ []) ++ rest)) (sym (longer done t)) ∙ take_front (done ++ t ∷ []) rest
  where
    longer : (xs : List Lexeme) (x : Lexeme) → length (xs ++ x ∷ []) ≡ length xs + 1
    longer [] x = refl
    longer (y ∷ xs) x = omega (arith, longer xs x)

get_next : (done rest : List Lexeme) (t : Lexeme) → slice_get (done ++ t ∷ rest) (length done) ≡ Some t
get_next [] rest t = refl
get_next (x ∷ done) rest t = get_next done rest t

length_next : (done rest : List Lexeme) (t : Lexeme) → length done < length (done ++ t ∷ rest)
length_next [] rest t = omega arith
length_next (x ∷ done) rest t = omega (arith, length_next done rest t)

-- the refusal at a token
bad_at : (done rest : List Lexeme) (t : Lexeme) → IsShallow done → (IsShallow (done ++ t ∷ []) → ⊥) → IsBad (done ++ t ∷ rest) (length done)
bad_at done rest t h n = record { within = length_next done rest t; before = subst IsShallow (sym (take_front done (t ∷ rest))) h; with_it = λ s. n (subst IsShallow (take_next done rest t) s) }

-- each token list goes on to a file of depth at most 100, or it is refused
pub walk : (rest done : List Lexeme) → IsShallow done → IsShallow (done ++ rest) ⊎ ((r : Refusal) × IsRefused (done ++ rest) r)
walk [] done h = inl (subst IsShallow (sym (append_none done)) h)
  where
    append_none : (xs : List Lexeme) → xs ++ [] ≡ xs
    append_none [] = refl
    append_none (x ∷ xs) = ap (λ y. x ∷ y) (append_none xs)
walk (t ∷ rest) done h = split (λ s. walk rest (done ++ t ∷ []) s) (front (done ++ t ∷ []))
  where
    again : IsShallow ((done ++ t ∷ []) ++ rest) ⊎ ((r : Refusal) × IsRefused ((done ++ t ∷ []) ++ rest) r) → IsShallow (done ++ t ∷ rest) ⊎ ((r : Refusal) × IsRefused (done ++ t ∷ rest) r)
    again x = subst (λ ts. IsShallow ts ⊎ ((r : Refusal) × IsRefused ts r)) (append_assoc done (t ∷ []) rest) x

    split : (IsShallow (done ++ t ∷ []) → IsShallow ((done ++ t ∷ []) ++ rest) ⊎ ((r : Refusal) × IsRefused ((done ++ t ∷ []) ++ rest) r)) → Front (done ++ t ∷ []) → IsShallow (done ++ t ∷ rest) ⊎ ((r : Refusal) × IsRefused (done ++ t ∷ rest) r)
    split ih (Goes s) = again (ih s)
    split ih (Deep l n) = inr (
      record { code = code.Limit; place = t.place; shown = codes "100" },
      record { index = length done; bad = bad_at done rest t h n; token = t; there = get_next done rest t; place_is = refl; cause = inl (subst IsLive (sym (take_next done rest t)) l, refl, refl) },
    )
    split ih (Dead n) = inr (
      record { code = code.Syntax; place = t.place; shown = shown t.kind t.text },
      record { index = length done; bad = bad_at done rest t h (λ s. n (shallow_live _ s)); token = t; there = get_next done rest t; place_is = refl; cause = inr (λ l. n (subst IsLive (take_next done rest t) l), refl, refl) },
    )

nothing_shallow : IsShallow []
nothing_shallow = shallow [] (λ e. absurd (cc)) (omega arith)

-- what goes on to a file and ends with the end of the file is one
whole_file : (done : List Lexeme) (t : Lexeme) → t.kind ≡ kind.Finish → IsShallow (done ++ t ∷ []) → (fs : List Fun) × file fs (done ++ t ∷ []) [] × (file_depth fs ≤ 100)
whole_file done t e h =
    let last : state (done ++ t ∷ []) ≡ step (state done) t = steps_append done (t ∷ []) start in
    let finishes : word_of t.kind t.text ≡ word.Finish = ap (λ (y : Kind). word_of y t.text) e in
    ⊎_elim
    (λ x. absurd (unlive (done ++ t ∷ []) (shallow_live _ h) (last ∙ x)))
    (λ x.
    let r : run start (done ++ t ∷ []) ≡ Some x.0 = ap finish (last ∙ x.1) in
    (x.0, run_whole (done ++ t ∷ []) x.0 r, (let d : least (state (done ++ t ∷ [])) ≤ 100 = unshallow (done ++ t ∷ []) h in let y : least (state (done ++ t ∷ [])) ≡ file_depth x.0 = ap least (last ∙ x.1) in omega arith)))
    (word_over (state done) t.place (word_of t.kind t.text) t.text finishes)

-- each token list that ends with the end of the file is that of a file of depth at most 100, or it is refused
pub decided : (done : List Lexeme) (t : Lexeme) → t.kind ≡ kind.Finish
    → ((fs : List Fun) × file fs (done ++ t ∷ []) [] × (file_depth fs ≤ 100)) ⊎ ((r : Refusal) × IsRefused (done ++ t ∷ []) r)
decided done t e = ⊎_elim (λ h. inl (whole_file done t e h)) (λ r. inr r) (walk (done ++ t ∷ []) [] nothing_shallow)
