-- A state that isn't stuck goes on to a program, and what the machine reads is one.
use Rattle.std.proofs.Common.{◌≡◌, ◌≢◌, ℕ, ◌<◌, ◌^◌, Bool, true, nat_lt, List, [], ◌∷◌, ◌++◌, refl, sym, ap, ◌∙◌, arith, subst}
use Rattle.std.specs.Prelude.{Option, Some, All, AllPairs}
use Rattle.c_tree.specs.declared.tree.Counter.{Counter}
use Rattle.c_tree.specs.declared.tree.CounterKind.{CounterKind}
use Rattle.c_tree.specs.declared.tree.CounterKind.TheVariants as counter
use Rattle.c_tree.specs.declared.tree.CArray.{CArray}
use Rattle.c_tree.specs.declared.tree.CWord.{CWord}
use Rattle.c_tree.specs.declared.tree.CWord.TheVariants.{I64, U64}
use Rattle.c_tree.specs.declared.tree.CRel.{CRel}
use Rattle.c_tree.specs.declared.tree.CRel.TheVariants.{Eq}
use Rattle.c_tree.specs.Names.{array_at, word_of, counters_of}
use Rattle.c_tree.specs.Tree.{Signature, Exp, Element, Cast, Neg, Binary, Choose, Compare, Set, Store, If, IfElse, For, While, Break, Continue, Return, Block, Done, Next}
use Rattle.c_tree.specs.WellFormed.{IsInterface, last_is_return, all_loop_counters, IsWellFormed}
use Rattle.c_grammar.specs.declared.word.CKeyword.TheVariants as keyword
use Rattle.c_grammar.specs.declared.word.CMacro.TheVariants as macro
use Rattle.c_grammar.specs.declared.word.CSign.TheVariants as sign
use Rattle.c_grammar.specs.declared.word.CWordToken.{CWordToken}
use Rattle.c_grammar.specs.declared.word.CWordToken.TheVariants as word
use Rattle.c_grammar.specs.Words.{parameters_of}
use Rattle.c_grammar.specs.Sentence.{Words, store_of, header_words}
use Rattle.c_grammar.specs.Live.{are_built, IsSentence, IsLive}
use Rattle.c_grammar.specs.Machine.{Want, Any, Only, wants, Purpose, ValueOf, PlaceOf, ElementOf, Frame, First, InCast, InElement, InNeg, InBinary, InTest, InThen, InElse, Past, State, Fixed, Declare, Within, Status, Need, Digits, Opened, Casting, Have, Whole, Stuck, when, if_some, owe, give, constant, limit_of, begun, element, behind, and_then, made, begin, step, steps, start, state}
use Rattle.c_grammar.proofs.Complete.{on, on_some, owed, same_type_self, header_append, past_of, complete}
use Rattle.c_grammar.proofs.Front.{Led, led_step}
use Rattle.c_grammar.proofs.Good.{GoodPast, GoodFrames, Accepts, Going, Good, good_steps, good_owe}

-- words that lead on to a program
record Reaches (i : Signature) (q : State) : Type 0 where
  words : Words
  past : Past
  whole : steps i q words ≡ Whole past

on_one : (i : Signature) (q : State) (x : CWordToken) → Reaches i (step (parameters_of i) q x) → Reaches i q
on_one i q x r = record { words = x ∷ r.words; past = r.past; whole = r.whole }

on_when : (i : Signature) (b : Bool) (q : State) → b ≡ true → Reaches i q → Reaches i (when b q)
on_when i b q h r = record { words = r.words; past = r.past; whole = on i b q r.words h ∙ r.whole }

reach_some : {A : Type 0} → (i : Signature) (o : Option A) (k : A → State) (t : A) → o ≡ Some t → Reaches i (k t) → Reaches i (if_some o k)
reach_some i o k t h r = record { words = r.words; past = r.past; whole = on_some i o k t r.words h ∙ r.whole }

reach_owe : (i : Signature) (ws : Words) (q : State) → Reaches i q → Reaches i (owe ws q)
reach_owe i ws q r = record { words = ws ++ r.words; past = r.past; whole = owed i ws q r.words ∙ r.whole }

last_behind : (b : Block) (n : ℕ) → last_is_return (behind b (Return n)) ≡ true
last_behind Done n = refl
last_behind (Next x Done) n = refl
last_behind (Next x (Next y b)) n = last_behind (Next y b) n

reach_status : (i : Signature) (v : Past) → Reaches i (Status v)
reach_status i v = on_one i (Status v) (word.Number 0)
    (on_when i (nat_lt 0 (2 ^ 31)) (owe (word.Sign sign.Close ∷ word.Sign sign.Semicolon ∷ []) (and_then (Return 0) v)) refl
    (reach_owe i (word.Sign sign.Close ∷ word.Sign sign.Semicolon ∷ []) (and_then (Return 0) v)
    (on_one i (and_then (Return 0) v) (word.Sign sign.CloseBrace)
    (on_when i (last_is_return (behind v.done (Return 0))) (Whole (record { words = v.words; done = behind v.done (Return 0) })) (last_behind v.done 0)
    (record { words = []; past = record { words = v.words; done = behind v.done (Return 0) }; whole = refl })))))

reach_within : (i : Signature) (v : Past) → Reaches i (Within v)
reach_within i v = on_one i (Within v) (word.Keyword keyword.Return) (reach_owe i (word.Macro macro.I32 ∷ word.Sign sign.Open ∷ []) (Status v) (reach_status i v))

-- a constant whose macro is read
reach_digits : (i : Signature) (t : CWord) (st : List Frame) (h : Purpose) (v : Past) → Reaches i (give (constant t 0) t st h v) → Reaches i (Digits t st h v)
reach_digits i t st h v r = on_one i (Digits t st h v) (word.Number 0)
    (on_when i (nat_lt 0 (limit_of t)) (owe (word.Sign sign.Close ∷ []) (give (constant t 0) t st h v)) (small t)
    (reach_owe i (word.Sign sign.Close ∷ []) (give (constant t 0) t st h v) r))
  where
    small : (t : CWord) → nat_lt 0 (limit_of t) ≡ true
    small I64 = refl
    small U64 = refl

reach_begun : (i : Signature) (t : CWord) (w : Want) (st : List Frame) (h : Purpose) (v : Past) → wants w t ≡ true → Reaches i (give (constant t 0) t st h v) → Reaches i (begun t w st h v)
reach_begun i t w st h v k r =
    on_when i (wants w t) (owe (word.Sign sign.Open ∷ []) (Digits t st h v)) k (reach_owe i (word.Sign sign.Open ∷ []) (Digits t st h v) (reach_digits i t st h v r))

reach_constant : (i : Signature) (t : CWord) (w : Want) (st : List Frame) (h : Purpose) (v : Past) → wants w t ≡ true → Reaches i (give (constant t 0) t st h v) → Reaches i (Need w st h v)
reach_constant i I64 w st h v k r = on_one i (Need w st h v) (word.Macro macro.I64) (reach_begun i I64 w st h v k r)
reach_constant i U64 w st h v k r = on_one i (Need w st h v) (word.Macro macro.U64) (reach_begun i U64 w st h v k r)

reach_element : (i : Signature) (a : CArray) (x e : Exp) (t : CWord) (v : Past) → Reaches i (Have e t [] (ElementOf a x) v)
reach_element i a x e t v = on_one i (Have e t [] (ElementOf a x) v) (word.Sign sign.Semicolon) (reach_within i (record { words = v.words; done = behind v.done (Store a x e) }))

reach_purpose : (i : Signature) (h : Purpose) (v : Past) (e : Exp) (t : CWord) → Reaches i (Have e t [] h v)
reach_purpose i (ValueOf k s) v e t = on_one i (Have e t [] (ValueOf k s) v) (word.Sign sign.Semicolon) (reach_within i (record { words = v.words; done = behind v.done (Set k e) }))
reach_purpose i (ElementOf a x) v e t = reach_element i a x e t v
reach_purpose i (PlaceOf a) v e t = on_one i (Have e t [] (PlaceOf a) v) (word.Sign sign.CloseSquare)
    (reach_owe i (word.Sign sign.Assign ∷ word.Sign sign.Open ∷ store_of (array_at (parameters_of i) a) ∷ word.Sign sign.Close ∷ []) (Need Any [] (ElementOf a e) v)
    (reach_constant i I64 Any [] (ElementOf a e) v refl (reach_element i a e (constant I64 0) I64 v)))

-- a type that may come
pick : Want → CWord
pick Any = I64
pick (Only t) = t

picked : (w : Want) → wants w (pick w) ≡ true
unfolding pick
picked Any = refl
picked (Only t) = same_type_self t

-- behind the test of a choice, where what follows the choice goes on
reach_choice : (i : Signature) (st : List Frame) (h : Purpose) (v : Past) (p : CRel) (a b : Exp) (s : CWord) (u : Want) → ((e : Exp) → Reaches i (give e (pick u) st h v)) → Reaches i (Need u (InThen p a b s ∷ st) h v)
reach_choice i st h v p a b s u r =
    let t = pick u in
    let c = constant t 0 in
    reach_constant i t u (InThen p a b s ∷ st) h v (picked u)
    (on_one i (Have c t (InThen p a b s ∷ st) h v) (word.Sign sign.Colon)
    (reach_constant i t (Only t) (InElse p a b s c t ∷ st) h v (same_type_self t)
    (on_one i (Have c t (InElse p a b s c t ∷ st) h v) (word.Sign sign.Close)
    (r (Choose (Compare p a b) c c)))))

reach_give : (i : Signature) (st : List Frame) (h : Purpose) (v : Past) (e : Exp) (t : CWord) → Accepts i v st h t → Reaches i (give e t st h v)
reach_give i [] h v e t a = reach_purpose i h v e t
reach_give i (First u ∷ st) h v e t a =
    let c = constant t 0 in
    on_one i (Have e t (First u ∷ st) h v) (word.Rel Eq)
    (reach_constant i t (Only t) (InTest u Eq e t ∷ st) h v (same_type_self t)
    (on_one i (Have c t (InTest u Eq e t ∷ st) h v) (word.Sign sign.Question) (reach_choice i st h v Eq e c t u (λ z. reach_give i st h v z (pick u) (u, picked u, a.2.1)))))
reach_give i (InTest u p x s ∷ st) h v e t a =
    on_one i (Have e t (InTest u p x s ∷ st) h v) (word.Sign sign.Question) (reach_choice i st h v p x e s u (λ z. reach_give i st h v z (pick u) (u, picked u, a.2.2)))
reach_give i (InThen p x y s ∷ st) h v e t a =
    let c = constant t 0 in
    on_one i (Have e t (InThen p x y s ∷ st) h v) (word.Sign sign.Colon)
    (reach_constant i t (Only t) (InElse p x y s e t ∷ st) h v (same_type_self t)
    (on_one i (Have c t (InElse p x y s e t ∷ st) h v) (word.Sign sign.Close)
    (reach_give i st h v (Choose (Compare p x y) e c) t (a.0, a.1, a.2.2))))
reach_give i (InElse p x y s z u ∷ st) h v e t a =
    on_one i (Have e t (InElse p x y s z u ∷ st) h v) (word.Sign sign.Close) (reach_give i st h v (Choose (Compare p x y) z e) u a.2.4)
reach_give i (InCast s ∷ st) h v e t a = reach_give i st h v (Cast s e) s a.2.1
reach_give i (InElement b ∷ st) h v e t a =
    let it = a.2.1.1 in
    let type : a.2.1.0 ≡ word_of it.array.container = sym it.type_is in
    on_one i (Have e t (InElement b ∷ st) h v) (word.Sign sign.CloseSquare)
    (reach_some i (array_at (parameters_of i) b) (element (parameters_of i) b e st h v) it.array it.stands
    (reach_give i st h v (Element b e) (word_of it.array.container) (subst (Accepts i v st h) type a.2.1.2)))
reach_give i (InNeg ∷ st) h v e t a = on_one i (Have e t (InNeg ∷ st) h v) (word.Sign sign.Close) (reach_give i st h v (Neg e) I64 a.2.1)
reach_give i (InBinary o x s u ∷ st) h v e t a = on_one i (Have e t (InBinary o x s u ∷ st) h v) (word.Sign sign.Close) (reach_give i st h v (Binary o x e) s a.2.3)

reach_need : (i : Signature) (w : Want) (st : List Frame) (h : Purpose) (v : Past) → GoodFrames i v st h w → Reaches i (Need w st h v)
reach_need i w st h v f = reach_constant i (pick w) w st h v (picked w) (reach_give i st h v (constant (pick w) 0) (pick w) (w, picked w, f))

reach_have : (i : Signature) (st : List Frame) (h : Purpose) (v : Past) (e : Exp) (t : CWord) → Good i (Have e t st h v) → Reaches i (Have e t st h v)
reach_have i (InCast s ∷ st) h v e t g = absurd g.0
reach_have i [] h v e t g = reach_give i [] h v e t g.2
reach_have i (First u ∷ st) h v e t g = reach_give i (First u ∷ st) h v e t g.2
reach_have i (InElement b ∷ st) h v e t g = reach_give i (InElement b ∷ st) h v e t g.2
reach_have i (InNeg ∷ st) h v e t g = reach_give i (InNeg ∷ st) h v e t g.2
reach_have i (InBinary o x s u ∷ st) h v e t g = reach_give i (InBinary o x s u ∷ st) h v e t g.2
reach_have i (InTest u p x s ∷ st) h v e t g = reach_give i (InTest u p x s ∷ st) h v e t g.2
reach_have i (InThen p x y s ∷ st) h v e t g = reach_give i (InThen p x y s ∷ st) h v e t g.2
reach_have i (InElse p x y s z u ∷ st) h v e t g = reach_give i (InElse p x y s z u ∷ st) h v e t g.2

-- behind a cast comes a constant of the other type
reach_casting : (i : Signature) (t : CWord) (st : List Frame) (h : Purpose) (v : Past) → Accepts i v st h t → Reaches i (Casting t st h v)
reach_casting i I64 st h v a = on_one i (Casting I64 st h v) (word.Macro macro.U64) (reach_begun i U64 (Only U64) (InCast I64 ∷ st) h v refl (reach_give i (InCast I64 ∷ st) h v (constant U64 0) U64 (Only U64, refl, (refl, a))))
reach_casting i U64 st h v a = on_one i (Casting U64 st h v) (word.Macro macro.I64) (reach_begun i I64 (Only I64) (InCast U64 ∷ st) h v refl (reach_give i (InCast U64 ∷ st) h v (constant I64 0) I64 (Only I64, refl, (refl, a))))

reaches : (i : Signature) (q : State) → Good i q → Going q → Reaches i q
reaches i (Fixed w ws q) g n = reach_owe i (w ∷ ws) q (reaches i q g.0 g.1)
reaches i (Declare words) g n =
    on_one i (Declare words) (word.Keyword keyword.Return)
    (reach_owe i (word.Macro macro.I32 ∷ word.Sign sign.Open ∷ []) (Status (begin words)) (reach_status i (begin words)))
reaches i (Within v) g n = reach_within i v
reaches i (Status v) g n = reach_status i v
reaches i (Need w st h v) g n = reach_need i w st h v g.1
reaches i (Digits t st h v) g n = reach_digits i t st h v (reach_give i st h v (constant t 0) t g.1)
reaches i (Opened w st h v) g n = on_one i (Opened w st h v) (word.Macro macro.I64)
    (reach_begun i I64 Any (First w ∷ st) h v refl (reach_give i (First w ∷ st) h v (constant I64 0) I64 (Any, refl, (refl, g.1))))
reaches i (Casting t st h v) g n = reach_casting i t st h v g.1
reaches i (Have e t st h v) g n = reach_have i st h v e t g
reaches i (Whole v) g n = record { words = []; past = v; whole = refl }
reaches i Stuck g n = absurd n

-- ---- what the machine reads

stuck_stays : (i : Signature) (ws : Words) → steps i Stuck ws ≡ Stuck
stuck_stays i [] = refl
stuck_stays i (x ∷ xs) = stuck_stays i xs

abbrev NotStuck : State → Type 0
NotStuck Stuck = ⊥
NotStuck _ = Unit {0}

pub whole_not_stuck : (i : Signature) (q : State) (ws : Words) (p : Past) → steps i q ws ≡ Whole p → q ≢ Stuck
whole_not_stuck i q ws p h e =
    let x : Stuck ≡ Whole p = sym (ap (λ z. steps i z ws) e ∙ stuck_stays i ws) ∙ h in subst NotStuck (sym x) tt

led_steps : (i : Signature) (ws : Words) (q : State) (f : Words → Words) → Led i q f → Led i (steps i q ws) (λ r. f (ws ++ r))
led_steps i [] q f h = h
led_steps i (x ∷ xs) q f h = led_steps i xs (step (parameters_of i) q x) (λ r. f (x ∷ r)) (led_step i q x f h)

led_owed : (i : Signature) (ws : Words) (q : State) (f : Words → Words) → Led i q (λ r. f (ws ++ r)) → Led i (owe ws q) f
led_owed i [] q f h = h
led_owed i (w ∷ ws) q f h = h

led_start : (i : Signature) → Led i (start i) (λ r. r)
led_start i = led_owed i (header_words i []) (Declare []) (λ r. r) (λ r. header_append i r)

good_start : (i : Signature) → Good i (start i)
good_start i = good_owe i (header_words i []) (Declare []) (omega arith, tt)

append_none : (ws : Words) → ws ++ [] ≡ ws
append_none [] = refl
append_none (w ∷ ws) = ap (λ l. w ∷ l) (append_none ws)

-- ---- and what it reads is well formed

no_loops : (b : Block) → are_built b ≡ true → all_loop_counters b ≡ []
no_loops Done h = refl
no_loops (Next (Set k e) b) h = no_loops b h
no_loops (Next (Store a x e) b) h = no_loops b h
no_loops (Next (Return n) b) h = no_loops b h
no_loops (Next (If t x) b) h = absurd cc
no_loops (Next (IfElse t x y) b) h = absurd cc
no_loops (Next (For c n x) b) h = absurd cc
no_loops (Next (While t x) b) h = absurd cc
no_loops (Next Break b) h = absurd cc
no_loops (Next Continue b) h = absurd cc

none_apart : AllPairs (λ (c d : Counter). c ≢ d) []
none_apart j k d m n = let none : ⊥ = omega arith in absurd none

no_arrays : {A : Type 0} → (P : A → Type 0) → All P []
no_arrays P k d m = let none : ⊥ = omega arith in absurd none

made_well_formed : (i : Signature) (v : Past) → IsInterface i → GoodPast i v → last_is_return v.done ≡ true → IsWellFormed (made i v)
made_well_formed i v it g last = record {
  interface = it;
  declarations = record { arrays = no_arrays _; few_arrays = omega arith; few_words = g.few; few_counters = few };
  statements = g.fit;
  counters_serve_once = subst (AllPairs (λ c d. c ≢ d)) (sym (no_loops v.done g.built)) none_apart;
  returns = last;
}
  where
    few : (kind : CounterKind) → counters_of (made i v) kind < 2 ^ 32
    few counter.Group = omega arith
    few counter.Barrier = omega arith
    few counter.Source = omega arith
    few counter.Turn = omega arith

pub sound : (i : Signature) → IsInterface i → (v : Past) (ws : Words) → state i ws ≡ Whole v → IsSentence i (made i v) ws
sound i it v ws h =
    let g : Good i (Whole v) = subst (Good i) h (good_steps i ws (start i) (good_start i)) in
    let l : Led i (Whole v) (λ r. ws ++ r) = subst (λ q. Led i q (λ r. ws ++ r)) h (led_steps i ws (start i) (λ r. r) (led_start i)) in
    record {
      interface = refl;
      well_formed = made_well_formed i v it g.0 g.1;
      built = record { arrays = refl; groups = refl; barriers = refl; sources = refl; turns = refl; body = g.0.built };
      words = l [] ∙ append_none ws;
    }

pub steps_on : (i : Signature) (ws us : Words) (q : State) → steps i q (ws ++ us) ≡ steps i (steps i q ws) us
steps_on i [] us q = refl
steps_on i (x ∷ xs) us q = steps_on i xs us (step (parameters_of i) q x)

-- ---- live fronts

going : (i : Signature) (q : State) → Good i q → q ≢ Stuck → Going q
going i (Fixed w ws q) g n = g.1
going i Stuck g n = absurd (n refl)
going i (Declare words) g n = tt
going i (Within v) g n = tt
going i (Status v) g n = tt
going i (Need w st h v) g n = tt
going i (Digits t st h v) g n = tt
going i (Opened w st h v) g n = tt
going i (Casting t st h v) g n = tt
going i (Have e t st h v) g n = tt
going i (Whole p) g n = tt

pub live : (i : Signature) → IsInterface i → (ws : Words) → state i ws ≢ Stuck → IsLive i ws
live i it ws n =
    let g = good_steps i ws (start i) (good_start i) in
    let r = reaches i (state i ws) g (going i (state i ws) g n) in
    record { more = r.words; program = made i r.past; sentence = sound i it r.past (ws ++ r.words) (steps_on i ws r.words (start i) ∙ r.whole) }

pub unlive : (i : Signature) (ws : Words) → IsLive i ws → state i ws ≢ Stuck
unlive i ws h =
    whole_not_stuck i (state i ws) h.more (past_of h.program) (sym (steps_on i ws h.more (start i)) ∙ complete i h.program (ws ++ h.more) h.sentence)
