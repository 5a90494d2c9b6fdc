-- Reading a token list with the machine: its tree, or its refusal.
use Rattle.std.proofs.Common.{◌≡◌, ◌≢◌, ℕ, ◌+◌, ◌<◌, ◌≤◌, false, List, [], ◌∷◌, ◌++◌, take, drop, length, get_or, arith, refl, ap, sym, ◌∙◌, subst, append_assoc, ⊎_elim, inl, inr, Some, None}
use Rattle.std.specs.Prelude.{◌⊎◌, slice_get, codes}
use Rattle.std.proofs.lemmas.List.{take_more, take_all, get_or-map, length-map, take-append-drop}
use Rattle.std.proofs.lemmas.Option.{slice_get-get_or}
use Rattle.num_type.specs.declared.memory.Stop.{Stop}
use Rattle.num_type.specs.declared.memory.Stop.TheVariants as stop
use Rattle.fic_base.specs.declared.code.Code.TheVariants as code
use Rattle.fic_base.specs.declared.refusal.Refusal.{Refusal}
use Rattle.mat_ast.specs.Tree.{Fun}
use Rattle.mat_token.specs.declared.token.Kind.TheVariants as kind
use Rattle.mat_token.specs.declared.token.Token.{Token}
use Rattle.mat_token.specs.Lexeme.{Lexeme, lexeme_of, lexemes_of}
use Rattle.mat_token.specs.Kept.{EndsOnce}
use Rattle.mat_token.specs.Reads.{Outcome, Gives, Refuses, RefusesOnly}
use Rattle.mat_token.proofs.Once.{outcome_once}
use Rattle.mat_parts.specs.declared.pending.Reading.{Reading}
use Rattle.mat_parts.specs.declared.pending.Reading.TheVariants as reading
use Rattle.mat_grammar.specs.Grammar.{file, IsShallow}
use Rattle.mat_grammar.specs.Refused.{shown, IsRefused}
use Rattle.mat_grammar.specs.Machine.{State, Complete, Stuck, step, finish, run, start, state}
use Rattle.mat_grammar.specs.Least.{least}
use Rattle.mat_parts.specs.Pending.{state_view}
use Rattle.mat_parse.specs.Steps.{IsRefusalAt}
use Rattle.mat_parse.specs.Parsed.{Parsed, Tree, Refused, IsParseOf, IsBehind, IsParse}
use Rattle.mat_grammar.proofs.Sound.{run_whole}
use Rattle.mat_grammar.proofs.CompleteFile.{whole_runs, one_tree}
use Rattle.mat_grammar.proofs.Ends.{live, unlive, shallow, unshallow, shallow_live, steps_append}
use Rattle.mat_grammar.proofs.Refusals.{one_refusal, file_not_refused}
use Rattle.mat_grammar.proofs.Decide.{decided}

-- the state of the code isn't stuck
pub never_stuck : (r : Reading) → state_view r ≢ Stuck
unfolding state_view
never_stuck (reading.Need p) e = cc
never_stuck _ e = cc

-- the refusal of each file that goes on as too deep
pub deep_refused : (s : Stop Refusal) (q : State) (t : Lexeme) (next : Reading)
    → RefusesOnly s (λ r. r ≡ record { code = code.Limit; place = t.place; shown = codes "100" })
    → state_view next ≡ q → (least (state_view next) ≤ 100 → ⊥) → RefusesOnly s (λ r. IsRefusalAt q t r)
deep_refused (stop.Refused r) q t next h e n =
    let deep : 100 < least q = omega (arith, n, ap least e) in
    (ap (λ (x : Refusal). x.place) h, inr (λ s. never_stuck next (e ∙ s), deep, ap (λ (x : Refusal). x.code) h, ap (λ (x : Refusal). x.shown) h))
deep_refused stop.Memory q t next h e n = tt

-- the token at an index
pub record IsAt (ts : List Lexeme) (i : ℕ) (t : Lexeme) : Type 0 where
  pub within : i < length ts
  pub there : slice_get ts i ≡ Some t
  pub more : take (i + 1) ts ≡ take i ts ++ t ∷ []

pub at_index : (bytes : List ℕ) (tokens : List Token) (i : ℕ) (d : Token) → i < length tokens
    → IsAt (lexemes_of bytes tokens) i (lexeme_of bytes (get_or tokens i d))
at_index bytes tokens i d h =
    let w : i < length (lexemes_of bytes tokens) = omega (arith, length-map tokens (lexeme_of bytes)) in
    let g : get_or (lexemes_of bytes tokens) i (lexeme_of bytes d) ≡ lexeme_of bytes (get_or tokens i d) =
    get_or-map (lexeme_of bytes) tokens i d (lexeme_of bytes d) h in
    record {
      within = w;
      there = slice_get-get_or (lexemes_of bytes tokens) i (lexeme_of bytes d) w ∙ ap Some g;
      more = take_more (lexemes_of bytes tokens) i (lexeme_of bytes d) w ∙ ap (λ y. take i (lexemes_of bytes tokens) ++ y ∷ []) g;
    }

-- what the code takes past the end of a list
abbrev pub no_token : Token
no_token = record { place = record { offset = 0; line = 0; col = 0 }; len = 0; kind = kind.Name; blank_before = false }

-- the state behind one more token
pub state_more : (ts : List Lexeme) (i : ℕ) (t : Lexeme) → IsAt ts i t → state (take (i + 1) ts) ≡ step (state (take i ts)) t
state_more ts i t a = ap state a.more ∙ steps_append (take i ts) (t ∷ []) start

is_refused : (ts : List Lexeme) (i : ℕ) (t : Lexeme) (r : Refusal) → IsAt ts i t → state (take i ts) ≢ Stuck → least (state (take i ts)) ≤ 100
    → IsRefusalAt (step (state (take i ts)) t) t r → IsRefused ts r
is_refused ts i t r a ns le h =
    let n = state_more ts i t a in
    let front : List Lexeme = take (i + 1) ts in
    record {
      index = i;
      bad = record {
        within = a.within;
        before = shallow (take i ts) ns le;
        with_it = λ s. ⊎_elim
            (λ x. unlive front (shallow_live front s) (n ∙ x.0))
            (λ x. let deep : 100 < least (step (state (take i ts)) t) = x.1 in absurd (omega (arith, unshallow front s, ap least n)))
            h.1;
      };
      token = t;
      there = a.there;
      place_is = h.0;
      cause = ⊎_elim (λ x. inr (λ l. unlive front l (n ∙ x.0), x.1, x.2)) (λ x. inl (live front (λ s. x.0 (sym n ∙ s)), x.2, x.3)) h.1;
    }

-- the refusal at a token is that of the list
pub list_refused : (s : Stop Refusal) (ts : List Lexeme) (i : ℕ) (t : Lexeme) (now : Reading) → IsAt ts i t → state_view now ≡ state (take i ts)
    → least (state_view now) ≤ 100
    → RefusesOnly s (λ r. IsRefusalAt (step (state_view now) t) t r) → RefusesOnly s (λ r. IsParseOf ts (Refused r))
list_refused (stop.Refused r) ts i t now a e le h =
    is_refused ts i t r a (λ s. never_stuck now (e ∙ s)) (subst (λ q. least q ≤ 100) e le) (subst (λ q. IsRefusalAt (step q t) t r) e h)
list_refused stop.Memory ts i t now a e le h = tt

-- the last of the tokens
pub record IsLast (bytes : List ℕ) (tokens : List Token) : Type 0 where
  pub done : List Lexeme
  pub last : Lexeme
  pub is : lexemes_of bytes tokens ≡ done ++ last ∷ []
  pub finish : last.kind ≡ kind.Finish

last_of : (bytes : List ℕ) (tokens : List Token) → EndsOnce tokens → IsLast bytes tokens
last_of bytes [] h = absurd h
last_of bytes (t ∷ []) h = record { done = []; last = lexeme_of bytes t; is = refl; finish = h }
last_of bytes (t ∷ u ∷ ts) h =
    let more = last_of bytes (u ∷ ts) h.1 in
    record { done = lexeme_of bytes t ∷ more.done; last = more.last; is = ap (λ x. lexeme_of bytes t ∷ x) more.is; finish = more.finish }

-- a list that goes on to a file of depth at most 100 has no refusal
shallow_not_refused : (ts : List Lexeme) (r : Refusal) → IsShallow ts → IsRefused ts r → ⊥
shallow_not_refused ts r h k =
    let n : ℕ = k.index + 1 in
    let e : ts ++ h.0 ≡ take n ts ++ (drop n ts ++ h.0) = ap (λ x. x ++ h.0) (sym (take-append-drop n ts)) ∙ append_assoc (take n ts) (drop n ts) h.0 in
    k.bad.with_it (drop n ts ++ h.0, h.1, h.2, subst (λ x. file h.1 x []) e h.3)

-- behind the last token the file is whole
pub ends_whole : (bytes : List ℕ) (tokens : List Token) (now : Reading) → EndsOnce tokens → state_view now ≡ state (lexemes_of bytes tokens)
    → least (state_view now) ≤ 100
    → finish (state_view now) ≡ None → ⊥
ends_whole bytes tokens now ends e le h =
    let l = last_of bytes tokens ends in
    let s : IsShallow (lexemes_of bytes tokens) = shallow (lexemes_of bytes tokens) (λ x. never_stuck now (e ∙ x)) (subst (λ q. least q ≤ 100) e le) in
    let s' : IsShallow (l.done ++ l.last ∷ []) = subst IsShallow l.is s in
    ⊎_elim
    (λ x. let w : run start (lexemes_of bytes tokens) ≡ Some x.0 = whole_runs x.0 (lexemes_of bytes tokens)
    (subst (λ y. file x.0 y []) (sym l.is) x.1) in let n : None ≡ Some x.0 = sym h ∙ ap finish e ∙ w in cc)
    (λ x. shallow_not_refused (l.done ++ l.last ∷ []) x.0 s' x.1)
    (decided l.done l.last l.finish)

pub all_read : (bytes : List ℕ) (tokens : List Token) (i : ℕ) (now : Reading) → length tokens ≤ i → state_view now ≡ state (take i (lexemes_of bytes tokens))
    → state_view now ≡ state (lexemes_of bytes tokens)
all_read bytes tokens i now h e = e ∙ ap state (take_all i (lexemes_of bytes tokens) (omega (arith, length-map tokens (lexeme_of bytes))))

pub whole_tree : (ts : List Lexeme) (now : Reading) (fs : List Fun) → state_view now ≡ state ts → least (state_view now) ≤ 100 → state_view now ≡ Complete fs
    → IsParseOf ts (Tree fs)
whole_tree ts now fs e le h = (run_whole ts fs (ap finish (sym e ∙ h)), subst (λ q. least q ≤ 100) h le)

-- A source gives one tree or refusal

of_once : (ts : List Lexeme) (p q : Parsed) → IsParseOf ts p → IsParseOf ts q → p ≡ q
of_once ts (Tree a) (Tree b) h k = ap Tree (one_tree a b ts h.0 k.0)
of_once ts (Tree a) (Refused r) h k = absurd (file_not_refused ts a r h.0 h.1 k)
of_once ts (Refused r) (Tree b) h k = absurd (file_not_refused ts b r k.0 k.1 h)
of_once ts (Refused r) (Refused s) h k = ap Refused (one_refusal ts r s h k)

behind_once : (bytes : List ℕ) (o : Outcome) (p q : Parsed) → IsBehind bytes o p → IsBehind bytes o q → p ≡ q
behind_once bytes (Gives tokens) p q h k = of_once (lexemes_of bytes tokens) p q h k
behind_once bytes (Refuses r) p q h k = h ∙ sym k

pub parse_once : (bytes : List ℕ) (p q : Parsed) → IsParse bytes p → IsParse bytes q → p ≡ q
parse_once bytes p q h k = behind_once bytes k.outcome p q (subst (λ o. IsBehind bytes o p) (outcome_once bytes h.outcome k.outcome h.is k.is) h.gives) k.gives
