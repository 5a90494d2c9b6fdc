-- The steps of a text's reading.
use Rattle.std.proofs.lemmas.List.{drop-drop, drop_all}
use Rattle.std.proofs.Common.{◌≡◌, ◌≢◌, ℕ, ◌+◌, ◌<◌, ◌≤◌, List, [], ◌++◌, length, take, drop, Option, Some, None, refl, sym, ap, append_assoc, arith}
use Rattle.fic_base.specs.declared.place.Place.{Place}
use Rattle.fic_base.specs.declared.refusal.Refusal.{Refusal}
use Rattle.num_type.specs.declared.memory.Stop.{Stop}
use Rattle.num_type.specs.declared.memory.Stop.TheVariants.{Refused, Memory}
use Rattle.mat_token.specs.declared.token.Kind.{Kind}
use Rattle.mat_token.specs.declared.token.Token.{Token}
use Rattle.mat_token.specs.declared.rule.Rule.{Rule}
use Rattle.mat_token.specs.declared.rule.Context.{Context}
use Rattle.mat_token.specs.Rules.{rule_at, kind_of}
use Rattle.mat_token.specs.Pieces.{piece_len}
use Rattle.mat_token.proofs.Piece.{piece, no_piece}
use Rattle.mat_token.specs.Reads.{Outcome, Gives, Refuses, Reads, Ends, Stops, GoesOn, ReadsWhole, RefusesOnly, place_after, refusal_of, after_piece, tokens_of, preceded, outcome_at_end}

pub not_empty : (s : List ℕ) → 0 < length s → s ≢ []
not_empty s h e = let n : length s ≡ 0 = ap length e in absurd (omega (arith, n, h))

pub refuses_weaker : (stop : Stop Refusal) (P Q : Refusal → Type 0) → ((r : Refusal) → P r → Q r) → RefusesOnly stop P → RefusesOnly stop Q
refuses_weaker (Refused r) P Q f h = f r h
refuses_weaker Memory P Q f h = tt

pub refuses_memory : (stop : Stop Refusal) (P : Refusal → Type 0) → stop ≡ Memory → RefusesOnly stop P
refuses_memory stop P e = rw e tt

pub preceded_twice : (xs ys : List Token) (o : Outcome) → preceded xs (preceded ys o) ≡ preceded (xs ++ ys) o
preceded_twice xs ys (Gives zs) = ap Gives (sym (append_assoc xs ys zs))
preceded_twice xs ys (Refuses r) = refl

pub stopped : (c : Context) (at : Place) (s t : List ℕ) (rule : Rule) (r : Refusal) → t ≡ s → 0 < length s →
    rule ≡ rule_at c t → piece_len c (rule_at c t) t ≡ None → r ≡ refusal_of rule at t → Reads c at s (Refuses r)
stopped c at s t rule r same some is none shown =
    Stops c at s (Refuses r) (not_empty s some) (no_piece c s some (rw (← same) none)) (rw (← same, ← is) (ap Refuses shown))

pub went : (c : Context) (at : Place) (s t text : List ℕ) (n : ℕ) (rule : Rule) (kind : Option Kind) (next : Context) (on : Place) (o : Outcome) →
    t ≡ s → 0 < length s → n ≤ length t → rule ≡ rule_at c t → piece_len c (rule_at c t) t ≡ Some n → text ≡ take n t → kind ≡ kind_of rule text →
    next ≡ after_piece c at rule text t kind → on ≡ place_after at text →
    Reads next on (drop n s) o → Reads c at s (preceded (tokens_of c at n kind) o)
went c at s t text n rule kind next on o same some within is long front sort is_next is_on goes =
    GoesOn c at s _ n o (not_empty s some) (piece c s n some (rw (← same) within) (rw (← same) long))
    (rw (← same, ← is, ← front, ← sort, ← is_next, ← is_on) (rw same goes))
    (rw (← same, ← is, ← front, ← sort) refl)

pub joined : (bytes : List ℕ) (at n : ℕ) (xs ys zs : List Token) (next : Context) (on : Place) (c : Context) (place : Place) →
    ((o : Outcome) → Reads c place (drop at bytes) o → ReadsWhole bytes (preceded xs o)) →
    ((o : Outcome) → Reads next on (drop n (drop at bytes)) o → Reads c place (drop at bytes) (preceded ys o)) →
    zs ≡ xs ++ ys →
    (o : Outcome) → Reads next on (drop (at + n) bytes) o → ReadsWhole bytes (preceded zs o)
joined bytes at n xs ys zs next on c place before one is o goes =
    rw (is, ← preceded_twice xs ys o) (before (preceded ys o) (one o (rw drop-drop goes)))

pub ended : (c : Context) (at : Place) (bytes : List ℕ) (n : ℕ) (o : Outcome) → length bytes ≤ n → outcome_at_end c at ≡ o → Reads c at (drop n bytes) o
ended c at bytes n o past is = Ends c at _ o (drop_all n bytes past) (sym is)
