-- A source of which only so many bytes are read.
use Rattle.std.proofs.Common.{inl, inr, ◌⊎◌, ◌≡◌, ◌≢◌, ℕ, ◌<◌, ◌≤◌, List, [], ◌∷◌, length, take, zero, suc, refl, ap, subst, arith}
use Rattle.std.proofs.lemmas.Bool.{cases_lt}
use Rattle.std.proofs.lemmas.List.{length-take-le}
use Rattle.fic_base.specs.declared.refusal.Refusal.{Refusal}
use Rattle.shape_rules.specs.declared.declared.Declared.{Declared}
use Rattle.mat_token.specs.declared.token.Token.{Token}
use Rattle.mat_token.specs.Reads.{Gives, Refuses}
use Rattle.mat_token.specs.Outcome.{IsOutcome, too_long}
use Rattle.mat_parse.specs.Parsed.{Refused, IsBehind, IsParse}
use Rattle.fi_cli.specs.Source.{IsCompiled, IsSourceRefusal}

take_all : (n : ℕ) (bytes : List ℕ) → length bytes ≤ n → take n bytes ≡ bytes
take_all zero [] h = refl
take_all zero (b ∷ bytes) h = absurd (omega (arith, h))
take_all (suc n) [] h = refl
take_all (suc n) (b ∷ bytes) h = ap (λ l. b ∷ l) (take_all n bytes (omega (arith, h)))

taken_less : (n : ℕ) (bytes : List ℕ) → length (take n bytes) ≤ length bytes
taken_less zero bytes = omega arith
taken_less (suc n) [] = omega arith
taken_less (suc n) (b ∷ bytes) = omega (arith, taken_less n bytes)

taken_short : (n : ℕ) (bytes : List ℕ) → length (take n bytes) < n → length bytes < n
taken_short zero bytes h = absurd (omega (arith, h))
taken_short (suc n) [] h = omega arith
taken_short (suc n) (b ∷ bytes) h = omega (arith, taken_short n bytes (omega (arith, h)))

-- bytes of which few are read are read whole
read_whole : (bytes : List ℕ) → length (take 1048577 bytes) ≤ 1048576 → take 1048577 bytes ≡ bytes
read_whole bytes h = take_all 1048577 bytes (omega (arith, taken_short 1048577 bytes (omega (arith, h))))

no_tokens : (tokens : List Token) → Gives tokens ≡ Refuses too_long → ⊥
no_tokens tokens e = absurd cc

fits : (bytes : List ℕ) (tokens : List Token) → IsOutcome bytes (Gives tokens) → length bytes ≤ 1048576
fits bytes tokens o = by (cases_lt 1048576 (length bytes))
  where
    by : (1048576 < length bytes) ⊎ (length bytes ≤ 1048576) → length bytes ≤ 1048576
    by (inl more) = absurd (no_tokens tokens (o.long more))
    by (inr few) = few

pub cut_compiled : (source entry : List ℕ) (ds : List Declared) (text : List ℕ) → IsCompiled (take 1048577 source) entry ds text → IsCompiled source entry ds text
cut_compiled source entry ds text h = subst (λ s. IsCompiled s entry ds text) (read_whole source (fits (take 1048577 source) h.accepted.tokens h.accepted.are)) h

-- the refusal of a source that is too long
too_long_parse : (bytes : List ℕ) (r : Refusal) → 1048576 < length bytes → IsBehind bytes (Refuses too_long) (Refused r) → IsParse bytes (Refused r)
too_long_parse bytes r more h = record {
  outcome = Refuses too_long;
  is = record { long = λ l. refl; short = λ l. absurd (omega (arith, l, more)) };
  gives = h;
}

pub cut_refusal : (source entry : List ℕ) (ds : List Declared) (r : Refusal) → IsSourceRefusal (take 1048577 source) entry ds r → IsSourceRefusal source entry ds r
cut_refusal source entry ds r h = by (cases_lt 1048576 (length (take 1048577 source))) h
  where
    by : (1048576 < length (take 1048577 source)) ⊎ (length (take 1048577 source) ≤ 1048576) → IsSourceRefusal (take 1048577 source) entry ds r → IsSourceRefusal source entry ds r
    by (inr few) k = subst (λ s. IsSourceRefusal s entry ds r) (read_whole source few) k
    by (inl more) (inl p) =
        inl (too_long_parse source r (omega (arith, more, taken_less 1048577 source)) (subst (λ o. IsBehind (take 1048577 source) o (Refused r)) (p.is.long more) p.gives))
    by (inl more) (inr w) = absurd (no_tokens w.tokens (w.are.long more))

-- bytes of which fewer are read than may be are read whole
pub read_all : (n : ℕ) (bytes : List ℕ) → length (take n bytes) ≢ n → take n bytes ≡ bytes
read_all n bytes h = by (cases_lt n (length bytes))
  where
    by : (n < length bytes) ⊎ (length bytes ≤ n) → take n bytes ≡ bytes
    by (inl more) = absurd (h (length-take-le n bytes (omega (arith, more))))
    by (inr few) = take_all n bytes few
