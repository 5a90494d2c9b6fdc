-- Words that have to come.
use Rattle.std.proofs.Common.{◌≡◌, ◌∙◌, ℕ, suc, ◌<◌, ◌≤◌, [], ◌∷◌, drop, length, get_or, ap, sym, ⊎_elim}
use Rattle.std.specs.Prelude.{Some, None, slice_get}
use Rattle.std.proofs.Math.Seq.{drop-cons}
use Rattle.std.proofs.lemmas.List.{drop_all}
use Rattle.std.proofs.lemmas.Option.{slice_get_within, slice_get_cases, get_or_from_slice_get}
use Rattle.c_grammar.specs.declared.word.CWordToken.{CWordToken}
use Rattle.c_grammar.specs.Sentence.{Words}

pub due : (ws : Words) (n : ℕ) (w : CWordToken) → slice_get ws n ≡ Some w → drop n ws ≡ w ∷ drop (suc n) ws
due ws n w e = drop-cons ws n w (slice_get_within ws n w e) ∙ ap (λ x. x ∷ drop (suc n) ws) (get_or_from_slice_get ws n w w e)

pub none_due : (ws : Words) (n : ℕ) → slice_get ws n ≡ None → drop n ws ≡ []
none_due ws n e = ⊎_elim
    (λ (x : (w : CWordToken) × (n < length ws) × (slice_get ws n ≡ Some w) × (get_or ws n w ≡ w)). let none : None ≡ Some x.0 = sym e ∙ x.2 in absurd cc)
    (λ (p : (length ws ≤ n) × (slice_get ws n ≡ None)). drop_all n ws p.0)
    (slice_get_cases ws n).1
