-- Literals and their refusals.
use Rattle.std.proofs.Common.{◌≡◌, ℕ, List, Err, ap, sym, subst}
use Rattle.fic_base.specs.declared.code.Code.TheVariants as code
use Rattle.fic_base.specs.declared.place.Place.{Place}
use Rattle.fic_base.specs.declared.refusal.Refusal.{Refusal}
use Rattle.num_type.specs.View.{exact_of}
use Rattle.num_type.specs.declared.dyadic.Dyadic.{Dyadic}
use Rattle.num_type.specs.declared.memory.Stop.{Stop}
use Rattle.num_type.specs.declared.memory.Stop.TheVariants as stop
use Rattle.const_eval.specs.Literals.{IsLiteral, NoLiteral}
use Rattle.const_eval.specs.Refusals.{IsRefusal, RefusesOnly}
use Rattle.const_rules.specs.LiteralValues.{literal_of}
use Rattle.const_rules.proofs.KeptAnswers.{kept_literal_is, no_literal_is}
use Rattle.fi_eval.specs.Outcome.{Gives, or_wrong}
use Rattle.eval_value.specs.Tells.{Tells}
use Rattle.eval_value.specs.declared.halt.Halt.{Halt}
use Rattle.eval_source.specs.Halts.{halted}

pub literal_passes : (d : Dyadic) (at : Place) (text : List ℕ) → IsLiteral text (exact_of d) → or_wrong at (literal_of text) ≡ Gives (exact_of d)
unfolding or_wrong
literal_passes d at text h = ap (or_wrong at) (kept_literal_is text d h)

pub literal_stops : (s : Stop Refusal) (h : Halt) (at : Place) (text : List ℕ) → RefusesOnly s (λ r. IsRefusal code.LiteralInexact at text r × NoLiteral text) → h ≡ halted s at → Tells {R = Dyadic} (Err h) exact_of (or_wrong at (literal_of text))
unfolding or_wrong
literal_stops s h at text only e = subst (λ k. Tells {R = Dyadic} (Err k) exact_of (or_wrong at (literal_of text))) (sym e) (by s only)
  where
    by : (s : Stop Refusal) → RefusesOnly s (λ r. IsRefusal code.LiteralInexact at text r × NoLiteral text) → Tells {R = Dyadic} (Err (halted s at)) exact_of (or_wrong at (literal_of text))
    by stop.Memory only = tt
    by (stop.Refused r) only = ap (or_wrong at) (no_literal_is text only.1)
