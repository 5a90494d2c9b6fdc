-- Constants: those that texts stand for, and those that stand in the text of a program.
use Rattle.std.proofs.Common.{◌≡◌, ℕ, Bool, List, [], ◌∷◌, Option, Some, None, Err, sym, ap, ◌∙◌}
use Rattle.std.specs.Prelude.{ℤ, option_map}
use Rattle.fic_base.specs.declared.code.Code.TheVariants as code
use Rattle.fic_base.specs.declared.place.Place.{Place}
use Rattle.fic_base.specs.declared.refusal.Refusal.{Refusal}
use Rattle.num_type.specs.View.{exact_of}
use Rattle.num_type.specs.declared.dyadic.Dyadic.{Dyadic}
use Rattle.num_type.specs.declared.memory.Stop.{Stop}
use Rattle.num_type.specs.declared.memory.Stop.TheVariants as stop
use Rattle.const_eval.specs.Literals.{IsLiteral, NoLiteral}
use Rattle.const_eval.specs.Refusals.{IsRefusal, RefusesOnly}
use Rattle.const_rules.specs.LiteralValues.{literal_of}
use Rattle.const_rules.proofs.KeptAnswers.{kept_literal_is, no_literal_is}
use Rattle.fi_rules.specs.Pairs.{Side}
use Rattle.fi_rules.specs.View.{number_view}
use Rattle.scalar_program.specs.Lowered.{Spot, Literal, operand_at}
use Rattle.walk_scope.specs.Told.{Passes, Refuses}
use Rattle.walk_scope.specs.View.{Tells}
use Rattle.scalar_walk.specs.Walk.{literal_told}

-- ---- texts

pub literal_stops : (s : Stop Refusal) (at : Place) (text : List ℕ) → RefusesOnly s (λ r. IsRefusal code.LiteralInexact at text r × NoLiteral text) → Tells {R = Dyadic} (Err s) number_view (literal_told at text (literal_of text))
unfolding literal_told
literal_stops stop.Memory at text h = tt
literal_stops (stop.Refused r) at text h =
    ap (literal_told at text) (no_literal_is text h.1) ∙ (λ i. Refuses (sym h.0.code_is i) (sym h.0.place_is i) (sym h.0.shown_is i))

pub literal_passes : (d : Dyadic) (at : Place) (text : List ℕ) → IsLiteral text (exact_of d) → literal_told at text (literal_of text) ≡ Passes (number_view d)
unfolding literal_told
literal_passes d at text h = ap (literal_told at text) (kept_literal_is text d h)

-- ---- where an operand stands

pub stands_there : (spot : Spot) (a : Side) (o : Option ℤ) → o ≡ None → operand_at spot a (option_map (λ z. z ∷ []) o) ≡ Some (record { spot = spot; num = a.num })
unfolding operand_at
stands_there spot a o h = ap (λ (p : Option ℤ). operand_at spot a (option_map (λ z. z ∷ []) p)) h

pub stands_in_text : (spot : Spot) (a : Side) (o : Option ℤ) (z : ℤ) (signed : Bool) → o ≡ Some z → signed ≡ a.num.signed → operand_at spot a (option_map (λ z. z ∷ []) o) ≡ Some (record { spot = Literal signed z; num = a.num })
unfolding operand_at
stands_in_text spot a o z signed h s =
    ap (λ (p : Option ℤ). operand_at spot a (option_map (λ z. z ∷ []) p)) h ∙ ap (λ (b : Bool). Some (record { spot = Literal b z; num = a.num })) (sym s)
