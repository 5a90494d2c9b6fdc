-- What answers say of outcomes that follow from one another.
use Rattle.std.proofs.Common.{◌≡◌, ℕ, Bool, true, false, Option, Some, None, Result, Err, sym, ap, subst, ◌∙◌}
use Rattle.std.specs.Prelude.{option_map}
use Rattle.std.specs.Borrow.{Bor}
use Rattle.fic_base.specs.declared.place.Place.{Place}
use Rattle.fi_rules.specs.Value.{Val}
use Rattle.fi_rules.specs.Options.{◌|>◌, and_then}
use Rattle.fi_eval.specs.Outcome.{Got, Gives, Wrong, choose, or_wrong}
use Rattle.fi_values.specs.Reads.{shape_of}
use Rattle.fi_values.specs.Subscripts.{extent}
use Rattle.eval_value.specs.Tells.{Tells}
use Rattle.eval_value.specs.View.{value_view}
use Rattle.eval_value.specs.declared.halt.Halt.{Halt}
use Rattle.eval_value.specs.declared.halt.Halt.TheVariants as halt
use Rattle.eval_value.specs.declared.value.Value.{Value}

-- the same for a part alone
pub err_tells : {R S A : Type 0} (h : Halt) (part : R → A) (view : S → A) (got : Got Place A) → Tells (Err h) part got → Tells (Err h) view got
err_tells halt.Memory part view got t = tt
err_tells (halt.Fault site) part view got t = t
err_tells halt.Over part view got t = t
err_tells (halt.Wrong at) part view got t = t

-- the first or the second of two outcomes
pub chosen : {S B : Type 0} (r : Result S Halt) (view : S → B) (b : Bool) (x y : Got Place B) → b ≡ true → Tells r view x → Tells r view (choose b x y)
unfolding choose
chosen r view b x y h t = subst (λ c. Tells r view (choose c x y)) (sym h) t

pub not_chosen : {S B : Type 0} (r : Result S Halt) (view : S → B) (b : Bool) (x y : Got Place B) → b ≡ false → Tells r view y → Tells r view (choose b x y)
unfolding choose
not_chosen r view b x y h t = subst (λ c. Tells r view (choose c x y)) (sym h) t

-- ---- what a table of variables has

pub no_value : (o : Option (Bor Value)) (e : Option Val) (at : Place) → option_map (λ b. value_view b.now) o ≡ e → o ≡ None → or_wrong at e ≡ Wrong at
unfolding or_wrong
no_value o e at h n = ap (or_wrong at) (sym h ∙ ap (option_map (λ b. value_view b.now)) n)

pub has_value : (o : Option (Bor Value)) (e : Option Val) (at : Place) (b : Bor Value) → option_map (λ b. value_view b.now) o ≡ e → o ≡ Some b → or_wrong at e ≡ Gives (value_view b.now)
unfolding or_wrong
has_value o e at b h n = ap (or_wrong at) (sym h ∙ ap (option_map (λ b. value_view b.now)) n)

-- what `end` means in a subscript of a variable
pub no_extent : (o : Option (Bor Value)) (e : Option Val) (k many : ℕ) → option_map (λ b. value_view b.now) o ≡ e → o ≡ None → None ≡ (e |> (λ u. Some (extent (shape_of u) k many)))
unfolding and_then
no_extent o e k many h n = ap (λ p. p |> (λ u. Some (extent (shape_of u) k many))) (sym (ap (option_map (λ b. value_view b.now)) n) ∙ h)

pub has_extent : (o : Option (Bor Value)) (e : Option Val) (b : Bor Value) (n k many : ℕ) → option_map (λ b. value_view b.now) o ≡ e → o ≡ Some b → n ≡ extent (shape_of (value_view b.now)) k many
    → Some n ≡ (e |> (λ u. Some (extent (shape_of u) k many)))
unfolding and_then
has_extent o e b n k many h s x = ap Some x ∙ ap (λ p. p |> (λ u. Some (extent (shape_of u) k many))) (sym (ap (option_map (λ b. value_view b.now)) s) ∙ h)
