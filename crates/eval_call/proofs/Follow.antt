-- What answers say of outcomes that follow from one another.
use Rattle.std.proofs.Common.{◌≡◌, Option, Some, None, Result, Err, sym, ap, subst}
use Rattle.fic_base.specs.declared.place.Place.{Place}
use Rattle.fi_rules.specs.Value.{Val}
use Rattle.fi_eval.specs.Outcome.{Got, Gives, bind, ◌>>=◌, or_wrong}
use Rattle.eval_value.specs.Tells.{Tells}
use Rattle.eval_value.specs.View.{item_view, value_view}
use Rattle.eval_value.specs.declared.halt.Halt.{Halt}
use Rattle.eval_value.specs.declared.halt.Halt.TheVariants as halt
use Rattle.eval_value.specs.declared.value.Value.{Value}

-- a value and none
pub some_none : {A : Type 0} (x : A) → Some x ≡ None → ⊥
some_none x e = cc

-- behind a part that has a result
pub after_ok : {S A B : Type 0} (r : Result S Halt) (view : S → B) (got : Got Place A) (x : A) (next : A → Got Place B) → got ≡ Gives x → Tells r view (next x) → Tells r view (got >>= next)
unfolding bind
after_ok r view got x next h t = subst (λ g. Tells r view (bind g next)) (sym h) t

-- behind a part that has none
pub after_err : {R S A B : Type 0} (h : Halt) (part : R → A) (view : S → B) (got : Got Place A) (next : A → Got Place B) → Tells (Err h) part got → Tells (Err h) view (got >>= next)
unfolding bind
after_err halt.Memory part view got next t = tt
after_err (halt.Fault site) part view got next t = ap (λ g. bind g next) t
after_err halt.Over part view got next t = ap (λ g. bind g next) t
after_err (halt.Wrong at) part view got next t = ap (λ g. bind g next) t

-- a value that an answer has
pub known : (r : Result Value Halt) (at : Place) (found : Option Value) (o : Option Val) → item_view found ≡ o → Tells r value_view (or_wrong at (item_view found)) → Tells r value_view (or_wrong at o)
known r at found o h t = subst (λ p. Tells r value_view (or_wrong at p)) h t
