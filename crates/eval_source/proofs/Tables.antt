-- Tables of values.
use Rattle.std.proofs.Common.{◌≡◌, ℕ, Bool, true, false, if◌then◌else◌, List, Option, Some, None, refl, ap, ◌∙◌}
use mathlib.Core.Bool.{cond}
use Rattle.std.specs.Prelude.{bytes_eq, option_map}
use Rattle.std.specs.Global.{Vec}
use Rattle.std.specs.HashMap as hash
use Rattle.std.specs.HashMap.{HashMap}
use Rattle.fi_meaning.specs.Environment.{assigned, forgotten}
use Rattle.eval_value.specs.View.{value_view}
use Rattle.eval_value.specs.declared.value.Value.{Value}
use Rattle.fic_base.proofs.Tables.{is_key}
use Rattle.walk_scope.proofs.Tables.{updated}

-- a table of values with another one at a name
pub value_put : {S : Type 0} (name : List ℕ) (v : Value) (m n : HashMap (Vec ℕ) Value S) → hash.UpdatesBy (λ x y. bytes_eq x.items y.items) (λ k. bytes_eq name k.items) m n (Some v)
    → (other : List ℕ) → option_map value_view (hash.get_by (is_key other) n) ≡ assigned name (value_view v) (λ ds. option_map value_view (hash.get_by (is_key ds) m)) other
value_put name v m n h other = ap (option_map value_view) (updated name m n (Some v) h other) ∙ by (bytes_eq name other) (hash.get_by (is_key other) m)
  where
    by : (b : Bool) (old : Option Value) → option_map value_view (cond b (Some v) old) ≡ (if b then Some (value_view v) else option_map value_view old)
    by true old = refl
    by false old = refl

-- and with none at a name
pub value_taken : {S : Type 0} (name : List ℕ) (m n : HashMap (Vec ℕ) Value S) → hash.UpdatesBy (λ x y. bytes_eq x.items y.items) (λ k. bytes_eq name k.items) m n None
    → (other : List ℕ) → option_map value_view (hash.get_by (is_key other) n) ≡ forgotten name (λ ds. option_map value_view (hash.get_by (is_key ds) m)) other
value_taken name m n h other = ap (option_map value_view) (updated name m n None h other) ∙ by (bytes_eq name other) (hash.get_by (is_key other) m)
  where
    by : (b : Bool) (old : Option Value) → option_map value_view (cond b None old) ≡ (if b then None else option_map value_view old)
    by true old = refl
    by false old = refl
