-- Tables of values.
use Rattle.std.proofs.Common.{◌≡◌, ℕ, Bool, true, false, if◌then◌else◌, List, Option, Some, refl, ap, ◌∙◌}
use mathlib.Core.Bool.{cond}
use Rattle.std.specs.Prelude.{bytes_eq, option_map}
use Rattle.std.specs.Global.{Vec}
use Rattle.std.specs.HashMap as hash
use Rattle.std.specs.HashMap.{HashMap}
use Rattle.scalar_program.specs.NameMaps.{with_type}
use Rattle.scalar_walk.specs.declared.operand.Held.{Held}
use Rattle.scalar_walk.specs.View.{held_view}
use Rattle.fic_base.proofs.Tables.{is_key}
use Rattle.walk_scope.proofs.Tables.{updated}

-- a table of values with another one at a name
pub held_put : {S : Type 0} (name : List ℕ) (o : Held) (m n : HashMap (Vec ℕ) Held S) → hash.UpdatesBy (λ x y. bytes_eq x.items y.items) (λ k. bytes_eq name k.items) m n (Some o)
    → (other : List ℕ) → option_map held_view (hash.get_by (is_key other) n) ≡ with_type (λ ds. option_map held_view (hash.get_by (is_key ds) m)) name (held_view o) other
held_put name o m n h other = ap (option_map held_view) (updated name m n (Some o) h other) ∙ by (bytes_eq name other) (hash.get_by (is_key other) m)
  where
    by : (b : Bool) (old : Option Held) → option_map held_view (cond b (Some o) old) ≡ (if b then Some (held_view o) else option_map held_view old)
    by true old = refl
    by false old = refl
