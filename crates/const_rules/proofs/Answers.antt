-- What an answer that is a constant or none says.
use Rattle.std.proofs.Common.{◌≡◌, subst}
use Rattle.std.specs.Prelude.{Option, Some, None}
use Rattle.num_type.specs.Constants.{Exact, IsConstant, IsReduced}
use Rattle.const_rules.specs.OneForm.{IsConstantWith}

pub answer_some : (P : Exact → Type 0) (r : Option Exact) (n : Exact) → IsConstantWith P r → r ≡ Some n → IsReduced n × IsConstant n × P n
answer_some P r n h e = subst (IsConstantWith P) e h

pub answer_none : (P : Exact → Type 0) (r : Option Exact) → IsConstantWith P r → r ≡ None → (n : Exact) → IsConstant n → P n → ⊥
answer_none P r h e = subst (IsConstantWith P) e h

-- the same of another property that holds of the same constants
pub answer_as : (P Q : Exact → Type 0) (r : Option Exact) → ((n : Exact) → P n → Q n) → ((n : Exact) → Q n → P n) → IsConstantWith P r → IsConstantWith Q r
answer_as P Q (Some n) to from h = (h.0, h.1, to n h.2)
answer_as P Q None to from h = λ n c q. h n c (from n q)
