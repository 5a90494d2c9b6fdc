-- States that are the same.
use Rattle.std.proofs.Common.{◌≡◌, ◌∙◌, ℕ, List, ap, sym, subst}
use Rattle.std.specs.Prelude.{Option, Some, None, Result, Ok, Err, IfOk, slice_get}
use Rattle.c_tree.specs.declared.tree.CWord.{CWord}
use Rattle.c_grammar.specs.Machine.{State, Stuck, if_some}
use Rattle.c_parts.specs.declared.pending.Past.{Past}
use Rattle.c_parts.specs.declared.pending.Reader.{Reader}
use Rattle.c_parts.specs.View.{Goes, past_view}

pub goes : {E : Type 0} (r : Result (Option Reader) E) (p q : State) → p ≡ q → IfOk r (λ next. Goes next p) → IfOk r (λ next. Goes next q)
goes (Ok next) p q e h = subst (Goes next) e h
goes (Err x) p q e h = h

pub goes_option : (next : Option Reader) (p q : State) → p ≡ q → Goes next p → Goes next q
goes_option next p q e h = subst (Goes next) e h

-- a variable that isn't declared
pub undeclared : (p : Past) (k : ℕ) (f : CWord → State) (passed : List CWord) (r : Option CWord) → r ≡ None → r ≡ slice_get passed k → passed ≡ p.words
    → Stuck ≡ if_some (slice_get (past_view p).words k) f
unfolding past_view
undeclared p k f passed r n g e = sym (ap (λ (o : Option CWord). if_some o f) (sym (ap (λ l. slice_get l k) e) ∙ sym g ∙ n))

-- a variable of this type
pub declared : (p : Past) (k : ℕ) (f : CWord → State) (passed : List CWord) (r : Option CWord) (t : CWord) → r ≡ Some t → r ≡ slice_get passed k
    → passed ≡ p.words → f t ≡ if_some (slice_get (past_view p).words k) f
unfolding past_view
declared p k f passed r t n g e = sym (ap (λ (o : Option CWord). if_some o f) (sym (ap (λ l. slice_get l k) e) ∙ sym g ∙ n))
