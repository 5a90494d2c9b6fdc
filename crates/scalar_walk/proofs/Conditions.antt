-- What is told of a node by its conditions, its count and the limits of its type.
use Rattle.std.proofs.Common.{◌≡◌, ℕ, List, sym, ap, subst, ◌∙◌}
use Rattle.std.specs.Prelude.{Result, Ok, Err}
use Rattle.fic_base.specs.declared.place.Place.{Place}
use Rattle.fic_base.specs.declared.refusal.Refusal.{Refusal}
use Rattle.num_type.specs.declared.memory.Stop.{Stop}
use Rattle.fi_rules.specs.declared.missing.Missing.{Missing}
use Rattle.fi_rules.specs.Checked as checked
use Rattle.fi_rules.specs.Checked.{Checked, Fine}
use Rattle.fi_rules.specs.Types.{Ty}
use Rattle.fi_rules.specs.Texts.{Around, shown_text}
use Rattle.fi_rules.specs.View.{checked_view, asked_view, shown_view}
use Rattle.fi_rules.specs.declared.asked.Asked as code_asked
use Rattle.fi_rules.specs.declared.built_ins.BuiltIn.{BuiltIn}
use Rattle.fi_rules.specs.Calls.{asked}
use Rattle.fic_base.specs.declared.code.Code.TheVariants as code
use Rattle.walk_scope.specs.Rules.{told_at}
use Rattle.walk_scope.specs.Told.{Told, Passes, ◌>>=◌}
use Rattle.walk_scope.specs.View.{Tells, StopTells, RuleAnswers}
use Rattle.walk_scope.proofs.Tell.{part_tells, next_tells, passed, rule_tells, is_told}
use Rattle.scalar_walk.specs.Walk.{Typed, counted, of_type, rule_typed, colon_refused}

-- the result of a rule that was kept
pub kept_rule : {R A : Type 0} (k : R) (rule : Result R Missing) (view : R → A) (first : Checked A) (at : Place) (around : Around) → RuleAnswers (Ok k) rule at around → checked_view view rule ≡ first → first ≡ Fine (view k)
kept_rule k rule view first at around h e = sym e ∙ ap (checked_view view) h

-- what a rule tells
told_rule : {R A : Type 0} (r : Result R (Stop Refusal)) (rule : Result R Missing) (view : R → A) (first : Checked A) (at : Place) (around : Around) → RuleAnswers r rule at around → checked_view view rule ≡ first → Tells r view (told_at at around first)
told_rule r rule view first at around h e = subst (λ o. Tells r view (told_at at around o)) e (rule_tells r rule view at around h)

-- two conditions that are kept
pub both_fine : {A B : Type 0} (first : Checked A) (next : A → Checked B) (k : A) (r : B) → first ≡ Fine k → next k ≡ Fine r → checked.bind first next ≡ Fine r
unfolding checked.bind
both_fine first next k r h g = ap (λ o. checked.bind o next) h ∙ g

abbrev limits_told : {K R : Type 0} → Place → Around → (K → Checked R) → (R → Ty) → K → ℕ → Told Typed
limits_told at around next ty k n = told_at at around (next k) >>= (λ r. Passes (ty r, n))

abbrev count_told : {K R : Type 0} → Place → Around → (K → Checked R) → (R → Ty) → ℕ → K → Told Typed
count_told at around next ty nodes k = counted at nodes >>= (λ n. limits_told at around next ty k n)

-- the first condition is missing
pub first_stops : {C K R S : Type 0} (s : Stop Refusal) (rule : Result C Missing) (view : C → K) (first : Checked K) (next : K → Checked R) (ty : R → Ty) (nodes : ℕ) (at : Place) (around : Around) (whole : S → Typed)
    → RuleAnswers (Err s) rule at around → checked_view view rule ≡ first → Tells {R = S} (Err s) whole (rule_typed at around first next ty nodes)
first_stops {C} {K} {R} {S} s rule view first next ty nodes at around whole h e =
    part_tells {R = C} {S = S} s view whole (told_at at around first) (count_told at around next ty nodes) (told_rule {R = C} (Err s) rule view first at around h e)

-- the count is at its limit
pub count_stops : {C K R S : Type 0} (s : Stop Refusal) (rule : Result C Missing) (view : C → K) (c : C) (first : Checked K) (next : K → Checked R) (ty : R → Ty) (nodes n : ℕ) (at : Place) (around : Around) (whole : S → Typed)
    → RuleAnswers (Ok c) rule at around → checked_view view rule ≡ first → Tells {R = Unit {0}} (Err s) (λ u. n) (counted at nodes) → Tells {R = S} (Err s) whole (rule_typed at around first next ty nodes)
count_stops {C} {K} {R} {S} s rule view c first next ty nodes n at around whole h e t =
    next_tells {S = S} (Err s) whole (told_at at around first) (view c) (count_told at around next ty nodes) (told_rule (Ok c) rule view first at around h e)
    (part_tells {R = Unit {0}} {S = S} s (λ u. n) whole (counted at nodes) (limits_told at around next ty (view c)) t)

-- a limit is passed
pub limit_stops : {C D K R S : Type 0} (s : Stop Refusal) (rule : Result C Missing) (view : C → K) (c : C) (later : Result D Missing) (look : D → R) (first : Checked K) (next : K → Checked R) (ty : R → Ty) (nodes n : ℕ) (at : Place) (around : Around) (whole : S → Typed)
    → RuleAnswers (Ok c) rule at around → checked_view view rule ≡ first → counted at nodes ≡ Passes n → RuleAnswers (Err s) later at around → checked_view look later ≡ next (view c) → Tells {R = S} (Err s) whole (rule_typed at around first next ty nodes)
limit_stops {C} {D} {K} {R} {S} s rule view c later look first next ty nodes n at around whole h e t g f =
    next_tells {S = S} (Err s) whole (told_at at around first) (view c) (count_told at around next ty nodes) (told_rule (Ok c) rule view first at around h e)
    (next_tells {S = S} (Err s) whole (counted at nodes) n (limits_told at around next ty (view c)) t
    (part_tells {R = D} {S = S} s look whole (told_at at around (next (view c))) (λ r. Passes (ty r, n)) (told_rule {R = D} (Err s) later look (next (view c)) at around g f)))

-- all is kept
pub rule_passes : {C D K R : Type 0} (rule : Result C Missing) (view : C → K) (c : C) (later : Result D Missing) (look : D → R) (d : D) (first : Checked K) (next : K → Checked R) (ty : R → Ty) (nodes n : ℕ) (at : Place) (around : Around)
    → RuleAnswers (Ok c) rule at around → checked_view view rule ≡ first → counted at nodes ≡ Passes n → RuleAnswers (Ok d) later at around → checked_view look later ≡ next (view c) → rule_typed at around first next ty nodes ≡ Passes (ty (look d), n)
rule_passes rule view c later look d first next ty nodes n at around h e t g f =
    passed (told_at at around first) (view c) (count_told at around next ty nodes) (told_rule (Ok c) rule view first at around h e)
    ∙ passed (counted at nodes) n (limits_told at around next ty (view c)) t
    ∙ passed (told_at at around (next (view c))) (look d) (λ r. Passes (ty r, n)) (told_rule (Ok d) later look (next (view c)) at around g f)

-- a missing condition before that of `:`
pub colon_stops : (s : Stop Refusal) (rule : Result code_asked.Asked Missing) (at : Place) (around : Around) (b : BuiltIn) (ts : List Ty) → RuleAnswers (Err s) rule at around → checked_view asked_view rule ≡ asked b ts → StopTells s (colon_refused at around b ts)
unfolding told_at checked.bind
colon_stops s rule at around b ts h e =
    is_told s h.0.code at (shown_text around (shown_view h.0.shown)) (colon_refused at around b ts) h.2
    (ap (λ o. told_at at around (checked.bind o (λ k. checked.Missing code.BadArgument checked.Itself))) (sym e ∙ ap (checked_view asked_view) h.1))

-- ---- a condition, and then the count

pub one_stops : {C S : Type 0} (s : Stop Refusal) (rule : Result C Missing) (view : C → Ty) (first : Checked Ty) (nodes : ℕ) (at : Place) (around : Around) (whole : S → Typed)
    → RuleAnswers (Err s) rule at around → checked_view view rule ≡ first → Tells {R = S} (Err s) whole (told_at at around first >>= (λ t. of_type at t nodes))
one_stops {C} {S} s rule view first nodes at around whole h e =
    part_tells {R = C} {S = S} s view whole (told_at at around first) (λ t. of_type at t nodes) (told_rule {R = C} (Err s) rule view first at around h e)

pub one_counts : {C S : Type 0} (s : Stop Refusal) (rule : Result C Missing) (view : C → Ty) (c : C) (first : Checked Ty) (nodes n : ℕ) (at : Place) (around : Around) (whole : S → Typed)
    → RuleAnswers (Ok c) rule at around → checked_view view rule ≡ first → Tells {R = Unit {0}} (Err s) (λ u. n) (counted at nodes) → Tells {R = S} (Err s) whole (told_at at around first >>= (λ t. of_type at t nodes))
one_counts {C} {S} s rule view c first nodes n at around whole h e t =
    next_tells {S = S} (Err s) whole (told_at at around first) (view c) (λ t. of_type at t nodes) (told_rule (Ok c) rule view first at around h e)
    (part_tells {R = Unit {0}} {S = S} s (λ u. n) whole (counted at nodes) (λ n. Passes (view c, n)) t)

pub one_passes : {C : Type 0} (rule : Result C Missing) (view : C → Ty) (c : C) (first : Checked Ty) (nodes n : ℕ) (at : Place) (around : Around)
    → RuleAnswers (Ok c) rule at around → checked_view view rule ≡ first → counted at nodes ≡ Passes n → (told_at at around first >>= (λ t. of_type at t nodes)) ≡ Passes (view c, n)
one_passes rule view c first nodes n at around h e t =
    passed (told_at at around first) (view c) (λ t. of_type at t nodes) (told_rule (Ok c) rule view first at around h e)
    ∙ passed (counted at nodes) n (λ n. Passes (view c, n)) t
