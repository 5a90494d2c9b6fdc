-- Answers of the code, and what is told.
use Rattle.std.proofs.Common.{◌≡◌, ℕ, List, sym, ap, subst, ◌∙◌}
use Rattle.std.specs.Prelude.{Result, Ok, Err}
use Rattle.fi_rules.specs.declared.missing.Missing.{Missing}
use Rattle.fi_rules.specs.Texts.{Around, shown_text}
use Rattle.fi_rules.specs.View.{checked_view, shown_view}
use Rattle.walk_scope.specs.Rules.{told_at}
use Rattle.fic_base.specs.declared.code.Code.{Code}
use Rattle.fic_base.specs.declared.place.Place.{Place}
use Rattle.fic_base.specs.declared.refusal.Refusal.{Refusal}
use Rattle.num_type.specs.declared.memory.Stop.{Stop}
use Rattle.num_type.specs.declared.memory.Stop.TheVariants as stop
use Rattle.walk_scope.specs.Told.{Told, Passes, Refuses, ◌>>=◌, bind}
use Rattle.walk_scope.specs.View.{Tells, StopTells, IsStop, RuleAnswers}

-- a refusal of these three parts
same_refusal : {A : Type 0} (told : Told A) (c d : Code) (p q : Place) (s t : List ℕ) → c ≡ d → p ≡ q → s ≡ t → told ≡ Refuses d q t → told ≡ Refuses c p s
same_refusal told c d p q s t e f g h = h ∙ sym (λ i. Refuses (e i) (f i) (g i))

-- a stop of the refusal that is told
pub is_told : {A : Type 0} (s : Stop Refusal) (code : Code) (at : Place) (shown : List ℕ) (told : Told A) → IsStop s code at shown → told ≡ Refuses code at shown → StopTells s told
is_told stop.Memory code at shown told h e = tt
is_told (stop.Refused r) code at shown told h e = same_refusal told r.code code r.place at r.shown shown h.0 h.1 h.2 e

-- the answer that is this stop
pub err_tells : {R A : Type 0} (s : Stop Refusal) (view : R → A) (told : Told A) → StopTells s told → Tells {R = R} (Err s) view told
err_tells stop.Memory view told h = h
err_tells (stop.Refused r) view told h = h

-- the answer that is a stop of the refusal that is told
pub stop_tells : {R A : Type 0} (s : Stop Refusal) (view : R → A) (told : Told A) (code : Code) (at : Place) (shown : List ℕ) → IsStop s code at shown → told ≡ Refuses code at shown → Tells {R = R} (Err s) view told
stop_tells s view told code at shown h e = err_tells s view told (is_told s code at shown told h e)

-- a refused part refuses the whole
pub part_tells : {R S A B : Type 0} (s : Stop Refusal) (view : R → A) (whole : S → B) (told : Told A) (next : A → Told B) → Tells {R = R} (Err s) view told → Tells {R = S} (Err s) whole (told >>= next)
unfolding bind
part_tells stop.Memory view whole told next h = tt
part_tells (stop.Refused r) view whole told next h = ap (λ t. bind t next) h

-- behind a part that passes comes what is next
pub passed : {A B : Type 0} (told : Told A) (x : A) (next : A → Told B) → told ≡ Passes x → (told >>= next) ≡ next x
unfolding bind
passed told x next h = ap (λ t. bind t next) h

pub next_tells : {S A B : Type 0} (r : Result S (Stop Refusal)) (whole : S → B) (told : Told A) (x : A) (next : A → Told B) → told ≡ Passes x → Tells r whole (next x) → Tells r whole (told >>= next)
next_tells r whole told x next h t = subst (Tells r whole) (sym (passed told x next h)) t

-- what a rule tells at a place
pub rule_tells : {R A : Type 0} (r : Result R (Stop Refusal)) (rule : Result R Missing) (view : R → A) (at : Place) (around : Around) → RuleAnswers r rule at around → Tells r view (told_at at around (checked_view view rule))
unfolding told_at
rule_tells (Ok x) rule view at around h = ap (λ o. told_at at around (checked_view view o)) h
rule_tells {R} {A} (Err s) rule view at around h =
    stop_tells {R = R} {A = A} s view (told_at at around (checked_view view rule)) h.0.code at (shown_text around (shown_view h.0.shown)) h.2 (ap (λ o. told_at at around (checked_view view o)) h.1)
