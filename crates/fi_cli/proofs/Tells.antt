-- What the statuses say.
use Rattle.std.proofs.Common.{inl, inr, ◌≡◌, ℕ, List, refl, sym, subst, Result, Ok, Err}
use Rattle.std.specs.Prelude.{Option, Some, None, IfSome, OnOk, OnErr}
use Rattle.shape_rules.specs.declared.declared.Declared.{Declared}
use Rattle.fic_io.specs.declared.sink.Failed.{Failed}
use Rattle.fic_io.specs.Causes.{appended}
use Rattle.fi_cli.specs.Gains.{GainsPart}
use Rattle.fi_cli.specs.Forms.{Command, Compile, IsForm}
use Rattle.fi_cli.specs.Commands.{Bad, BadSource}
use Rattle.fi_cli.specs.Causes.{ShelfSide, SinkSide, Cause, Refused, Unread, Wanting, Formless, status_of, line_of, StandsAt, Stands, IsAsked, Gained, Rests, GainsOrFails, Says}
use Rattle.num_type.specs.declared.memory.Stop.{Stop}
use Rattle.num_type.specs.declared.memory.Stop.TheVariants as stop
use Rattle.fic_base.specs.declared.refusal.Refusal.{Refusal}
use Rattle.fi_cli.specs.Source.{IsSourceRefusal}
use Rattle.fi_cli.specs.View.{Delivers, PutsLine, TellsCause, StopIs, RefusesAt}

-- a fact of bytes that are told gives another
pub told_map : {A : Type 0} (o : Option A) (P Q : A → Type 0) → ((a : A) → P a → Q a) → IfSome o P → IfSome o Q
told_map None P Q f h = tt
told_map (Some a) P Q f h = f a h

pub gains : (r : Result (Unit {0}) Failed) (s : SinkSide) (bytes : List ℕ) → OnOk r (s.new ≡ appended s.old bytes) → OnOk r (s.now ≡ s.before) → OnErr r (GainsPart s.before s.now s.old s.new bytes) → GainsOrFails s bytes
gains (Ok u) s bytes ok count bad = inl (ok, count)
gains (Err e) s bytes ok count bad = inr bad

-- a line of a cause that stands was put, or failed
line_put : (result : ℕ) (cause : Cause) (words : List (List ℕ)) (shelf : ShelfSide) (out err : SinkSide) → Stands cause words shelf → Rests out → PutsLine result (status_of cause) (line_of cause) err → Says result words shelf out err
line_put result cause words shelf out err stands same (inr p) =
    subst (λ (n : ℕ). Says n words shelf out err) (sym p.0) (inr (record { cause = cause; stands = stands; part = p.1; unchanged = same }))
line_put result cause words shelf out err stands same (inl p) = subst (λ (n : ℕ). Says n words shelf out err) (sym p.0) (by cause stands p.1)
  where
    by : (c : Cause) → Stands c words shelf → Gained err (line_of c) → Says (status_of c) words shelf out err
    by (Refused bad) s g = record { cause = Refused bad; stands = s; is_status = refl; gained = g; unchanged = same }
    by (Unread name) s g = record { cause = Unread name; stands = s; is_status = refl; gained = g; unchanged = same }
    by Wanting s g = record { cause = Wanting; stands = s; is_status = refl; gained = g; unchanged = same }
    by (Formless n) s g = record { cause = Formless n; stands = s; is_status = refl; gained = g; unchanged = same }

pub cause_told : (result : ℕ) (cause : Cause) (words : List (List ℕ)) (shelf : ShelfSide) (out err : SinkSide) → Stands cause words shelf → Rests out → TellsCause result cause err → Says result words shelf out err
cause_told result cause words shelf out err stands same (inl p) = line_put result cause words shelf out err stands same p
cause_told result cause words shelf out err stands same (inr p) = line_put result Wanting words shelf out err tt same p

pub text_told : (result : ℕ) (text : List ℕ) (words : List (List ℕ)) (shelf : ShelfSide) (out err : SinkSide) → IsAsked words shelf text → Delivers result text out err → Says result words shelf out err
text_told result text words shelf out err asked (inl p) =
    subst (λ (n : ℕ). Says n words shelf out err) (sym p.0) (record { text = text; asked = asked; gained = p.1; quiet = p.2 })
text_told result text words shelf out err asked (inr p) =
    subst (λ (n : ℕ). Says n words shelf out err) (sym p.0) (inl (record { text = text; asked = asked; part = p.1; told = p.2 }))

-- a refusal of what was read stands, where it is one of the source
pub refused_stands : (stop : Stop Refusal) (cause : Cause) (read file entry : List ℕ) (ds : List Declared) (shelf : ShelfSide) → StopIs cause (λ r. Refused (BadSource r)) stop → RefusesAt stop (IsSourceRefusal read entry ds)
    → ((r : Refusal) → IsSourceRefusal read entry ds r → IfSome (shelf.told file) (λ source. IsSourceRefusal source entry ds r)) → StandsAt cause (Compile file entry ds) shelf
refused_stands (stop.Refused r) cause read file entry ds shelf is h f = subst (λ c. StandsAt c (Compile file entry ds) shelf) (sym is) (f r h)
refused_stands stop.Memory cause read file entry ds shelf is h f = subst (λ c. StandsAt c (Compile file entry ds) shelf) (sym is) tt

-- what stands at the form of the words stands
pub stands_at_form : (cause : Cause) (words : List (List ℕ)) (c : Command) (shelf : ShelfSide) → IsForm c words → StandsAt cause c shelf → Stands cause words shelf
stands_at_form (Refused bad) words c shelf form h = record { command = c; form = form; holds = h }
stands_at_form (Unread name) words c shelf form h = record { command = c; form = form; holds = h }
stands_at_form Wanting words c shelf form h = tt
stands_at_form (Formless n) words c shelf form h = absurd h
