-- What answers of the code stand for.
use Rattle.std.specs.Prelude.{◌≡◌, ℕ, List, Result, Ok, Err}
use Rattle.fic_base.specs.declared.code.Code.{Code}
use Rattle.fic_base.specs.declared.place.Place.{Place}
use Rattle.fic_base.specs.declared.refusal.Refusal.{Refusal}
use Rattle.num_type.specs.declared.memory.Stop.{Stop}
use Rattle.num_type.specs.declared.memory.Stop.TheVariants as stop
use Rattle.mat_token.specs.Lexeme.{lexemes_of}
use Rattle.walk_scope.specs.declared.scope.Scope as code_scope
use Rattle.walk_scope.specs.NameSets.{names_in}
use Rattle.walk_scope.specs.Scope.{Scope}
use Rattle.walk_scope.specs.Shown.{text_at}
use Rattle.fi_rules.specs.declared.missing.Missing.{Missing}
use Rattle.fi_rules.specs.Texts.{Around, shown_text}
use Rattle.fi_rules.specs.View.{shown_view}
use Rattle.walk_scope.specs.Told.{Told, Passes, Refuses}

-- an answer of the code says what is told, unless memory is wanting
abbrev pub Tells : {R A : Type 0} → Result R (Stop Refusal) → (R → A) → Told A → Type 0
Tells (Ok x) view told = told ≡ Passes (view x)
Tells (Err stop.Memory) view told = Unit {0}
Tells (Err (stop.Refused r)) view told = told ≡ Refuses r.code r.place r.shown

abbrev pub scope_view : code_scope.Scope → Scope
scope_view s = record { context = record { variables = names_in s.variables.now; functions = names_in s.functions.now }; shown = text_at (lexemes_of s.bytes.now s.tokens.now) }

-- a stop of this refusal, unless memory is wanting
abbrev pub IsStop : Stop Refusal → Code → Place → List ℕ → Type 0
IsStop stop.Memory code at shown = Unit {0}
IsStop (stop.Refused r) code at shown = (r.code ≡ code) × (r.place ≡ at) × (r.shown ≡ shown)

-- a stop says what is told, unless memory is wanting
abbrev pub StopTells : {A : Type 0} → Stop Refusal → Told A → Type 0
StopTells stop.Memory told = Unit {0}
StopTells (stop.Refused r) told = told ≡ Refuses r.code r.place r.shown

-- a rule's answer at a place: its result, or a stop of its first missing condition
abbrev pub RuleAnswers : {R : Type 0} → Result R (Stop Refusal) → Result R Missing → Place → Around → Type 0
RuleAnswers (Ok x) rule at around = rule ≡ Ok x
RuleAnswers (Err s) rule at around = (m : Missing) × (rule ≡ Err m) × IsStop s m.code at (shown_text around (shown_view m.shown))
