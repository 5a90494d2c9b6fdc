-- Outcomes that are the same, step by step.
use Rattle.std.proofs.Common.{◌≡◌, refl, sym, ℕ, zero, suc, Bool, true, false, List, [], ◌∷◌, subst}
use Rattle.std.specs.Prelude.{Option, Some, None}
use Rattle.fic_base.specs.declared.place.Place.{Place}
use Rattle.mat_ast.specs.declared.tree.BinOp.{BinOp}
use Rattle.fi_eval.specs.Outcome.{Got, Gives, Fault, Over, Wrong, bind, ◌>>=◌, or_wrong, choose, when◌then◌else◌}
use Rattle.fi_meaning.specs.Environment.{Env, Flow, Went, Broke, Continued, then_do, turned}
use Rattle.fi_meaning.specs.Expressions.{behind_left}
use Rattle.fi_meaning.specs.Statements.{each_item, turns}
use Rattle.fi_rules.specs.Value.{Val}

pub data Alike {W A : Type 0} : Got W A → Got W A → Type 0 where
  alike : {r : Got W A} → Alike r r

pub same_outcome : {W A : Type 0} {r s : Got W A} → Alike r s → r ≡ s
same_outcome alike = refl

pub alike_gives : {A : Type 0} (x y : A) → x ≡ y → Alike {W = Place} (Gives x) (Gives y)
alike_gives x y e = subst (λ z. Alike {W = Place} (Gives x) (Gives z)) e alike

pub alike_bind : {A B : Type 0} {f g : Got Place A} {h k : A → Got Place B} → Alike f g → ((x : A) → Alike (h x) (k x)) → Alike (f >>= h) (g >>= k)
unfolding bind
alike_bind {f = Gives x} alike each = each x
alike_bind {f = Fault site} alike each = alike
alike_bind {f = Over} alike each = alike
alike_bind {f = Wrong at} alike each = alike

-- behind a value that may be missing
pub alike_found : {A B : Type 0} (at : Place) (o : Option A) {h k : A → Got Place B} → ((x : A) → o ≡ Some x → Alike (h x) (k x)) → Alike (or_wrong at o >>= h) (or_wrong at o >>= k)
unfolding bind or_wrong
alike_found at (Some x) each = each x refl
alike_found at None each = alike

pub alike_both : {A : Type 0} (b : Bool) {r s c d : Got Place A} → Alike r s → Alike c d → Alike (when b then r else c) (when b then s else d)
unfolding choose
alike_both true h k = h
alike_both false h k = k

-- the same, with what the test was
pub alike_known : {A : Type 0} (b : Bool) {r s c d : Got Place A} → (b ≡ true → Alike r s) → (b ≡ false → Alike c d) → Alike (when b then r else c) (when b then s else d)
unfolding choose
alike_known true h k = h refl
alike_known false h k = k refl

pub alike_if : {A : Type 0} {a b : Bool} {r s c d : Got Place A} → a ≡ b → Alike r s → Alike c d → Alike (when a then r else c) (when b then s else d)
alike_if {a = a} {r = r} {s = s} {c = c} {d = d} e h k = subst (λ t. Alike (choose a r c) (choose t s d)) e (alike_both a h k)

pub alike_where : {A : Type 0} {a b : Bool} {r s c d : Got Place A} → a ≡ b → (b ≡ true → Alike r s) → Alike c d → Alike (when a then r else c) (when b then s else d)
alike_where {b = b} {r = r} {s = s} {c = c} {d = d} e h k = subst (λ t. Alike (choose t r c) (choose b s d)) (sym e) (alike_known b h (λ f. k))

pub alike_behind : (at : Place) (op : BinOp) (o : Option Bool) (x : Val) {r s : Got Place Val} → Alike r s → Alike (behind_left at op o x r) (behind_left at op o x s)
unfolding behind_left
alike_behind at op None x h = alike_bind h (λ y. alike)
alike_behind at op (Some b) x h = alike_both _ alike (alike_bind h (λ y. alike))

pub alike_turned : (flow : Flow) {next later : Env → Got Place Flow} → ((env : Env) → Alike (next env) (later env)) → Alike (turned flow next) (turned flow later)
unfolding turned
alike_turned (Went env) h = h env
alike_turned (Continued env) h = h env
alike_turned (Broke env) h = alike

pub alike_then : (flow : Flow) {next later : Env → Got Place Flow} → ((env : Env) → Alike (next env) (later env)) → Alike (then_do flow next) (then_do flow later)
unfolding then_do
alike_then (Went env) h = h env
alike_then (Continued env) h = alike
alike_then (Broke env) h = alike

pub alike_items : {A : Type 0} (xs : List A) (body more : A → Env → Got Place Flow) → ((x : A) (env : Env) → Alike (body x env) (more x env)) → (env : Env) → Alike (each_item xs body env) (each_item xs more env)
alike_items [] body more h env = alike
alike_items (x ∷ xs) body more h env = alike_bind (h x env) (λ flow. alike_turned flow (alike_items xs body more h))

pub alike_turns : (n : ℕ) (test later : Env → Got Place Bool) (body more : Env → Got Place Flow) → ((env : Env) → Alike (test env) (later env)) → ((env : Env) → Alike (body env) (more env)) → (env : Env) → Alike (turns n test body env) (turns n later more env)
alike_turns zero test later body more t h env = alike_bind (t env) (λ b. alike)
alike_turns (suc n) test later body more t h env =
    alike_bind (t env) (λ b. alike_both b (alike_bind (h env) (λ flow. alike_turned flow (alike_turns n test later body more t h))) alike)
