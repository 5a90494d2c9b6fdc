-- What holds of results that may be missing.
use Rattle.std.proofs.Common.{◌≡◌, refl, ap, ℕ, suc, Bool, true, false, List, [], ◌∷◌, length}
use Rattle.std.specs.Prelude.{Option, Some, None, if◌then◌else◌}
use Rattle.std.specs.List.{AllByRecursion}
use Rattle.fi_rules.specs.Options.{and_then, ◌|>◌, where_so, all_of}
use Rattle.fi_eval.specs.Outcome.{Got, Gives, Fault, Over, Wrong, bind, ◌>>=◌, or_wrong, choose, when◌then◌else◌}
use Rattle.fi_values.specs.Reads.{or_fault}
use Rattle.fi_values.specs.Sound.{Granted, grants, at_fault, past, at_wrong}

-- this holds of a value, if there is one
pub data Holds {A : Type 0} (P : A → Type 0) : Option A → Type 0 where
  holds : (x : A) → P x → Holds P (Some x)
  empty : Holds P None

pub holds_then : {A B : Type 0} {P : A → Type 0} {Q : B → Type 0} {o : Option A} {f : A → Option B} → Holds P o → ((x : A) → P x → Holds Q (f x)) → Holds Q (o |> f)
unfolding and_then
holds_then (holds x p) each = each x p
holds_then empty each = empty

pub holds_any : {A : Type 0} (o : Option A) → Holds (λ x. Unit {0}) o
holds_any (Some x) = holds x tt
holds_any None = empty

-- what is known of the value of a term
pub holds_found : {A : Type 0} {P : A → Type 0} (o : Option A) → ((x : A) → o ≡ Some x → P x) → Holds P o
holds_found (Some x) each = holds x (each x refl)
holds_found None each = empty

pub holds_weaker : {A : Type 0} {P Q : A → Type 0} {o : Option A} → Holds P o → ((x : A) → P x → Q x) → Holds Q o
holds_weaker (holds x p) each = holds x (each x p)
holds_weaker empty each = empty

pub holds_where : {A : Type 0} (P : A → Type 0) (b : Bool) (x : A) → (b ≡ true → P x) → Holds P (where_so b x)
unfolding where_so
holds_where P true x h = holds x (h refl)
holds_where P false x h = empty

pub holds_if : {A : Type 0} (P : A → Type 0) (b : Bool) (o p : Option A) → (b ≡ true → Holds P o) → (b ≡ false → Holds P p) → Holds P (if b then o else p)
holds_if P true o p h k = h refl
holds_if P false o p h k = k refl

-- all of them, each of which this holds of
pub holds_all : {A : Type 0} (P : A → Type 0) (os : List (Option A)) → AllByRecursion (Holds P) os → Holds (λ xs. (length xs ≡ length os) × AllByRecursion P xs) (all_of os)
unfolding all_of
holds_all P [] h = holds [] (refl, tt)
holds_all P (o ∷ os) h = holds_then h.0 (λ y p. holds_then (holds_all P os h.1) (λ ys q. holds (y ∷ ys) (ap suc q.0, (p, q.1))))

pub holds_count : {A : Type 0} (os : List (Option A)) → Holds (λ xs. length xs ≡ length os) (all_of os)
unfolding all_of
holds_count [] = holds [] refl
holds_count (o ∷ os) = holds_then (holds_any o) (λ y p. holds_then (holds_count os) (λ ys e. holds (y ∷ ys) (ap suc e)))

-- ---- outcomes

pub granted_then : {A B W : Type 0} {P : A → Type 0} {Q : B → Type 0} {r : Got W A} {f : A → Got W B} → Granted P r → ((x : A) → P x → Granted Q (f x)) → Granted Q (r >>= f)
unfolding bind
granted_then (grants x p) each = each x p
granted_then (at_fault site) each = at_fault site
granted_then past each = past
granted_then (at_wrong at) each = at_wrong at

pub granted_wrong : {A W : Type 0} {P : A → Type 0} (at : W) {o : Option A} → Holds P o → Granted P (or_wrong at o)
unfolding or_wrong
granted_wrong at (holds x p) = grants x p
granted_wrong at empty = at_wrong at

pub granted_fault : {A W : Type 0} {P : A → Type 0} (site : ℕ) {o : Option A} → Holds P o → Granted {W = W} P (or_fault site o)
unfolding or_fault
granted_fault site (holds x p) = grants x p
granted_fault site empty = at_fault site

pub granted_if : {A W : Type 0} {P : A → Type 0} (b : Bool) {r s : Got W A} → (b ≡ true → Granted P r) → (b ≡ false → Granted P s) → Granted P (when b then r else s)
unfolding choose
granted_if true h k = h refl
granted_if false h k = k refl

pub granted_any : {A W : Type 0} (r : Got W A) → Granted (λ x. Unit {0}) r
granted_any (Gives x) = grants x tt
granted_any (Fault site) = at_fault site
granted_any Over = past
granted_any (Wrong at) = at_wrong at
