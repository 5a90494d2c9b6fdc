-- What the results of a walk have that pass.
use Rattle.std.proofs.Common.{Bool, true, false}
use Rattle.walk_scope.specs.Told.{Told, Passes, Refuses, bind, choose}

-- the result has the property, if there is one
abbrev pub Passing : {A : Type 0} → (A → Type 0) → Told A → Type 0
Passing P (Passes x) = P x
Passing P (Refuses code at shown) = Unit {0}

-- any result
abbrev pub Any : {A : Type 0} → A → Type 0
Any x = Unit {0}

pub any : {A : Type 0} (x : Told A) → Passing Any x
any (Passes x) = tt
any (Refuses code at shown) = tt

pub goes_on : {A B : Type 0} (P : A → Type 0) (Q : B → Type 0) (x : Told A) (f : A → Told B) → Passing P x → ((a : A) → P a → Passing Q (f a)) → Passing Q (bind x f)
unfolding bind
goes_on P Q (Passes x) f h next = next x h
goes_on P Q (Refuses code at shown) f h next = tt

-- whatever passed before
pub after_any : {A B : Type 0} (Q : B → Type 0) (x : Told A) (f : A → Told B) → ((a : A) → Passing Q (f a)) → Passing Q (bind x f)
after_any Q x f next = goes_on Any Q x f (any x) (λ a u. next a)

pub either : {A : Type 0} (P : A → Type 0) (b : Bool) (x y : Told A) → Passing P x → Passing P y → Passing P (choose b x y)
unfolding choose
either P true x y h k = h
either P false x y h k = k
