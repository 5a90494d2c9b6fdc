-- Token lists in a row.
use Rattle.std.proofs.Common.{ℕ, zero, suc, List, refl, sym, subst}
use Rattle.mat_token.specs.Lexeme.{Lexeme}
use Rattle.mat_grammar.specs.Lang.{Lang, Joined, times, many}

pub join : {F G : Lang} {ts rest : List Lexeme} (m : List Lexeme) → F ts m → G m rest → Joined F G ts rest
join m a b = record { middle = m; before = a; after = b }

-- the second, seen otherwise
pub under : {F G H : Lang} {ts rest : List Lexeme} → ((t r : List Lexeme) → G t r → H t r) → Joined F G ts rest → Joined F H ts rest
under f h = record { middle = h.middle; before = h.before; after = f h.middle _ h.after }

-- a row and one more behind it, regrouped to the right
pub push : {A B C : Lang} {ts rest : List Lexeme} → Joined (Joined A B) C ts rest → Joined A (Joined B C) ts rest
push h = record { middle = h.before.middle; before = h.before.before; after = record { middle = h.middle; before = h.before.after; after = h.after } }

pub push2 : {A B C D : Lang} {ts rest : List Lexeme} → Joined (Joined A (Joined B C)) D ts rest → Joined A (Joined B (Joined C D)) ts rest
push2 h = under (λ t r. push) (push h)

pub push3 : {A B C D E : Lang} {ts rest : List Lexeme} → Joined (Joined A (Joined B (Joined C D))) E ts rest → Joined A (Joined B (Joined C (Joined D E))) ts rest
push3 h = under (λ t r. push2) (push h)

pub push4 : {A B C D E F : Lang} {ts rest : List Lexeme} → Joined (Joined A (Joined B (Joined C (Joined D E)))) F ts rest → Joined A (Joined B (Joined C (Joined D (Joined E F)))) ts rest
push4 h = under (λ t r. push3) (push h)

pub push5 : {A B C D E F G : Lang} {ts rest : List Lexeme} → Joined (Joined A (Joined B (Joined C (Joined D (Joined E F))))) G ts rest → Joined A (Joined B (Joined C (Joined D (Joined E (Joined F G))))) ts rest
push5 h = under (λ t r. push4) (push h)

pub many_none : (set : Lang) (ts : List Lexeme) → many set ts ts
many_none set ts = (0, refl)

pub many_first : (set : Lang) (ts m rest : List Lexeme) → set ts m → many set m rest → many set ts rest
many_first set ts m rest h k = (suc k.0, record { middle = m; before = h; after = k.1 })

times_last : (n : ℕ) (set : Lang) (ts m rest : List Lexeme) → times n set ts m → set m rest → times (suc n) set ts rest
times_last zero set ts m rest h k = record { middle = rest; before = subst (λ z. set z rest) (sym h) k; after = refl }
times_last (suc n) set ts m rest h k = record { middle = h.middle; before = h.before; after = times_last n set h.middle m rest h.after k }

pub many_last : (set : Lang) (ts m rest : List Lexeme) → many set ts m → set m rest → many set ts rest
many_last set ts m rest h k = (suc h.0, times_last h.0 set ts m rest h.1 k)
