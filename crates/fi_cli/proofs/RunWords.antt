-- Where no form of a run goes on.
use Rattle.std.proofs.Common.{◌≡◌, ◌≢◌, ℕ, suc, ◌+◌, ◌<◌, ◌≤◌, List, [], ◌∷◌, ◌++◌, length, take, refl, sym, ap, ◌∙◌, subst, arith}
use Rattle.std.specs.Prelude.{codes, decimal}
use Rattle.fi_cli.specs.Forms.{Command, Compile, Run, IsTurnsWord, IsRun, IsForm, GoesOn, IsBadAt}
use Rattle.fi_cli.proofs.FormTests.{same_first, no_compile, some_file}

no_turns : IsTurnsWord (decimal 0) 0
no_turns = record { text = refl; most = omega arith }

front1 : GoesOn (codes "run" ∷ [])
front1 = (codes "f" ∷ codes "f" ∷ decimal 0 ∷ [], Run (codes "f") (codes "f") 0, record { bound = decimal 0; are = refl; a_file = some_file; a_case_file = some_file; a_bound = no_turns })

front2 : (file : List ℕ) → file ≢ [] → GoesOn (codes "run" ∷ file ∷ [])
front2 file f = (codes "f" ∷ decimal 0 ∷ [], Run file (codes "f") 0, record { bound = decimal 0; are = refl; a_file = f; a_case_file = some_file; a_bound = no_turns })

front3 : (file cases : List ℕ) → file ≢ [] → cases ≢ [] → GoesOn (codes "run" ∷ file ∷ cases ∷ [])
front3 file cases f c = (decimal 0 ∷ [], Run file cases 0, record { bound = decimal 0; are = refl; a_file = f; a_case_file = c; a_bound = no_turns })

front4 : (file cases bound : List ℕ) (n : ℕ) → file ≢ [] → cases ≢ [] → IsTurnsWord bound n → GoesOn (codes "run" ∷ file ∷ cases ∷ bound ∷ [])
front4 file cases bound n f c b = ([], Run file cases n, record { bound = bound; are = refl; a_file = f; a_case_file = c; a_bound = b })

-- the parts of a form's words
pub record Parts (more : List (List ℕ)) : Type 0 where
  pub file : List ℕ
  pub cases : List ℕ
  pub turns : ℕ
  pub bound : List ℕ
  pub are : more ≡ file ∷ cases ∷ bound ∷ []
  pub a_file : file ≢ []
  pub a_case_file : cases ≢ []
  pub a_bound : IsTurnsWord bound turns

parts_of : (more : List (List ℕ)) (c : Command) → IsForm c (codes "run" ∷ more) → Parts more
parts_of more (Compile f e ds) h = absurd (no_compile more f e ds h)
parts_of more (Run f c n) h = record {
  file = f;
  cases = c;
  turns = n;
  bound = h.bound;
  are = (same_first (codes "run") (codes "run") more (f ∷ c ∷ h.bound ∷ []) h.are).1;
  a_file = h.a_file;
  a_case_file = h.a_case_file;
  a_bound = h.a_bound;
}

long : (more : List (List ℕ)) (c : Command) → IsForm c (codes "run" ∷ more) → length more ≡ 3
long more c h = ap length (parts_of more c h).are

file_of : (file : List ℕ) (more : List (List ℕ)) (c : Command) → IsForm c (codes "run" ∷ file ∷ more) → file ≢ []
file_of file more c h e =
    let p = parts_of (file ∷ more) c h in
    p.a_file (sym (same_first file p.file more (p.cases ∷ p.bound ∷ []) p.are).0 ∙ e)

cases_of : (file cases : List ℕ) (more : List (List ℕ)) (c : Command) → IsForm c (codes "run" ∷ file ∷ cases ∷ more) → cases ≢ []
cases_of file cases more c h e =
    let p = parts_of (file ∷ cases ∷ more) c h in
    let rest = (same_first file p.file (cases ∷ more) (p.cases ∷ p.bound ∷ []) p.are).1 in
    p.a_case_file (sym (same_first cases p.cases more (p.bound ∷ []) rest).0 ∙ e)

turns_of : (file cases bound : List ℕ) (more : List (List ℕ)) (c : Command) → IsForm c (codes "run" ∷ file ∷ cases ∷ bound ∷ more) → (n : ℕ) × IsTurnsWord bound n
turns_of file cases bound more c h =
    let p = parts_of (file ∷ cases ∷ bound ∷ more) c h in
    let rest = (same_first file p.file (cases ∷ bound ∷ more) (p.cases ∷ p.bound ∷ []) p.are).1 in
    let last = (same_first cases p.cases (bound ∷ more) (p.bound ∷ []) rest).1 in
    (p.turns, subst (λ w. IsTurnsWord w p.turns) (sym (same_first bound p.bound more [] last).0) p.a_bound)

pub run_end1 : (rest : List (List ℕ)) → length rest ≡ 0 → IsBadAt (codes "run" ∷ rest) 1
run_end1 [] e = record { within = omega arith; front = front1; stops = λ l. absurd (omega (arith, l)); ends = λ same c h. absurd (omega (arith, long [] c h)) }
run_end1 (x ∷ rest) e = absurd (omega (arith, e))

pub run1 : (ws : List (List ℕ)) (file : List ℕ) (rest : List (List ℕ)) → ws ≡ file ∷ rest → file ≡ [] → IsBadAt (codes "run" ∷ ws) 1
run1 ws file rest w f = subst (λ x. IsBadAt (codes "run" ∷ x) 1) (sym w) (record {
  within = omega arith;
  front = front1;
  stops = λ l h. file_of file h.0 h.1 h.2 f;
  ends = λ same. absurd (omega (arith, same));
})

pub run_end2 : (ws : List (List ℕ)) (file : List ℕ) (rest : List (List ℕ)) → ws ≡ file ∷ rest → file ≢ [] → length rest ≡ 0 → IsBadAt (codes "run" ∷ ws) 2
run_end2 ws file [] w f e = subst (λ x. IsBadAt (codes "run" ∷ x) 2) (sym w) (record {
  within = omega arith;
  front = front2 file f;
  stops = λ l. absurd (omega (arith, l));
  ends = λ same c h. absurd (omega (arith, long (file ∷ []) c h));
})
run_end2 ws file (x ∷ rest) w f e = absurd (omega (arith, e))

pub run2 : (ws : List (List ℕ)) (file cases : List ℕ) (rest : List (List ℕ)) → ws ≡ file ∷ cases ∷ rest → file ≢ [] → cases ≡ [] → IsBadAt (codes "run" ∷ ws) 2
run2 ws file cases rest w f c = subst (λ x. IsBadAt (codes "run" ∷ x) 2) (sym w) (record {
  within = omega arith;
  front = front2 file f;
  stops = λ l h. cases_of file cases h.0 h.1 h.2 c;
  ends = λ same. absurd (omega (arith, same));
})

pub run_end3 : (ws : List (List ℕ)) (file cases : List ℕ) (rest : List (List ℕ)) → ws ≡ file ∷ cases ∷ rest → file ≢ [] → cases ≢ [] → length rest ≡ 0 → IsBadAt (codes "run" ∷ ws) 3
run_end3 ws file cases [] w f c e = subst (λ x. IsBadAt (codes "run" ∷ x) 3) (sym w) (record {
  within = omega arith;
  front = front3 file cases f c;
  stops = λ l. absurd (omega (arith, l));
  ends = λ same d h. absurd (omega (arith, long (file ∷ cases ∷ []) d h));
})
run_end3 ws file cases (x ∷ rest) w f c e = absurd (omega (arith, e))

pub run3 : (ws : List (List ℕ)) (file cases bound : List ℕ) (rest : List (List ℕ)) → ws ≡ file ∷ cases ∷ bound ∷ rest → file ≢ [] → cases ≢ [] → ((n : ℕ) → IsTurnsWord bound n → ⊥) → IsBadAt (codes "run" ∷ ws) 3
run3 ws file cases bound rest w f c b = subst (λ x. IsBadAt (codes "run" ∷ x) 3) (sym w) (record {
  within = omega arith;
  front = front3 file cases f c;
  stops = λ l h. let t = turns_of file cases bound h.0 h.1 h.2 in b t.0 t.1;
  ends = λ same. absurd (omega (arith, same));
})

pub run4 : (ws : List (List ℕ)) (file cases bound : List ℕ) (rest : List (List ℕ)) (n : ℕ) → ws ≡ file ∷ cases ∷ bound ∷ rest → file ≢ [] → cases ≢ [] → IsTurnsWord bound n → 0 < length rest → IsBadAt (codes "run" ∷ ws) 4
run4 ws file cases bound [] n w f c b more = absurd (omega (arith, more))
run4 ws file cases bound (x ∷ rest) n w f c b more = subst (λ y. IsBadAt (codes "run" ∷ y) 4) (sym w) (record {
  within = omega arith;
  front = front4 file cases bound n f c b;
  stops = λ l h. omega (arith, long (file ∷ cases ∷ bound ∷ x ∷ h.0) h.1 h.2);
  ends = λ same. absurd (omega (arith, same));
})

pub is_run : (ws : List (List ℕ)) (file cases bound : List ℕ) (rest : List (List ℕ)) (n : ℕ) → ws ≡ file ∷ cases ∷ bound ∷ rest → file ≢ [] → cases ≢ [] → IsTurnsWord bound n → length rest ≡ 0 → IsRun file cases n (codes "run" ∷ ws)
is_run ws file cases bound [] n w f c b e = record { bound = bound; are = ap (λ x. codes "run" ∷ x) w; a_file = f; a_case_file = c; a_bound = b }
is_run ws file cases bound (x ∷ rest) n w f c b e = absurd (omega (arith, e))
