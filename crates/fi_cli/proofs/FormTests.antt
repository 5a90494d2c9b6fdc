-- Where no form goes on.
use Rattle.std.proofs.Common.{inl, inr, ◌⊎◌, ◌≡◌, ◌≢◌, ℕ, zero, suc, ◌+◌, ◌<◌, ◌≤◌, List, [], ◌∷◌, ◌++◌, length, take, refl, sym, ap, ◌∙◌, subst, arith, append-nil}
use Rattle.std.specs.Prelude.{codes, slice_get, Some}
use Rattle.std.proofs.lemmas.Option.{slice_get_within}
use Rattle.fic_base.specs.Names.{IsName}
use Rattle.shape_rules.specs.declared.declared.Declared.{Declared}
use Rattle.fi_cli.specs.Forms.{Command, Compile, Run, AreTypeWords, IsCompile, IsRun, IsForm, GoesOn, IsBadAt}
use Rattle.fi_cli.specs.View.{IsNoTypeAt}
use Rattle.fic_base.proofs.NameTests.{no_keyword}
use Rattle.fi_cli.proofs.TypeWords.{type_at}

-- the parts of words
pub same_first : (a b : List ℕ) (more rest : List (List ℕ)) → a ∷ more ≡ b ∷ rest → (a ≡ b) × (more ≡ rest)
same_first a b more rest e = (cc, cc)

commands_differ : codes "compile" ≢ codes "run"
commands_differ e = omega (arith, ap length e)

pub no_run : (more : List (List ℕ)) (f c : List ℕ) (n : ℕ) → IsRun f c n (codes "compile" ∷ more) → ⊥
no_run more f c n h = commands_differ (same_first (codes "compile") (codes "run") more (f ∷ c ∷ h.bound ∷ []) h.are).0

pub no_compile : (more : List (List ℕ)) (f e : List ℕ) (ds : List Declared) → IsCompile f e ds (codes "run" ∷ more) → ⊥
no_compile more f e ds h = commands_differ (sym (same_first (codes "run") (codes "compile") more (f ∷ e ∷ h.types) h.are).0)

f_name : IsName (codes "f")
f_name = record { letter = refl; name_bytes = refl; most = omega arith; no_keyword = no_keyword (codes "f") refl }

pub some_file : codes "f" ≢ []
some_file e = omega (arith, ap length e)

-- ---- no command

front0 : GoesOn []
front0 = (codes "compile" ∷ codes "f" ∷ codes "f" ∷ [], Compile (codes "f") (codes "f") [], record { types = []; are = refl; a_file = some_file; an_entry = f_name; are_types = tt })

command_of : (command : List ℕ) (more : List (List ℕ)) (c : Command) → IsForm c (command ∷ more) → (command ≡ codes "compile") ⊎ (command ≡ codes "run")
command_of command more (Compile file entry ds) h = inl (same_first command (codes "compile") more (file ∷ entry ∷ h.types) h.are).0
command_of command more (Run file cases turns) h = inr (same_first command (codes "run") more (file ∷ cases ∷ h.bound ∷ []) h.are).0

some_words : (words : List (List ℕ)) (c : Command) → IsForm c words → 1 ≤ length words
some_words words (Compile file entry ds) h = omega (arith, ap length h.are)
some_words words (Run file cases turns) h = omega (arith, ap length h.are)

pub bad_end0 : (words : List (List ℕ)) → length words ≡ 0 → IsBadAt words 0
bad_end0 [] e = record { within = omega arith; front = front0; stops = λ l. absurd (omega (arith, l)); ends = λ same c h. absurd (omega (arith, some_words [] c h)) }
bad_end0 (w ∷ ws) e = absurd (omega (arith, e))

pub bad0 : (words : List (List ℕ)) (command : List ℕ) (rest : List (List ℕ)) → words ≡ command ∷ rest → command ≢ codes "compile" → command ≢ codes "run" → IsBadAt words 0
bad0 words command rest w n m = subst (λ x. IsBadAt x 0) (sym w) (record {
  within = omega arith;
  front = front0;
  stops = λ l h. by (command_of command h.0 h.1 h.2);
  ends = λ same. absurd (omega (arith, same));
})
  where
    by : (command ≡ codes "compile") ⊎ (command ≡ codes "run") → ⊥
    by (inl e) = n e
    by (inr e) = m e

-- ---- compile

front1 : GoesOn (codes "compile" ∷ [])
front1 = (codes "f" ∷ codes "f" ∷ [], Compile (codes "f") (codes "f") [], record { types = []; are = refl; a_file = some_file; an_entry = f_name; are_types = tt })

front2 : (file : List ℕ) → file ≢ [] → GoesOn (codes "compile" ∷ file ∷ [])
front2 file f = (codes "f" ∷ [], Compile file (codes "f") [], record { types = []; are = refl; a_file = f; an_entry = f_name; are_types = tt })

front3 : (file entry : List ℕ) (types : List (List ℕ)) (ds : List Declared) → file ≢ [] → IsName entry → AreTypeWords types ds → GoesOn (codes "compile" ∷ file ∷ entry ∷ types)
front3 file entry types ds f e t =
    ([], Compile file entry ds, record { types = types; are = append-nil (codes "compile" ∷ file ∷ entry ∷ types); a_file = f; an_entry = e; are_types = t })

file_of : (file : List ℕ) (more : List (List ℕ)) (c : Command) → IsForm c (codes "compile" ∷ file ∷ more) → file ≢ []
file_of file more (Compile f entry ds) h e =
    let rest = (same_first (codes "compile") (codes "compile") (file ∷ more) (f ∷ entry ∷ h.types) h.are).1 in
    h.a_file (sym (same_first file f more (entry ∷ h.types) rest).0 ∙ e)
file_of file more (Run f c n) h e = no_run (file ∷ more) f c n h

entry_of : (file entry : List ℕ) (more : List (List ℕ)) (c : Command) → IsForm c (codes "compile" ∷ file ∷ entry ∷ more) → IsName entry
entry_of file entry more (Compile f e ds) h =
    let rest = (same_first (codes "compile") (codes "compile") (file ∷ entry ∷ more) (f ∷ e ∷ h.types) h.are).1 in
    let last = (same_first file f (entry ∷ more) (e ∷ h.types) rest).1 in
    subst IsName (sym (same_first entry e more h.types last).0) h.an_entry
entry_of file entry more (Run f c n) h = absurd (no_run (file ∷ entry ∷ more) f c n h)

types_of : (file entry : List ℕ) (more : List (List ℕ)) (c : Command) → IsForm c (codes "compile" ∷ file ∷ entry ∷ more) → (ds : List Declared) × AreTypeWords more ds
types_of file entry more (Compile f e ds) h =
    let rest = (same_first (codes "compile") (codes "compile") (file ∷ entry ∷ more) (f ∷ e ∷ h.types) h.are).1 in
    let last = (same_first file f (entry ∷ more) (e ∷ h.types) rest).1 in
    (ds, subst (λ ws. AreTypeWords ws ds) (sym (same_first entry e more h.types last).1) h.are_types)
types_of file entry more (Run f c n) h = absurd (no_run (file ∷ entry ∷ more) f c n h)

long : (more : List (List ℕ)) (c : Command) → IsForm c (codes "compile" ∷ more) → 2 ≤ length more
long more (Compile file entry ds) h = omega (arith, ap length h.are)
long more (Run file cases turns) h = absurd (no_run more file cases turns h)

pub bad_end1 : (rest : List (List ℕ)) → length rest ≡ 0 → IsBadAt (codes "compile" ∷ rest) 1
bad_end1 [] e = record { within = omega arith; front = front1; stops = λ l. absurd (omega (arith, l)); ends = λ same c h. absurd (omega (arith, long [] c h)) }
bad_end1 (x ∷ rest) e = absurd (omega (arith, e))

pub bad1 : (ws : List (List ℕ)) (file : List ℕ) (rest : List (List ℕ)) → ws ≡ file ∷ rest → file ≡ [] → IsBadAt (codes "compile" ∷ ws) 1
bad1 ws file rest w f = subst (λ x. IsBadAt (codes "compile" ∷ x) 1) (sym w) (record {
  within = omega arith;
  front = front1;
  stops = λ l h. file_of file h.0 h.1 h.2 f;
  ends = λ same. absurd (omega (arith, same));
})

pub bad_end2 : (ws : List (List ℕ)) (file : List ℕ) (rest : List (List ℕ)) → ws ≡ file ∷ rest → file ≢ [] → length rest ≡ 0 → IsBadAt (codes "compile" ∷ ws) 2
bad_end2 ws file [] w f e = subst (λ x. IsBadAt (codes "compile" ∷ x) 2) (sym w) (record {
  within = omega arith;
  front = front2 file f;
  stops = λ l. absurd (omega (arith, l));
  ends = λ same c h. absurd (omega (arith, long (file ∷ []) c h));
})
bad_end2 ws file (x ∷ rest) w f e = absurd (omega (arith, e))

pub bad2 : (ws : List (List ℕ)) (file entry : List ℕ) (rest : List (List ℕ)) → ws ≡ file ∷ entry ∷ rest → file ≢ [] → (IsName entry → ⊥) → IsBadAt (codes "compile" ∷ ws) 2
bad2 ws file entry rest w f e = subst (λ x. IsBadAt (codes "compile" ∷ x) 2) (sym w) (record {
  within = omega arith;
  front = front2 file f;
  stops = λ l h. e (entry_of file entry h.0 h.1 h.2);
  ends = λ same. absurd (omega (arith, same));
})

taken : (types more : List (List ℕ)) (k : ℕ) (word : List ℕ) → slice_get types k ≡ Some word → slice_get (take (suc k) types ++ more) k ≡ Some word
taken [] more k word e = absurd (omega (arith, slice_get_within [] k word e))
taken (x ∷ types) more zero word e = e
taken (x ∷ types) more (suc k) word e = taken types more k word e

pub bad3 : (ws : List (List ℕ)) (file entry : List ℕ) (rest : List (List ℕ)) (k n : ℕ) → ws ≡ file ∷ entry ∷ rest → file ≢ [] → IsName entry → IsNoTypeAt rest k → n ≡ k + 3 → IsBadAt (codes "compile" ∷ ws) n
bad3 ws file entry rest k n w f e t same =
    let at : suc (suc (suc k)) ≡ n = omega (arith, same) in
    let less = slice_get_within rest k t.word t.there in
    subst (λ x. IsBadAt (codes "compile" ∷ x) n) (sym w) (subst (IsBadAt (codes "compile" ∷ file ∷ entry ∷ rest)) at (record {
      within = omega (arith, less);
      front = front3 file entry (take k rest) t.ds f e t.front;
      stops = λ l h.
          let ds = types_of file entry (take (suc k) rest ++ h.0) h.1 (subst (λ x. IsForm h.1 (x ++ h.0)) (next k) h.2) in
          let d = type_at (take (suc k) rest ++ h.0) ds.0 k t.word ds.1 (taken rest h.0 k t.word t.there) in
          t.none d.0 d.1;
      ends = λ same. absurd (omega (arith, less, same));
    }))
  where
    next : (m : ℕ) → take (suc (suc (suc m)) + 1) (codes "compile" ∷ file ∷ entry ∷ rest) ≡ codes "compile" ∷ file ∷ entry ∷ take (suc m) rest
    next m = let one : suc (suc (suc m)) + 1 ≡ suc (suc (suc (suc m))) = omega arith in ap (λ (j : ℕ). take j (codes "compile" ∷ file ∷ entry ∷ rest)) one

pub is_form : (ws : List (List ℕ)) (file entry : List ℕ) (rest : List (List ℕ)) (ds : List Declared) → ws ≡ file ∷ entry ∷ rest → file ≢ [] → IsName entry → AreTypeWords rest ds → IsCompile file entry ds (codes "compile" ∷ ws)
is_form ws file entry rest ds w f e t = record { types = rest; are = ap (λ x. codes "compile" ∷ x) w; a_file = f; an_entry = e; are_types = t }
