-- Lines of canonical decimals.
use Rattle.std.proofs.Common.{arith, ◌≡◌, ℕ, ◌<◌, false, List, [], ◌∷◌, ◌++◌, length, refl, sym, ap, ◌∙◌, subst, append_assoc, append-nil, IsTrue, All}
use Rattle.std.specs.Prelude.{codes}
use Rattle.std.proofs.lemmas.List.Elements.{All-head, All-tail}
use Rattle.shape_rules.specs.Pieces.{Lacks}
use Rattle.shape_rules.proofs.Splits.{same_split, no_mark}
use Rattle.case_io.specs.Plain.{is_canonical, lines_of, AreLines}
use Rattle.case_io.proofs.Texts.{canonical_lacks, none_is}

abbrev is : List ℕ → Type 0
is text = IsTrue (is_canonical text)

-- all of these texts are canonical
abbrev pub AreCanonical : List (List ℕ) → Type 0
AreCanonical = All is

-- what comes behind lines that were read
pub record Behind (done texts : List (List ℕ)) (rest : List ℕ) : Type 0 where
  pub more : List (List ℕ)
  pub whole : texts ≡ done ++ more
  pub lines : rest ≡ lines_of more
  pub canonical : AreCanonical more

pub line_front : (t : List ℕ) (ts : List (List ℕ)) → lines_of (t ∷ ts) ≡ t ++ 10 ∷ lines_of ts
line_front t ts = append_assoc t (codes "\n") (lines_of ts)

no_text : (d rest : List ℕ) → [] ≡ d ++ 10 ∷ rest → ⊥
no_text [] rest e = cc
no_text (x ∷ d) rest e = cc

pub goes_on : (done texts : List (List ℕ)) (rest : List ℕ) → AreCanonical done → AreCanonical texts → lines_of texts ≡ lines_of done ++ rest → Behind done texts rest
goes_on [] texts rest p q e = record { more = texts; whole = refl; lines = sym e; canonical = q }
goes_on (d ∷ ds) [] rest p q e = absurd (no_text d (lines_of ds ++ rest) (e ∙ ap (λ l. l ++ rest) (line_front d ds) ∙ append_assoc d (10 ∷ lines_of ds) rest))
goes_on (d ∷ ds) (t ∷ ts) rest p q e =
    let joined : t ++ 10 ∷ lines_of ts ≡ d ++ 10 ∷ (lines_of ds ++ rest) = sym (line_front t ts) ∙ e ∙ ap (λ l. l ++ rest) (line_front d ds) ∙ append_assoc d (10 ∷ lines_of ds) rest in
    let same = same_split 10 t (lines_of ts) d (lines_of ds ++ rest) (canonical_lacks t (All-head is t ts q)) (canonical_lacks d (All-head is d ds p)) joined in
    let behind = goes_on ds ts rest (All-tail is d ds p) (All-tail is t ts q) same.1 in
    record { more = behind.more; whole = (λ i. same.0 i ∷ behind.whole i); lines = behind.lines; canonical = behind.canonical }

-- no line begins where no newline stands
pub no_line : (done : List (List ℕ)) (rest bytes : List ℕ) → AreCanonical done → bytes ≡ lines_of done ++ rest → 0 < length rest → Lacks 10 rest → (texts : List (List ℕ)) → AreLines texts bytes → ⊥
no_line done rest bytes p e h none texts lines =
    let behind = goes_on done texts rest p lines.canonical (sym lines.whole ∙ e) in
    by behind.more behind.lines
  where
    by : (more : List (List ℕ)) → rest ≡ lines_of more → ⊥
    by [] q = omega (arith, h, ap length q)
    by (m ∷ ms) q = no_mark 10 m (lines_of ms) (subst (Lacks 10) (q ∙ line_front m ms) none)

-- no line of a decimal begins where the next line is none
pub bad_line : (done : List (List ℕ)) (rest bytes text behind : List ℕ) → AreCanonical done → bytes ≡ lines_of done ++ rest → rest ≡ text ++ 10 ∷ behind → Lacks 10 text → is_canonical text ≡ false → (texts : List (List ℕ)) → AreLines texts bytes → ⊥
bad_line done rest bytes text behind p e split lacks bad texts lines =
    let b = goes_on done texts rest p lines.canonical (sym lines.whole ∙ e) in
    by b.more b.lines b.canonical
  where
    by : (more : List (List ℕ)) → rest ≡ lines_of more → AreCanonical more → ⊥
    by [] q c = no_text text behind (sym q ∙ split)
    by (m ∷ ms) q c =
        let same = same_split 10 text behind m (lines_of ms) lacks (canonical_lacks m (All-head is m ms c)) (sym split ∙ q ∙ line_front m ms) in
        none_is (is_canonical text) (ap is_canonical same.0 ∙ All-head is m ms c) bad

nothing_left : (more : List (List ℕ)) → [] ≡ lines_of more → more ≡ []
nothing_left [] e = refl
nothing_left (m ∷ ms) e = absurd (no_text m (lines_of ms) (e ∙ line_front m ms))

-- bytes are lines of one list of texts
pub one_list : (a b : List (List ℕ)) (bytes : List ℕ) → AreLines a bytes → AreLines b bytes → b ≡ a
one_list a b bytes p q =
    let behind = goes_on a b [] p.canonical q.canonical (sym q.whole ∙ p.whole ∙ sym (append-nil (lines_of a))) in
    behind.whole ∙ ap (λ l. a ++ l) (nothing_left behind.more behind.lines) ∙ append-nil a
