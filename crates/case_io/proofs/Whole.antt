-- What a reader of a whole case answers.
use Rattle.std.proofs.Common.{◌≡◌, ℕ, false, true, List, length, map, sym, ap, ◌∙◌, nat_eq, None, Some}
use Rattle.std.specs.Prelude.{ℤ}
use Rattle.std.specs.Global.{Vec}
use Rattle.std.proofs.lemmas.Bool.Decides.{eqb_tells}
use Rattle.std.proofs.Common.{inl, inr, ◌⊎◌, ◌≢◌}
use Rattle.case_io.specs.Cases.{Range, elements}
use Rattle.case_io.specs.Plain.{AreLines, HasForm, IsCase, HasNoForm, HasBadValue, value_of}
use Rattle.case_io.specs.Reads.{ReadsArrays, lists_of}
use Rattle.case_io.proofs.Lines.{one_list}

is_equal : (a b : ℕ) → a ≡ b → nat_eq a b ≡ false → ⊥
is_equal a b e n = by (eqb_tells a b)
  where
    by : ((nat_eq a b ≡ true) × (a ≡ b)) ⊎ ((nat_eq a b ≡ false) × (a ≢ b)) → ⊥
    by (inl p) = cc
    by (inr p) = p.1 e

pub equal : (a b : ℕ) → nat_eq a b ≡ true → a ≡ b
equal a b h = by (eqb_tells a b)
  where
    by : ((nat_eq a b ≡ true) × (a ≡ b)) ⊎ ((nat_eq a b ≡ false) × (a ≢ b)) → a ≡ b
    by (inl p) = p.1
    by (inr p) = absurd (cc)

pub bad_count : (rs : List Range) (found : List (List ℕ)) (bytes : List ℕ) → AreLines found bytes → nat_eq (length found) (elements rs) ≡ false → HasNoForm rs bytes
bad_count rs found bytes lines n texts form = is_equal (length found) (elements rs) (ap length (sym (one_list found texts bytes lines form.lines)) ∙ form.count) n

pub bad_value : (rs : List Range) (found : List (List ℕ)) (bytes : List ℕ) → HasForm rs found bytes → ReadsArrays None rs found → HasBadValue rs bytes
bad_value rs found bytes form none = record {
  texts = found;
  form = form;
  none = λ inputs case. none inputs case.inputs_are (case.values ∙ ap (map value_of) (one_list found case.texts bytes form.lines case.form.lines));
}

pub is_case : (rs : List Range) (found : List (List ℕ)) (bytes : List ℕ) (arrays : Vec (Vec ℤ)) → HasForm rs found bytes → ReadsArrays (Some arrays) rs found → IsCase rs (lists_of arrays.items) bytes
is_case rs found bytes arrays form read = record { texts = found; form = form; inputs_are = read.0; values = read.1 }
