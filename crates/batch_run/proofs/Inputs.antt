-- The inputs of a case fit the arrays of its program.
use Rattle.std.proofs.Common.{◌≡◌, ℕ, zero, suc, ◌-◌, ◌*◌, ◌^◌, ◌≤◌, Bool, true, false, ℤ, pos, neg_ℤ, ◌≤ℤ◌, ◌<ℤ◌, List, [], ◌∷◌, ◌++◌, length, map, refl, sym, ap, ◌∙◌, subst, arith, Some, if◌then◌else◌}
use Rattle.std.specs.Prelude.{flat_map, slice_get}
use Rattle.std.specs.List.{All}
use Rattle.std.proofs.lemmas.Int.{ints}
use Rattle.std.proofs.lemmas.List.Elements.{All-head, All-tail, All-weaker}
use Rattle.std.proofs.lemmas.Option.{slice_get_within}
use Rattle.num_type.specs.declared.container.Container.{Container}
use Rattle.num_type.specs.Containers.{bits_of, is_signed_container}
use Rattle.num_type.specs.Types.{NumericType, IsWithin, least_of, greatest_of, low, high}
use Rattle.c_tree.specs.Tree.{Kind, Fixed, Logical, Slot, Program}
use Rattle.c_tree.specs.declared.array_names.Array.{Array}
use Rattle.c_tree.specs.Names.{Fronts, input_fronts, container_for, kind_container, is_complex, parts, slot_arrays, input_arrays, arrays_of}
use Rattle.c_tree.specs.WellFormed.{IsKind, IsSlot, IsInterface}
use Rattle.c_run.specs.Fit as run
use Rattle.c_run.specs.Fit.{IsFit, AreFit}
use Rattle.case_io.specs.Cases as case
use Rattle.case_io.specs.Cases.{Range, kind_range, part_ranges, slot_ranges, input_ranges}
use Rattle.c_tree.proofs.Containers.{container_sign, container_bits}
use Rattle.batch_run.proofs.Powers.{pow_mono, pow_pos}

-- the range of a type lies in that of its container
by_sign : (s : Bool) (c : Container) (w : ℕ) (z : ℤ) → is_signed_container c ≡ s → w ≤ bits_of c → 1 ≤ w → least_of s w ≤ℤ z → z ≤ℤ greatest_of s w → IsFit c z
by_sign true c w z sign le one least most =
    let m = pow_mono (w - 1) (bits_of c - 1) (omega (arith, le)) in
    let p = pow_pos (w - 1) in
    record {
      least = subst (λ b. (if b then neg_ℤ (pos (2 ^ (bits_of c - 1))) else pos 0) ≤ℤ z) (sym sign) (omega (arith, ints, least, m));
      most = subst (λ b. z <ℤ (if b then pos (2 ^ (bits_of c - 1)) else pos (2 ^ bits_of c))) (sym sign) (omega (arith, ints, most, m, p));
    }
by_sign false c w z sign le one least most =
    let m = pow_mono w (bits_of c) le in
    let p = pow_pos w in
    record {
      least = subst (λ b. (if b then neg_ℤ (pos (2 ^ (bits_of c - 1))) else pos 0) ≤ℤ z) (sym sign) least;
      most = subst (λ b. z <ℤ (if b then pos (2 ^ (bits_of c - 1)) else pos (2 ^ bits_of c))) (sym sign) (omega (arith, ints, most, m, p));
    }

kind_fits : (k : Kind) (n : ℕ) (z : ℤ) → IsKind k → case.IsWithin (kind_range k n) z → IsFit (kind_container k) z
kind_fits (Fixed t complex) n z h r =
    let w = h t complex refl in
    by_sign t.signed (container_for t.signed t.word) t.word z (container_sign t.signed t.word) (container_bits t.signed t.word w.bits) w.one_bit r.0 r.1
kind_fits Logical n z h r = record { least = r.0; most = omega (arith, ints, r.1) }

-- what is in a range fits an array, of as many elements
pub record Fits (r : Range) (a : Array) : Type 0 where
  pub count : r.count ≡ a.extent
  pub fit : (z : ℤ) → case.IsWithin r z → IsFit a.container z

abbrev AllFit : List Range → List Array → Type 0
AllFit [] [] = Unit {0}
AllFit (r ∷ rs) (b ∷ bs) = Fits r b × AllFit rs bs
AllFit rs bs = ⊥

both_fit : (rs : List Range) (bs : List Array) (ss : List Range) (cs : List Array) → AllFit rs bs → AllFit ss cs → AllFit (rs ++ ss) (bs ++ cs)
both_fit [] [] ss cs h g = g
both_fit [] (b ∷ bs) ss cs h g = absurd h
both_fit (r ∷ rs) [] ss cs h g = absurd h
both_fit (r ∷ rs) (b ∷ bs) ss cs h g = (h.0, both_fit rs bs ss cs h.1 g)

parts_fit : (f : Fronts) (name : List ℕ) (c : Container) (n : ℕ) (r : Range) (b : Bool) → r.count ≡ n → ((z : ℤ) → case.IsWithin r z → IsFit c z) → AllFit (part_ranges r b) (parts f name c n b)
parts_fit f name c n r false e g = (record { count = e; fit = g }, tt)
parts_fit f name c n r true e g = (record { count = e; fit = g }, (record { count = e; fit = g }, tt))

slots_fit : (f : Fronts) (ss : List Slot) → All IsSlot ss → AllFit (flat_map slot_ranges ss) (flat_map (slot_arrays f) ss)
slots_fit f [] h = tt
slots_fit f (s ∷ ss) h =
    both_fit (slot_ranges s) (slot_arrays f s) (flat_map slot_ranges ss) (flat_map (slot_arrays f) ss)
    (parts_fit f s.name (kind_container s.kind) (s.rows * s.columns) (kind_range s.kind (s.rows * s.columns)) (is_complex s.kind) (count_of s.kind (s.rows * s.columns))
    (λ z. kind_fits s.kind (s.rows * s.columns) z (All-head IsSlot s ss h).kind))
    (slots_fit f ss (All-tail IsSlot s ss h))
  where
    count_of : (k : Kind) (n : ℕ) → (kind_range k n).count ≡ n
    count_of (Fixed t complex) n = refl
    count_of Logical n = refl

lists_fit : (rs : List Range) (bs : List Array) (lists : List (List ℤ)) → AllFit rs bs → case.AreInputs rs lists → run.FitArrays bs lists
lists_fit [] [] [] h g = record { lengths = refl; fit = λ k a xs e. absurd (omega (arith, slice_get_within [] k a e)) }
lists_fit [] [] (xs ∷ lists) h g = absurd g
lists_fit [] (b ∷ bs) lists h g = absurd h
lists_fit (r ∷ rs) [] lists h g = absurd h
lists_fit (r ∷ rs) (b ∷ bs) [] h g = absurd g
lists_fit (r ∷ rs) (b ∷ bs) (xs ∷ lists) h g =
    let rest = lists_fit rs bs lists h.1 g.2 in
    record { lengths = λ i. (g.0 ∙ h.0.count) i ∷ rest.lengths i; fit = at rest }
  where
    at : run.FitArrays bs lists → (k : ℕ) (a : Array) (ys : List ℤ) → slice_get (b ∷ bs) k ≡ Some a → slice_get (xs ∷ lists) k ≡ Some ys → AreFit a.container ys
    at rest zero a ys e f =
        let same : b ≡ a = cc in
        let list : xs ≡ ys = cc in
        subst (λ c. AreFit c.container ys) same (subst (AreFit b.container) list (All-weaker (case.IsWithin r) (IsFit b.container) h.0.fit xs g.1))
    at rest (suc k) a ys e f = rest.fit k a ys e f

pub inputs_fit : (p : Program) (lists : List (List ℤ)) → IsInterface p.interface → case.AreInputs (input_ranges p.interface) lists → run.FitArrays (arrays_of p).inputs lists
inputs_fit p lists h g = lists_fit (input_ranges p.interface) (input_arrays p.interface) lists (slots_fit input_fronts p.interface.inputs h.inputs) g
