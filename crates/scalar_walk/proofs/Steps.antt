-- Steps of loops over inputs, slots and outputs.
use Rattle.std.proofs.Common.{◌≡◌, ℕ, zero, suc, ◌+◌, ◌≤◌, List, [], ◌∷◌, ◌++◌, length, map, drop, ◌⊎◌, inl, inr, Option, Some, None, refl, sym, ap, ◌∙◌, arith, append_assoc, append-nil}
use Rattle.std.specs.Prelude.{min}
use Rattle.std.proofs.Math.Nat.{min-eq_left, min-eq_right}
use Rattle.std.proofs.lemmas.List.{map-append}
use Rattle.mat_ast.specs.declared.tree.Ident.{Ident}
use Rattle.num_type.specs.declared.num_type.NumType.{NumType}
use Rattle.num_type.specs.View.{type_of}
use Rattle.c_tree.specs.declared.interface.CSlot.{CSlot}
use Rattle.c_tree.specs.declared.tree.CStmt.{CStmt}
use Rattle.c_tree.specs.Tree.{Store, Signed}
use Rattle.c_tree.specs.declared.tree.CArray.TheVariants as array
use Rattle.c_tree.specs.View.{slot_view, stmt_view}
use Rattle.walk_scope.proofs.Lefts.{left_none}
use Rattle.scalar_walk.specs.declared.operand.Operand as code
use Rattle.scalar_program.specs.Lowered.{Operand, Names, and_then, input_held, output_of, inputs_from, outputs_lowered, real_slot, real_slots, stores_from, read}
use Rattle.scalar_program.specs.NameMaps.{with_type}
use Rattle.scalar_walk.specs.View.{operand_view, spot_view}

pub inputs_step : (k : ℕ) (is : List Ident) (ts : List NumType) (names later : Names) (i : Ident) (t : NumType) (bytes : List ℕ) → drop k is ≡ i ∷ drop (k + 1) is → drop k ts ≡ t ∷ drop (k + 1) ts → bytes ≡ i.text → later ≡ with_type names bytes (input_held k (type_of t)) → inputs_from k (drop k is) (map type_of (drop k ts)) names ≡ inputs_from (k + 1) (drop (k + 1) is) (map type_of (drop (k + 1) ts)) later
inputs_step k is ts names later i t bytes p q b l =
    let one : suc k ≡ k + 1 = omega arith in
    (λ j. inputs_from k (p j) (map type_of (q j)) names)
    ∙ (λ j. inputs_from (one j) (drop (k + 1) is) (map type_of (drop (k + 1) ts)) (with_type names (sym b j) (input_held k (type_of t))))
    ∙ ap (inputs_from (k + 1) (drop (k + 1) is) (map type_of (drop (k + 1) ts))) (sym l)

pub inputs_end : (k : ℕ) (is : List Ident) (ts : List NumType) (names : Names) → (n : ℕ) → n ≤ k → ((n ≡ length is) ⊎ (n ≡ length ts)) → inputs_from k (drop k is) (map type_of (drop k ts)) names ≡ names
inputs_end k is ts names n h (inl e) = ap (λ l. inputs_from k l (map type_of (drop k ts)) names) (left_none is k (omega (arith, h, e)))
inputs_end k is ts names n h (inr e) = ap (λ l. inputs_from k (drop k is) (map type_of l) names) (left_none ts k (omega (arith, h, e))) ∙ no_types (drop k is)
  where
    no_types : (l : List Ident) → inputs_from k l [] names ≡ names
    no_types [] = refl
    no_types (i ∷ is) = refl

pub slots_step : (k : ℕ) (is : List Ident) (ts : List NumType) (done later : List CSlot) (s : CSlot) (i : Ident) (t : NumType) → drop k is ≡ i ∷ drop (k + 1) is → drop k ts ≡ t ∷ drop (k + 1) ts → later ≡ done ++ (s ∷ []) → slot_view s ≡ real_slot i.text (type_of t) → map slot_view done ++ real_slots (drop k is) (map type_of (drop k ts)) ≡ map slot_view later ++ real_slots (drop (k + 1) is) (map type_of (drop (k + 1) ts))
slots_step k is ts done later s i t p q l v =
    (λ j. map slot_view done ++ real_slots (p j) (map type_of (q j)))
    ∙ ap (λ r. map slot_view done ++ (r ∷ real_slots (drop (k + 1) is) (map type_of (drop (k + 1) ts)))) (sym v)
    ∙ sym (append_assoc (map slot_view done) (slot_view s ∷ []) (real_slots (drop (k + 1) is) (map type_of (drop (k + 1) ts))))
    ∙ ap (λ r. r ++ real_slots (drop (k + 1) is) (map type_of (drop (k + 1) ts))) (sym (ap (map slot_view) l ∙ map-append slot_view done (s ∷ [])))

pub slots_end : (k : ℕ) (is : List Ident) (ts : List NumType) (done : List CSlot) (n : ℕ) → n ≤ k → ((n ≡ length is) ⊎ (n ≡ length ts)) → map slot_view done ++ real_slots (drop k is) (map type_of (drop k ts)) ≡ map slot_view done
slots_end k is ts done n h (inl e) = ap (λ l. map slot_view done ++ real_slots l (map type_of (drop k ts))) (left_none is k (omega (arith, h, e))) ∙ append-nil (map slot_view done)
slots_end k is ts done n h (inr e) = ap (λ l. map slot_view done ++ real_slots (drop k is) (map type_of l)) (left_none ts k (omega (arith, h, e))) ∙ ap (λ l. map slot_view done ++ l) (no_types (drop k is)) ∙ append-nil (map slot_view done)
  where
    no_types : (l : List Ident) → real_slots l [] ≡ []
    no_types [] = refl
    no_types (i ∷ is) = refl

pub stores_step : (k : ℕ) (os : List code.Operand) (done later : List CStmt) (s : CStmt) (o : code.Operand) → drop k os ≡ o ∷ drop (k + 1) os → later ≡ done ++ (s ∷ []) → stmt_view s ≡ Store (array.Output k) (Signed 0) (read (spot_view o.spot)) → map stmt_view done ++ stores_from k (map operand_view (drop k os)) ≡ map stmt_view later ++ stores_from (k + 1) (map operand_view (drop (k + 1) os))
stores_step k os done later s o p l v =
    let one : suc k ≡ k + 1 = omega arith in
    let rest = stores_from (k + 1) (map operand_view (drop (k + 1) os)) in
    ap (λ xs. map stmt_view done ++ stores_from k (map operand_view xs)) p
    ∙ ap (λ n. map stmt_view done ++ (Store (array.Output k) (Signed 0) (read (spot_view o.spot)) ∷ stores_from n (map operand_view (drop (k + 1) os)))) one
    ∙ ap (λ r. map stmt_view done ++ (r ∷ rest)) (sym v)
    ∙ sym (append_assoc (map stmt_view done) (stmt_view s ∷ []) rest)
    ∙ ap (λ r. r ++ rest) (sym (ap (map stmt_view) l ∙ map-append stmt_view done (s ∷ [])))

pub stores_end : (k : ℕ) (os : List code.Operand) (done : List CStmt) → length os ≤ k → map stmt_view done ++ stores_from k (map operand_view (drop k os)) ≡ map stmt_view done
stores_end k os done h = ap (λ l. map stmt_view done ++ stores_from k (map operand_view l)) (left_none os k h) ∙ append-nil (map stmt_view done)

-- outputs behind those that were found
pub outputs_start : (o : Option (List Operand)) → o ≡ and_then o (λ more. Some ([] ++ more))
unfolding and_then
outputs_start None = refl
outputs_start (Some xs) = refl

pub outputs_step : (os rest : List Ident) (names : Names) (o : Ident) (x : code.Operand) (done later : List code.Operand) → os ≡ o ∷ rest → and_then (names o.text) output_of ≡ Some (operand_view x) → later ≡ done ++ (x ∷ []) → and_then (outputs_lowered os names) (λ more. Some (map operand_view done ++ more)) ≡ and_then (outputs_lowered rest names) (λ more. Some (map operand_view later ++ more))
unfolding and_then
outputs_step os rest names o x done later e n l =
    ap (λ t. and_then (outputs_lowered t names) (λ more. Some (map operand_view done ++ more))) e
    ∙ ap (λ m. and_then (and_then m (λ y. and_then (outputs_lowered rest names) (λ ys. Some (y ∷ ys)))) (λ more. Some (map operand_view done ++ more))) n
    ∙ by (outputs_lowered rest names)
  where
    by : (m : Option (List Operand)) → and_then (and_then m (λ ys. Some (operand_view x ∷ ys))) (λ more. Some (map operand_view done ++ more)) ≡ and_then m (λ more. Some (map operand_view later ++ more))
    by None = refl
    by (Some ys) = ap Some (sym (append_assoc (map operand_view done) (operand_view x ∷ []) ys) ∙ ap (λ r. r ++ ys) (sym (ap (map operand_view) l ∙ map-append operand_view done (x ∷ []))))

pub outputs_end : (names : Names) (os : List Ident) (done : List code.Operand) → os ≡ [] → and_then (outputs_lowered os names) (λ more. Some (map operand_view done ++ more)) ≡ Some (map operand_view done)
unfolding and_then
outputs_end names os done e = ap (λ t. and_then (outputs_lowered t names) (λ more. Some (map operand_view done ++ more))) e ∙ ap Some (append-nil (map operand_view done))

-- of two numbers one is at most the other
lesser : (a b : ℕ) → (a ≤ b) ⊎ (b ≤ a)
lesser zero b = inl (omega arith)
lesser (suc a) zero = inr (omega arith)
lesser (suc a) (suc b) = more (lesser a b)
  where
    more : (a ≤ b) ⊎ (b ≤ a) → (suc a ≤ suc b) ⊎ (suc b ≤ suc a)
    more (inl l) = inl (omega (arith, l))
    more (inr l) = inr (omega (arith, l))

-- the lesser of two is one of them
pub min_is : (a b n : ℕ) → n ≡ min a b → (n ≡ a) ⊎ (n ≡ b)
min_is a b n h = by (lesser a b)
  where
    by : (a ≤ b) ⊎ (b ≤ a) → (n ≡ a) ⊎ (n ≡ b)
    by (inl l) = inl (h ∙ min-eq_left l)
    by (inr l) = inr (h ∙ min-eq_right l)
