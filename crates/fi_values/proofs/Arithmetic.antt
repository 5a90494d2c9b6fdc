-- Sums, differences and products of sound values are sound.
use Rattle.std.proofs.Common.{◌≡◌, refl, sym, ap, ◌∙◌, ℕ, suc, true, List, [], ◌∷◌, ◌++◌, length, take, drop, arith, length-append}
use Rattle.std.specs.Prelude.{ℤ}
use Rattle.std.proofs.lemmas.List.{length-map, length-take-le, length-drop}
use Rattle.num_type.specs.Constants.{Exact}
use Rattle.num_type.specs.Types.{NumericType}
use Rattle.const_eval.specs.Complex.{Complex}
use Rattle.fi_rules.specs.declared.work.Work.{Work}
use Rattle.fi_rules.specs.Options.{◌|>◌, where_so}
use Rattle.fi_rules.specs.Pairs.{folded}
use Rattle.fi_rules.specs.Value.{Shape, count, Val, Fi, ComplexFi, Logical, Number, ComplexNumber, Words, MathObject, TypeObject}
use Rattle.fi_eval.specs.Operators.{pairwise}
use Rattle.fi_values.specs.Arithmetic.{complex_folded, zipped, reals_folded, complexes_folded, Operand, fi_operand, beside_operand, operands, governing, is_arithmetic, computed, arithmetic}
use Rattle.fi_values.specs.Numbers.{nought_parts}
use Rattle.fi_values.specs.Sound.{IsSized, IsSound}
use Rattle.fi_values.proofs.Holds.{Holds, holds, empty, holds_any, holds_then, holds_where, holds_count}
use Rattle.fi_values.proofs.Limits.{holds_made, result_within, stored_all}
use Rattle.fi_values.proofs.Lists.{length-pairwise}
use Rattle.fi_values.proofs.Parts.{IsLong, result_ranged, fi_value_sound}
use Rattle.fi_values.proofs.Sizes.{common_shape, lengths}

-- ---- numbers

pub length-zipped : (xs ys : List Exact) → length xs ≡ length ys → length (zipped xs ys) ≡ length xs
length-zipped [] ys e = refl
length-zipped (x ∷ xs) [] e = absurd (omega (arith, e))
length-zipped (x ∷ xs) (y ∷ ys) e = ap suc (length-zipped xs ys (omega (arith, e)))

-- both parts of complex numbers, and those of real ones
pub zipped_both : (n : ℕ) (xs ys : List Exact) → length xs ≡ n → length ys ≡ n → length (zipped xs ys) ≡ n
zipped_both n xs ys e h = length-zipped xs ys (e ∙ sym h) ∙ e

pub zipped_real : (n : ℕ) (xs : List Exact) → length xs ≡ n → length (zipped xs (nought_parts xs)) ≡ n
zipped_real n xs e = zipped_both n xs (nought_parts xs) e (length-map xs _ ∙ e)

reals_sound : (w : Work) (s : Shape) (xs : List Exact) (t : Shape) (ys : List Exact) → IsSized s → IsSized t → length xs ≡ count s → length ys ≡ count t → Holds IsSound (reals_folded w s xs t ys)
reals_sound w s xs t ys h k e f =
    holds_then (common_shape s t h k) (λ r c. holds_then (holds_count (pairwise (folded w) xs ys)) (λ cs l.
    holds _ (c.sized, l ∙ length-pairwise (folded w) xs ys (count r) (lengths c.pairing e f))))

complexes_sound : (w : Work) (s : Shape) (xs : List Complex) (t : Shape) (ys : List Complex) → IsSized s → IsSized t → length xs ≡ count s → length ys ≡ count t → Holds IsSound (complexes_folded w s xs t ys)
complexes_sound w s xs t ys h k e f =
    holds_then (common_shape s t h k) (λ r c. holds_then (holds_count (pairwise (complex_folded w) xs ys)) (λ cs l.
    let long : length cs ≡ count r = l ∙ length-pairwise (complex_folded w) xs ys (count r) (lengths c.pairing e f) in
    holds _ (c.sized, length-map cs _ ∙ long, length-map cs _ ∙ long)))

-- ---- operands

pub record IsOperand (a : Operand) : Type 0 where
  pub sized : IsSized a.shape
  pub parts : IsLong (count a.shape) a.parts

fi_operand_long : (v : Val) → IsSound v → Holds IsOperand (fi_operand v)
unfolding fi_operand
fi_operand_long (Fi t m s xs) h = holds _ (record { sized = h.1; parts = record { re = h.2.filled; im = empty } })
fi_operand_long (ComplexFi t m s xs ys) h = holds _ (record { sized = h.1; parts = record { re = h.2.filled; im = holds ys h.3.filled } })
fi_operand_long (Logical s bs) h = empty
fi_operand_long (Number s cs) h = empty
fi_operand_long (ComplexNumber s xs ys) h = empty
fi_operand_long (Words text) h = empty
fi_operand_long (MathObject m) h = empty
fi_operand_long (TypeObject t) h = empty

-- the first part of stored integers of both parts, and the second
first_part : (xs ys : List Exact) (zs : List ℤ) → length zs ≡ length (xs ++ ys) → length (take (length xs) zs) ≡ length xs
first_part xs ys zs e = length-take-le (length xs) zs (omega (arith, e, length-append xs ys))

second_part : (xs ys : List Exact) (zs : List ℤ) → length zs ≡ length (xs ++ ys) → length (drop (length xs) zs) ≡ length ys
second_part xs ys zs e = let d = length-drop (length xs) zs in omega (arith, e, length-append xs ys)

beside_long : (t : NumericType) (v : Val) → IsSound v → Holds IsOperand (beside_operand t v)
unfolding beside_operand
beside_long t (Number s cs) h =
    holds_then (stored_all t cs) (λ zs z. holds_then (holds_any _) (λ u _. holds _ (record { sized = h.0; parts = record { re = z.0 ∙ h.1; im = empty } })))
beside_long t (ComplexNumber s xs ys) h =
    holds_then (stored_all t (xs ++ ys)) (λ zs z. holds_then (holds_any _) (λ u _.
    holds _ (record { sized = h.0; parts = record { re = first_part xs ys zs z.0 ∙ h.1; im = holds _ (second_part xs ys zs z.0 ∙ h.2) } })))
beside_long t (Fi u m s xs) h = fi_operand_long (Fi u m s xs) h
beside_long t (ComplexFi u m s xs ys) h = fi_operand_long (ComplexFi u m s xs ys) h
beside_long t (Logical s bs) h = fi_operand_long (Logical s bs) h
beside_long t (Words text) h = fi_operand_long (Words text) h
beside_long t (MathObject m) h = fi_operand_long (MathObject m) h
beside_long t (TypeObject u) h = fi_operand_long (TypeObject u) h

abbrev pub AreOperands : Operand × Operand → Type 0
AreOperands ab = IsOperand ab.0 × IsOperand ab.1

pub operands_long : (v w : Val) → IsSound v → IsSound w → Holds AreOperands (operands v w)
unfolding operands
operands_long (Fi t m s xs) w h k = holds_then (fi_operand_long (Fi t m s xs) h) (λ a p. holds_then (beside_long t w k) (λ b q. holds (a, b) (p, q)))
operands_long (ComplexFi t m s xs ys) w h k = holds_then (fi_operand_long (ComplexFi t m s xs ys) h) (λ a p. holds_then (beside_long t w k) (λ b q. holds (a, b) (p, q)))
operands_long v (Fi t m s xs) h k = holds_then (beside_long t v h) (λ a p. holds_then (fi_operand_long (Fi t m s xs) k) (λ b q. holds (a, b) (p, q)))
operands_long v (ComplexFi t m s xs ys) h k = holds_then (beside_long t v h) (λ a p. holds_then (fi_operand_long (ComplexFi t m s xs ys) k) (λ b q. holds (a, b) (p, q)))
operands_long v w h k = empty

-- ---- all classes

computed_sound : (w : Work) (ab : Operand × Operand) → is_arithmetic w ≡ true → AreOperands ab → Holds IsSound (computed w ab)
computed_sound w ab e h =
    holds_then (common_shape ab.0.shape ab.1.shape h.0.sized h.1.sized) (λ s c.
    holds_then (holds_any (governing ab.0.math ab.1.math)) (λ g _.
    holds_then (holds_made (result_within w _ g.math ab.0.num ab.1.num e)) (λ t v.
    holds_then (result_ranged w g.math t ab.0 ab.1 _ _ (count s) (count ab.0.shape) (count ab.1.shape) e v.one_bit c.pairing h.0.parts h.1.parts) (λ r k.
    holds _ (fi_value_sound t g.attached s r v c.sized k)))))

beside_sound : (w : Work) (v x : Val) → IsSound v → IsSound x → Holds IsSound (where_so (is_arithmetic w) w |> (λ w. operands v x |> computed w))
beside_sound w v x h k =
    holds_then (holds_where (λ u. is_arithmetic u ≡ true) (is_arithmetic w) w (λ e. e)) (λ u e.
    holds_then (operands_long v x h k) (λ ab o. computed_sound u ab e o))

pub arithmetic_sound : (w : Work) (v x : Val) → IsSound v → IsSound x → Holds IsSound (arithmetic w v x)
unfolding arithmetic
arithmetic_sound w (Number s xs) (Number t ys) h k = reals_sound w s xs t ys h.0 k.0 h.1 k.1
arithmetic_sound w (Number s xs) (ComplexNumber t us vs) h k =
    complexes_sound w s (zipped xs (nought_parts xs)) t (zipped us vs) h.0 k.0 (zipped_real (count s) xs h.1) (zipped_both (count t) us vs k.1 k.2)
arithmetic_sound w (ComplexNumber s xs ys) (Number t us) h k =
    complexes_sound w s (zipped xs ys) t (zipped us (nought_parts us)) h.0 k.0 (zipped_both (count s) xs ys h.1 h.2) (zipped_real (count t) us k.1)
arithmetic_sound w (ComplexNumber s xs ys) (ComplexNumber t us vs) h k =
    complexes_sound w s (zipped xs ys) t (zipped us vs) h.0 k.0 (zipped_both (count s) xs ys h.1 h.2) (zipped_both (count t) us vs k.1 k.2)
arithmetic_sound w v x h k = beside_sound w v x h k
