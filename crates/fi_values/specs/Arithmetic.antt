-- Sums, differences and products element by element.
use Rattle.std.specs.Prelude.{ℤ, pos, Bool, true, false, ◌&&◌, ◌++◌, List, [], ◌∷◌, map, length, take, drop, Option, Some, None, is_some, Result, Ok, Err}
use Rattle.num_type.specs.Constants.{Exact}
use Rattle.num_type.specs.Types.{NumericType}
use Rattle.fi_math.specs.declared.fimath.Fimath.{Fimath}
use Rattle.fi_math.specs.declared.governing.Governed.{Governed}
use Rattle.fi_math.specs.declared.governing.Differ.{Differ}
use Rattle.fi_math.specs.Govern.{governed}
use Rattle.fi_math.specs.Made.{Made, limited}
use Rattle.fi_math.specs.Rules.{product_made, complex_product_made}
use Rattle.const_eval.specs.Complex.{Complex}
use Rattle.const_rules.specs.ComplexFolds.{complex_added, complex_subtracted, complex_multiplied}
use Rattle.fi_ops.specs.Complex as elements
use Rattle.fi_rules.specs.declared.work.Work.{Work}
use Rattle.fi_rules.specs.declared.work.Work.TheVariants as work
use Rattle.fi_rules.specs.Value.{Shape, Val, Fi, ComplexFi, Number, ComplexNumber}
use Rattle.fi_rules.specs.Options.{◌|>◌, where_so, all_of}
use Rattle.fi_rules.specs.Pairs.{folded, work_made, beside_type}
use Rattle.fi_eval.specs.Operators.{pairwise, element}
use Rattle.fi_values.specs.Numbers.{nought_parts, stored_beside}
use Rattle.fi_values.specs.Shapes.{common}
use Rattle.fi_values.specs.Sums.{made}

-- ---- numbers

-- the exact result of an operation on complex numbers
unfoldable pub complex_folded : Work → Complex → Complex → Option Complex
complex_folded work.Sum x y = complex_added x y
complex_folded work.Difference x y = complex_subtracted x y
complex_folded work.Product x y = complex_multiplied x y
complex_folded w x y = None

-- the numbers of two lists of parts
abbrev pub zipped : List Exact → List Exact → List Complex
zipped (x ∷ xs) (y ∷ ys) = record { re = x; im = y } ∷ zipped xs ys
zipped xs ys = []

abbrev pub complex_value : Shape → List Complex → Val
complex_value s cs = ComplexNumber s (map (λ (c : Complex). c.re) cs) (map (λ (c : Complex). c.im) cs)

abbrev pub reals_folded : Work → Shape → List Exact → Shape → List Exact → Option Val
reals_folded w s xs t ys = common s t |> (λ r. all_of (pairwise (folded w) xs ys) |> (λ cs. Some (Number r cs)))

abbrev pub complexes_folded : Work → Shape → List Complex → Shape → List Complex → Option Val
complexes_folded w s xs t ys = common s t |> (λ r. all_of (pairwise (complex_folded w) xs ys) |> (λ cs. Some (complex_value r cs)))

-- ---- fis and numbers beside them

-- stored integers, and those of the imaginary parts of a complex operand
pub record Parts : Type 0 where
  pub re : List ℤ
  pub im : Option (List ℤ)

-- an operand: of a number, what it is beside a fi
pub record Operand : Type 0 where
  pub num : NumericType
  pub math : Option Fimath
  pub shape : Shape
  pub parts : Parts

unfoldable pub fi_operand : Val → Option Operand
fi_operand (Fi t m s xs) = Some (record { num = t; math = m; shape = s; parts = record { re = xs; im = None } })
fi_operand (ComplexFi t m s xs ys) = Some (record { num = t; math = m; shape = s; parts = record { re = xs; im = Some ys } })
fi_operand v = None

-- a number beside a fi of this type: its own type is within the limits, with one best fraction length for all its parts
unfoldable pub beside_operand : NumericType → Val → Option Operand
beside_operand t (Number s cs) =
    stored_beside t cs
    |> (λ zs. made (limited 64 (beside_type t cs)) |> (λ u. Some (record { num = u; math = None; shape = s; parts = record { re = zs; im = None } })))
beside_operand t (ComplexNumber s xs ys) =
    stored_beside t (xs ++ ys)
    |> (λ zs. made (limited 64 (beside_type t (xs ++ ys)))
    |> (λ u. Some (record { num = u; math = None; shape = s; parts = record { re = take (length xs) zs; im = Some (drop (length xs) zs) } })))
beside_operand t v = fi_operand v

-- both operands, at least one of them a fi
unfoldable pub operands : Val → Val → Option (Operand × Operand)
operands (Fi t m s xs) w = fi_operand (Fi t m s xs) |> (λ a. beside_operand t w |> (λ b. Some (a, b)))
operands (ComplexFi t m s xs ys) w = fi_operand (ComplexFi t m s xs ys) |> (λ a. beside_operand t w |> (λ b. Some (a, b)))
operands v (Fi t m s xs) = beside_operand t v |> (λ a. fi_operand (Fi t m s xs) |> (λ b. Some (a, b)))
operands v (ComplexFi t m s xs ys) = beside_operand t v |> (λ a. fi_operand (ComplexFi t m s xs ys) |> (λ b. Some (a, b)))
operands v w = None

unfoldable pub governing : Option Fimath → Option Fimath → Option Governed
governing m n = kept (governed m n)
  where
    kept : Result Governed Differ → Option Governed
    kept (Ok g) = Some g
    kept (Err d) = None

-- zeros for the imaginary parts of a real operand
abbrev pub imaginary : Parts → List ℤ
imaginary p = parts p.im
  where
    parts : Option (List ℤ) → List ℤ
    parts None = map (λ x. pos 0) p.re
    parts (Some ys) = ys

-- the type of a result: of a product of two complex operands that of a sum of two products
unfoldable pub result_made : Work → Bool → Fimath → NumericType → NumericType → Made
result_made work.Product true m a b = complex_product_made m a b
result_made w both m a b = work_made w m a b

-- a product of two complex elements: four products in the product type, and then a difference and a sum
abbrev pub complex_element : Fimath → NumericType → NumericType → NumericType → NumericType → ℤ × ℤ → ℤ × ℤ → ℤ × ℤ
complex_element m p t a b x y =
    let z = elements.complex_multiplied m p t (record { num = a; re = x.0; im = x.1 }) (record { num = b; re = y.0; im = y.1 }) in
    (z.re, z.im)

abbrev pub both_parts : List ℤ → List ℤ → List (ℤ × ℤ)
both_parts (x ∷ xs) (y ∷ ys) = (x, y) ∷ both_parts xs ys
both_parts xs ys = []

-- of two complex operands
abbrev pub complex_product : Fimath → NumericType → Operand → Operand → Option Parts
complex_product m t a b =
    made (product_made m a.num b.num)
    |> (λ p.
    let zs = pairwise (complex_element m p t a.num b.num) (both_parts a.parts.re (imaginary a.parts)) (both_parts b.parts.re (imaginary b.parts)) in
    Some (record { re = map (λ z. z.0) zs; im = Some (map (λ z. z.1) zs) }))

-- the parts of a result: a real operand times a complex one is two products, and both parts of a sum follow the rule of real sums
unfoldable pub result_parts : Work → Fimath → NumericType → Operand → Operand → Bool → Bool → Option Parts
result_parts w m t a b false false = Some (record { re = pairwise (element w m t a.num b.num) a.parts.re b.parts.re; im = None })
result_parts work.Product m t a b true true = complex_product m t a b
result_parts work.Product m t a b true false = Some (record {
  re = pairwise (element work.Product m t a.num b.num) a.parts.re b.parts.re;
  im = Some (pairwise (element work.Product m t a.num b.num) (imaginary a.parts) b.parts.re);
})
result_parts work.Product m t a b false true = Some (record {
  re = pairwise (element work.Product m t a.num b.num) a.parts.re b.parts.re;
  im = Some (pairwise (element work.Product m t a.num b.num) a.parts.re (imaginary b.parts));
})
result_parts w m t a b p q = Some (record {
  re = pairwise (element w m t a.num b.num) a.parts.re b.parts.re;
  im = Some (pairwise (element w m t a.num b.num) (imaginary a.parts) (imaginary b.parts));
})

-- a fi of these parts
unfoldable pub fi_value : NumericType → Option Fimath → Shape → Parts → Val
fi_value t m s p = of p.im
  where
    of : Option (List ℤ) → Val
    of None = Fi t m s p.re
    of (Some ys) = ComplexFi t m s p.re ys

-- sums, differences and products alone
unfoldable pub is_arithmetic : Work → Bool
is_arithmetic work.Sum = true
is_arithmetic work.Difference = true
is_arithmetic work.Product = true
is_arithmetic w = false

abbrev pub computed : Work → Operand × Operand → Option Val
computed w ab =
    let a = ab.0 in
    let b = ab.1 in
    let p = is_some a.parts.im in
    let q = is_some b.parts.im in
    common a.shape b.shape
    |> (λ s. governing a.math b.math
    |> (λ g. made (result_made w (p && q) g.math a.num b.num)
    |> (λ t. result_parts w g.math t a b p q |> (λ r. Some (fi_value t g.attached s r)))))

-- ---- all classes

unfoldable pub arithmetic : Work → Val → Val → Option Val
arithmetic w (Number s xs) (Number t ys) = reals_folded w s xs t ys
arithmetic w (Number s xs) (ComplexNumber t us vs) = complexes_folded w s (zipped xs (nought_parts xs)) t (zipped us vs)
arithmetic w (ComplexNumber s xs ys) (Number t us) = complexes_folded w s (zipped xs ys) t (zipped us (nought_parts us))
arithmetic w (ComplexNumber s xs ys) (ComplexNumber t us vs) = complexes_folded w s (zipped xs ys) t (zipped us vs)
arithmetic w v x = where_so (is_arithmetic w) w |> (λ w. operands v x |> computed w)
