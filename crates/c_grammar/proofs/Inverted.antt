-- What the type of an expression says of its parts, and back.
use Rattle.std.proofs.Common.{◌≡◌, Bool, true, false, refl, sym, ap, ◌∙◌, if◌then◌else◌}
use Rattle.std.specs.Prelude.{Option, Some, None, is_some}
use Rattle.c_tree.specs.declared.tree.CWord.{CWord}
use Rattle.c_tree.specs.declared.tree.CWord.TheVariants.{I64, U64}
use Rattle.c_tree.specs.declared.tree.COp.{COp}
use Rattle.c_tree.specs.declared.tree.COp.TheVariants.{Add, Sub, Mul, And, Or, Xor, Shl, Shr}
use Rattle.c_tree.specs.declared.array_names.Array.{Array}
use Rattle.c_tree.specs.Names.{word_of}
use Rattle.c_tree.specs.WellFormed.{given, operator_type, negated_type, cast_type, element_type, is_one_type}
use Rattle.c_grammar.specs.Machine.{other, right_type}

pub some_same : {A : Type 0} → {x y : A} → Some x ≡ Some y → x ≡ y
some_same e = cc

pub record Given (b : Bool) (w t : CWord) : Type 0 where
  pub holds : b ≡ true
  pub type_is : w ≡ t

pub given_is : (b : Bool) (w t : CWord) → given b w ≡ Some t → Given b w t
unfolding given
given_is true w t h = record { holds = refl; type_is = some_same h }
given_is false w t h = absurd cc

pub record Negated (x : Option CWord) (t : CWord) : Type 0 where
  pub operand : x ≡ Some I64
  pub type_is : I64 ≡ t

pub negated_is : (x : Option CWord) (t : CWord) → negated_type x ≡ Some t → Negated x t
unfolding negated_type
negated_is None t h = absurd cc
negated_is (Some I64) t h = record { operand = refl; type_is = some_same h }
negated_is (Some U64) t h = absurd cc

pub record CastOf (to : CWord) (x : Option CWord) (t : CWord) : Type 0 where
  pub operand : x ≡ Some (other to)
  pub type_is : to ≡ t

pub cast_is : (to : CWord) (x : Option CWord) (t : CWord) → cast_type to x ≡ Some t → CastOf to x t
unfolding cast_type
cast_is I64 None t h = absurd cc
cast_is U64 None t h = absurd cc
cast_is I64 (Some I64) t h = absurd cc
cast_is U64 (Some U64) t h = absurd cc
cast_is I64 (Some U64) t h = record { operand = refl; type_is = some_same h }
cast_is U64 (Some I64) t h = record { operand = refl; type_is = some_same h }

pub record ElementOf (a : Option Array) (x : Option CWord) (t : CWord) : Type 0 where
  pub array : Array
  pub stands : a ≡ Some array
  pub subscript : x ≡ Some I64
  pub type_is : word_of array.container ≡ t

pub element_is : (a : Option Array) (x : Option CWord) (t : CWord) → element_type a x ≡ Some t → ElementOf a x t
unfolding element_type
element_is None x t h = absurd cc
element_is (Some a) None t h = absurd cc
element_is (Some a) (Some U64) t h = absurd cc
element_is (Some a) (Some I64) t h = record { array = a; stands = refl; subscript = refl; type_is = some_same h }

pub record Operands (o : COp) (x y : Option CWord) (t : CWord) : Type 0 where
  pub right : CWord
  pub left_is : x ≡ Some t
  pub right_is : y ≡ Some right
  pub fits : right_type o t ≡ Some right

pub operator_is : (o : COp) (x y : Option CWord) (t : CWord) → operator_type o x y ≡ Some t → Operands o x y t
unfolding operator_type
operator_is Add (Some I64) (Some I64) t h = let e : I64 ≡ t = some_same h in record { right = t; left_is = ap (λ z. Some z) e; right_is = ap (λ z. Some z) e; fits = refl }
operator_is Add (Some U64) (Some U64) t h = let e : U64 ≡ t = some_same h in record { right = t; left_is = ap (λ z. Some z) e; right_is = ap (λ z. Some z) e; fits = refl }
operator_is Sub (Some I64) (Some I64) t h = let e : I64 ≡ t = some_same h in record { right = t; left_is = ap (λ z. Some z) e; right_is = ap (λ z. Some z) e; fits = refl }
operator_is Sub (Some U64) (Some U64) t h = let e : U64 ≡ t = some_same h in record { right = t; left_is = ap (λ z. Some z) e; right_is = ap (λ z. Some z) e; fits = refl }
operator_is Mul (Some I64) (Some I64) t h = let e : I64 ≡ t = some_same h in record { right = t; left_is = ap (λ z. Some z) e; right_is = ap (λ z. Some z) e; fits = refl }
operator_is Mul (Some U64) (Some U64) t h = let e : U64 ≡ t = some_same h in record { right = t; left_is = ap (λ z. Some z) e; right_is = ap (λ z. Some z) e; fits = refl }
operator_is And (Some U64) (Some U64) t h = let e : U64 ≡ t = some_same h in record { right = U64; left_is = ap (λ z. Some z) e; right_is = refl; fits = ap (right_type And) (sym e) }
operator_is Or (Some U64) (Some U64) t h = let e : U64 ≡ t = some_same h in record { right = U64; left_is = ap (λ z. Some z) e; right_is = refl; fits = ap (right_type Or) (sym e) }
operator_is Xor (Some U64) (Some U64) t h = let e : U64 ≡ t = some_same h in record { right = U64; left_is = ap (λ z. Some z) e; right_is = refl; fits = ap (right_type Xor) (sym e) }
operator_is Shl (Some w) (Some U64) t h = let e : w ≡ t = some_same h in record { right = U64; left_is = ap (λ z. Some z) e; right_is = refl; fits = refl }
operator_is Shr (Some w) (Some U64) t h = let e : w ≡ t = some_same h in record { right = U64; left_is = ap (λ z. Some z) e; right_is = refl; fits = refl }
operator_is _ _ _ t h = absurd cc

pub record OneType (x y : Option CWord) : Type 0 where
  pub type : CWord
  pub left_is : x ≡ Some type
  pub right_is : y ≡ Some type

pub one_type_is : (x y : Option CWord) → is_one_type x y ≡ true → OneType x y
unfolding is_one_type
one_type_is None y h = absurd cc
one_type_is (Some I64) None h = absurd cc
one_type_is (Some U64) None h = absurd cc
one_type_is (Some I64) (Some I64) h = record { type = I64; left_is = refl; right_is = refl }
one_type_is (Some U64) (Some U64) h = record { type = U64; left_is = refl; right_is = refl }
one_type_is (Some I64) (Some U64) h = absurd cc
one_type_is (Some U64) (Some I64) h = absurd cc

pub record Choice (test : Bool) (x y : Option CWord) (t : CWord) : Type 0 where
  pub holds : test ≡ true
  pub left_is : x ≡ Some t
  pub right_is : y ≡ Some t

pub choice_is : (test : Bool) (x y : Option CWord) (t : CWord) → (if test then (if is_one_type x y then x else None) else None) ≡ Some t → Choice test x y t
choice_is false x y t h = absurd cc
choice_is true x y t h = same (is_one_type x y) refl h
  where
    same : (b : Bool) → is_one_type x y ≡ b → (if b then x else None) ≡ Some t → Choice true x y t
    same false e h = absurd cc
    same true e h =
        let it = one_type_is x y e in
        let u : it.type ≡ t = some_same (sym it.left_is ∙ h) in
        record { holds = refl; left_is = h; right_is = it.right_is ∙ ap (λ z. Some z) u }

pub record Known (x : Option CWord) : Type 0 where
  pub type : CWord
  pub is : x ≡ Some type

pub known_is : (x : Option CWord) → is_some x ≡ true → Known x
known_is None h = absurd cc
known_is (Some t) h = record { type = t; is = refl }

-- ---- and back

pub given_type : (b : Bool) (w : CWord) → b ≡ true → given b w ≡ Some w
unfolding given
given_type true w h = refl
given_type false w h = absurd cc

pub cast_back : (to : CWord) (x : Option CWord) → x ≡ Some (other to) → cast_type to x ≡ Some to
unfolding cast_type
cast_back I64 x h = rw h refl
cast_back U64 x h = rw h refl

pub negated_back : (x : Option CWord) → x ≡ Some I64 → negated_type x ≡ Some I64
unfolding negated_type
negated_back x h = rw h refl

pub element_back : (a : Option Array) (x : Option CWord) (array : Array) → a ≡ Some array → x ≡ Some I64 → element_type a x ≡ Some (word_of array.container)
unfolding element_type
element_back a x array h k = rw (h, k) refl

fitted : (o : COp) (t r : CWord) → right_type o t ≡ Some r → operator_type o (Some t) (Some r) ≡ Some t
unfolding operator_type
fitted Add I64 r h = let e : I64 ≡ r = some_same h in ap (λ z. operator_type Add (Some I64) (Some z)) (sym e)
fitted Add U64 r h = let e : U64 ≡ r = some_same h in ap (λ z. operator_type Add (Some U64) (Some z)) (sym e)
fitted Sub I64 r h = let e : I64 ≡ r = some_same h in ap (λ z. operator_type Sub (Some I64) (Some z)) (sym e)
fitted Sub U64 r h = let e : U64 ≡ r = some_same h in ap (λ z. operator_type Sub (Some U64) (Some z)) (sym e)
fitted Mul I64 r h = let e : I64 ≡ r = some_same h in ap (λ z. operator_type Mul (Some I64) (Some z)) (sym e)
fitted Mul U64 r h = let e : U64 ≡ r = some_same h in ap (λ z. operator_type Mul (Some U64) (Some z)) (sym e)
fitted And I64 r h = absurd cc
fitted Or I64 r h = absurd cc
fitted Xor I64 r h = absurd cc
fitted And U64 r h = let e : U64 ≡ r = some_same h in ap (λ z. operator_type And (Some U64) (Some z)) (sym e)
fitted Or U64 r h = let e : U64 ≡ r = some_same h in ap (λ z. operator_type Or (Some U64) (Some z)) (sym e)
fitted Xor U64 r h = let e : U64 ≡ r = some_same h in ap (λ z. operator_type Xor (Some U64) (Some z)) (sym e)
fitted Shl t r h = let e : U64 ≡ r = some_same h in ap (λ z. operator_type Shl (Some t) (Some z)) (sym e)
fitted Shr t r h = let e : U64 ≡ r = some_same h in ap (λ z. operator_type Shr (Some t) (Some z)) (sym e)

pub operator_back : (o : COp) (x y : Option CWord) (t r : CWord) → right_type o t ≡ Some r → x ≡ Some t → y ≡ Some r → operator_type o x y ≡ Some t
operator_back o x y t r h k l = ap (λ z. operator_type o z y) k ∙ ap (λ z. operator_type o (Some t) z) l ∙ fitted o t r h

same_one : (t : CWord) → is_one_type (Some t) (Some t) ≡ true
unfolding is_one_type
same_one I64 = refl
same_one U64 = refl

pub one_type_back : (x y : Option CWord) (t : CWord) → x ≡ Some t → y ≡ Some t → is_one_type x y ≡ true
one_type_back x y t h k = ap (λ z. is_one_type z y) h ∙ ap (λ z. is_one_type (Some t) z) k ∙ same_one t

pub choice_back : (test : Bool) (x y : Option CWord) (t : CWord) → test ≡ true → x ≡ Some t → y ≡ Some t → (if test then (if is_one_type x y then x else None) else None) ≡ Some t
choice_back test x y t h k l =
    ap (λ b. if b then (if is_one_type x y then x else None) else None) h ∙ ap (λ b. if b then x else None) (one_type_back x y t k l) ∙ k
