-- Parts of operations on variables 0 and 1.
use Rattle.std.proofs.Common.{◌≡◌, ℕ, ◌≤◌, List, [], ◌∷◌, ℤ, Bool, true, Some, None, sym, ap, ◌∙◌, subst, arith, inl, inr}
use Rattle.num_type.specs.Types.{NumericType}
use Rattle.fi_math.specs.declared.fimath.Fimath.{Fimath}
use Rattle.array_ir.specs.declared.op.Op.{Op}
use Rattle.c_tree.specs.declared.tree.CRel.{CRel}
use Rattle.c_tree.specs.declared.tree.CRel.TheVariants as rel
use Rattle.c_tree.specs.Tree.{Exp, Var}
use Rattle.lower_scalar.specs.Part.{Part, Operand, IsPart, reach}
use Rattle.lower_op.specs.Arguments.{truth, truth_num}
use Rattle.lower_op.specs.Comparisons.{relation_of, IsComparison, IsEquality, ComparesTwo}
use Rattle.lower_op.specs.Operations.{IsOfOne, IsOfTwo, ComputesOne, ComputesTwo}
use Rattle.part_run.specs.PartProgram.{Computes, OfFirst, OfBoth, held}

-- an expression of a type
abbrev of_type : NumericType → Exp → Operand
of_type t e = record { num = t; exp = e }

pub reads : (k : ℕ) (e : Exp) → k ≤ 1 → e ≡ Var k → reach e ≤ 2
reads k e h is = subst (λ x. reach x ≤ 2) (sym is) (omega (arith, h))

pub of_first : (a b : NumericType) (s : Bool) (x : Exp) (f : List ℤ → ℤ) (p : Part) → x ≡ Var 0 → IsPart (of_type a x ∷ []) 2 s f p → Computes a b s p
of_first a b s x f p h is = OfFirst f (subst (λ e. IsPart (of_type a e ∷ []) 2 s f p) h is)

of_both : (a b : NumericType) (s : Bool) (x y : Exp) (f : List ℤ → ℤ) (p : Part) → x ≡ Var 0 → y ≡ Var 1 → IsPart (of_type a x ∷ of_type b y ∷ []) 2 s f p → Computes a b s p
of_both a b s x y f p h g is =
    OfBoth f (subst (λ e. IsPart (held 0 a ∷ of_type b e ∷ []) 2 s f p) g (subst (λ e. IsPart (of_type a e ∷ of_type b y ∷ []) 2 s f p) h is))

pub of_two : (o : Op) (m : Fimath) (t a b : NumericType) (x y : Exp) (p : Part) → x ≡ Var 0 → y ≡ Var 1 → IsOfTwo o m t a b → ComputesTwo o m t (of_type a x) (of_type b y) 2 p → Computes a b t.signed p
of_two o m t a b x y p h g (inl k) c = of_both a b t.signed x y _ p h g (c.sum k.0)
of_two o m t a b x y p h g (inr (inl k)) c = of_both a b t.signed x y _ p h g (c.difference k.0)
of_two o m t a b x y p h g (inr (inr k)) c = of_both a b t.signed x y _ p h g (c.product k.0)

pub of_one : (o : Op) (m : Fimath) (a : NumericType) (x : Exp) (p : Part) → x ≡ Var 0 → IsOfOne o → ComputesOne o m (of_type a x) 2 p → Computes a a a.signed p
of_one o m a x p h (inl k) c = of_first a a a.signed x _ p h (c.negation k)
of_one o m a x p h (inr k) c = of_first a a a.signed x _ p h (c.size k)

pub of_comparison : (o : Op) (r : CRel) (a b : NumericType) (x y : Exp) (p : Part) → x ≡ Var 0 → y ≡ Var 1 → relation_of o ≡ Some r → ComparesTwo o (of_type a x) (of_type b y) 2 p → Computes a b true p
of_comparison o r a b x y p h g e c = of_both a b true x y _ p h g (c r e)

pub of_equality : (o : Op) (x y : Exp) (p : Part) → x ≡ Var 0 → y ≡ Var 1 → IsEquality o → ComparesTwo o (truth x) (truth y) 2 p → Computes truth_num truth_num true p
of_equality o x y p h g (inl k) c = of_comparison o rel.Eq truth_num truth_num x y p h g (ap relation_of k) c
of_equality o x y p h g (inr k) c = of_comparison o rel.Ne truth_num truth_num x y p h g (ap relation_of k) c

-- the same part at equal types
pub at_types : (a b u c d e : NumericType) (p : Part) → a ≡ c → b ≡ d → u ≡ e → Computes c d e.signed p → Computes a b u.signed p
at_types a b u c d e p h g k is =
    subst (λ (v : NumericType). Computes v b u.signed p) (sym h)
    (subst (λ (v : NumericType). Computes c v u.signed p) (sym g) (subst (λ (v : NumericType). Computes c d v.signed p) (sym k) is))

some_none : (r : CRel) → Some r ≡ None → ⊥
some_none r e = cc

pub is_comparison : (o : Op) (r : CRel) → relation_of o ≡ Some r → IsComparison o
is_comparison o r h e = some_none r (sym h ∙ e)
