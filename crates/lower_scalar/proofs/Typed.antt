-- The types of expressions, from those of their parts.
use Rattle.std.proofs.Common.{◌≡◌, ℕ, ◌+◌, ◌-◌, ◌^◌, ◌<◌, ◌≤◌, Bool, true, false, Some, None, refl, sym, ap, ◌∙◌, arith, ltb, if◌then◌else◌}
use Rattle.std.specs.Prelude.{Option, slice_get, nat_lt}
use Rattle.std.proofs.lemmas.Bool.{lt-ltb}
use Rattle.c_tree.specs.declared.tree.CWord.{CWord}
use Rattle.c_tree.specs.declared.tree.CWord.TheVariants.{I64, U64}
use Rattle.c_tree.specs.declared.tree.CRel.{CRel}
use Rattle.c_tree.specs.declared.tree.COp.TheVariants as op
use Rattle.c_tree.specs.Tree.{Exp, Signed, Unsigned, Var, Cast, Neg, Binary, Choose, Compare}
use Rattle.c_tree.specs.WellFormed.{Scope, type_of_exp, is_test, given, operator_type, negated_type, cast_type, is_one_type}
use Rattle.lower_scalar.specs.Part.{word_for}
use Rattle.lower_scalar.specs.Shapes.{constant}

-- the expression is well formed and has this type
pub record Typed (s : Scope) (e : Exp) (w : CWord) : Type 0 where
  pub is : type_of_exp s e ≡ Some w

pub t_signed : (s : Scope) (n : ℕ) → n < 2 ^ 63 → Typed s (Signed n) I64
unfolding given
t_signed s n h = let t : ltb n (2 ^ 63) ≡ true = lt-ltb n (2 ^ 63) h in record { is = ap (λ b. given b I64) t }

pub t_unsigned : (s : Scope) (n : ℕ) → n < 2 ^ 64 → Typed s (Unsigned n) U64
unfolding given
t_unsigned s n h = let t : ltb n (2 ^ 64) ≡ true = lt-ltb n (2 ^ 64) h in record { is = ap (λ b. given b U64) t }

pub t_constant : (s : Scope) (b : Bool) (n : ℕ) → n < 2 ^ 63 → Typed s (constant b n) (word_for b)
t_constant s true n h = t_signed s n h
t_constant s false n h = t_unsigned s n (omega arith)

pub t_var : (s : Scope) (k : ℕ) (w : CWord) → slice_get s.words k ≡ Some w → Typed s (Var k) w
t_var s k w h = record { is = h }

pub t_add : {s : Scope} {a b : Exp} (w : CWord) → Typed s a w → Typed s b w → Typed s (Binary op.Add a b) w
unfolding operator_type
t_add I64 p q = record { is = λ i. operator_type op.Add (p.is i) (q.is i) }
t_add U64 p q = record { is = λ i. operator_type op.Add (p.is i) (q.is i) }

pub t_sub : {s : Scope} {a b : Exp} (w : CWord) → Typed s a w → Typed s b w → Typed s (Binary op.Sub a b) w
unfolding operator_type
t_sub I64 p q = record { is = λ i. operator_type op.Sub (p.is i) (q.is i) }
t_sub U64 p q = record { is = λ i. operator_type op.Sub (p.is i) (q.is i) }

pub t_mul : {s : Scope} {a b : Exp} (w : CWord) → Typed s a w → Typed s b w → Typed s (Binary op.Mul a b) w
unfolding operator_type
t_mul I64 p q = record { is = λ i. operator_type op.Mul (p.is i) (q.is i) }
t_mul U64 p q = record { is = λ i. operator_type op.Mul (p.is i) (q.is i) }

pub t_and : {s : Scope} {a b : Exp} → Typed s a U64 → Typed s b U64 → Typed s (Binary op.And a b) U64
unfolding operator_type
t_and p q = record { is = λ i. operator_type op.And (p.is i) (q.is i) }

pub t_shr : {s : Scope} {a b : Exp} (w : CWord) → Typed s a w → Typed s b U64 → Typed s (Binary op.Shr a b) w
unfolding operator_type
t_shr w p q = record { is = λ i. operator_type op.Shr (p.is i) (q.is i) }

pub t_neg : {s : Scope} {e : Exp} → Typed s e I64 → Typed s (Neg e) I64
unfolding negated_type
t_neg p = record { is = λ i. negated_type (p.is i) }

pub t_bits : {s : Scope} {e : Exp} → Typed s e I64 → Typed s (Cast U64 e) U64
unfolding cast_type
t_bits p = record { is = λ i. cast_type U64 (p.is i) }

pub t_number : {s : Scope} {e : Exp} → Typed s e U64 → Typed s (Cast I64 e) I64
unfolding cast_type
t_number p = record { is = λ i. cast_type I64 (p.is i) }

pub t_choose : {s : Scope} {a b c d : Exp} {r : CRel} (v w : CWord) → Typed s a v → Typed s b v → Typed s c w → Typed s d w → Typed s (Choose (Compare r a b) c d) w
unfolding is_one_type
t_choose I64 I64 p q x y = record { is = λ i. if is_one_type (p.is i) (q.is i) then (if is_one_type (x.is i) (y.is i) then x.is i else None) else None }
t_choose I64 U64 p q x y = record { is = λ i. if is_one_type (p.is i) (q.is i) then (if is_one_type (x.is i) (y.is i) then x.is i else None) else None }
t_choose U64 I64 p q x y = record { is = λ i. if is_one_type (p.is i) (q.is i) then (if is_one_type (x.is i) (y.is i) then x.is i else None) else None }
t_choose U64 U64 p q x y = record { is = λ i. if is_one_type (p.is i) (q.is i) then (if is_one_type (x.is i) (y.is i) then x.is i else None) else None }
