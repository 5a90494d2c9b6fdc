use Rattle.std.proofs.Common.{◌≡◌, ◌<◌, ℕ, suc, ◌+◌, refl, ap, subst, arith}
use Rattle.shape_rules.specs.Shapes.{columns_of}
use Rattle.num_type.proofs.Constants.{not_true}
use Rattle.const_eval.specs.Complex.{complex_of, AreSame}
use Rattle.const_eval.proofs.Listed.{each_more}
use Rattle.const_fold.specs.MatrixProducts.{sum_to, IsExactStep}
use Rattle.const_fold.proofs.Sums.{next_same, next_step, step_before, same_self}
use Rattle.const_fold.proofs.matrix.sum_of_products.Goals as goal

pub loop-n-init : goal.loop-n-init
loop-n-init c = record {
  steps = λ j l. absurd (omega (arith, l));
  same = same_self (complex_of c.zero-sum.result) (sum_to c.args.a.now c.args.b.now c.args.row c.args.column 0) c.zero-sum.ensures;
}

pub returns-in-None-clause-steps : goal.returns-in-None-clause-steps
returns-in-None-clause-steps c =
    let l : c.loop-n.n < columns_of c.args.a.now.shape = omega (arith, c.loop-n-test.true, c.cols-inner.ensures.value, ap columns_of c.shape.ensures) in
    (λ t. absurd (not_true t), λ all. c.in-None.ensures.steps.1 (step_before c.args.a.now c.args.b.now c.args.row c.args.column c.loop-n.n (complex_of c.loop-n.sum) (complex_of c.number-x.result) (complex_of c.number-y.result) c.number-x.ensures c.number-y.ensures c.loop-n.invariant.same (all c.loop-n.n l)))

pub loop-n-preserved : goal.loop-n-preserved
loop-n-preserved c =
    let n : ℕ = c.loop-n.n in
    let e : suc n ≡ n + 1 = omega arith in
    let both = c.in-Some.ensures.steps.0 refl in
    record {
      steps = each_more (IsExactStep c.args.a.now c.args.b.now c.args.row c.args.column) n c.loop-n.invariant.steps
          (next_step c.args.a.now c.args.b.now c.args.row c.args.column n (complex_of c.loop-n.sum) (complex_of c.number-x.result) (complex_of c.number-y.result) c.number-x.ensures c.number-y.ensures c.loop-n.invariant.same both.0 both.1);
      same = subst (λ (i : ℕ). AreSame (complex_of c.in-Some.next) (sum_to c.args.a.now c.args.b.now c.args.row c.args.column i)) e
          (next_same c.args.a.now c.args.b.now c.args.row c.args.column n (complex_of c.in-Some.next) (complex_of c.loop-n.sum) (complex_of c.number-x.result) (complex_of c.number-y.result) c.number-x.ensures c.number-y.ensures c.loop-n.invariant.same c.in-Some.ensures.same);
    }

pub returns-clause-steps : goal.returns-clause-steps
returns-clause-steps c =
    let all : c.loop-n.n ≡ columns_of c.args.a.now.shape = omega (arith, c.loop-n-test.false, c.loop-n.auto.n-end, c.cols-inner.ensures.value, ap columns_of c.shape.ensures) in
    (λ t n l. c.loop-n.invariant.steps n (omega (arith, l, all)), λ k. refl)

pub returns-clause-same : goal.returns-clause-same
returns-clause-same c =
    let all : c.loop-n.n ≡ columns_of c.args.a.now.shape = omega (arith, c.loop-n-test.false, c.loop-n.auto.n-end, c.cols-inner.ensures.value, ap columns_of c.shape.ensures) in
    subst (λ (i : ℕ). AreSame (complex_of c.loop-n.sum) (sum_to c.args.a.now c.args.b.now c.args.row c.args.column i)) all c.loop-n.invariant.same
