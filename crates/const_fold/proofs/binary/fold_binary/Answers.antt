use Rattle.mat_ast.specs.declared.tree.BinOp.TheVariants.{Add, Sub, Mul, ElemMul}
use Rattle.const_fold.proofs.Chosen.{made_with, power_made, power_refused, refused_with}
use Rattle.const_fold.proofs.binary.fold_binary.Goals as goal

pub returns-in-Add-clause-value : goal.returns-in-Add-clause-value
returns-in-Add-clause-value c = made_with c.args.op Add c.elementwise.result c.args.a.now c.args.b.now c.in-Add.is c.elementwise.ensures.value

pub returns-in-Add-clause-refusal : goal.returns-in-Add-clause-refusal
returns-in-Add-clause-refusal c = refused_with c.args.op Add c.operator_text-shown.result.now c.elementwise.result c.args.a.now c.args.b.now c.args.at c.in-Add.is c.operator_text-shown.ensures c.elementwise.ensures.refusal

pub returns-in-Sub-clause-value : goal.returns-in-Sub-clause-value
returns-in-Sub-clause-value c = made_with c.args.op Sub c.elementwise-in-Sub.result c.args.a.now c.args.b.now c.in-Sub.is c.elementwise-in-Sub.ensures.value

pub returns-in-Sub-clause-refusal : goal.returns-in-Sub-clause-refusal
returns-in-Sub-clause-refusal c = refused_with c.args.op Sub c.operator_text-shown.result.now c.elementwise-in-Sub.result c.args.a.now c.args.b.now c.args.at c.in-Sub.is c.operator_text-shown.ensures c.elementwise-in-Sub.ensures.refusal

pub returns-in-ElemMul-clause-value : goal.returns-in-ElemMul-clause-value
returns-in-ElemMul-clause-value c = made_with c.args.op ElemMul c.elementwise-in-ElemMul.result c.args.a.now c.args.b.now c.in-ElemMul.is c.elementwise-in-ElemMul.ensures.value

pub returns-in-ElemMul-clause-refusal : goal.returns-in-ElemMul-clause-refusal
returns-in-ElemMul-clause-refusal c = refused_with c.args.op ElemMul c.operator_text-shown.result.now c.elementwise-in-ElemMul.result c.args.a.now c.args.b.now c.args.at c.in-ElemMul.is c.operator_text-shown.ensures c.elementwise-in-ElemMul.ensures.refusal

pub returns-in-Mul-clause-value : goal.returns-in-Mul-clause-value
returns-in-Mul-clause-value c = made_with c.args.op Mul c.multiplied.result c.args.a.now c.args.b.now c.in-Mul.is c.multiplied.ensures.value

pub returns-in-Mul-clause-refusal : goal.returns-in-Mul-clause-refusal
returns-in-Mul-clause-refusal c = refused_with c.args.op Mul c.operator_text-shown.result.now c.multiplied.result c.args.a.now c.args.b.now c.args.at c.in-Mul.is c.operator_text-shown.ensures c.multiplied.ensures.refusal

pub returns-in_default : goal.returns-in_default
returns-in_default c = record {
  value = power_made c.args.op c.powered.result c.args.a.now c.args.b.now c.requires c.in_default.not-Add c.in_default.not-Sub c.in_default.not-ElemMul c.in_default.not-Mul c.powered.ensures.value;
  refusal = power_refused c.args.op c.operator_text-shown.result.now c.powered.result c.args.a.now c.args.b.now c.args.at c.requires c.in_default.not-Add c.in_default.not-Sub c.in_default.not-ElemMul c.in_default.not-Mul c.operator_text-shown.ensures c.powered.ensures.refusal;
}
