use Rattle.std.proofs.Common.{◌≡◌, drop}
use Rattle.mat_ast.specs.View.{funcs_view}
use Rattle.fi_eval.specs.Meaning.{function_named}
use Rattle.eval_source.proofs.functions.function_named.Given as goal

abbrev pub invariant-loop-f : goal.invariant-loop-f
invariant-loop-f l = function_named (funcs_view l.funcs) l.name ≡ function_named (funcs_view (drop l.f-index l.funcs)) l.name
