use Rattle.std.proofs.Common.{◌≡◌, ◌++◌, drop, map}
use Rattle.mat_ast.specs.View.{funcs_view}
use Rattle.eval_source.proofs.functions.function_names.Given as goal

abbrev pub invariant-loop-f : goal.invariant-loop-f
invariant-loop-f l = map (λ g. g.name.text) (funcs_view l.funcs) ≡ l.names.list.items ++ map (λ g. g.name.text) (funcs_view (drop l.f-index l.funcs))
