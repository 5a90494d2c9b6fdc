use Rattle.mat_ast.specs.View.{expr_view}
use Rattle.mat_ast.specs.Source.{KeepsExp}
use Rattle.source_tests.proofs.trees.nested.Given as goal

abbrev pub invariant-loop : goal.invariant-loop
invariant-loop l = KeepsExp (expr_view l.e)
