use Rattle.mat_ast.specs.View.{funcs_view}
use Rattle.eval_value.specs.View.{row_view}
use Rattle.eval_source.proofs.Entries.{no_entry, named_entry}
use Rattle.eval_source.proofs.levels.evaluated.Goals as goal

pub returns-in-None : goal.returns-in-None
returns-in-None c = no_entry c.function_named.result (funcs_view c.args.funcs.now) c.args.entry.now (row_view c.args.values) c.args.turns c.function_named.ensures c.in-None.is

pub returns-in-Some : goal.returns-in-Some
returns-in-Some c =
    named_entry c.entered.result c.function_named.result c.in-Some.f (funcs_view c.args.funcs.now) c.args.entry.now (row_view c.args.values) c.args.turns c.function_named.ensures c.in-Some.is c.entered.ensures
