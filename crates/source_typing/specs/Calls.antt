-- Calls of names that are no variables and no functions of the file.
use Rattle.std.specs.Prelude.{ℕ, Bool, nat_lt, if◌then◌else◌, List, [], Option, Some, None, bytes_eq, codes}
use Rattle.fic_base.specs.declared.code.Code.TheVariants as code
use Rattle.mat_ast.specs.Tree.{Exp, Number, Words, Name, Apply, End, Unary, Binary, Post, Range, RangeBy, Paren, Matrix}
use Rattle.fi_rules.specs.Checked.{Itself, Counts}
use Rattle.fi_meaning.specs.Expressions.{is_word}
use Rattle.node_rules.specs.Arguments.{ArgumentTy}
use Rattle.node_rules.specs.Calls.{NamedCall, call_shape, is_told_before, call_met, call_worked}
use Rattle.node_rules.specs.Ruled.{Ruled, Fine, Missing, Why, Shows, ◌>>=◌}
use Rattle.node_rules.specs.Types.{NodeTy}
use Rattle.walk_scope.specs.Names.{is_listed, unsupported, divisions}
use Rattle.typed_ir.specs.Tree.{TItems, TNone}
use Rattle.source_typing.specs.Counts as counts
use Rattle.source_typing.specs.Pending.{Pending}

-- typed arguments, and their types, none for `:`, which has no typed one
pub record Given : Type 0 where
  pub items : TItems
  pub types : List (Option ArgumentTy)
  pub counts : counts.Counts

abbrev pub nothing_given : counts.Counts → Given
nothing_given c = record { items = TNone; types = []; counts = c }

-- the truth of the word true or false, where an argument is that word
unfoldable pub word_in : List (List ℕ) → List (List ℕ) → Exp → Option Bool
word_in variables functions (Name at name) = if is_word variables functions (Name at name) then Some (bytes_eq name (codes "true")) else None
word_in variables functions e = None

-- ---- by the name

-- a built-in function gives one output: that comes behind the number of arguments and before what they are
unfoldable pub of_one_output : ℕ → Ruled NamedCall → Ruled NamedCall
of_one_output wanted (Fine k) = Missing code.ArgCount (Shows (Counts wanted 1))
of_one_output wanted (Missing c why) = if is_told_before c then Missing c why else Missing code.ArgCount (Shows (Counts wanted 1))

abbrev pub outputs_met : ℕ → Ruled NamedCall → Ruled NamedCall
outputs_met wanted r = if nat_lt 1 wanted then of_one_output wanted r else r

-- names that aren't supported, divisions, built-in functions; another name is unknown
abbrev pub name_met : List ℕ → List (Option ArgumentTy) → ℕ → Ruled NamedCall
name_met name args wanted =
    if is_listed name unsupported then Missing code.Unsupported (Shows Itself)
    else (if is_listed name divisions then Missing code.Division (Shows Itself) else outputs_met wanted (call_met name args))

abbrev pub call_pending : List ℕ → Given → ℕ → Ruled Pending
call_pending name g wanted = name_met name g.types wanted >>= (λ k. Fine (record { shape = call_shape k; rest = call_worked k }))
