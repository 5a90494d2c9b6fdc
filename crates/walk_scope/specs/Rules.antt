-- The conditions of a node's rule at its place.
use Rattle.std.specs.Prelude.{ℕ, List, ◌++◌, codes, Option, Some, None, option_map, unwrap_or}
use Rattle.fic_base.specs.declared.place.Place.{Place}
use Rattle.mat_ast.specs.declared.tree.UnOp.TheVariants as un
use Rattle.mat_ast.specs.Tree.{Exp, Number, Unary, Paren}
use Rattle.fi_rules.specs.Checked.{Checked, Fine, Missing}
use Rattle.fi_rules.specs.Texts.{Around, shown_text}
use Rattle.walk_scope.specs.Told.{Told, Passes, Refuses}

-- what conditions come to, where this stands in the source
unfoldable pub told_at : {A : Type 0} → Place → Around → Checked A → Told A
told_at at around (Fine x) = Passes x
told_at at around (Missing code shown) = Refuses code at (shown_text around shown)

-- the text of a literal inside any parentheses
unfoldable pub literal_in : Exp → Option (List ℕ)
literal_in (Number at text imaginary) = Some text
literal_in (Paren at e) = literal_in e
literal_in e = None

-- a literal behind at most one minus
unfoldable pub constant_in : Exp → Option (List ℕ)
constant_in (Unary at un.Minus e) = option_map (λ text. codes "-" ++ text) (literal_in e)
constant_in (Paren at e) = constant_in e
constant_in e = literal_in e

-- an operator with its operands
abbrev pub around_pair : List ℕ → Exp → Exp → Around
around_pair operator a b = record { itself = operator; left = unwrap_or (constant_in a) operator; right = unwrap_or (constant_in b) operator }

-- an operator with one operand, or a name that is called
abbrev pub around_one : List ℕ → Around
around_one itself = record { itself = itself; left = itself; right = itself }
