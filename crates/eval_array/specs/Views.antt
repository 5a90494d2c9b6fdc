-- What answers and selections of the code stand for.
use Rattle.std.specs.Prelude.{ℤ, List, Option, Some, None}
use Rattle.std.specs.Global.{Vec}
use Rattle.shape_rules.specs.declared.shape.Shape as code_shape
use Rattle.shape_rules.specs.Shapes.{elements_of}
use Rattle.fi_rules.specs.Value.{Shape}
use Rattle.fi_values.specs.Brackets.{Join, Beside, Above}
use Rattle.fi_values.specs.Subscripts.{Selection}
use Rattle.eval_value.specs.View.{shape_view}
use Rattle.eval_array.specs.declared.chosen.Chosen as code_chosen
use Rattle.eval_array.specs.declared.join.Join as code_join
use Rattle.eval_array.specs.declared.join.Join.TheVariants as join
use Rattle.eval_array.specs.declared.parts.Parts as code_parts
use Rattle.eval_array.specs.declared.selection.Selection as code_selection
use Rattle.eval_array.specs.Choices.{Choice}

-- a list that may be missing
abbrev pub listed : {A : Type 0} → Option (Vec A) → Option (List A)
listed None = None
listed (Some v) = Some v.items

abbrev pub selection_view : code_selection.Selection → Selection
selection_view k = record { shape = record { rows = k.rows; columns = k.columns }; places = listed k.places; fixed = k.fixed }

abbrev pub selection_answer : Option code_selection.Selection → Option Selection
selection_answer None = None
selection_answer (Some k) = Some (selection_view k)

abbrev pub choice_view : code_chosen.Chosen → Choice
choice_view c = record { size = elements_of c.own; own = shape_view c.own; places = listed c.places; fixed = c.fixed; oriented = c.oriented }

abbrev pub choice_answer : Option code_chosen.Chosen → Option Choice
choice_answer None = None
choice_answer (Some c) = Some (choice_view c)

abbrev pub shape_answer : Option code_shape.Shape → Option Shape
shape_answer None = None
shape_answer (Some s) = Some (shape_view s)

-- how two arrays are joined
abbrev pub join_view : code_join.Join → Join
join_view join.Beside = Beside
join_view join.Above = Above

-- stored integers of real and imaginary parts
abbrev pub parts_answer : Option code_parts.Parts → Option (List ℤ × List ℤ)
parts_answer None = None
parts_answer (Some p) = Some (p.re.items, p.im.items)
