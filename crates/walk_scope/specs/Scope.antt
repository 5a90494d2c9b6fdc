-- What stays the same over a function that is walked, and the refusals that rest on it alone.
use Rattle.std.specs.Prelude.{ℕ, ◌||◌, List}
use Rattle.fic_base.specs.declared.code.Code.TheVariants as code
use Rattle.fic_base.specs.declared.place.Place.{Place}
use Rattle.mat_ast.specs.Tree.{Fun}
use Rattle.fi_eval.specs.Meaning.{Context, context_of}
use Rattle.walk_scope.specs.Told.{Told, Refuses, when◌then◌else◌}
use Rattle.walk_scope.specs.Names.{divisions, supported, unsupported, is_listed}

-- what stays the same over a function
pub record Scope : Type 0 where
  pub context : Context
  -- the text of the token at a place
  pub shown : Place → List ℕ

-- a kind that isn't supported yet is refused at its place
abbrev pub unbuilt : {A : Type 0} → Scope → Place → Told A
unbuilt sc at = Refuses code.Unsupported at (sc.shown at)

-- a name that is no variable
abbrev pub other_name : {A : Type 0} → Scope → Place → List ℕ → Told A
other_name sc at name =
    when is_listed name sc.context.functions || (is_listed name supported || is_listed name unsupported)
    then Refuses code.Unsupported at name
    else (when is_listed name divisions then Refuses code.Division at name else Refuses code.UnknownName at name)

abbrev pub scope_of : (Place → List ℕ) → List Fun → Fun → Scope
scope_of shown fs f = record { context = context_of fs f; shown = shown }
