-- The headers of a file.
use Rattle.std.specs.Prelude.{ℕ, List, [], ◌∷◌, codes}
use Rattle.fic_base.specs.declared.code.Code.TheVariants as code
use Rattle.mat_ast.specs.declared.tree.Ident.{Ident}
use Rattle.mat_ast.specs.Tree.{Fun}
use Rattle.walk_scope.specs.Told.{Told, Passes, Refuses, ◌>>=◌, when◌then◌else◌}
use Rattle.walk_scope.specs.Names.{is_listed}

-- names of one list differ, and none is reserved for lists of any length
abbrev pub names_checked : List Ident → List (List ℕ) → Told (List (List ℕ))
names_checked [] seen = Passes seen
names_checked (name ∷ names) seen =
    when is_listed name.text (codes "varargin" ∷ codes "varargout" ∷ [])
    then Refuses code.Unsupported name.place name.text
    else (when is_listed name.text seen then Refuses code.BadArgument name.place name.text
    else names_checked names (name.text ∷ seen))

-- each header: the outputs, the function's name, the inputs
abbrev pub headers_checked : List Fun → List (List ℕ) → Told (List (List ℕ))
headers_checked [] seen = Passes seen
headers_checked (f ∷ fs) seen = do
  outs ← names_checked f.outputs []
  here ← names_checked (f.name ∷ []) seen
  ins ← names_checked f.inputs []
  headers_checked fs here
