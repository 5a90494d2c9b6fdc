-- What a source gives at an entry and at declared types of its inputs: a program, or a refusal.
use Rattle.std.specs.Prelude.{◌≡◌, ◌⊎◌, ℕ, List, [], ◌∷◌, length, map, Some}
use Rattle.fic_base.specs.declared.refusal.Refusal.{Refusal}
use Rattle.num_type.specs.Types.{NumericType}
use Rattle.num_type.specs.View.{type_of}
use Rattle.shape_rules.specs.declared.declared.Declared.{Declared}
use Rattle.shape_rules.specs.Shapes.{rows_of, columns_of}
use Rattle.mat_ast.specs.declared.tree.Ident.{Ident}
use Rattle.mat_ast.specs.Tree.{Fun}
use Rattle.mat_token.specs.declared.token.Token.{Token}
use Rattle.mat_token.specs.Lexeme.{lexemes_of}
use Rattle.mat_token.specs.Reads as reads
use Rattle.mat_token.specs.Outcome.{IsOutcome}
use Rattle.mat_parse.specs.Parsed as parsed
use Rattle.mat_parse.specs.Parsed.{IsParseOf, IsParse}
use Rattle.fi_eval.specs.Meaning.{function_named}
use Rattle.c_tree.specs.Tree.{Fixed, Slot, Program}
use Rattle.c_tree.specs.CText.{IsText}
use Rattle.c_tree.specs.Layout.{layout}
use Rattle.c_tree.specs.WellFormed.{IsWellFormed}
use Rattle.walk_scope.specs.Told as walk
use Rattle.walk_scope.specs.Shown.{text_at}
use Rattle.scalar_walk.specs.Walk.{walked}
use Rattle.scalar_program.specs.Correspondence.{form_of, real_form, IsProgramOf}

-- the types of the elements
abbrev pub num_types : List Declared → List NumericType
num_types = map (λ d. type_of d.num)

-- the inputs with their declared types and shapes
abbrev pub declared_slots : List Ident → List Declared → List Slot
declared_slots (i ∷ is) (d ∷ ds) =
    record { name = i.text; kind = Fixed (type_of d.num) d.complex; rows = rows_of d.shape; columns = columns_of d.shape } ∷ declared_slots is ds
declared_slots is ds = []

-- what the walk over a source tells: the types of the outputs, or its refusal
pub record IsWalk (source entry : List ℕ) (ds : List Declared) (told : walk.Told (List NumericType)) : Type 0 where
  pub tokens : List Token
  pub are : IsOutcome source (reads.Gives tokens)
  pub file : List Fun
  pub tree : IsParseOf (lexemes_of source tokens) (parsed.Tree file)
  pub tells : walked (text_at (lexemes_of source tokens)) file entry (num_types ds) ≡ told

-- the refusal of a source: that of its bytes, or that of the walk over its tree
abbrev pub IsSourceRefusal : List ℕ → List ℕ → List Declared → Refusal → Type 0
IsSourceRefusal source entry ds r = IsParse source (parsed.Refused r) ⊎ IsWalk source entry ds (walk.Refuses r.code r.place r.shown)

-- The text is the layout of exactly one program of C, and of no other program a text. The program is well formed and at most 500 deep; its
-- interface names the entry, the inputs with their declared types, as many as there are, and the outputs with the types that the walk tells;
-- and for every list of inputs of these types, every contents of the outputs at the call and every bound on loop turns it does nothing
-- undefined and what evaluation of the source gives.
--
-- The premise on who calls the function in C: the arrays that are handed in have the lengths that their parameters declare, no two of them
-- overlap, and each input is in the range of its declared type. Of other calls nothing is said: a run of the program takes each array as a list
-- of its own, of the declared length.
pub record IsCompiled (source entry : List ℕ) (ds : List Declared) (text : List ℕ) : Type 0 where
  pub file : List Fun
  pub tree : IsParse source (parsed.Tree file)
  pub function : Fun
  pub is_entry : function_named file entry ≡ Some function
  pub counts : length ds ≡ length function.inputs
  pub types : List NumericType
  pub accepted : IsWalk source entry ds (walk.Passes types)
  pub program : Program
  pub is_text : text ≡ layout program
  pub only : (q : Program) → IsWellFormed q → IsText q text → q ≡ program
  pub is_program : IsProgramOf file entry (declared_slots function.inputs ds) program
  pub outputs : map form_of program.interface.outputs ≡ map real_form types
