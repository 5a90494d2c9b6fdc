-- Part of the proof: what is asked of the program of a function, before its file is known. What is claimed of a program doesn't rest on it.
use Rattle.std.specs.Prelude.{◌≡◌, ◌≢◌, ℕ, List, [], length, Some, All, AllPairs}
use Rattle.fic_base.specs.Names.{IsName}
use Rattle.num_type.specs.Types.{NumericType}
use Rattle.mat_ast.specs.Tree.{Fun}
use Rattle.fi_eval.specs.Meaning.{Context, context_of, function_named, names_of}
use Rattle.c_tree.specs.Tree.{Program}
use Rattle.scalar_program.specs.Lowered.{real_slots}
use Rattle.scalar_program.specs.Correspondence.{IsProgramOf}

-- the names of a function's header are names, those of its inputs differ, and those of its outputs
pub record IsHeader (f : Fun) : Type 0 where
  pub name : IsName f.name.text
  pub inputs : All IsName (names_of f.inputs)
  pub outputs : All IsName (names_of f.outputs)
  pub inputs_differ : AllPairs (λ a b. a ≢ b) (names_of f.inputs)
  pub outputs_differ : AllPairs (λ a b. a ≢ b) (names_of f.outputs)
  pub any : f.outputs ≢ []

-- the names of a function's header are names, and there is an output
pub record HasNames (f : Fun) : Type 0 where
  pub name : IsName f.name.text
  pub inputs : All IsName (names_of f.inputs)
  pub outputs : All IsName (names_of f.outputs)
  pub any : f.outputs ≢ []

-- in every file in which this function is the entry in this context, with as many types as inputs, the program is one of that file
abbrev pub IsRight : Context → Fun → List NumericType → Program → Type 0
IsRight cx f ts p =
    (fs : List Fun) (entry : List ℕ) → function_named fs entry ≡ Some f → context_of fs f ≡ cx → length f.inputs ≡ length ts → IsHeader f
    → IsProgramOf fs entry (real_slots f.inputs ts) p
