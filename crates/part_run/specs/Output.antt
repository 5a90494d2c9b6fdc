-- The number that a run leaves.
use Rattle.std.specs.Prelude.{zero, suc, ℤ, pos, [], ◌∷◌, Option, None, slice_get}
use Rattle.num_type.specs.Types.{NumericType}
use Rattle.c_tree.specs.Run.{Result, Ended, Over, Undefined, run}
use Rattle.lower_scalar.specs.Part.{Part}
use Rattle.part_run.specs.PartProgram.{part_program}

-- the first element of the first output array, where a run ends with the status 0
abbrev pub first_output : Result → Option ℤ
first_output (Ended zero (zs ∷ more)) = slice_get zs 0
first_output (Ended zero []) = None
first_output (Ended (suc status) outputs) = None
first_output Over = None
first_output (Undefined token) = None

-- what the program of a part leaves in its output, which holds 0 at first, for two numbers
abbrev pub part_output : NumericType → NumericType → NumericType → Part → ℤ → ℤ → Option ℤ
part_output first second to p x y = first_output (run (part_program first second to p) ((x ∷ []) ∷ (y ∷ []) ∷ []) ((pos 0 ∷ []) ∷ []) 0)
