-- Parts, conjugates and complex values of two real ones go by their rules.
use Rattle.std.proofs.Common.{refl}
use Rattle.fic_base.specs.declared.code.Code.TheVariants as code
use Rattle.fi_rules.specs.Checked.{Itself}
use Rattle.fi_rules.specs.Options.{and_then, where_so}
use Rattle.fi_rules.specs.Types.{same_type}
use Rattle.fi_rules.specs.Value.{Val, Fi, ComplexFi}
use Rattle.fi_values.specs.Arithmetic.{governing}
use Rattle.fi_values.specs.Queries.{real_part, imaginary_part, complex_of}
use Rattle.fi_values.specs.Shapes.{common}
use Rattle.fi_values.specs.Transposes.{conjugate}
use Rattle.fi_meaning.specs.Functions.{conjugate_of}
use Rattle.node_rules.specs.Pairs.{fits}
use Rattle.node_rules.specs.Parted.{part_ruled, real_value, imaginary_value, conjugate_ruled, conjugate_value, complex_ruled, complex_value}
use Rattle.node_rules.specs.Parts.{parts_in}
use Rattle.node_rules.specs.Ruled.{Shows, bind, tested}
use Rattle.node_rules.specs.TypedPairs.{typed_pair_met}
use Rattle.node_rules.specs.Types.{FiNode, ty_of}
use Rattle.node_rules.proofs.Binds.{fine_needed, fine_tested}
use Rattle.node_rules.proofs.Conditions.{fine_governed}
use Rattle.node_rules.proofs.Goes.{Goes, goes, stops, goes_then, goes_on}

pub real_law : (v : Val) → Goes (λ t. real_value t v) (real_part v) (part_ruled (ty_of v))
unfolding real_part part_ruled real_value parts_in ty_of
real_law (Fi t m s xs) = goes (FiNode t m _ s) refl
real_law (ComplexFi t m s xs ys) = goes (FiNode t m _ s) refl
real_law v = stops _ _

pub imaginary_law : (v : Val) → Goes (λ t. imaginary_value t v) (imaginary_part v) (part_ruled (ty_of v))
unfolding imaginary_part part_ruled imaginary_value parts_in ty_of
imaginary_law (Fi t m s xs) = goes (FiNode t m _ s) refl
imaginary_law (ComplexFi t m s xs ys) = goes (FiNode t m _ s) refl
imaginary_law v = stops _ _

pub conjugate_law : (v : Val) → Goes (λ t. conjugate_value v) (conjugate_of v) (conjugate_ruled (ty_of v))
unfolding conjugate_of conjugate conjugate_ruled ty_of and_then
conjugate_law (Fi t m s xs) = goes (FiNode t m _ s) refl
conjugate_law (ComplexFi t m s xs ys) = goes (FiNode t m _ s) refl
conjugate_law v = stops _ _

pub complex_law : (v w : Val) → Goes (λ t. complex_value t v w) (complex_of v w) (complex_ruled (ty_of v) (ty_of w))
unfolding complex_of typed_pair_met complex_value parts_in ty_of bind
complex_law (Fi t m s xs) (Fi u n r ys) =
    goes_on _ _ _ (tested code.BadArgument (Shows Itself) (same_type t u) t) (where_so (same_type t u) t) (fine_tested _ _ _ _) (λ t h.
    goes_on _ _ _ (fits s r) (common s r) (fine_needed _ _ _) (λ q i.
    goes_then _ _ _ (governing m n) (fine_governed m n) (λ g j. goes _ refl)))
complex_law v w = stops _ _
