-- Functions on bits go by their rules.
use Rattle.std.proofs.Common.{◌≡◌, refl, sym, ◌∙◌, ℕ, true, false}
use Rattle.std.specs.Prelude.{ℤ, ◌&&◌, nat_le, nat_lt, Some, None}
use Rattle.fic_base.specs.declared.code.Code.TheVariants as code
use Rattle.fi_ops.specs.Elements.{Element}
use Rattle.fi_rules.specs.Checked.{Itself}
use Rattle.fi_rules.specs.Options.{and_then, ◌|>◌, where_so}
use Rattle.fi_rules.specs.Types.{same_type}
use Rattle.fi_rules.specs.Value.{Val, Fi, ComplexFi, Number}
use Rattle.fi_values.specs.Arithmetic.{governing, fi_value}
use Rattle.fi_values.specs.Bits.{turned_bits, word_of, shifted, two_typed, bits_between}
use Rattle.fi_values.specs.Shapes.{common}
use Rattle.fi_meaning.specs.Functions.{natural}
use Rattle.node_rules.specs.Bits.{natural_ruled, number_or_nought, natural_in, bits_paired, paired_value, complemented_ruled, each_value, complemented_value, shifted_ruled, shifted_value, sliced_ruled, sliced_parts, sliced_value}
use Rattle.node_rules.specs.Pairs.{fits}
use Rattle.node_rules.specs.Parts.{parts_in}
use Rattle.node_rules.specs.Ruled.{Shows, bind, tested, fine}
use Rattle.node_rules.specs.TypedPairs.{typed_pair_met}
use Rattle.node_rules.specs.Types.{FiNode, ty_of, known}
use Rattle.node_rules.proofs.Binds.{then_none, fine_needed, fine_tested}
use Rattle.node_rules.proofs.Conditions.{fine_governed}
use Rattle.node_rules.proofs.Goes.{Goes, goes, stops, by, goes_then, goes_on, goes_test}

-- what is known of a value without a run has its number
pub natural_known : (k : Val) → natural (known (ty_of k)) ≡ natural k
unfolding natural known ty_of
natural_known (Number s cs) = refl
natural_known k = refl

pub fine_natural : (k : Val) → fine (natural_ruled (ty_of k)) ≡ natural k
fine_natural k = fine_needed _ _ _ ∙ natural_known k

number_is : (k : Val) (n : ℕ) → natural k ≡ Some n → natural_in k ≡ n
unfolding number_or_nought
number_is k n e = rw e refl

pub paired_law : (f : Element → Element → ℤ) (v w : Val) → Goes (λ t. paired_value f t v w) (two_typed f v w) (bits_paired (ty_of v) (ty_of w))
unfolding two_typed typed_pair_met paired_value parts_in ty_of bind
paired_law f (Fi t m s xs) (Fi u n r ys) =
    goes_on _ _ _ (tested code.BadArgument (Shows Itself) (same_type t u) t) (where_so (same_type t u) t) (fine_tested _ _ _ _) (λ t h.
    goes_on _ _ _ (fits s r) (common s r) (fine_needed _ _ _) (λ q i.
    goes_then _ _ _ (governing m n) (fine_governed m n) (λ g j. goes _ refl)))
paired_law f v w = stops _ _

pub complemented_law : (v : Val) → Goes (λ t. complemented_value t v) (turned_bits v) (complemented_ruled (ty_of v))
unfolding complemented_ruled each_value parts_in fi_value ty_of
complemented_law (Fi t m s xs) = goes _ refl
complemented_law (ComplexFi t m s xs ys) = goes _ refl
complemented_law v = stops _ _

pub shifted_law : (f : ℕ → Element → ℤ) (v k : Val) → Goes (λ t. shifted_value f t v k) (natural k |> (λ n. shifted f n v)) (shifted_ruled (ty_of v) (ty_of k))
unfolding word_of shifted_ruled each_value parts_in fi_value ty_of and_then
shifted_law f (Fi t m s xs) k =
    goes_then _ _ _ (natural k) (fine_natural k) (λ n h. goes_test _ _ _ _ _ (nat_lt n t.word) n n (λ e. rw (sym (number_is k n h)) (goes (FiNode t m false s) refl)))
shifted_law f (ComplexFi t m s xs ys) k =
    goes_then _ _ _ (natural k) (fine_natural k) (λ n h. goes_test _ _ _ _ _ (nat_lt n t.word) n n (λ e. rw (sym (number_is k n h)) (goes (FiNode t m true s) refl)))
shifted_law f v k = by _ (then_none (natural k) (λ n e. refl)) (stops _ _)

pub sliced_law : (v l r : Val) → Goes (λ t. sliced_value t v l r) (natural l |> (λ l. natural r |> (λ r. bits_between l r v))) (sliced_ruled (ty_of v) (ty_of l) (ty_of r))
unfolding bits_between sliced_ruled sliced_parts sliced_value fi_value ty_of
sliced_law (Fi t m s xs) l r =
    goes_then _ _ _ (natural l) (fine_natural l) (λ i g.
    goes_then _ _ _ (natural r) (fine_natural r) (λ j h.
    goes_test _ _ _ _ _ (nat_le 1 j && (nat_le j i && nat_le i t.word)) i i (λ e. rw (sym (number_is l i g), sym (number_is r j h)) (goes (FiNode _ None false s) refl))))
sliced_law (ComplexFi t m s xs ys) l r =
    goes_then _ _ _ (natural l) (fine_natural l) (λ i g.
    goes_then _ _ _ (natural r) (fine_natural r) (λ j h.
    goes_test _ _ _ _ _ (nat_le 1 j && (nat_le j i && nat_le i t.word)) i i (λ e. rw (sym (number_is l i g), sym (number_is r j h)) (goes (FiNode _ None true s) refl))))
sliced_law v l r = by _ (then_none (natural l) (λ i e. then_none (natural r) (λ j h. refl))) (stops _ _)
