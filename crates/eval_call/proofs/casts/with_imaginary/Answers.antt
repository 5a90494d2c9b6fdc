use Rattle.std.proofs.Common.{◌≡◌, All, vec_len, subst, sym, ◌∙◌}
use Rattle.std.specs.Prelude.{ℤ}
use Rattle.std.specs.Global.{Vec}
use Rattle.std.proofs.lemmas.Option.{same_Some}
use Rattle.num_type.specs.Types.{IsInRange}
use Rattle.num_type.specs.View.{type_of}
use Rattle.shape_rules.specs.Shapes.{elements_of}
use Rattle.eval_call.proofs.Forms.{zeros_count, zeros_inside}
use Rattle.eval_call.proofs.casts.with_imaginary.Goals as goal

pub invariant_of-r-clause-imaginary : goal.invariant_of-r-clause-imaginary
invariant_of-r-clause-imaginary c = λ x e.
    subst (λ (v : Vec ℤ). vec_len v ≡ elements_of c.args.a.shape) (same_Some c.args.im x e)
    (c.args.im.ok.0 ∙ zeros_count c.args.a.re.items c.args.im.items (elements_of c.args.a.shape) c.requires (sym c.args.a.re.ok.0 ∙ c.args.a.real))

pub invariant_of-r-clause-imaginary_in_range : goal.invariant_of-r-clause-imaginary_in_range
invariant_of-r-clause-imaginary_in_range c = λ x e.
    subst (λ (v : Vec ℤ). All (IsInRange (type_of c.args.a.num)) v.items) (same_Some c.args.im x e) (zeros_inside (type_of c.args.a.num) c.args.a.re.items c.args.im.items c.requires)
