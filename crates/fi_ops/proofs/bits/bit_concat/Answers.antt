use Rattle.std.proofs.Common.{◌≡◌, subst, IfSome}
use Rattle.fi_ops.specs.Elements.{Element}
use Rattle.fi_ops.specs.View.{element_of}
use Rattle.fi_ops.proofs.Stored.{concat_fits, concatenated_is}
use Rattle.fi_ops.proofs.bits.bit_concat.Goals as goal

pub unsigned-requires-clause-fits : goal.unsigned-requires-clause-fits
unsigned-requires-clause-fits c = concat_fits c.bits.result c.bits-2.result c.word.result c.word-low.result c.args.a.num.word c.args.b.num.word c.word.ensures.value c.word-low.ensures.value c.bits.ensures.below c.bits-2.ensures.below c.args.a.num.bits c.args.b.num.bits

pub returns-clause-value : goal.returns-clause-value
returns-clause-value c =
    subst (λ (x : Element). IfSome c.unsigned.result (λ e. element_of e ≡ x))
    (concatenated_is (element_of c.args.a) (element_of c.args.b) c.bits.result c.bits-2.result c.word.result c.word-low.result c.word.ensures.value c.word-low.ensures.value c.bits.ensures.below c.bits-2.ensures.below c.args.a.num.bits c.args.b.num.bits c.bits.ensures.value c.bits-2.ensures.value)
    c.unsigned.ensures.value
