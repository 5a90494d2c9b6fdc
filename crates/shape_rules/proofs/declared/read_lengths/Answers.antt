use Rattle.std.proofs.Common.{◌≡◌, subst, to_z, of_z, w32, ◌↔◌}
use Rattle.std.proofs.lemmas.Int.{to_z-of_z}
use Rattle.std.specs.Prelude.{IsSome, IfSome}
use Rattle.num_type.specs.Types.{IsWithin}
use Rattle.num_type.specs.View.{type_of}
use Rattle.shape_rules.proofs.Texts.{no_lengths, fits_word}
use Rattle.shape_rules.proofs.Readers.{made_type, unread_word, unread_fraction}
use Rattle.shape_rules.proofs.declared.read_lengths.Goals as goal

pub returns-in-None : goal.returns-in-None
returns-in-None c t s e = no_lengths t c.args.bytes.now c.in-None.ensures e

pub returns-in-None-read_u32 : goal.returns-in-None-read_u32
returns-in-None-read_u32 c t s e = unread_word t c.args.bytes.now c.in-Some.word.now c.in-Some.fraction.now c.in-Some.ensures.0 c.in-Some.ensures.1 c.in-None-read_u32.ensures e

pub returns-in-None-read_fraction : goal.returns-in-None-read_fraction
returns-in-None-read_fraction c t s e = unread_fraction t c.args.bytes.now c.in-Some.word.now c.in-Some.fraction.now c.in-Some.ensures.0 c.in-Some.ensures.1 c.in-None-read_fraction.ensures e

pub returns-in-Some-read_fraction : goal.returns-in-Some-read_fraction
returns-in-Some-read_fraction c =
    let back : to_z w32 (of_z w32 c.in-Some-read_fraction.fraction) ≡ c.in-Some-read_fraction.fraction = to_z-of_z w32 c.in-Some-read_fraction.fraction (fits_word c.in-Some-read_fraction.fraction c.in-Some-read_fraction.ensures.1 c.in-Some-read_fraction.ensures.2) in
    made_type c.make.result c.args.signed c.in-Some-read_u32.word c.in-Some-read_fraction.fraction c.args.bytes.now c.in-Some.word.now c.in-Some.fraction.now
    c.in-Some.ensures.0 c.in-Some.ensures.1 c.in-Some-read_u32.ensures.0 c.in-Some-read_u32.ensures.1 c.in-Some-read_fraction.ensures.0 c.in-Some-read_fraction.ensures.1 c.in-Some-read_fraction.ensures.2
    (subst (λ f. IsSome c.make.result ↔ IsWithin (record { signed = c.args.signed; word = c.in-Some-read_u32.word; fraction = f })) back c.make.ensures.limits)
    (subst (λ f. IfSome c.make.result (λ t. type_of t ≡ record { signed = c.args.signed; word = c.in-Some-read_u32.word; fraction = f })) back c.make.ensures.parts)
