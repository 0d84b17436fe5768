use Rattle.std.proofs.Common.{ap, ◌∙◌, w32, of_z, FitsSigned, rules}
use Rattle.std.proofs.lemmas.Int.{to_z-of_z}
use Rattle.sparc_code.specs.Bits.{field_at}
use Rattle.sparc_code.proofs.BitLemmas.{low_bits}
use Rattle.sparc_code.proofs.bits.unsigned_field.Goals as goal

pub returns : goal.returns
returns c =
    let fits : FitsSigned w32 c.args.number = search rules in
    c.field.ensures ∙ ap (λ word. field_at word 0 c.args.bits) (c.cast_unsigned.ensures ∙ ap (of_z w32) (to_z-of_z w32 c.args.number fits))
    ∙ low_bits c.args.bits c.args.number c.requires.bits_within c.requires.fits
