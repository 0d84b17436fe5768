use Rattle.std.proofs.Common.{length, ap, arith}
use Rattle.std.specs.List.{flat_map}
use Rattle.image_format.specs.Spelling.{descriptor}
use Rattle.native_link.proofs.Sizes.{all_bytes}
use Rattle.native_link.proofs.checking.check_descriptors.Goals as goal

pub wrong_descriptor-requires-clause-size : goal.wrong_descriptor-requires-clause-size
wrong_descriptor-requires-clause-size c =
    omega (arith, all_bytes c.args.parts.now, c.requires.size, c.offset_of_descriptors.ensures, ap (λ l. length (flat_map descriptor l)) c.as_slice-3.ensures)
