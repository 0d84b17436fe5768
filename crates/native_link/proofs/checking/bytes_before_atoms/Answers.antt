use Rattle.std.proofs.Common.{length, ap, ◌∙◌, arith}
use Rattle.std.specs.List.{flat_map}
use Rattle.image_format.specs.Spelling.{text}
use Rattle.image_format.specs.declared.limits.TheConstants.{MOST_IMAGE_BYTES}
use Rattle.native_link.proofs.Sizes.{atoms_from, within}
use Rattle.native_link.proofs.checking.bytes_before_atoms.Goals as goal

pub returns-clause-is : goal.returns-clause-is
returns-clause-is c = (let size = c.size_of_texts.ensures ∙ ap (λ l. length (flat_map text l)) c.as_slice.ensures in omega (arith, atoms_from c.args.parts.now, (within c.args.parts.now MOST_IMAGE_BYTES c.requires).0, size))

pub returns-clause-within : goal.returns-clause-within
returns-clause-within c = (let size = c.size_of_texts.ensures ∙ ap (λ l. length (flat_map text l)) c.as_slice.ensures in omega (arith, atoms_from c.args.parts.now, (within c.args.parts.now MOST_IMAGE_BYTES c.requires).0, size))
