use Rattle.std.proofs.Common.{length, ap, ◌∙◌, arith}
use Rattle.std.specs.List.{flat_map}
use Rattle.image_format.specs.Spelling.{text}
use Rattle.image_format.specs.declared.limits.TheConstants.{MOST_IMAGE_BYTES}
use Rattle.native_link.proofs.Sizes.{roots_from, within}
use Rattle.native_link.proofs.checking.bytes_before_roots.Goals as goal

pub overflow_mul-result : goal.overflow_mul-result
overflow_mul-result c = (let size = c.size_of_names-names.ensures ∙ ap (λ l. length (flat_map text l)) c.as_slice.ensures in omega (arith, roots_from c.args.parts.now, (within c.args.parts.now MOST_IMAGE_BYTES c.requires).1, size, c.len.ensures, c.bytes_before_atoms.ensures.is))

pub overflow_add-result-3 : goal.overflow_add-result-3
overflow_add-result-3 c = (let size = c.size_of_names-names.ensures ∙ ap (λ l. length (flat_map text l)) c.as_slice.ensures in omega (arith, roots_from c.args.parts.now, (within c.args.parts.now MOST_IMAGE_BYTES c.requires).1, size, c.len.ensures, c.bytes_before_atoms.ensures.is))

pub returns-clause-is : goal.returns-clause-is
returns-clause-is c = (let size = c.size_of_names-names.ensures ∙ ap (λ l. length (flat_map text l)) c.as_slice.ensures in omega (arith, roots_from c.args.parts.now, (within c.args.parts.now MOST_IMAGE_BYTES c.requires).1, size, c.len.ensures, c.bytes_before_atoms.ensures.is))

pub returns-clause-within : goal.returns-clause-within
returns-clause-within c = (let size = c.size_of_names-names.ensures ∙ ap (λ l. length (flat_map text l)) c.as_slice.ensures in omega (arith, roots_from c.args.parts.now, (within c.args.parts.now MOST_IMAGE_BYTES c.requires).1, size, c.len.ensures, c.bytes_before_atoms.ensures.is))
