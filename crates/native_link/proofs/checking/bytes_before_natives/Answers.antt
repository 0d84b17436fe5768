use Rattle.std.proofs.Common.{arith}
use Rattle.image_format.specs.declared.limits.TheConstants.{MOST_IMAGE_BYTES}
use Rattle.native_link.proofs.Sizes.{natives_from, within}
use Rattle.native_link.proofs.checking.bytes_before_natives.Goals as goal

pub overflow_mul-result : goal.overflow_mul-result
overflow_mul-result c = omega (arith, natives_from c.args.parts.now, (within c.args.parts.now MOST_IMAGE_BYTES c.requires).2, c.len.ensures, c.bytes_before_roots.ensures.is)

pub overflow_add-result-2 : goal.overflow_add-result-2
overflow_add-result-2 c = omega (arith, natives_from c.args.parts.now, (within c.args.parts.now MOST_IMAGE_BYTES c.requires).2, c.len.ensures, c.bytes_before_roots.ensures.is)

pub returns-clause-is : goal.returns-clause-is
returns-clause-is c = omega (arith, natives_from c.args.parts.now, (within c.args.parts.now MOST_IMAGE_BYTES c.requires).2, c.len.ensures, c.bytes_before_roots.ensures.is)

pub returns-clause-within : goal.returns-clause-within
returns-clause-within c = omega (arith, natives_from c.args.parts.now, (within c.args.parts.now MOST_IMAGE_BYTES c.requires).2, c.len.ensures, c.bytes_before_roots.ensures.is)
