use Rattle.std.proofs.Common.{arith}
use Rattle.image_format.specs.declared.limits.TheConstants.{MOST_IMAGE_BYTES}
use Rattle.native_link.proofs.Sizes.{descriptors_from, within}
use Rattle.native_link.proofs.checking.offset_of_descriptors.Goals as goal

pub overflow_mul-result : goal.overflow_mul-result
overflow_mul-result c = omega (arith, (within c.args.parts.now MOST_IMAGE_BYTES c.requires).3, c.len.ensures, c.bytes_before_natives.ensures.is)

pub overflow_add-result-2 : goal.overflow_add-result-2
overflow_add-result-2 c = omega (arith, (within c.args.parts.now MOST_IMAGE_BYTES c.requires).3, c.len.ensures, c.bytes_before_natives.ensures.is)

pub overflow_mul-result-2 : goal.overflow_mul-result-2
overflow_mul-result-2 c = omega (arith, (within c.args.parts.now MOST_IMAGE_BYTES c.requires).3, c.len.ensures, c.len-2.ensures, c.bytes_before_natives.ensures.is)

pub overflow_add-result-3 : goal.overflow_add-result-3
overflow_add-result-3 c = omega (arith, (within c.args.parts.now MOST_IMAGE_BYTES c.requires).3, c.len.ensures, c.len-2.ensures, c.bytes_before_natives.ensures.is)

pub returns : goal.returns
returns c = record { is = omega (arith, descriptors_from c.args.parts.now, c.len.ensures, c.len-2.ensures, c.bytes_before_natives.ensures.is) }
