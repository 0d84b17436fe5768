use Rattle.std.proofs.Common.{arith}
use Rattle.image_format.specs.declared.limits.TheConstants.{MOST_IMAGE_BYTES}
use Rattle.native_link.proofs.Sizes.{within}
use Rattle.native_link.proofs.checking.offset_of_native.Goals as goal

pub overflow_mul-result : goal.overflow_mul-result
overflow_mul-result c = omega (arith, (within c.args.parts.now MOST_IMAGE_BYTES c.requires.size).3, c.requires.index, c.bytes_before_natives.ensures.is)

pub overflow_add-result-2 : goal.overflow_add-result-2
overflow_add-result-2 c = omega (arith, (within c.args.parts.now MOST_IMAGE_BYTES c.requires.size).3, c.requires.index, c.bytes_before_natives.ensures.is)

pub overflow_cast-result : goal.overflow_cast-result
overflow_cast-result c = omega (arith, (within c.args.parts.now MOST_IMAGE_BYTES c.requires.size).3, c.requires.index, c.bytes_before_natives.ensures.is)
