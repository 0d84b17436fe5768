use Rattle.image_format.specs.Fitting.{DescriptorFits, after_descriptor}
use Rattle.std.proofs.Common.{◌≤◌}
use Rattle.image_format.specs.declared.limits.TheConstants.{MOST_FRAME}
use Rattle.image_format.proofs.Widths.{All-from_follow}
use Rattle.image_format.proofs.writing.put_back.Goals as goal

pub put_descriptors-requires : goal.put_descriptors-requires
put_descriptors-requires c = rw c.as_slice-3.ensures (All-from_follow DescriptorFits after_descriptor (λ d. d.frame ≤ MOST_FRAME) (λ s x h. h.most) 0 c.args.parts.now.descriptors c.requires.sites)
