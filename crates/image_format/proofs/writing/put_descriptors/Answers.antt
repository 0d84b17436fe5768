use Rattle.image_format.specs.Fitting.{IsSizedDescriptor}
use Rattle.image_format.specs.Spelling.{descriptor}
use Rattle.image_format.proofs.Widths.{item_put}
use Rattle.image_format.proofs.writing.put_descriptors.Goals as goal

pub loop-d-preserved : goal.loop-d-preserved
loop-d-preserved c = item_put descriptor IsSizedDescriptor c.args.out.now.items c.loop-d.out.items c.put_descriptor.new.out.items c.args.descriptors.now c.loop-d.d-index c.d-item.result c.loop-d-test.true c.d-item.is c.loop-d.invariant c.in_ok-put_descriptor.ensures
