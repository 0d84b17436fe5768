use Rattle.image_format.specs.Fitting.{IsName}
use Rattle.image_format.specs.Spelling.{text}
use Rattle.image_format.proofs.Widths.{item_put}
use Rattle.image_format.proofs.writing.put_names.Goals as goal

pub loop-name-preserved : goal.loop-name-preserved
loop-name-preserved c = item_put text IsName c.args.out.now.items c.loop-name.out.items c.put_name.new.out.items c.args.names.now c.loop-name.name-index c.name-item.result c.loop-name-test.true c.name-item.is c.loop-name.invariant c.in_ok-put_name.ensures
