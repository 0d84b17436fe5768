use Rattle.std.proofs.Common.{◌≡◌, get_or}
use Rattle.std.proofs.lemmas.List.{get_or_default}
use Rattle.image_format.specs.declared.parts.Native.{Native}
use Rattle.image_format.specs.Fitting.{IsSizedNative}
use Rattle.image_format.specs.Spelling.{native}
use Rattle.image_format.proofs.Widths.{item_put}
use Rattle.image_format.proofs.writing.put_natives.Goals as goal

none : Native
none = record { fid = 0; first = 0; count = 0 }

pub loop-n-preserved : goal.loop-n-preserved
unfolding none
loop-n-preserved c =
    let natives = c.args.natives.now in
    let i = c.loop-n.n-index in
    let n = get_or natives i none in
    let is : n ≡ get_or natives i n = get_or_default natives i none n c.loop-n-test.true in
    item_put native IsSizedNative c.args.out.now.items c.loop-n.out.items c.put_native.new.out.items natives i n c.loop-n-test.true is c.loop-n.invariant c.in_ok-put_native.ensures
