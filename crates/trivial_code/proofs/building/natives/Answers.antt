-- One more native function, and one fewer that is left.
use Rattle.std.proofs.Common.{◌≡◌, ◌+◌, ◌-◌, ◌++◌, ◌∷◌, [], suc, ap, sym, ◌∙◌, append_assoc, arith}
use Rattle.trivial_code.specs.Compiled.{native_at, natives_from}
use Rattle.trivial_code.proofs.building.natives.Goals as goal

pub loop-fid-preserved : goal.loop-fid-preserved
loop-fid-preserved c =
    let left : c.args.count - c.loop-fid.fid ≡ suc (c.args.count - (c.loop-fid.fid + 1)) = omega arith in
    rw c.in_ok-push.ensures.ok
    (append_assoc c.loop-fid.natives (native_at c.loop-fid.fid ∷ []) (natives_from (c.loop-fid.fid + 1) (c.args.count - (c.loop-fid.fid + 1)))
    ∙ sym (ap (λ k. c.loop-fid.natives ++ natives_from c.loop-fid.fid k) left)
    ∙ c.loop-fid.invariant)
