use Rattle.std.proofs.Common.{arith, ◌∙◌, sym}
use Rattle.hipe_base.proofs.FileLaws.{next_named, next_other, within_more}
use Rattle.hipe_base.proofs.stored_file.place_of.Goals as goal
use Rattle.hipe_base.proofs.stored_file.place_of.Goals.{then-is_named, else-is_named}

pub loop-i-preserved : goal.loop-i-preserved
loop-i-preserved c =
    elim c.if-is_named.branch [
      | then-is_named w ↦
          rw w.found-is (record {
            within = omega arith;
            bytes = next_named _ _ _ _ c.loop-i-test.true c.index-files-i.is (sym c.is_named.ensures ∙ w.if-is_named.true);
          })
      | else-is_named w ↦
          rw w.found-is (record {
            within = within_more _ _ c.loop-i.invariant.within;
            bytes = next_other _ _ _ _ c.loop-i-test.true c.index-files-i.is (sym c.is_named.ensures ∙ w.if-is_named.false) ∙ c.loop-i.invariant.bytes;
          })
    ]
