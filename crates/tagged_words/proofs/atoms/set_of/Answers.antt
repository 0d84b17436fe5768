use Rattle.std.proofs.Common.{◌≡◌, get_or, subst, sym}
use Rattle.indexmap.specs.IndexSet.{keys}
use Rattle.tagged_words.proofs.Tables.{one_more_key}
use Rattle.tagged_words.proofs.atoms.set_of.Goals as goal

pub loop-name-preserved : goal.loop-name-preserved
loop-name-preserved c =
    let is : c.in_ok-copy.field-0 ≡ get_or c.args.names.now c.loop-name.name-index c.in_ok-copy.field-0 = subst (λ y. y ≡ get_or c.args.names.now c.loop-name.name-index y) (sym c.in_ok-copy.ensures) c.name-item.is in
    one_more_key c.args.names.now (keys c.loop-name.set) (keys c.insert.new.self) c.loop-name.name-index c.in_ok-copy.field-0 c.requires.distinct c.loop-name-test.true is c.loop-name.invariant c.in_ok-insert.ensures.keys
