use Rattle.std.proofs.Common.{◌≡◌, take}
use Rattle.indexmap.specs.IndexSet.{keys}
use Rattle.tagged_words.proofs.atoms.set_of.Given as goal

abbrev pub invariant-loop-name : goal.invariant-loop-name
invariant-loop-name l = keys l.set ≡ take l.name-index l.names
