use Rattle.std.proofs.Common.{take}
use Rattle.module_texts.specs.Texts.{AreModulesOf}
use Rattle.module_texts.proofs.reading.modules_of.Given as goal

abbrev pub invariant-loop-index : goal.invariant-loop-index
invariant-loop-index l = AreModulesOf (take l.index l.texts) l.modules
