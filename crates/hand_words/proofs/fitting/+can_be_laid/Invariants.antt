use Rattle.std.proofs.Common.{All, take}
use Rattle.hand_words.specs.Fitting.{Fits}
use Rattle.hand_words.proofs.fitting.+can_be_laid.Given as goal

abbrev pub invariant-are_laid-loop-item : goal.invariant-are_laid-loop-item
invariant-are_laid-loop-item l = All (Fits l.atoms) (take l.item-index l.items)
