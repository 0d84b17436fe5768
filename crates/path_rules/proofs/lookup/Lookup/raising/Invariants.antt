-- What was said so far, with what is left.
use Rattle.std.proofs.Common.{◌≡◌, ◌++◌, drop, map}
use Rattle.beam_code.specs.Gates.{may_raise}
use Rattle.beam_code.specs.Shape.{shape_of}
use Rattle.path_rules.proofs.lookup.Lookup.raising.Given as goal

abbrev pub invariant-loop-item : goal.invariant-loop-item
invariant-loop-item l =
    l.made ++ map (λ i. may_raise l.self.modules.now (shape_of i.instr)) (drop l.item-index l.item-items)
    ≡ map (λ i. may_raise l.self.modules.now (shape_of i.instr)) l.self.function.now.items
