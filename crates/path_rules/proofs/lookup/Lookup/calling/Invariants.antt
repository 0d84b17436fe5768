-- What was said so far, with what is left.
use Rattle.std.proofs.Common.{◌≡◌, ◌++◌, drop, map}
use Rattle.beam_code.specs.Shape.{shape_of}
use Rattle.path_rules.specs.Rules.{calls_well}
use Rattle.path_rules.specs.Sites.{placed_in}
use Rattle.path_rules.proofs.lookup.Lookup.calling.Given as goal

abbrev pub invariant-loop-item : goal.invariant-loop-item
invariant-loop-item l =
    l.made ++ map (λ i. calls_well l.self.modules.now (placed_in l.self.owner.now l.self.function.now) (shape_of i.instr)) (drop l.item-index l.item-items)
    ≡ map (λ i. calls_well l.self.modules.now (placed_in l.self.owner.now l.self.function.now) (shape_of i.instr)) l.self.function.now.items
