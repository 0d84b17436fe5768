-- The mentions so far, and those of the items that are left.
use Rattle.std.proofs.Common.{◌≡◌, ◌++◌, drop, flat_map}
use Rattle.beam_code.specs.Shape.{shape_of}
use Rattle.ir_code.specs.Mentions.{shape_mentions}
use Rattle.ir_code.specs.Shown.{shown}
use Rattle.ir_code.proofs.mentioning.put_items.Given as goal

abbrev pub invariant-loop-item : goal.invariant-loop-item
invariant-loop-item l = shown l.all.items ++ flat_map (λ x. shape_mentions (shape_of x.instr)) (drop l.item-index l.items) ≡ shown l.fn.all.items ++ flat_map (λ x. shape_mentions (shape_of x.instr)) l.items
