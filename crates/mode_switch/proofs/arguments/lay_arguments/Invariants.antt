-- What is left to lay, and the room for it.
use Rattle.std.proofs.Common.{◌++◌, map, drop}
use Rattle.ir_code.proofs.Turns.{Left}
use Rattle.tagged_words.specs.Laid.{laid_in_turn, words_in_turn}
use Rattle.tagged_words.specs.declared.addresses.TheConstants.{HEAP_START}
use Rattle.term_tree.specs.Term.{tree_of}
use Rattle.word_laying.specs.Written.{written}
use Rattle.mode_switch.proofs.arguments.lay_arguments.Given as goal

abbrev pub invariant-loop-arg : goal.invariant-loop-arg
invariant-loop-arg l =
    Left l.atoms l.block l.words.items l.next (map tree_of (drop l.arg-index l.args)) (written l.fn.block HEAP_START (laid_in_turn l.atoms HEAP_START (map tree_of l.args)))
    (l.fn.words.items ++ words_in_turn l.atoms HEAP_START (map tree_of l.args))
