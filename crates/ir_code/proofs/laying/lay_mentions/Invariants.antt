-- What is left to lay, and the room for it.
use Rattle.std.proofs.Common.{◌≡◌, ◌+◌, ◌*◌, ◌≤◌, ◌++◌, drop}
use Rattle.std.specs.List.{AllByRecursion}
use Rattle.ir_code.specs.Laying.{CanStand, literals_in}
use Rattle.tagged_words.specs.Laid.{laid_in_turn, words_in_turn}
use Rattle.tagged_words.specs.declared.addresses.TheConstants.{LITERAL_START}
use Rattle.word_laying.specs.Count.{row_words}
use Rattle.word_laying.specs.Laying.{IsPlace, region_end}
use Rattle.word_laying.specs.Written.{written}
use Rattle.ir_code.proofs.laying.lay_mentions.Given as goal

abbrev pub invariant-loop-mention : goal.invariant-loop-mention
invariant-loop-mention l = record {
  words : written l.block l.next (laid_in_turn l.atoms l.next (literals_in (drop l.mention-index l.mentions))) ≡ written l.fn.block LITERAL_START (laid_in_turn l.atoms LITERAL_START (literals_in l.mentions));
  roots : l.roots.items ++ words_in_turn l.atoms l.next (literals_in (drop l.mention-index l.mentions)) ≡ l.fn.roots.items ++ words_in_turn l.atoms LITERAL_START (literals_in l.mentions);
  place : IsPlace l.block l.next;
  room : l.next + 4 * row_words 0 (literals_in (drop l.mention-index l.mentions)) ≤ region_end l.block;
  stand : AllByRecursion (CanStand l.atoms) (literals_in (drop l.mention-index l.mentions));
}
