-- A text of few bytes has few characters.
use Rattle.std.proofs.Common.{ℕ, ◌≤◌, length, arith}
use Rattle.term_tree.proofs.NameLaws.{characters_few}
use Rattle.term_tree.proofs.name.Name.from_short.Goals as goal

pub invariant_of-result : goal.invariant_of-result
invariant_of-result c = let few = characters_few c.args.text.now c.utf8.text in rw c.in_ok-text.ensures.ok (omega arith)
