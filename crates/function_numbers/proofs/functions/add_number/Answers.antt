-- A key that has no number yet.
use Rattle.std.proofs.Common.{sym}
use Rattle.indexmap.specs.IndexMap.{get}
use Rattle.function_numbers.specs.Keys.{same_key}
use Rattle.function_numbers.proofs.Noted.{first_noted}
use Rattle.function_numbers.proofs.functions.add_number.Goals as goal

pub returns-in_ok-insert : goal.returns-in_ok-insert
returns-in_ok-insert c =
    first_noted (get same_key c.args.map.now) (get same_key c.insert.new.self) c.args.key c.args.number (sym c.if-not-contains_key.ensures) c.in_ok-insert.ensures.updates.0
