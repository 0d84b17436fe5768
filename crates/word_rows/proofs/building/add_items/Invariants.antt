-- The rows so far, and those of the items that are left.
use Rattle.std.proofs.Common.{◌≡◌, ◌++◌, drop}
use Rattle.word_rows.specs.Rows.{behind_items, rows_from}
use Rattle.word_rows.specs.Setting.{here}
use Rattle.word_rows.proofs.building.add_items.Given as goal

abbrev pub invariant-loop-item : goal.invariant-loop-item
invariant-loop-item l = record {
  at : l.at ≡ l.item-index;
  rows : l.rows.items ++ rows_from (here l.setting) l.at l.roots.left.now (drop l.item-index l.setting.function.now.items)
      ≡ l.fn.rows.items ++ rows_from (here l.setting) 0 l.fn.roots.left.now l.setting.function.now.items;
  left : behind_items (drop l.item-index l.setting.function.now.items) l.roots.left.now ≡ behind_items l.setting.function.now.items l.fn.roots.left.now;
}
