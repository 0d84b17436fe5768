-- If those that are left are names, all are.
use Rattle.std.proofs.Common.{◌≡◌, drop}
use Rattle.std.specs.List.{list_all}
use Rattle.term_tree.specs.Name.{is_name}
use Rattle.ir_code.proofs.building.are_names.Given as goal

abbrev pub invariant-loop-name : goal.invariant-loop-name
invariant-loop-name l = list_all is_name (drop l.name-index l.names) ≡ list_all is_name l.names
