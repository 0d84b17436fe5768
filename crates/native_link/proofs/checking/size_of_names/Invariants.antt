use Rattle.std.proofs.Common.{◌≡◌, length, take}
use Rattle.std.specs.List.{flat_map}
use Rattle.image_format.specs.Spelling.{text}
use Rattle.native_link.proofs.checking.size_of_names.Given as goal

abbrev pub invariant-loop-name : goal.invariant-loop-name
invariant-loop-name l = l.size ≡ length (flat_map text (take l.name-index l.names))
