use Rattle.std.proofs.Common.{◌≡◌, length, take}
use Rattle.std.specs.List.{flat_map}
use Rattle.image_format.specs.Spelling.{text}
use Rattle.native_link.proofs.checking.size_of_texts.Given as goal

abbrev pub invariant-loop-bytes : goal.invariant-loop-bytes
invariant-loop-bytes l = l.size ≡ length (flat_map text (take l.bytes-index l.texts))
