-- Where the next descriptor stands, and the first wrong field among those that are left.
use Rattle.std.proofs.Common.{◌≡◌, ◌+◌, drop, take, length}
use Rattle.std.specs.List.{flat_map}
use Rattle.image_format.specs.Spelling.{descriptor}
use Rattle.native_link.specs.Checking.{wrong_descriptor}
use Rattle.native_link.proofs.places.Frames.wrong_descriptor.Given as goal

abbrev pub invariant-loop-d : goal.invariant-loop-d
invariant-loop-d l =
    record {
      at : l.at ≡ l.start + length (flat_map descriptor (take l.d-index l.descriptors));
      wrong : wrong_descriptor l.self.natives.now l.self.checked.now l.at (drop l.d-index l.descriptors)
          ≡ wrong_descriptor l.self.natives.now l.self.checked.now l.start l.descriptors;
    }
