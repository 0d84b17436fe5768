-- Modules whose constants have room: their literals in an image, and their names beside the atoms of the machine itself (docs/FORMAT.md, Atoms, Literals).
use Rattle.std.specs.Prelude.{List, ◌≤◌}
use Rattle.std.specs.List.{sum_by}
use Rattle.beam_code.specs.declared.module.Module.{Module}
use Rattle.image_format.specs.declared.limits.TheConstants.{MOST_LITERALS}
use Rattle.ir_code.specs.declared.building.TheConstants.{MOST_NAMES}
use Rattle.module_sizes.specs.Counts.{literal_words_in, names_in}

-- each name and each word as often as it stands there
pub record HaveRoom (ms : List Module) : Type 0 where
  pub words : sum_by literal_words_in ms ≤ MOST_LITERALS
  pub names : sum_by names_in ms ≤ MOST_NAMES
