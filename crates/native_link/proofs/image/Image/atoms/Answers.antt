use Rattle.std.proofs.Common.{subst, sym}
use Rattle.native_link.specs.Checking.{linked}
use Rattle.native_link.proofs.Tables.{linked_is_table}
use Rattle.tagged_words.specs.Atoms.{IsTable}
use Rattle.native_link.proofs.image.Image.atoms.Goals as goal

pub of-requires : goal.of-requires
of-requires c = subst IsTable (sym c.as_slice.ensures) (linked_is_table (linked c.self.inside.parts c.self.inside.checked) c.self.invariant)
