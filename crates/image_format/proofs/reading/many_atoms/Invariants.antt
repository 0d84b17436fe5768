use Rattle.std.proofs.Common.{◌≡◌, ◌-◌, []}
use Rattle.image_format.specs.Cursor.{many_at}
use Rattle.image_format.specs.Reading.{atom_at}
use Rattle.indexmap.specs.IndexSet.{keys}
use Rattle.tagged_words.specs.Atoms.{and_atom}
use Rattle.image_format.proofs.Loop.{with_front}
use Rattle.image_format.proofs.reading.many_atoms.Given as goal

abbrev pub invariant-loop : goal.invariant-loop
invariant-loop l = with_front (keys l.atoms) (many_at atom_at and_atom (l.count - l.counter) (keys l.atoms) l.reader) ≡ many_at atom_at and_atom l.count [] l.fn.reader
