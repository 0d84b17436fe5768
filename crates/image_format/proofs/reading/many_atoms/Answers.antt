use Rattle.std.proofs.Common.{[], ◌∙◌}
use Rattle.std.proofs.lemmas.Result.{err_from_is_err_and}
use Rattle.image_format.specs.Cursor.{many_at}
use Rattle.image_format.specs.Reading.{atom_at}
use Rattle.indexmap.specs.IndexSet.{keys}
use Rattle.tagged_words.specs.Atoms.{and_atom}
use Rattle.image_format.proofs.Kept.{atom_is_new}
use Rattle.tagged_words.proofs.Tables.{insert_new}
use Rattle.image_format.proofs.Loop.{goes_on, ends, is_done}
use Rattle.image_format.proofs.reading.many_atoms.Goals as goal

pub returns-in_err-atom : goal.returns-in_err-atom
returns-in_err-atom c =
    let p = err_from_is_err_and c.from_residual.result c.from_residual.ensures.1 in
    rw (p.1, p.2) (ends atom_at and_atom c.in_err-atom.field-0.0 (keys c.loop.atoms) c.args.count c.loop.counter (keys c.loop.atoms) c.loop.reader (many_at atom_at and_atom c.args.count [] c.args.reader.now) c.loop-test.true c.in_err-atom.ensures c.loop.invariant)

pub loop-preserved : goal.loop-preserved
loop-preserved c =
    rw (c.in_ok-insert.ensures.keys ∙ insert_new (keys c.loop.atoms) c.in_ok-atom.atom (atom_is_new (keys c.loop.atoms) c.loop.reader c.in_ok-atom.atom c.atom_of.new.reader c.in_ok-atom.ensures).0) (goes_on atom_at and_atom (keys c.loop.atoms) c.args.count c.loop.counter (keys c.loop.atoms) c.loop.reader c.in_ok-atom.atom c.atom_of.new.reader (many_at atom_at and_atom c.args.count [] c.args.reader.now) c.loop-test.true c.in_ok-atom.ensures c.loop.invariant)

pub returns : goal.returns
returns c = is_done atom_at and_atom (keys c.loop.atoms) c.args.count c.loop.counter (keys c.loop.atoms) c.loop.reader (many_at atom_at and_atom c.args.count [] c.args.reader.now) c.loop-test.false c.loop.invariant
