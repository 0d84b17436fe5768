use Rattle.std.proofs.Common.{◌<◌, length, subst, sym, ap, arith}
use Rattle.tagged_words.specs.declared.addresses.TheConstants.{MOST_ATOM_NUMBERS}
use Rattle.tagged_words.specs.Atoms.{IsTable}
use Rattle.tagged_words.proofs.Tables.{with_atom_is_table}
use Rattle.tagged_words.proofs.atoms.Atoms.add.Goals as goal

pub invariant_of-self-2 : goal.invariant_of-self-2
invariant_of-self-2 c =
    let room : length c.self.inside.names.keys < MOST_ATOM_NUMBERS = omega (arith, ap length c.self.view_is, c.requires) in
    subst IsTable (sym c.in_ok-place.ensures.keys) (with_atom_is_table c.self.inside.names.keys c.args.name c.self.invariant room)
