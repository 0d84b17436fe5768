-- There are numbers for the atoms of the image and of arguments that fit a heap.
use Rattle.std.proofs.Common.{map, subst, sym, arith}
use Rattle.std.proofs.lemmas.List.{length-map}
use Rattle.std.specs.List.{AllByRecursion}
use Rattle.laid_terms.proofs.Named.{of_named}
use Rattle.laid_terms.specs.Named.{IsNamed}
use Rattle.mode_switch.proofs.Laid.{few_names_of, row_is}
use Rattle.term_tree.specs.Term.{tree_of}
use Rattle.mode_switch.proofs.arguments.atoms_with.Goals as goal

pub add_row-requires : goal.add_row-requires
add_row-requires c =
    let vs = map tree_of c.args.args.now in
    let few = few_names_of c.args.image.now.parts.atoms vs in
    let count = length-map c.args.args.now tree_of in
    rw c.in_ok-atoms.ensures (omega (arith, few, count, c.requires.fitting.atoms, c.requires.words, c.requires.few))

pub terms_can_stand-requires-clause-named : goal.terms_can_stand-requires-clause-named
terms_can_stand-requires-clause-named c =
    let vs = map tree_of c.args.args.now in
    subst (λ names. AllByRecursion (IsNamed names) vs) (sym c.in_ok-add_row.ensures) (of_named c.in_ok-atoms.atoms vs)

pub terms_can_stand-requires-clause-few : goal.terms_can_stand-requires-clause-few
terms_can_stand-requires-clause-few c = let row = row_is (map tree_of c.args.args.now) in omega (arith, row, c.requires.words)
