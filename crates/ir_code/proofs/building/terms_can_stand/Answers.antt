-- The names of the table are names, and the integers of canonical terms are small.
use Rattle.std.proofs.Common.{◌∙◌, map, ap, sym}
use Rattle.std.specs.List.{list_all}
use Rattle.ir_code.proofs.Sound.{all_stand, terms_good}
use Rattle.term_tree.specs.Name.{is_name}
use Rattle.term_tree.specs.Term.{tree_of}
use Rattle.ir_code.proofs.building.terms_can_stand.Goals as goal

pub returns : goal.returns
returns c =
    all_stand c.args.atoms.now (ap (list_all is_name) (sym c.names.ensures) ∙ c.are_names.ensures) (map tree_of c.args.terms.now) c.requires.named
    (terms_good c.args.terms.now c.requires.canonical) c.requires.few
