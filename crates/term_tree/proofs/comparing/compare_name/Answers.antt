use Rattle.std.proofs.Common.{sym, arith}
use Rattle.term_tree.specs.Tree as tree
use Rattle.term_tree.proofs.CompareLaws.{before_list}
use Rattle.term_tree.proofs.comparing.compare_name.Goals as goal

pub returns-in-List : goal.returns-in-List
returns-in-List c =
    let fine = rw c.in-List.is at c.requires in
    sym (rw c.in-List.is (before_list (tree.Atom c.args.name.now) c.in-List.field-0 c.in-List.field-1 fine (omega arith)))
