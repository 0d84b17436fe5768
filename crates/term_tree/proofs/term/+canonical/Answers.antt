use Rattle.std.proofs.Common.{◌≡◌, true, false}
use Rattle.term_tree.specs.Term as terms
use Rattle.term_tree.proofs.TermLaws.{improper_front, canonical-proper, canonical-Tuple}
use Rattle.term_tree.proofs.term.+canonical.Goals as goal

pub Term::is_canonical-returns-in-None : goal.Term::is_canonical-returns-in-None
Term::is_canonical-returns-in-None t c = let e = canonical-proper c.in-List.items in cc

pub Term::is_canonical-returns-in-Tuple : goal.Term::is_canonical-returns-in-Tuple
Term::is_canonical-returns-in-Tuple t c = let e = canonical-Tuple c.in-Tuple.items in cc

pub Term::is_canonical-returns-else-not-is_canonical : goal.Term::is_canonical-returns-else-not-is_canonical
Term::is_canonical-returns-else-not-is_canonical t c =
    let no_list : terms.is_list c.in-Some.last ≡ false = cc in
    let tail : terms.is_canonical c.in-Some.last ≡ true = cc in
    let e = improper_front c.in-List.items c.in-Some.last (λ q. let k = c.is_empty.ensures.1 q in absurd (cc)) no_list tail in
    cc
