-- The terms that are left decide, since those before are known.
use Rattle.std.proofs.Common.{◌≡◌, drop, map}
use Rattle.std.specs.List.{list_all}
use Rattle.ir_code.specs.Known.{knows}
use Rattle.term_tree.specs.Term.{tree_of}
use Rattle.ir_code.proofs.knowing.+is_term_known.Given as goal

abbrev pub invariant-are_terms_known-loop-term : goal.invariant-are_terms_known-loop-term
invariant-are_terms_known-loop-term l = list_all (knows l.atoms) (map tree_of (drop l.term-index l.terms)) ≡ list_all (knows l.atoms) (map tree_of l.terms)
