use Rattle.std.proofs.Common.{◌≡◌, ◌&&◌, List, true, false, map, sym, ap, ◌∙◌}
use Rattle.std.specs.List.{list_all}
use Rattle.ir_code.proofs.Knows.{knows-List, knows-Tuple}
use Rattle.ir_code.specs.Known.{knows}
use Rattle.term_tree.specs.declared.term.Term.{Term}
use Rattle.term_tree.specs.Term.{end_tree, tree_of}
use Rattle.ir_code.proofs.knowing.+is_term_known.Goals as goal

pub is_term_known-returns-then-are_terms_known : goal.is_term_known-returns-then-are_terms_known
is_term_known-returns-then-are_terms_known t c =
    let names = c.args.atoms.now in
    let all : list_all (knows names) (map tree_of c.in-List.items) ≡ true =
    sym (ap (λ (xs : List Term). list_all (knows names) (map tree_of xs)) c.as_slice.ensures) ∙ sym c.are_terms_known.ensures ∙ c.if-are_terms_known.true in
    c.is_end_known.ensures ∙ sym (ap (λ b. b && knows names (end_tree c.in-List.end)) all) ∙ sym (knows-List names c.in-List.items c.in-List.end)
    ∙ ap (λ (x : Term). knows names (tree_of x)) (sym c.in-List.is)

pub is_term_known-returns-else-are_terms_known : goal.is_term_known-returns-else-are_terms_known
is_term_known-returns-else-are_terms_known t c =
    let names = c.args.atoms.now in
    let all : list_all (knows names) (map tree_of c.in-List.items) ≡ false =
    sym (ap (λ (xs : List Term). list_all (knows names) (map tree_of xs)) c.as_slice.ensures) ∙ sym c.are_terms_known.ensures ∙ c.if-are_terms_known.false in
    c.if-are_terms_known.false ∙ sym (ap (λ b. b && knows names (end_tree c.in-List.end)) all) ∙ sym (knows-List names c.in-List.items c.in-List.end)
    ∙ ap (λ (x : Term). knows names (tree_of x)) (sym c.in-List.is)

pub is_term_known-returns-in-Tuple : goal.is_term_known-returns-in-Tuple
is_term_known-returns-in-Tuple t c =
    let names = c.args.atoms.now in
    c.are_terms_known-in-Tuple.ensures ∙ ap (λ (xs : List Term). list_all (knows names) (map tree_of xs)) c.as_slice-in-Tuple.ensures
    ∙ sym (knows-Tuple names c.in-Tuple.items) ∙ ap (λ (x : Term). knows names (tree_of x)) (sym c.in-Tuple.is)
