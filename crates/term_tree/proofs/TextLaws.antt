-- The text of the tree of a term, by what the term is made of.
use Rattle.std.proofs.Common.{◌≡◌, ℕ, ◌<◌, true, not, List, [], ◌∷◌, ◌++◌, map, Option, Some, None, option_map, refl, sym, ap, ◌∙◌, append_assoc, arith}
use Rattle.std.specs.List.{flat_map}
use Rattle.term_tree.specs.declared.term.Term as t
use Rattle.term_tree.specs.declared.term.Term.{Term}
use Rattle.term_tree.specs.Tree.{Tree, Int, Atom, Nil, Cons, Tuple, conses, trees_of}
use Rattle.term_tree.specs.Order.{rank}
use Rattle.term_tree.specs.Term.{tree_of, is_canonical, is_list, is_end, end_tree}
use Rattle.term_tree.specs.Text.{text_of, behind_head, elements_text, behind_element, joined, end_text}
use Rattle.term_tree.proofs.TermLaws.{tree_of-Tuple, improper_parts, both_hold, not_true}
use Rattle.term_tree.proofs.CompareLaws.{tree_of-List, first_rank, canonical_end}

abbrev with_comma : Tree → List ℕ
with_comma u = 44 ∷ text_of u

behind-conses : (ts : List Tree) (e : Tree) → behind_head (conses ts e) ≡ flat_map with_comma ts ++ behind_head e
behind-conses [] e = refl
behind-conses (x ∷ ts) e = ap (λ r. 44 ∷ (text_of x ++ r)) (behind-conses ts e) ∙ ap (λ r. 44 ∷ r) (sym (append_assoc (text_of x) (flat_map with_comma ts) (behind_head e)))

text-conses : (x : Tree) (ts : List Tree) (e : Tree) → text_of (conses (x ∷ ts) e) ≡ 91 ∷ (joined (x ∷ ts) ++ behind_head e)
text-conses x ts e = ap (λ r. 91 ∷ (text_of x ++ r)) (behind-conses ts e) ∙ ap (λ r. 91 ∷ r) (sym (append_assoc (text_of x) (flat_map with_comma ts) (behind_head e)))

behind-end : (e : Tree) → rank e < 3 → behind_head e ≡ 124 ∷ (text_of e ++ (93 ∷ []))
behind-end (Int i) h = refl
behind-end (Atom a) h = refl
behind-end Nil h = absurd (omega arith)
behind-end (Cons x r) h = absurd (omega arith)
behind-end (Tuple ts) h = refl

end_closes : (e : Option Term) → is_end e ≡ true → behind_head (end_tree e) ≡ end_text (option_map tree_of e) ++ (93 ∷ [])
end_closes None h = refl
end_closes (Some x) h = behind-end (tree_of x) (first_rank x (not_true (is_list x) (both_hold (is_canonical x) (not (is_list x)) h).1))

pub text-List : (xs : List Term) (e : Option Term) → is_canonical (t.List xs e) ≡ true
    → text_of (tree_of (t.List xs e)) ≡ 91 ∷ (joined (map tree_of xs) ++ (end_text (option_map tree_of e) ++ (93 ∷ [])))
text-List [] None h = ap text_of (tree_of-List [] None)
text-List [] (Some e) h = absurd (omega (arith, (improper_parts [] e h).some))
text-List (x ∷ xs) e h = ap text_of (tree_of-List (x ∷ xs) e) ∙ text-conses (tree_of x) (map tree_of xs) (end_tree e) ∙ ap (λ r. 91 ∷ (joined (map tree_of (x ∷ xs)) ++ r)) (end_closes e (canonical_end (x ∷ xs) e h))

behind-trees_of : (ts : List Tree) → behind_element (trees_of ts) ≡ flat_map with_comma ts
behind-trees_of [] = refl
behind-trees_of (x ∷ ts) = ap (λ r. 44 ∷ (text_of x ++ r)) (behind-trees_of ts)

elements-trees_of : (ts : List Tree) → elements_text (trees_of ts) ≡ joined ts
elements-trees_of [] = refl
elements-trees_of (x ∷ ts) = ap (λ r. text_of x ++ r) (behind-trees_of ts)

pub text-Tuple : (xs : List Term) → text_of (tree_of (t.Tuple xs)) ≡ 123 ∷ (joined (map tree_of xs) ++ (125 ∷ []))
text-Tuple xs = ap text_of (tree_of-Tuple xs) ∙ ap (λ r. 123 ∷ (r ++ (125 ∷ []))) (elements-trees_of (map tree_of xs))
