-- What a list and a tuple that can be laid are made of.
use Rattle.std.proofs.Common.{◌≡◌, ℕ, ◌+◌, ◌-◌, ◌*◌, ◌<◌, ◌≤◌, List, [], ◌∷◌, All, map, length, Option, refl, ap, subst, ◌∙◌, arith}
use Rattle.std.proofs.lemmas.List.{length-map}
use Rattle.std.proofs.lemmas.List.Elements.{All-cons}
use Rattle.laid_terms.specs.Named.{IsNamed, AreNamed}
use Rattle.tagged_words.specs.Laid.{word_for}
use Rattle.term_tree.specs.declared.term.Term as t
use Rattle.term_tree.specs.declared.term.Term.{Term}
use Rattle.term_tree.specs.IsTerm.{IsTerm, AreTerms, most_elements}
use Rattle.term_tree.specs.Size.{size_of, words_of}
use Rattle.term_tree.specs.Term.{tree_of, end_tree}
use Rattle.term_tree.specs.Tree as u
use Rattle.term_tree.specs.Tree.{Tree, conses, trees_of}
use Rattle.term_tree.proofs.CompareLaws.{tree_of-List}
use Rattle.term_tree.proofs.TermLaws.{tree_of-Tuple}
use Rattle.word_laying.proofs.Rows.{words-List, words-Tuple, row-more}
use Rattle.word_laying.specs.Count.{row_words}
use Rattle.word_laying.specs.Laying.{CanBeLaid, AllCanBeLaid, Fits}

-- a term whose atoms are in a table can be laid
mutual
  pub can_be_laid : (names : List (List ℕ)) → (v : Tree) → IsTerm v → IsNamed names v → CanBeLaid names v
  can_be_laid names (u.Int i) term known = term
  can_be_laid names (u.Atom a) term known = known
  can_be_laid names u.Nil term known = tt
  can_be_laid names (u.Cons head tail) term known = (can_be_laid names head term.0 known.0, can_be_laid names tail term.1 known.1)
  can_be_laid names (u.Tuple vs) term known = (term.0, all_can_be_laid names vs term.1 known)

  all_can_be_laid : (names : List (List ℕ)) → (vs : u.Trees) → AreTerms vs → AreNamed names vs → AllCanBeLaid names vs
  all_can_be_laid names u.No terms known = tt
  all_can_be_laid names (u.More v vs) terms known = (can_be_laid names v terms.0 known.0, all_can_be_laid names vs terms.1 known.1)

-- ---- lists

pub record ListParts (names : List (List ℕ)) (x : Term) (xs : List Term) (end : Option Term) : Type 0 where
  pub items : All (Fits names) xs
  pub tail : CanBeLaid names (end_tree end)
  pub words : words_of (tree_of x) ≡ 2 * length xs + row_words 0 (map tree_of xs) + words_of (end_tree end)

items_fit : (names : List (List ℕ)) (xs : List Term) (e : Tree) → CanBeLaid names (conses (map tree_of xs) e) → All (Fits names) xs
items_fit names [] e h = λ k d low. absurd (omega arith)
items_fit names (x ∷ xs) e h = All-cons (Fits names) x xs h.0 (items_fit names xs e h.1)

tail_fits : (names : List (List ℕ)) (xs : List Term) (e : Tree) → CanBeLaid names (conses (map tree_of xs) e) → CanBeLaid names e
tail_fits names [] e h = h
tail_fits names (x ∷ xs) e h = tail_fits names xs e h.1

pub list_parts : (names : List (List ℕ)) (x : Term) (xs : List Term) (end : Option Term) → x ≡ t.List xs end → Fits names x → ListParts names x xs end
list_parts names x xs end is fits =
    let tree : tree_of x ≡ conses (map tree_of xs) (end_tree end) = ap tree_of is ∙ tree_of-List xs end in
    let can : CanBeLaid names (conses (map tree_of xs) (end_tree end)) = subst (CanBeLaid names) tree fits in
    let two = row-more 1 (map tree_of xs) in
    let one = row-more 0 (map tree_of xs) in
    let long = length-map xs tree_of in
    record {
      items = items_fit names xs (end_tree end) can;
      tail = tail_fits names xs (end_tree end) can;
      words = ap (λ y. words_of (tree_of y)) is ∙ words-List xs end ∙ omega arith;
    }

-- the word of a list with elements
word-some : (names : List (List ℕ)) (to : ℕ) (vs : List Tree) (e : Tree) → 0 < length vs → word_for names to (conses vs e) ≡ to - 7
word-some names to [] e some = absurd (omega arith)
word-some names to (v ∷ vs) e some = refl

pub some_items : (xs : List Term) → (xs ≡ [] → ⊥) → 0 < length xs
some_items [] n = absurd (n refl)
some_items (x ∷ xs) n = omega arith

pub word-List : (names : List (List ℕ)) (to : ℕ) (x : Term) (xs : List Term) (end : Option Term) → x ≡ t.List xs end → (xs ≡ [] → ⊥) → word_for names to (tree_of x) ≡ to - 7
word-List names to x xs end is n =
    let some = some_items xs n in
    let long = length-map xs tree_of in
    ap (λ y. word_for names to (tree_of y)) is ∙ ap (word_for names to) (tree_of-List xs end) ∙ word-some names to (map tree_of xs) (end_tree end) (omega arith)

-- ---- tuples

pub record TupleParts (names : List (List ℕ)) (x : Term) (xs : List Term) : Type 0 where
  pub items : All (Fits names) xs
  pub few : length xs ≤ most_elements
  pub words : words_of (tree_of x) ≡ 1 + length xs + row_words 0 (map tree_of xs)

elements_fit : (names : List (List ℕ)) (xs : List Term) → AllCanBeLaid names (trees_of (map tree_of xs)) → All (Fits names) xs
elements_fit names [] h = λ k d low. absurd (omega arith)
elements_fit names (x ∷ xs) h = All-cons (Fits names) x xs h.0 (elements_fit names xs h.1)

size-elements : (xs : List Term) → size_of (trees_of (map tree_of xs)) ≡ length xs
size-elements [] = refl
size-elements (x ∷ xs) = let rest = size-elements xs in omega arith

pub tuple_parts : (names : List (List ℕ)) (x : Term) (xs : List Term) → x ≡ t.Tuple xs → Fits names x → TupleParts names x xs
tuple_parts names x xs is fits =
    let tree : tree_of x ≡ u.Tuple (trees_of (map tree_of xs)) = ap tree_of is ∙ tree_of-Tuple xs in
    let can : CanBeLaid names (u.Tuple (trees_of (map tree_of xs))) = subst (CanBeLaid names) tree fits in
    let size = size-elements xs in
    let one = row-more 0 (map tree_of xs) in
    let long = length-map xs tree_of in
    record {
      items = elements_fit names xs can.1;
      few = let f : size_of (trees_of (map tree_of xs)) ≤ most_elements = can.0 in omega arith;
      words = ap (λ y. words_of (tree_of y)) is ∙ words-Tuple xs ∙ omega arith;
    }

pub word-Tuple : (names : List (List ℕ)) (to : ℕ) (x : Term) (xs : List Term) → x ≡ t.Tuple xs → word_for names to (tree_of x) ≡ to - 4 * length xs - 2
word-Tuple names to x xs is =
    ap (λ y. word_for names to (tree_of y)) is ∙ ap (word_for names to) (tree_of-Tuple xs) ∙ ap (λ n. to - 4 * n - 2) (size-elements xs)
