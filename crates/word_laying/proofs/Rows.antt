-- Rows of terms, one term after the other, and how many words they take.
use Rattle.std.proofs.Common.{◌≡◌, ℕ, zero, suc, ◌+◌, ◌<◌, ◌≤◌, List, [], ◌∷◌, map, length, get_or, drop, drop-cons, min, Option, ◌++◌, take, reverse, refl, ap, sym, ◌∙◌, add-one, arith}
use Rattle.std.proofs.lemmas.List.{map-append, reverse-append, take_more}
use Rattle.term_tree.specs.declared.term.Term as t
use Rattle.term_tree.specs.declared.term.Term.{Term}
use Rattle.term_tree.specs.Size.{size_of, words_of, words_of_all}
use Rattle.term_tree.specs.Term.{tree_of, end_tree}
use Rattle.term_tree.specs.Tree.{Tree, conses, trees_of}
use Rattle.term_tree.proofs.CompareLaws.{tree_of-List}
use Rattle.term_tree.proofs.TermLaws.{tree_of-Tuple}
use Rattle.word_laying.specs.Count.{row_words}

-- the term at a place stands before those behind it
pub next_item : (xs : List Term) (i : ℕ) (x : Term) → i < length xs → x ≡ get_or xs i x → map tree_of (drop i xs) ≡ tree_of x ∷ map tree_of (drop (i + 1) xs)
next_item xs i x low is = ap (λ l. map tree_of l) (drop-cons xs i x low) ∙ rw add-one (ap (λ y. tree_of y ∷ map tree_of (drop (suc i) xs)) (sym is))

pub none_left : (xs : List Term) (i : ℕ) → length xs ≤ i → map tree_of (drop i xs) ≡ []
none_left [] zero h = refl
none_left [] (suc i) h = refl
none_left (x ∷ xs) zero h = absurd (omega arith)
none_left (x ∷ xs) (suc i) h = none_left xs i (omega arith)

-- the term at a place is the last of those up to it
pub one_item_more : (xs : List Term) (k j : ℕ) (x : Term) → k ≡ j + 1 → j < length xs → x ≡ get_or xs j x → map tree_of (take k xs) ≡ map tree_of (take j xs) ++ tree_of x ∷ []
one_item_more xs k j x next low is =
    ap (λ n. map tree_of (take n xs)) next
    ∙ ap (λ l. map tree_of l) (take_more xs j x low)
    ∙ ap (λ y. map tree_of (take j xs ++ y ∷ [])) (sym is)
    ∙ map-append tree_of (take j xs) (x ∷ [])

pub turned_item : (xs : List Term) (k j : ℕ) (x : Term) → k ≡ j + 1 → j < length xs → x ≡ get_or xs j x → reverse (map tree_of (take k xs)) ≡ tree_of x ∷ reverse (map tree_of (take j xs))
turned_item xs k j x next low is = ap reverse (one_item_more xs k j x next low is) ∙ reverse-append (map tree_of (take j xs)) (tree_of x ∷ [])

-- ---- words

pub words-conses : (vs : List Tree) (end : Tree) → words_of (conses vs end) ≡ row_words 2 vs + words_of end
words-conses [] end = omega arith
words-conses (v ∷ vs) end = let rest = words-conses vs end in omega arith

words-elements : (vs : List Tree) → size_of (trees_of vs) + words_of_all (trees_of vs) ≡ row_words 1 vs
words-elements [] = refl
words-elements (v ∷ vs) = let rest = words-elements vs in omega arith

pub words-List : (xs : List Term) (end : Option Term) → words_of (tree_of (t.List xs end)) ≡ row_words 2 (map tree_of xs) + words_of (end_tree end)
words-List xs end = ap words_of (tree_of-List xs end) ∙ words-conses (map tree_of xs) (end_tree end)

pub words-Tuple : (xs : List Term) → words_of (tree_of (t.Tuple xs)) ≡ row_words 1 (map tree_of xs) + 1
words-Tuple xs = ap words_of (tree_of-Tuple xs) ∙ (let e = words-elements (map tree_of xs) in omega arith)

-- a row with more words for each term
pub row-more : (each : ℕ) (vs : List Tree) → row_words (suc each) vs ≡ length vs + row_words each vs
row-more each [] = refl
row-more each (v ∷ vs) = let rest = row-more each vs in omega arith

-- ---- counts that stop at the greatest one

pub sum_saturates : (a b m : ℕ) → min (min a m + min b m) m ≡ min (a + b) m
sum_saturates a b m = omega arith

pub one_saturates : (a m : ℕ) → min (min a m + 1) m ≡ min (a + 1) m
one_saturates a m = omega arith

pub end_saturates : (count m : ℕ) → count ≤ m → min (count + 0) m ≡ count
end_saturates count m h = omega arith

pub step_saturates : (count each x rest m : ℕ) → min (min (min (count + each) m + min x m) m + rest) m ≡ min (count + (each + x + rest)) m
step_saturates count each x rest m = omega arith

-- ---- a row up to a place

pub row-append : (us : List Tree) (v : Tree) → row_words 0 (us ++ v ∷ []) ≡ row_words 0 us + words_of v
row-append [] v = omega arith
row-append (u ∷ us) v = let rest = row-append us v in omega arith

pub row_up_to : (xs : List Term) (k j : ℕ) (x : Term) → k ≡ j + 1 → j < length xs → x ≡ get_or xs j x
    → row_words 0 (map tree_of (take k xs)) ≡ row_words 0 (map tree_of (take j xs)) + words_of (tree_of x)
row_up_to xs k j x next low is = ap (row_words 0) (one_item_more xs k j x next low is) ∙ row-append (map tree_of (take j xs)) (tree_of x)
