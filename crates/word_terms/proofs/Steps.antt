-- One step of the test along a list, and one along the elements of a tuple.
use Rattle.std.proofs.Common.{◌≡◌, ℕ, ◌+◌, true, false, List, ◌∷◌, Some, None, length, refl, sym, ◌∙◌}
use Rattle.term_tree.proofs.CompareLaws.{size-trees_of}
use Rattle.tagged_words.specs.Look.{look_of}
use Rattle.tagged_words.specs.Store.{Store, word_of}
use Rattle.term_tree.specs.Tree.{Tree, Tuple, conses, trees_of}
use Rattle.word_terms.specs.Standing.{all_stand, cons_in, stands, tuple_in}

module _ (s : Store) (names : List (List ℕ)) where
  pub no_cons : (limit w : ℕ) (vs us : List Tree) (v end : Tree) → vs ≡ v ∷ us → cons_in (look_of s names limit w) ≡ None → stands s names limit w (conses vs end) ≡ false
  no_cons limit w vs us v end first none = rw (first, none) refl

  pub no_head : (limit w at : ℕ) (vs us : List Tree) (v end : Tree) → vs ≡ v ∷ us → cons_in (look_of s names limit w) ≡ Some at → word_of s at ≡ None → stands s names limit w (conses vs end) ≡ false
  no_head limit w at vs us v end first shown none = rw (first, shown, none) refl

  pub other_head : (limit w at x : ℕ) (vs us : List Tree) (v end : Tree) → vs ≡ v ∷ us → cons_in (look_of s names limit w) ≡ Some at → word_of s at ≡ Some x → stands s names at x v ≡ false
      → stands s names limit w (conses vs end) ≡ false
  other_head limit w at x vs us v end first shown there fails = rw (first, shown, there, fails) refl

  pub no_tail : (limit w at x : ℕ) (vs us : List Tree) (v end : Tree) → vs ≡ v ∷ us → cons_in (look_of s names limit w) ≡ Some at → word_of s at ≡ Some x → stands s names at x v ≡ true
      → word_of s (at + 4) ≡ None → stands s names limit w (conses vs end) ≡ false
  no_tail limit w at x vs us v end first shown there holds none = rw (first, shown, there, holds, none) refl

  pub next_cons : (limit w at x y : ℕ) (vs us : List Tree) (v end : Tree) → vs ≡ v ∷ us → cons_in (look_of s names limit w) ≡ Some at → word_of s at ≡ Some x → stands s names at x v ≡ true
      → word_of s (at + 4) ≡ Some y → stands s names limit w (conses vs end) ≡ stands s names at y (conses us end)
  next_cons limit w at x y vs us v end first shown there holds behind = rw (first, shown, there, holds, behind) refl

  pub no_element : (limit at : ℕ) (vs us : List Tree) (v : Tree) → vs ≡ v ∷ us → word_of s at ≡ None → all_stand s names limit at (trees_of vs) ≡ false
  no_element limit at vs us v first none = rw (first, none) refl

  pub other_element : (limit at x : ℕ) (vs us : List Tree) (v : Tree) → vs ≡ v ∷ us → word_of s at ≡ Some x → stands s names limit x v ≡ false → all_stand s names limit at (trees_of vs) ≡ false
  other_element limit at x vs us v first there fails = rw (first, there, fails) refl

  pub next_element : (limit at x : ℕ) (vs us : List Tree) (v : Tree) → vs ≡ v ∷ us → word_of s at ≡ Some x → stands s names limit x v ≡ true
      → all_stand s names limit at (trees_of vs) ≡ all_stand s names limit (at + 4) (trees_of us)
  next_element limit at x vs us v first there holds = rw (first, there, holds) refl

  pub no_tuple : (limit w n : ℕ) (vs : List Tree) → n ≡ length vs → tuple_in n (look_of s names limit w) ≡ None → stands s names limit w (Tuple (trees_of vs)) ≡ false
  no_tuple limit w n vs long none = rw (size-trees_of vs ∙ sym long, none) refl

  pub tuple_there : (limit w n at : ℕ) (vs : List Tree) → n ≡ length vs → tuple_in n (look_of s names limit w) ≡ Some at
      → stands s names limit w (Tuple (trees_of vs)) ≡ all_stand s names at (at + 4) (trees_of vs)
  tuple_there limit w n at vs long shown = rw (size-trees_of vs ∙ sym long, shown) refl
