-- Words that are laid stand for their terms.
use Rattle.std.proofs.Common.{◌≡◌, ℕ, zero, suc, ◌+◌, ◌-◌, ◌*◌, ◌/◌, ◌%◌, ◌<◌, ◌≤◌, ◌++◌, List, [], ◌∷◌, Some, true, length, slice_get, get_or, nat_lt, nat_eq, refl, ap, sym, subst, ◌∙◌, arith, length-append}
use Rattle.std.proofs.lemmas.Bool.Decides.{nat_tests}
use Rattle.std.proofs.lemmas.Option.{slice_get_within, slice_get-get_or}
use Rattle.std.specs.List.{AllByRecursion}
use Rattle.laid_terms.proofs.Named.{of_named}
use Rattle.laid_terms.proofs.Tables.{Numbered, numbered}
use Rattle.laid_terms.specs.Laid.{LaidTermsStand, LaidTermStands, HasWords as Has, IsInOne}
use Rattle.laid_terms.specs.Named.{IsNamed, AreNamed}
use Rattle.tagged_words.proofs.WordLaws.{class_of-small_word, class_of-atom_word}
use Rattle.tagged_words.specs.declared.addresses.TheConstants.{HEAP_START}
use Rattle.tagged_words.specs.declared.kind.Class.TheVariants.{Cons, Boxed}
use Rattle.tagged_words.specs.Laid.{atom_number, word_for, element_words, laid, laid_all, laid_in_turn, words_in_turn, with_atoms_of}
use Rattle.tagged_words.specs.Look.{look_of, look_in, look_tuple, address_end}
use Rattle.tagged_words.specs.declared.look.Look.TheVariants as look
use Rattle.tagged_words.proofs.StoreLaws.{whole_where}
use Rattle.tagged_words.specs.Seen.{IsTreeBelow, AreTreesBelow, seen_size, all_whole}
use Rattle.tagged_words.specs.Store.{Store, word_of}
use Rattle.tagged_words.specs.Word.{class_of, header_word}
use Rattle.term_tree.specs.IsTerm.{IsTerm, AreTerms}
use Rattle.term_tree.specs.Size.{size_of, words_of, words_of_all}
use Rattle.term_tree.specs.Tree as t

pub in_front : {A : Type 0} (xs ys : List A) (j : ℕ) (w : A) → slice_get xs j ≡ Some w → slice_get (xs ++ ys) j ≡ Some w
in_front [] ys j w e = absurd cc
in_front (x ∷ xs) ys zero w e = e
in_front (x ∷ xs) ys (suc j) w e = in_front xs ys j w e

pub behind : {A : Type 0} (xs ys : List A) (i j : ℕ) → i ≡ length xs + j → slice_get (xs ++ ys) i ≡ slice_get ys j
behind [] ys i j e = let same : i ≡ j = omega arith in ap (slice_get ys) same
behind (x ∷ xs) ys zero j e = absurd (omega arith)
behind (x ∷ xs) ys (suc i) j e = behind xs ys i j (omega arith)

-- how many words are laid
length-element_words : (names : List (List ℕ)) (vs : t.Trees) (at : ℕ) → length (element_words names at vs) ≡ size_of vs
length-element_words names t.No at = refl
length-element_words names (t.More v vs) at = let rest = length-element_words names vs (at + 4 * words_of v) in omega arith

-- as many elements are seen as a tuple has
seen_as_many : (vs : t.Trees) → seen_size (all_whole vs) ≡ size_of vs
seen_as_many t.No = refl
seen_as_many (t.More v vs) = let rest = seen_as_many vs in omega arith

mutual
  pub length-laid : (names : List (List ℕ)) (v : t.Tree) (at : ℕ) → length (laid names at v) ≡ words_of v
  length-laid names (t.Int i) at = refl
  length-laid names (t.Atom a) at = refl
  length-laid names t.Nil at = refl
  length-laid names (t.Cons head tail) at =
      let x : ℕ = word_for names (at + 4 * words_of head) head in
      let y : ℕ = word_for names (at + 4 * words_of head + 4 * words_of tail) tail in
      let b = length-append (laid names at head) (laid names (at + 4 * words_of head) tail) in
      let c = length-laid names head at in
      let d = length-laid names tail (at + 4 * words_of head) in
      length-append (laid names at head ++ laid names (at + 4 * words_of head) tail) (x ∷ y ∷ []) ∙ omega arith
  length-laid names (t.Tuple vs) at =
      let b = length-laid_all names vs at in
      let c = length-element_words names vs at in
      length-append (laid_all names at vs) (header_word (size_of vs) ∷ element_words names at vs) ∙ omega arith

  length-laid_all : (names : List (List ℕ)) (vs : t.Trees) (at : ℕ) → length (laid_all names at vs) ≡ words_of_all vs
  length-laid_all names t.No at = refl
  length-laid_all names (t.More v vs) at =
      let b = length-laid names v at in
      let c = length-laid_all names vs (at + 4 * words_of v) in
      length-append (laid names at v) (laid_all names (at + 4 * words_of v) vs) ∙ omega arith

pub length-laid_in_turn : (names : List (List ℕ)) (vs : List t.Tree) (at : ℕ) → length (laid_in_turn names at vs) ≡ words_of_all (t.trees_of vs)
length-laid_in_turn names [] at = refl
length-laid_in_turn names (v ∷ vs) at =
    let b = length-laid names v at in
    let c = length-laid_in_turn names vs (at + 4 * words_of v) in
    length-append (laid names at v) (laid_in_turn names (at + 4 * words_of v) vs) ∙ omega arith

module _ (s : Store) (names : List (List ℕ)) where
  abbrev HasWords : ℕ → List ℕ → Type 0
  HasWords at ws = Has s at ws

  has_front : (at : ℕ) (xs ys : List ℕ) → HasWords at (xs ++ ys) → HasWords at xs
  has_front at xs ys has j w e = has j w (in_front xs ys j w e)

  has_behind : (at to : ℕ) (xs ys : List ℕ) → to ≡ at + 4 * length xs → HasWords at (xs ++ ys) → HasWords to ys
  has_behind at to xs ys is has j w e =
      let place : to + 4 * j ≡ at + 4 * (length xs + j) = omega arith in
      ap (word_of s) place ∙ has (length xs + j) w (behind xs ys (length xs + j) j refl ∙ e)

  has_first : (at : ℕ) (x : ℕ) (ws : List ℕ) → HasWords at (x ∷ ws) → word_of s at ≡ Some x
  has_first at x ws has = let place : at ≡ at + 4 * 0 = omega arith in ap (word_of s) place ∙ has 0 x refl

  has_next : (at : ℕ) (x : ℕ) (ws : List ℕ) → HasWords at (x ∷ ws) → HasWords (at + 4) ws
  has_next at x ws has j w e = let place : at + 4 + 4 * j ≡ at + 4 * suc j = omega arith in ap (word_of s) place ∙ has (suc j) w e

  -- one word more than so many is at the end of a list of these
  last_word : (x : ℕ) (ws : List ℕ) (at : ℕ) → HasWords at (x ∷ ws) → word_of s (at + 4 * length ws) ≡ Some (get_or (x ∷ ws) (length ws) 0)
  last_word x ws at has = has (length ws) (get_or (x ∷ ws) (length ws) 0) (slice_get-get_or (x ∷ ws) (length ws) 0 (omega arith))

  -- what a pointer to a cell shows
  show_cons : (limit w cell x y : ℕ) → class_of w ≡ Cons cell → cell < limit → IsInOne cell 2 → HasWords cell (x ∷ y ∷ []) → look_of s names limit w ≡ look.Cons cell
  show_cons limit w cell x y e low in_one has =
      let there = whole_where s cell 2 x y (omega arith) in_one (has_first cell x (y ∷ []) has) (has_first (cell + 4) y [] (has_next cell x (y ∷ []) has)) in
      let below : nat_lt cell limit ≡ true = grind (arith, nat_tests) in
      ap (look_in s names limit) e ∙ (rw below (rw there refl))

  show_tuple : (limit w cell size : ℕ) (ws : List ℕ) → class_of w ≡ Boxed cell → cell < limit → IsInOne cell (1 + size) → length ws ≡ size → HasWords cell (header_word size ∷ ws)
      → look_of s names limit w ≡ look.Tuple cell size
  show_tuple limit w cell size ws e low in_one many has =
      let first = has_first cell (header_word size) ws has in
      let end : cell + 4 * length ws ≡ cell + 4 * (1 + size - 1) = omega arith in
      let there = whole_where s cell (1 + size) (header_word size) (get_or (header_word size ∷ ws) (length ws) 0) (omega arith) in_one first (ap (word_of s) (sym end) ∙ last_word (header_word size) ws cell has) in
      let below : nat_lt cell limit ≡ true = grind (arith, nat_tests) in
      let bits : nat_eq (header_word size % 64) 0 ≡ true = grind (arith, nat_tests) in
      let number : header_word size / 64 ≡ size = omega arith in
      ap (look_in s names limit) e ∙ ap (look_tuple s limit cell) first ∙ (rw below (rw bits (rw number (rw there refl))))

  -- a part of so many words that are in one region
  part_in_one : (at words place part : ℕ) → IsInOne at words → at ≤ place → place + 4 * part ≤ at + 4 * words → IsInOne place part
  part_in_one at words place part in_one above within low = let end : at + 4 * words ≤ HEAP_START = in_one (omega arith) in omega arith

  -- the class of a pointer to a cell that ends at an address
  class_cons : (cell end : ℕ) → end ≡ cell + 8 → cell % 4 ≡ 0 → class_of (end - 7) ≡ Cons cell
  class_cons cell end e whole = let w : end - 7 ≡ cell + 1 = omega arith in ap class_of w ∙ (grind arith)

  class_boxed : (cell end size : ℕ) → end ≡ cell + 4 * (1 + size) → cell % 4 ≡ 0 → class_of (end - 4 * size - 2) ≡ Boxed cell
  class_boxed cell end size e whole = let w : end - 4 * size - 2 ≡ cell + 2 = omega arith in ap class_of w ∙ (grind arith)

  mutual
    stands : (v : t.Tree) (at limit : ℕ) → at % 4 ≡ 0 → IsInOne at (words_of v) → at + 4 * words_of v ≤ limit → IsTerm v → IsNamed names v → HasWords at (laid names at v) → IsTreeBelow s names limit (word_for names (at + 4 * words_of v) v) v
    stands (t.Int i) at limit whole low room term known has = ap (look_in s names limit) (class_of-small_word i term)
    stands (t.Atom a) at limit whole low room term known has =
        let n : Numbered 0 names a = numbered 0 names a known in
        let same : atom_number names a ≡ n.place = n.is ∙ omega arith in
        let there : slice_get names (atom_number names a) ≡ Some a = ap (slice_get names) same ∙ n.there in
        let low_number : atom_number names a < length names = slice_get_within names (atom_number names a) a there in
        let test : nat_lt (atom_number names a) (length names) ≡ true = grind (arith, nat_tests) in
        (atom_number names a, ap (look_in s names limit) (class_of-atom_word (atom_number names a)) ∙ (rw test refl), there)
    stands t.Nil at limit whole low room term known has = refl
    stands (t.Cons head tail) at limit whole low room term known has =
        let middle : ℕ = at + 4 * words_of head in
        let cell : ℕ = middle + 4 * words_of tail in
        let x : ℕ = word_for names middle head in
        let y : ℕ = word_for names cell tail in
        let first = length-laid names head at in
        let second = length-laid names tail middle in
        let both = length-append (laid names at head) (laid names middle tail) in
        let has_both : HasWords at (laid names at head ++ laid names middle tail) = has_front at (laid names at head ++ laid names middle tail) (x ∷ y ∷ []) has in
        let has_cell : HasWords cell (x ∷ y ∷ []) = has_behind at cell (laid names at head ++ laid names middle tail) (x ∷ y ∷ []) (omega arith) has in (
          cell,
          x,
          y,
          show_cons limit (at + 4 * words_of (t.Cons head tail) - 7) cell x y (class_cons cell (at + 4 * words_of (t.Cons head tail)) (omega arith) (omega arith)) (omega arith)
              (part_in_one at (words_of (t.Cons head tail)) cell 2 low (omega arith) (omega arith)) has_cell,
          has_first cell x (y ∷ []) has_cell,
          has_first (cell + 4) y [] (has_next cell x (y ∷ []) has_cell),
          stands head at cell whole (part_in_one at (words_of (t.Cons head tail)) at (words_of head) low (omega arith) (omega arith)) (omega arith) term.0 known.0 (has_front at (laid names at head) (laid names middle tail) has_both),
          stands tail middle cell (omega arith) (part_in_one at (words_of (t.Cons head tail)) middle (words_of tail) low (omega arith) (omega arith)) (omega arith) term.1 known.1
              (has_behind at middle (laid names at head) (laid names middle tail) (omega arith) has_both),
        )
    stands (t.Tuple vs) at limit whole low room term known has =
        let cell : ℕ = at + 4 * words_of_all vs in
        let first = length-laid_all names vs at in
        let has_cell : HasWords cell (header_word (size_of vs) ∷ element_words names at vs) =
        has_behind at cell (laid_all names at vs) (header_word (size_of vs) ∷ element_words names at vs) (omega arith) has in
        let shown = show_tuple limit (at + 4 * words_of (t.Tuple vs) - 4 * size_of vs - 2) cell (size_of vs) (element_words names at vs)
        (class_boxed cell (at + 4 * words_of (t.Tuple vs)) (size_of vs) (omega arith) (omega arith)) (omega arith)
        (part_in_one at (words_of (t.Tuple vs)) cell (1 + size_of vs) low (omega arith) (omega arith)) (length-element_words names vs at) has_cell in (
          cell,
          shown ∙ ap (look.Tuple cell) (sym (seen_as_many vs)),
          all_stand vs at cell (cell + 4) whole (part_in_one at (words_of (t.Tuple vs)) at (words_of_all vs) low (omega arith) (omega arith)) (omega arith) term.1 known
              (has_front at (laid_all names at vs) (header_word (size_of vs) ∷ element_words names at vs) has)
              (has_next cell (header_word (size_of vs)) (element_words names at vs) has_cell),
        )

    -- the words of the elements stand from an address on
    all_stand : (vs : t.Trees) (at limit place : ℕ) → at % 4 ≡ 0 → IsInOne at (words_of_all vs) → at + 4 * words_of_all vs ≤ limit → AreTerms vs → AreNamed names vs → HasWords at (laid_all names at vs) → HasWords place (element_words names at vs) → AreTreesBelow s names limit place vs
    all_stand t.No at limit place whole low room terms known has words = tt
    all_stand (t.More v vs) at limit place whole low room terms known has words =
        let next : ℕ = at + 4 * words_of v in
        let first = length-laid names v at in (
          word_for names next v,
          has_first place (word_for names next v) (element_words names next vs) words,
          stands v at limit whole (part_in_one at (words_of_all (t.More v vs)) at (words_of v) low (omega arith) (omega arith)) (omega arith) terms.0 known.0 (has_front at (laid names at v) (laid_all names next vs) has),
          all_stand vs next limit (place + 4) (omega arith) (part_in_one at (words_of_all (t.More v vs)) next (words_of_all vs) low (omega arith) (omega arith)) (omega arith) terms.1 known.1
              (has_behind at next (laid names at v) (laid_all names next vs) (omega arith) has)
              (has_next place (word_for names next v) (element_words names next vs) words),
        )

  in_turn : (vs : List t.Tree) (at : ℕ) → at % 4 ≡ 0 → IsInOne at (words_of_all (t.trees_of vs)) → at + 4 * words_of_all (t.trees_of vs) ≤ address_end → AllByRecursion IsTerm vs → AllByRecursion (IsNamed names) vs → HasWords at (laid_in_turn names at vs) →
      (k w : ℕ) (v : t.Tree) → slice_get vs k ≡ Some v → slice_get (words_in_turn names at vs) k ≡ Some w → IsTreeBelow s names address_end w v
  in_turn [] at whole low room terms known has k w v e f = absurd cc
  in_turn (u ∷ vs) at whole low room terms known has zero w v e f =
      let tree : u ≡ v = cc in
      let word : word_for names (at + 4 * words_of u) u ≡ w = cc in
      subst (λ x. IsTreeBelow s names address_end x v) word
      (subst (λ x. IsTreeBelow s names address_end (word_for names (at + 4 * words_of u) u) x) tree
      (stands u at address_end whole (part_in_one at (words_of_all (t.trees_of (u ∷ vs))) at (words_of u) low (omega arith) (omega arith)) (omega arith) terms.0 known.0 (has_front at (laid names at u) (laid_in_turn names (at + 4 * words_of u) vs) has)))
  in_turn (u ∷ vs) at whole low room terms known has (suc k) w v e f =
      let first = length-laid names u at in
      in_turn vs (at + 4 * words_of u) (omega arith) (part_in_one at (words_of_all (t.trees_of (u ∷ vs))) (at + 4 * words_of u) (words_of_all (t.trees_of vs)) low (omega arith) (omega arith)) (omega arith) terms.1 known.1
      (has_behind at (at + 4 * words_of u) (laid names at u) (laid_in_turn names (at + 4 * words_of u) vs) (omega arith) has) k w v e f

-- a word of the heap
heap_word : (s : Store) (j w : ℕ) → slice_get s.heap j ≡ Some w → word_of s (HEAP_START + 4 * j) ≡ Some w
heap_word s j w e = let low : j < length s.heap = slice_get_within s.heap j w e in grind (arith, nat_tests)

pub laid_term_stands : LaidTermStands
laid_term_stands s names v at term known whole in_one room has = stands s names v at address_end whole in_one room term known has

pub laid_terms_stand : LaidTermsStand
laid_terms_stand table terms s are few begins k w v e f =
    in_turn s (with_atoms_of table terms) terms HEAP_START refl (λ low. absurd (omega arith)) (omega arith) are (of_named table terms) (λ j x there. heap_word s j x (begins j x there)) k w v e f
