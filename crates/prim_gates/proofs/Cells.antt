-- Cells that are pushed stand for their conses, and for tuples.
use Rattle.std.proofs.Common.{◌≡◌, ℕ, suc, ◌+◌, ◌-◌, ◌*◌, ◌/◌, ◌%◌, ◌<◌, ◌≤◌, List, [], ◌∷◌, Some, true, length, reverse, get_or, nat_lt, nat_eq, refl, ap, sym, ◌∙◌, arith}
use Rattle.std.proofs.lemmas.Bool.Decides.{nat_tests}
use mathlib.Core.List.{reverse_aux}
use Rattle.prim_gates.proofs.Below.{tree_under}
use Rattle.prim_gates.proofs.Each.{Each, each_length}
use Rattle.prim_gates.proofs.Pushed.{HasWords, has_first, has_next, last_word}
use Rattle.prim_gates.specs.Reply.{cells, last_cell}
use Rattle.tagged_words.proofs.StoreLaws.{whole_where}
use Rattle.tagged_words.specs.declared.addresses.TheConstants.{HEAP_START}
use Rattle.tagged_words.specs.declared.kind.Class.TheVariants.{Cons, Boxed}
use Rattle.tagged_words.specs.declared.look.Look.TheVariants as look
use Rattle.tagged_words.specs.Look.{look_of, look_in, look_tuple, address_end}
use Rattle.tagged_words.specs.Seen.{IsTreeBelow, IsTreeOf, AreTreesBelow, seen_size, all_whole}
use Rattle.tagged_words.specs.Store.{Store, word_of}
use Rattle.tagged_words.specs.Word.{class_of, header_word}
use Rattle.term_tree.specs.Tree as t

-- conses that are made one on the other: the first tree is the deepest
abbrev pub onto : List t.Tree → t.Tree → t.Tree
onto [] tail = tail
onto (v ∷ vs) tail = onto vs (t.Cons v tail)

onto_conses : (vs us : List t.Tree) (tail : t.Tree) → onto vs (t.conses us tail) ≡ t.conses (reverse_aux vs us) tail
onto_conses [] us tail = refl
onto_conses (v ∷ vs) us tail = onto_conses vs (v ∷ us) tail

pub onto_reverse : (vs : List t.Tree) (tail : t.Tree) → onto vs tail ≡ t.conses (reverse vs) tail
onto_reverse vs tail = onto_conses vs [] tail

pub length-cells : (heads : List ℕ) (top end : ℕ) → length (cells top heads end) ≡ 2 * length heads
length-cells [] top end = refl
length-cells (head ∷ heads) top end = let rest = length-cells heads (top + 8) (top + 1) in omega arith

class_cons : (cell : ℕ) → cell % 4 ≡ 0 → class_of (cell + 1) ≡ Cons cell
class_cons cell whole = grind arith

class_boxed : (cell : ℕ) → cell % 4 ≡ 0 → class_of (cell + 2) ≡ Boxed cell
class_boxed cell whole = grind arith

-- as many elements are seen as there are
pub seen_as_many : (vs : List t.Tree) → seen_size (all_whole (t.trees_of vs)) ≡ length vs
seen_as_many [] = refl
seen_as_many (v ∷ vs) = let rest = seen_as_many vs in omega arith

module _ (s : Store) (names : List (List ℕ)) where
  show_cons : (limit w cell x y : ℕ) → class_of w ≡ Cons cell → cell < limit → HEAP_START ≤ cell → word_of s cell ≡ Some x → word_of s (cell + 4) ≡ Some y → look_of s names limit w ≡ look.Cons cell
  show_cons limit w cell x y e low high first second =
      let there = whole_where s cell 2 x y (omega arith) (λ under. absurd (omega arith)) first second in
      let below : nat_lt cell limit ≡ true = grind (arith, nat_tests) in
      ap (look_in s names limit) e ∙ (rw below (rw there refl))

  show_tuple : (limit w cell size : ℕ) (ws : List ℕ) → class_of w ≡ Boxed cell → cell < limit → HEAP_START ≤ cell → length ws ≡ size → HasWords s cell (header_word size ∷ ws)
      → look_of s names limit w ≡ look.Tuple cell size
  show_tuple limit w cell size ws e low high many has =
      let first = has_first s cell (header_word size) ws has in
      let end : cell + 4 * length ws ≡ cell + 4 * (1 + size - 1) = omega arith in
      let there = whole_where s cell (1 + size) (header_word size) (get_or (header_word size ∷ ws) (length ws) 0) (omega arith) (λ under. absurd (omega arith)) first (ap (word_of s) (sym end) ∙ last_word s (header_word size) ws cell has) in
      let below : nat_lt cell limit ≡ true = grind (arith, nat_tests) in
      let bits : nat_eq (header_word size % 64) 0 ≡ true = grind (arith, nat_tests) in
      let number : header_word size / 64 ≡ size = omega arith in
      ap (look_in s names limit) e ∙ ap (look_tuple s limit cell) first ∙ (rw below (rw bits (rw number (rw there refl))))

  has_behind_two : (at x y : ℕ) (ws : List ℕ) → HasWords s at (x ∷ y ∷ ws) → HasWords s (at + 8) ws
  has_behind_two at x y ws has j w e = let place : at + 8 + 4 * j ≡ at + 4 * suc (suc j) = omega arith in ap (word_of s) place ∙ has (suc (suc j)) w e

  -- the last of cells of a list stands for the list
  pub cells_stand : (low top : ℕ) (heads : List ℕ) (vs : List t.Tree) (end : ℕ) (tail : t.Tree) → HEAP_START ≤ top → low ≤ top → top % 4 ≡ 0 → top + 8 * length heads ≤ address_end
      → Each (IsTreeBelow s names low) heads vs → IsTreeBelow s names top end tail → HasWords s top (cells top heads end) → IsTreeOf s names (last_cell top heads end) (onto vs tail)
  cells_stand low top [] [] end tail high up whole room each stands has = tree_under s names top address_end (omega arith) end tail stands
  cells_stand low top [] (v ∷ vs) end tail high up whole room each stands has = absurd each
  cells_stand low top (head ∷ heads) [] end tail high up whole room each stands has = absurd each
  cells_stand low top (head ∷ heads) (v ∷ vs) end tail high up whole room each stands has =
      let first = has_first s top head (end ∷ cells (top + 8) heads (top + 1)) has in
      let second = has_first s (top + 4) end (cells (top + 8) heads (top + 1)) (has_next s top head (end ∷ cells (top + 8) heads (top + 1)) has) in
      let shown = show_cons (top + 8) (top + 1) top head end (class_cons top whole) (omega arith) high first second in
      let cell : IsTreeBelow s names (top + 8) (top + 1) (t.Cons v tail) = (top, head, end, shown, first, second, tree_under s names low top up head v each.0, stands) in
      cells_stand low (top + 8) heads vs (top + 1) (t.Cons v tail) (omega arith) (omega arith) (omega arith) (omega arith) each.1 cell (has_behind_two top head end (cells (top + 8) heads (top + 1)) has)

  elements_stand : (limit at : ℕ) (ws : List ℕ) (vs : List t.Tree) → Each (IsTreeBelow s names limit) ws vs → HasWords s at ws → AreTreesBelow s names limit at (t.trees_of vs)
  elements_stand limit at [] [] each has = tt
  elements_stand limit at [] (v ∷ vs) each has = absurd each
  elements_stand limit at (w ∷ ws) [] each has = absurd each
  elements_stand limit at (w ∷ ws) (v ∷ vs) each has = (w, has_first s at w ws has, each.0, elements_stand limit (at + 4) ws vs each.1 (has_next s at w ws has))

  -- a header with elements behind it stands for the tuple
  pub tuple_stands : (top : ℕ) (ws : List ℕ) (vs : List t.Tree) → HEAP_START ≤ top → top % 4 ≡ 0 → top < address_end → Each (IsTreeBelow s names top) ws vs → HasWords s top (header_word (length ws) ∷ ws)
      → IsTreeOf s names (top + 2) (t.Tuple (t.trees_of vs))
  tuple_stands top ws vs high whole room each has =
      let size : length ws ≡ seen_size (all_whole (t.trees_of vs)) = each_length (IsTreeBelow s names top) ws vs each ∙ sym (seen_as_many vs) in
      let shown = show_tuple address_end (top + 2) top (length ws) ws (class_boxed top whole) room high refl has in
      (top, shown ∙ ap (look.Tuple top) size, elements_stand top (top + 4) ws vs each (has_next s top (header_word (length ws)) ws has))
