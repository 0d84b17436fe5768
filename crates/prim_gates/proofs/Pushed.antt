-- A store with words pushed on its heap: what it had it has, and the new words are there.
use Rattle.std.proofs.Common.{◌≡◌, ℕ, zero, suc, ◌+◌, ◌*◌, ◌-◌, ◌/◌, ◌<◌, ◌≤◌, ◌++◌, Bool, true, false, Some, List, [], ◌∷◌, length, get_or, slice_get, nat_lt, refl, ap, ◌∙◌, arith}
use Rattle.std.proofs.lemmas.Bool.Decides.{nat_tests}
use Rattle.std.proofs.lemmas.Option.{slice_get_within, slice_get-get_or}
use Rattle.prim_gates.specs.Reply.{pushed}
use Rattle.tagged_words.specs.declared.addresses.TheConstants.{HEAP_START}
use Rattle.tagged_words.specs.Seen.{Keeps, KeepsNames, IsTreeOf}
use Rattle.tagged_words.specs.Store.{Store, word_of}
use Rattle.tagged_words.proofs.SeenLaws.{a_tree_stays}
use Rattle.term_tree.specs.Tree as t

in_front : {A : Type 0} (xs ys : List A) (j : ℕ) (w : A) → slice_get xs j ≡ Some w → slice_get (xs ++ ys) j ≡ Some w
in_front [] ys j w e = absurd cc
in_front (x ∷ xs) ys zero w e = e
in_front (x ∷ xs) ys (suc j) w e = in_front xs ys j w e

behind : {A : Type 0} (xs ys : List A) (i j : ℕ) → i ≡ length xs + j → slice_get (xs ++ ys) i ≡ slice_get ys j
behind [] ys i j e = let same : i ≡ j = omega arith in ap (slice_get ys) same
behind (x ∷ xs) ys zero j e = absurd (omega arith)
behind (x ∷ xs) ys (suc i) j e = behind xs ys i j (omega arith)

-- a word of the heap
heap_word : (s : Store) (j w : ℕ) → slice_get s.heap j ≡ Some w → word_of s (HEAP_START + 4 * j) ≡ Some w
heap_word s j w e = let low : j < length s.heap = slice_get_within s.heap j w e in grind (arith, nat_tests)

-- an address of the heap is that of a place
record Placed (s : Store) (at w : ℕ) : Type 0 where
  place : ℕ
  is : at ≡ HEAP_START + 4 * place
  there : slice_get s.heap place ≡ Some w

placed : (s : Store) (at w : ℕ) → HEAP_START ≤ at → word_of s at ≡ Some w → Placed s at w
placed s at w high e = record {
  place = (at - HEAP_START) / 4;
  is = grind (arith, nat_tests);
  there = grind (arith, nat_tests);
}

pub pushed_keeps : (s : Store) (ws : List ℕ) → Keeps s (pushed s ws)
pushed_keeps s ws at w e = go (nat_lt at HEAP_START) refl
  where
    go : (b : Bool) → nat_lt at HEAP_START ≡ b → word_of (pushed s ws) at ≡ Some w
    go true low = rw low (rw low at e)
    go false high =
        let up : HEAP_START ≤ at = grind (arith, nat_tests) in
        let p : Placed s at w = placed s at w up e in
        ap (word_of (pushed s ws)) p.is ∙ heap_word (pushed s ws) p.place w (in_front s.heap ws p.place w p.there)

-- the store has these words from an address on
abbrev pub HasWords : Store → ℕ → List ℕ → Type 0
HasWords s at ws = (j w : ℕ) → slice_get ws j ≡ Some w → word_of s (at + 4 * j) ≡ Some w

pub has_pushed : (s : Store) (ws : List ℕ) (top : ℕ) → top ≡ HEAP_START + 4 * length s.heap → HasWords (pushed s ws) top ws
has_pushed s ws top is j w e =
    let place : top + 4 * j ≡ HEAP_START + 4 * (length s.heap + j) = omega arith in
    ap (word_of (pushed s ws)) place ∙ heap_word (pushed s ws) (length s.heap + j) w (behind s.heap ws (length s.heap + j) j refl ∙ e)

pub has_first : (s : Store) (at x : ℕ) (ws : List ℕ) → HasWords s at (x ∷ ws) → word_of s at ≡ Some x
has_first s at x ws has = let place : at ≡ at + 4 * 0 = omega arith in ap (word_of s) place ∙ has 0 x refl

pub has_next : (s : Store) (at x : ℕ) (ws : List ℕ) → HasWords s at (x ∷ ws) → HasWords s (at + 4) ws
has_next s at x ws has j w e = let place : at + 4 + 4 * j ≡ at + 4 * suc j = omega arith in ap (word_of s) place ∙ has (suc j) w e

-- one word more than so many is at the end of a list of these
pub last_word : (s : Store) (x : ℕ) (ws : List ℕ) (at : ℕ) → HasWords s at (x ∷ ws) → word_of s (at + 4 * length ws) ≡ Some (get_or (x ∷ ws) (length ws) 0)
last_word s x ws at has = has (length ws) (get_or (x ∷ ws) (length ws) 0) (slice_get-get_or (x ∷ ws) (length ws) 0 (omega arith))

pub names_kept : (names : List (List ℕ)) → KeepsNames names names
names_kept names n a e = e

pub stays_pushed : (s : Store) (ws : List ℕ) (names : List (List ℕ)) (w : ℕ) (v : t.Tree) → IsTreeOf s names w v → IsTreeOf (pushed s ws) names w v
stays_pushed s ws names w v h = a_tree_stays s (pushed s ws) names names (pushed_keeps s ws) (names_kept names) w v h
