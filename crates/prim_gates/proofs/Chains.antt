-- Cells of a list that are pushed one after the other, and lists whose heads they take.
use Rattle.std.proofs.Common.{◌≡◌, ℕ, zero, suc, ◌+◌, ◌-◌, ◌*◌, ◌<◌, ◌≤◌, ◌++◌, true, false, pos, nat_eq, nat_lt, slice_set, ◌^◌, if◌then◌else◌, Option, Some, None, is_some, List, [], ◌∷◌, length, reverse, refl, ap, sym, subst, ◌∙◌, arith}
use mathlib.Core.List.{reverse_aux}
use Rattle.tagged_words.specs.declared.look.Look.TheVariants as look
use Rattle.tagged_words.specs.Look.{look_of, address_end}
use Rattle.tagged_words.specs.Seen.{Seen, Int, Atom, Nil, Cons, Tuple, Bad, AllSeen, seen_size, Sees}
use Rattle.tagged_words.specs.Store.{Store, word_of}
use Rattle.tagged_words.specs.Word.{nil_word, header_word}
use Rattle.beam_code.specs.BuiltIns.{BuiltIn}
use Rattle.prim_gates.proofs.Pushed.{pushed_keeps}
use Rattle.prim_gates.proofs.Seeing.{cons_first, cons_second, cons_is, tuple_is, tuple_seen}
use Rattle.prim_gates.specs.Chain.{heads_by, IsChain, reads_down, with_place}
use Rattle.prim_gates.specs.Reply.{Value, HeapFull, read, reads, word_or_none, pushed, cells, last_cell, list_made, tuple_made}
use Rattle.prim_gates.proofs.Cells.{length-cells}
use Rattle.prim_gates.proofs.Below.{word_low}
use Rattle.std.proofs.lemmas.Bool.Decides.{nat_tests}
use Rattle.tagged_words.specs.declared.addresses.TheConstants.{HEAP_START}
use Rattle.prim_gates.specs.Shapes.{heads, tuple_list, with_element}

pub append_none : (xs : List ℕ) → xs ++ [] ≡ xs
append_none [] = refl
append_none (x ∷ xs) = ap (λ l. x ∷ l) (append_none xs)

pub append_later : (xs ys zs : List ℕ) → (xs ++ ys) ++ zs ≡ xs ++ (ys ++ zs)
append_later [] ys zs = refl
append_later (x ∷ xs) ys zs = ap (λ l. x ∷ l) (append_later xs ys zs)

pub pushed_none : (s : Store) → s ≡ pushed s []
pushed_none s = ap (λ ws. record s { heap = ws }) (sym (append_none s.heap))

pub pushed_twice : (s : Store) (xs ys : List ℕ) → pushed (pushed s xs) ys ≡ pushed s (xs ++ ys)
pushed_twice s xs ys = ap (λ ws. record s { heap = ws }) (append_later s.heap xs ys)

-- a word that is there stays, and is read the same
pub some_is : (o : Option ℕ) → is_some o ≡ true → (x : ℕ) × (o ≡ Some x)
some_is (Some x) e = (x, refl)
some_is None e = absurd cc

pub still_there : (s : Store) (ws : List ℕ) (at : ℕ) → is_some (word_of s at) ≡ true → is_some (word_of (pushed s ws) at) ≡ true
still_there s ws at e = let w = some_is (word_of s at) e in ap is_some (pushed_keeps s ws at w.0 w.1)

pub still_read : (s : Store) (ws : List ℕ) (at : ℕ) → is_some (word_of s at) ≡ true → read (pushed s ws) at ≡ read s at
still_read s ws at e = let w = some_is (word_of s at) e in ap word_or_none (pushed_keeps s ws at w.0 w.1) ∙ sym (ap word_or_none w.1)

-- the words of a list's cells are there
module _ (s : Store) (names : List (List ℕ)) where
  pub chained : (limit w : ℕ) (v : Seen) → Sees s names limit w v → IsChain s w (length (heads s w v)) × (heads s w v ≡ heads_by s w (length (heads s w v)))
  chained limit w (Int i) h = (tt, refl)
  chained limit w (Atom a) h = (tt, refl)
  chained limit w Nil h = (tt, refl)
  chained limit w (Tuple vs) h = (tt, refl)
  chained limit w (Bad x) h = (tt, refl)
  chained limit w (Cons head tail) h =
      let word : w ≡ h.0 + 1 = cons_is s names limit w h.0 h.3 in
      let first : h.0 ≡ w - 1 = omega arith in
      let second : h.0 + 4 ≡ w + 3 = omega arith in
      let here : h.2 ≡ read s (w + 3) = sym (ap word_or_none h.5) ∙ ap (read s) second in
      let rest = chained h.0 (read s (w + 3)) tail (subst (λ z. Sees s names h.0 z tail) here h.7) in (
        (omega arith, subst (λ p. is_some (word_of s p) ≡ true) first (cons_first s names limit w h.0 h.3), subst (λ p. is_some (word_of s p) ≡ true) second (cons_second s names limit w h.0 h.3), rest.0),
        ap (λ l. read s (w - 1) ∷ l) rest.1,
      )

pub length-heads_by : (s : Store) (w n : ℕ) → length (heads_by s w n) ≡ n
length-heads_by s w zero = refl
length-heads_by s w (suc n) = let rest = length-heads_by s (read s (w + 3)) n in omega arith

-- a chain of some cells
pub record IsFirst (s : Store) (w n : ℕ) : Type 0 where
  pub some : 0 < w
  pub head : is_some (word_of s (w - 1)) ≡ true
  pub tail : is_some (word_of s (w + 3)) ≡ true

pub chain_first : (s : Store) (w n : ℕ) → 0 < n → IsChain s w n → IsFirst s w n
chain_first s w zero some h = absurd (omega arith)
chain_first s w (suc n) some h = record { some = h.0; head = h.1; tail = h.2 }

pub chain_rest : (s : Store) (w n m : ℕ) → n ≡ m + 1 → IsChain s w n → IsChain s (read s (w + 3)) m
chain_rest s w n m e h = let same : n ≡ suc m = omega arith in (subst (IsChain s w) same h).3

pub heads_first : (s : Store) (w n m : ℕ) → n ≡ m + 1 → heads_by s w n ≡ read s (w - 1) ∷ heads_by s (read s (w + 3)) m
heads_first s w n m e = let same : n ≡ suc m = omega arith in ap (heads_by s w) same

pub heads_none : (s : Store) (w n : ℕ) → n ≡ 0 → heads_by s w n ≡ []
heads_none s w n e = ap (heads_by s w) e

-- the place where a word is there has an address
pub place_low : (s : Store) (at : ℕ) → HEAP_START + 4 * length s.heap ≤ 2 ^ 32 → is_some (word_of s at) ≡ true → at < 2 ^ 32
place_low s at within e =
    let w = some_is (word_of s at) e in
    let low : at < HEAP_START + 4 * length s.heap = word_low s at w.0 w.1 in
    omega arith

pub list_full : (room top : ℕ) (hs : List ℕ) (end : ℕ) → room < 2 * length hs → list_made room top hs end ≡ HeapFull
list_full room top hs end low =
    let n : length (cells top hs end) ≡ 2 * length hs = length-cells hs top end in
    let test : nat_lt room (length (cells top hs end)) ≡ true = grind (arith, nat_tests) in
    rw test refl

pub list_fits : (room top : ℕ) (hs : List ℕ) (end : ℕ) → 2 * length hs ≤ room → list_made room top hs end ≡ Value (last_cell top hs end) (cells top hs end)
list_fits room top hs end low =
    let n : length (cells top hs end) ≡ 2 * length hs = length-cells hs top end in
    let test : nat_lt room (length (cells top hs end)) ≡ false = grind (arith, nat_tests) in
    rw test refl

-- ---- the elements of a tuple from the last one down

pub down_first : (s : Store) (at n m : ℕ) → n ≡ m + 1 → reads_down s at n ≡ read s (at + 4 * n) ∷ reads_down s at m
down_first s at n m e = let same : n ≡ suc m = omega arith in ap (reads_down s at) same ∙ ap (λ k. read s (at + 4 * k) ∷ reads_down s at m) (sym same)

down_last : (s : Store) (at n : ℕ) → reads_down s at (suc n) ≡ reads_down s (at + 4) n ++ read s (at + 4) ∷ []
down_last s at zero = let place : at + 4 * 1 ≡ at + 4 = omega arith in ap (λ p. read s p ∷ []) place
down_last s at (suc n) =
    let place : at + 4 * suc (suc n) ≡ at + 4 + 4 * suc n = omega arith in
    ap (λ p. read s p ∷ reads_down s at (suc n)) place ∙ ap (λ l. read s (at + 4 + 4 * suc n) ∷ l) (down_last s at n)

down_onto : (s : Store) (at n : ℕ) (ws : List ℕ) → reverse_aux (reads s (at + 4) n) ws ≡ reads_down s at n ++ ws
down_onto s at zero ws = refl
down_onto s at (suc n) ws =
    down_onto s (at + 4) n (read s (at + 4) ∷ ws) ∙ sym (append_later (reads_down s (at + 4) n) (read s (at + 4) ∷ []) ws) ∙ sym (ap (λ l. l ++ ws) (down_last s at n))

pub down_is_reverse : (s : Store) (at n : ℕ) → reverse (reads s (at + 4) n) ≡ reads_down s at n
down_is_reverse s at n = down_onto s at n [] ∙ append_none (reads_down s at n)

pub length-reads_down : (s : Store) (at n : ℕ) → length (reads_down s at n) ≡ n
length-reads_down s at zero = refl
length-reads_down s at (suc n) = let rest = length-reads_down s at n in omega arith

pub tuple_list_is : (s : Store) (names : List (List ℕ)) (b : BuiltIn) (room top w at n : ℕ) (v : Seen) → look_of s names address_end w ≡ look.Tuple at n → Sees s names address_end w v
    → tuple_list s b room top w v ≡ list_made room top (reads_down s at n) nil_word
tuple_list_is s names b room top w at n v e h =
    let seen = tuple_seen s names address_end w at n v e h in
    let word : w ≡ at + 2 = tuple_is s names address_end w at n e in
    let place : w + 2 ≡ at + 4 = omega arith in
    ap (tuple_list s b room top w) seen.is ∙ ap (λ k. list_made room top (reverse (reads s (w + 2) k)) nil_word) seen.many ∙ ap (λ p. list_made room top (reverse (reads s p n)) nil_word) place
    ∙ ap (λ l. list_made room top l nil_word) (down_is_reverse s at n)

pub tuple_full : (room top : ℕ) (ws : List ℕ) → room ≤ length ws → tuple_made room top ws ≡ HeapFull
tuple_full room top ws low =
    let test : nat_lt room (1 + length ws) ≡ true = grind (arith, nat_tests) in
    let size : length (header_word (length ws) ∷ ws) ≡ 1 + length ws = omega arith in
    ap (λ n. if nat_lt room n then HeapFull else Value (top + 2) (header_word (length ws) ∷ ws)) size ∙ (rw test refl)

pub tuple_fits : (room top : ℕ) (ws : List ℕ) → length ws < room → tuple_made room top ws ≡ Value (top + 2) (header_word (length ws) ∷ ws)
tuple_fits room top ws low =
    let test : nat_lt room (1 + length ws) ≡ false = grind (arith, nat_tests) in
    let size : length (header_word (length ws) ∷ ws) ≡ 1 + length ws = omega arith in
    ap (λ n. if nat_lt room n then HeapFull else Value (top + 2) (header_word (length ws) ∷ ws)) size ∙ (rw test refl)

-- ---- tuples: a header, and words behind it

pub chain_kept : (s : Store) (ws : List ℕ) (w n : ℕ) → IsChain s w n → IsChain (pushed s ws) w n × (heads_by (pushed s ws) w n ≡ heads_by s w n)
chain_kept s ws w zero h = (tt, refl)
chain_kept s ws w (suc n) h =
    let next : read s (w + 3) ≡ read (pushed s ws) (w + 3) = sym (still_read s ws (w + 3) h.2) in
    let rest = chain_kept s ws (read s (w + 3)) n h.3 in (
      (h.0, still_there s ws (w - 1) h.1, still_there s ws (w + 3) h.2, subst (λ z. IsChain (pushed s ws) z n) next rest.0),
      ap (λ x. x ∷ heads_by (pushed s ws) (read (pushed s ws) (w + 3)) n) (still_read s ws (w - 1) h.1)
          ∙ ap (λ l. read s (w - 1) ∷ l) (ap (λ z. heads_by (pushed s ws) z n) (sym next) ∙ rest.1),
    )

-- ---- the elements of a tuple from a place on, with another one at an index

module _ (s : Store) (at index new : ℕ) where
  pub length-with_place : (k n : ℕ) → length (with_place s at k n index new) ≡ n
  length-with_place k zero = refl
  length-with_place k (suc n) = let rest = length-with_place (k + 1) n in omega arith

  pub place_first : (k n m : ℕ) → n ≡ m + 1 → with_place s at k n index new ≡ (if nat_eq k index then new else read s (at + 4 * k)) ∷ with_place s at (k + 1) m index new
  place_first k n m e = let same : n ≡ suc m = omega arith in ap (λ i. with_place s at k i index new) same

  place_past : (k n : ℕ) → index < k → with_place s at k n index new ≡ reads s (at + 4 * k) n
  place_past k zero low = refl
  place_past k (suc n) low =
      let test : nat_eq k index ≡ false = grind (arith, nat_tests) in
      let next : at + 4 * (k + 1) ≡ at + 4 * k + 4 = omega arith in
      ap (λ b. (if b then new else read s (at + 4 * k)) ∷ with_place s at (k + 1) n index new) test
      ∙ ap (λ l. read s (at + 4 * k) ∷ l) (place_past (k + 1) n (omega arith) ∙ ap (λ p. reads s p n) next)

  pub place_set : (k n i : ℕ) → index ≡ k + i → with_place s at k n index new ≡ slice_set (reads s (at + 4 * k) n) i new
  place_set k zero i e = refl
  place_set k (suc n) zero e =
      let test : nat_eq k index ≡ true = grind (arith, nat_tests) in
      let next : at + 4 * (k + 1) ≡ at + 4 * k + 4 = omega arith in
      ap (λ b. (if b then new else read s (at + 4 * k)) ∷ with_place s at (k + 1) n index new) test
      ∙ ap (λ l. new ∷ l) (place_past (k + 1) n (omega arith) ∙ ap (λ p. reads s p n) next)
  place_set k (suc n) (suc i) e =
      let test : nat_eq k index ≡ false = grind (arith, nat_tests) in
      let next : at + 4 * (k + 1) ≡ at + 4 * k + 4 = omega arith in
      ap (λ b. (if b then new else read s (at + 4 * k)) ∷ with_place s at (k + 1) n index new) test
      ∙ ap (λ l. read s (at + 4 * k) ∷ l) (place_set (k + 1) n i (omega arith) ∙ ap (λ p. slice_set (reads s p n) i new) next)

with_element_there : (s : Store) (b : BuiltIn) (room top k first tuple at new : ℕ) (vs : AllSeen) → 0 < k → k ≤ seen_size vs → tuple ≡ at + 2
    → with_element s b room top (pos k) first tuple (Tuple vs) new ≡ tuple_made room top (with_place s at 1 (seen_size vs) k new)
with_element_there s b room top zero first tuple at new vs some low is = absurd (omega arith)
with_element_there s b room top (suc i) first tuple at new vs some low is =
    let test : nat_lt i (seen_size vs) ≡ true = grind (arith, nat_tests) in
    let place : tuple + 2 ≡ at + 4 * 1 = omega arith in
    rw test (ap (tuple_made room top) (ap (λ p. slice_set (reads s p (seen_size vs)) i new) place ∙ sym (place_set s at (suc i) new 1 (seen_size vs) i (omega arith))))

pub with_element_is : (s : Store) (names : List (List ℕ)) (b : BuiltIn) (room top k first tuple at n new : ℕ) (v : Seen) → 0 < k → k ≤ n → look_of s names address_end tuple ≡ look.Tuple at n → Sees s names address_end tuple v
    → with_element s b room top (pos k) first tuple v new ≡ tuple_made room top (with_place s at 1 n k new)
with_element_is s names b room top k first tuple at n new v some low e h =
    let seen = tuple_seen s names address_end tuple at n v e h in
    let many : seen_size seen.elements ≡ n = seen.many in
    ap (λ u. with_element s b room top (pos k) first tuple u new) seen.is ∙ with_element_there s b room top k first tuple at new seen.elements some (omega arith) (tuple_is s names address_end tuple at n e)
    ∙ ap (λ m. tuple_made room top (with_place s at 1 m k new)) many

pub place_kept : (s : Store) (ws : List ℕ) (at index new k n : ℕ) → ((j : ℕ) → j < k + n → is_some (word_of s (at + 4 * j)) ≡ true) → with_place (pushed s ws) at k n index new ≡ with_place s at k n index new
place_kept s ws at index new k zero there = refl
place_kept s ws at index new k (suc n) there =
    ap (λ x. (if nat_eq k index then new else x) ∷ with_place (pushed s ws) at (k + 1) n index new) (still_read s ws (at + 4 * k) (there k (omega arith)))
    ∙ ap (λ l. (if nat_eq k index then new else read s (at + 4 * k)) ∷ l) (place_kept s ws at index new (k + 1) n (λ j low. there j (omega arith)))
