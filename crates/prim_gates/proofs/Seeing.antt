-- What is seen from a word, by what a look at it shows.
use Rattle.std.proofs.Common.{◌≡◌, ℕ, zero, suc, ◌+◌, ◌-◌, ◌*◌, ◌^◌, ◌<◌, ◌≤◌, true, is_some, List, [], ℤ, pos, length, nat_lt, refl, ap, sym, subst, ◌∙◌, arith}
use Rattle.std.proofs.lemmas.Bool.Decides.{nat_tests}
use Rattle.beam_code.specs.BuiltIns.{BuiltIn}
use Rattle.tagged_words.proofs.SeenLaws.{class_shown}
use Rattle.tagged_words.proofs.StoreLaws.{word_inside}
use Rattle.tagged_words.specs.declared.addresses.TheConstants.{HEAP_START}
use Rattle.tagged_words.specs.declared.look.Look.TheVariants as look
use Rattle.tagged_words.specs.Look.{look_of}
use Rattle.tagged_words.specs.Seen.{Seen, Int, Atom, Nil, Cons, Tuple, Bad, AllSeen, seen_size, Sees, SeesAll}
use Rattle.tagged_words.specs.Store.{Store, word_of}
use Rattle.word_walks.proofs.Cells.{first_word, later_words, whole_end, cons_shown, tuple_shown}
use Rattle.prim_gates.proofs.Walks.{cons_word, boxed_word, read_there}
use Rattle.prim_gates.specs.Reply.{read, Value}
use Rattle.prim_gates.specs.Shapes.{element_of}

module _ (s : Store) (names : List (List ℕ)) (limit w at : ℕ) where
  -- the words of a cons are there, at addresses
  pub cons_first : look_of s names limit w ≡ look.Cons at → is_some (word_of s at) ≡ true
  cons_first e = first_word s at 2 (omega arith) (cons_shown s names limit w at e).there

  pub cons_second : look_of s names limit w ≡ look.Cons at → is_some (word_of s (at + 4)) ≡ true
  cons_second e = first_word s (at + 4) 1 (omega arith) (later_words s at 1 2 refl (omega arith) (cons_shown s names limit w at e).there)

  pub cons_end : HEAP_START + 4 * length s.heap ≤ 2 ^ 32 → look_of s names limit w ≡ look.Cons at → at + 8 ≤ 2 ^ 32
  cons_end within e =
      let end : at + 4 * 2 ≤ 2 ^ 32 = whole_end s at 2 within (omega arith) (cons_shown s names limit w at e).there in
      omega arith

  pub cons_low : look_of s names limit w ≡ look.Cons at → at < limit
  cons_low e = (cons_shown s names limit w at e).low

  pub cons_is : look_of s names limit w ≡ look.Cons at → w ≡ at + 1
  cons_is e = cons_word w at (class_shown s names limit w (look.Cons at) e)

  -- what is seen where a cons is shown
  pub record IsConsSeen (v : Seen) : Type 0 where
    pub head : Seen
    pub tail : Seen
    pub is : v ≡ Cons head tail
    pub head_seen : Sees s names at (read s at) head
    pub tail_seen : Sees s names at (read s (at + 4)) tail

  pub cons_seen : (v : Seen) → look_of s names limit w ≡ look.Cons at → Sees s names limit w v → IsConsSeen v
  cons_seen (Int i) e h = let same : look.Cons at ≡ look.Small i = sym e ∙ h in absurd cc
  cons_seen (Atom a) e h = let same : look.Cons at ≡ look.Atom h.0 = sym e ∙ h.1 in absurd cc
  cons_seen Nil e h = let same : look.Cons at ≡ look.Nil = sym e ∙ h in absurd cc
  cons_seen (Cons head tail) e h =
      let same : look.Cons h.0 ≡ look.Cons at = sym h.3 ∙ e in
      let place : h.0 ≡ at = cc in
      record {
        head = head;
        tail = tail;
        is = refl;
        head_seen = subst (λ z. Sees s names z (read s z) head) place (subst (λ x. Sees s names h.0 x head) (sym (read_there s h.0 h.1 h.4)) h.6);
        tail_seen = subst (λ z. Sees s names z (read s (z + 4)) tail) place (subst (λ x. Sees s names h.0 x tail) (sym (read_there s (h.0 + 4) h.2 h.5)) h.7);
      }
  cons_seen (Tuple vs) e h = let same : look.Cons at ≡ look.Tuple h.0 (seen_size vs) = sym e ∙ h.1 in absurd cc
  cons_seen (Bad v) e h = let same : look.Cons at ≡ look.Bad = sym e ∙ h.0 in absurd cc

module _ (s : Store) (names : List (List ℕ)) (limit w at n : ℕ) where
  -- the words of a tuple's elements, from 1, are there, at addresses
  pub tuple_end : HEAP_START + 4 * length s.heap ≤ 2 ^ 32 → look_of s names limit w ≡ look.Tuple at n → at + 4 * (1 + n) ≤ 2 ^ 32
  tuple_end within e = whole_end s at (1 + n) within (omega arith) (tuple_shown s names limit w at n e).there

  pub tuple_is : look_of s names limit w ≡ look.Tuple at n → w ≡ at + 2
  tuple_is e = boxed_word w at (class_shown s names limit w (look.Tuple at n) e)

  pub record IsTupleSeen (v : Seen) : Type 0 where
    pub elements : AllSeen
    pub is : v ≡ Tuple elements
    pub many : seen_size elements ≡ n
    pub seen : SeesAll s names at (at + 4) elements

  pub tuple_seen : (v : Seen) → look_of s names limit w ≡ look.Tuple at n → Sees s names limit w v → IsTupleSeen v
  tuple_seen (Int i) e h = let same : look.Tuple at n ≡ look.Small i = sym e ∙ h in absurd cc
  tuple_seen (Atom a) e h = let same : look.Tuple at n ≡ look.Atom h.0 = sym e ∙ h.1 in absurd cc
  tuple_seen Nil e h = let same : look.Tuple at n ≡ look.Nil = sym e ∙ h in absurd cc
  tuple_seen (Cons head tail) e h = let same : look.Tuple at n ≡ look.Cons h.0 = sym e ∙ h.3 in absurd cc
  tuple_seen (Tuple vs) e h =
      let same : look.Tuple h.0 (seen_size vs) ≡ look.Tuple at n = sym h.1 ∙ e in
      let place : h.0 ≡ at = cc in
      let size : seen_size vs ≡ n = cc in
      record { elements = vs; is = refl; many = size; seen = subst (λ z. SeesAll s names z (z + 4) vs) place h.2 }
  tuple_seen (Bad v) e h = let same : look.Tuple at n ≡ look.Bad = sym e ∙ h.0 in absurd cc

-- the k-th word of a tuple is there
pub tuple_word : (s : Store) (names : List (List ℕ)) (limit w at n k : ℕ) → look_of s names limit w ≡ look.Tuple at n → k < 1 + n → is_some (word_of s (at + 4 * k)) ≡ true
tuple_word s names limit w at n k e low = ap is_some (word_inside s at (1 + n) k (tuple_shown s names limit w at n e).there low).1

-- the element at an index from 1
pub element_at : (s : Store) (b : BuiltIn) (k first tuple at : ℕ) (vs : AllSeen) → 0 < k → k ≤ seen_size vs → tuple ≡ at + 2 → Value (read s (at + 4 * k)) [] ≡ element_of s b (pos k) first tuple (Tuple vs)
element_at s b zero first tuple at vs some low is = absurd (omega arith)
element_at s b (suc i) first tuple at vs some low is =
    let test : nat_lt i (seen_size vs) ≡ true = grind (arith, nat_tests) in
    let place : at + 4 * suc i ≡ tuple - 2 + 4 * (i + 1) = omega arith in
    rw test (ap (λ p. Value (read s p) []) place)

-- what is seen where an integer is shown, and a word that stands for no term
module _ (s : Store) (names : List (List ℕ)) (limit w : ℕ) where
  pub small_seen : (i : ℤ) (v : Seen) → look_of s names limit w ≡ look.Small i → Sees s names limit w v → v ≡ Int i
  small_seen i (Int j) e h = let same : look.Small i ≡ look.Small j = sym e ∙ h in let value : i ≡ j = cc in ap Int (sym value)
  small_seen i (Atom a) e h = let same : look.Small i ≡ look.Atom h.0 = sym e ∙ h.1 in absurd cc
  small_seen i Nil e h = let same : look.Small i ≡ look.Nil = sym e ∙ h in absurd cc
  small_seen i (Cons head tail) e h = let same : look.Small i ≡ look.Cons h.0 = sym e ∙ h.3 in absurd cc
  small_seen i (Tuple vs) e h = let same : look.Small i ≡ look.Tuple h.0 (seen_size vs) = sym e ∙ h.1 in absurd cc
  small_seen i (Bad v) e h = let same : look.Small i ≡ look.Bad = sym e ∙ h.0 in absurd cc
