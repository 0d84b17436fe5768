-- The heads of a list that are kept, and taken from the last one down.
use Rattle.std.proofs.Common.{◌≡◌, ℕ, zero, suc, ◌+◌, ◌-◌, ◌<◌, ◌≤◌, ◌++◌, ◌⊎◌, inl, inr, Some, List, [], ◌∷◌, length, reverse, slice_get, slice_set, refl, ap, sym, subst, ◌∙◌, arith}
use mathlib.Core.List.{reverse_aux}
use Rattle.tagged_words.specs.declared.look.Look.TheVariants as look
use Rattle.tagged_words.specs.Look.{address_end, look_of}
use Rattle.tagged_words.specs.Seen.{Seen, Int, Atom, Nil, Cons, Tuple, Bad, Sees}
use Rattle.tagged_words.specs.Store.{Store, word_of, words_in}
use Rattle.word_walks.proofs.Ordinals.{higher, few}
use Rattle.word_walks.specs.Ordinal.{ordinal}
use Rattle.prim_gates.proofs.Chains.{append_none, append_later, some_is}
use Rattle.prim_gates.proofs.ListWalks.{IsRest, IsWalk, walk_begins, walk_goes_on}
use Rattle.prim_gates.proofs.Seeing.{cons_first, cons_low, cons_is, cons_seen}
use Rattle.prim_gates.specs.Chain.{kept_down}
use Rattle.prim_gates.specs.Reply.{read, word_or_none}
use Rattle.prim_gates.specs.Shapes.{heads}

-- a list has no more cells than its store has words
module _ (s : Store) (names : List (List ℕ)) where
  heads_under : (limit w : ℕ) (v : Seen) → Sees s names limit w v → length (heads s w v) ≤ ordinal s limit
  heads_under limit w (Int i) h = omega arith
  heads_under limit w (Atom a) h = omega arith
  heads_under limit w Nil h = omega arith
  heads_under limit w (Tuple vs) h = omega arith
  heads_under limit w (Bad x) h = omega arith
  heads_under limit w (Cons head tail) h =
      let word : w ≡ h.0 + 1 = cons_is s names limit w h.0 h.3 in
      let second : h.0 + 4 ≡ w + 3 = omega arith in
      let here : h.2 ≡ read s (w + 3) = sym (ap word_or_none h.5) ∙ ap (read s) second in
      let rest : length (heads s (read s (w + 3)) tail) ≤ ordinal s h.0 = heads_under h.0 (read s (w + 3)) tail (subst (λ z. Sees s names h.0 z tail) here h.7) in
      let up : ordinal s h.0 + 1 ≤ ordinal s limit = higher s h.0 h.1 limit h.4 (cons_low s names limit w h.0 h.3) in
      omega arith

  pub heads_few : (limit w : ℕ) (v : Seen) → Sees s names limit w v → length (heads s w v) ≤ words_in s
  heads_few limit w v h =
      let low : length (heads s w v) ≤ ordinal s limit = heads_under limit w v h in
      let all : ordinal s limit ≤ words_in s = few s limit in
      omega arith

set_here : (ws : List ℕ) (i w : ℕ) → i < length ws → slice_get (slice_set ws i w) i ≡ Some w
set_here [] i w within = absurd (omega arith)
set_here (x ∷ ws) zero w within = refl
set_here (x ∷ ws) (suc i) w within = set_here ws i w (omega arith)

set_other : (ws : List ℕ) (i w j : ℕ) → j < i → slice_get (slice_set ws i w) j ≡ slice_get ws j
set_other [] i w j low = refl
set_other (x ∷ ws) zero w j low = absurd (omega arith)
set_other (x ∷ ws) (suc i) w zero low = refl
set_other (x ∷ ws) (suc i) w (suc j) low = set_other ws i w j (omega arith)

below_or : (k i : ℕ) → k < i + 1 → (k < i) ⊎ (k ≡ i)
below_or zero zero h = inr refl
below_or zero (suc i) h = inl (omega arith)
below_or (suc k) zero h = absurd (omega arith)
below_or (suc k) (suc i) h = one (below_or k i (omega arith)) where
  one : (k < i) ⊎ (k ≡ i) → (suc k < suc i) ⊎ (suc k ≡ suc i)
  one (inl low) = inl (omega arith)
  one (inr e) = inr (ap suc e)

-- a walk along a list that keeps the heads of the cells behind it
module _ (s : Store) (names : List (List ℕ)) where
  pub record IsKeeping (w limit word count : ℕ) (scratch : List ℕ) : Type 0 where
    pub walk : IsWalk s names w limit word count
    pub low : count + ordinal s limit ≤ words_in s
    pub kept : (v : Seen) → Sees s names address_end w v → (k : ℕ) → k < count → slice_get scratch k ≡ slice_get (heads s w v) k

  pub begins_keeping : (w : ℕ) (scratch : List ℕ) → IsKeeping w address_end w 0 scratch
  begins_keeping w scratch =
      let all : ordinal s address_end ≤ words_in s = few s address_end in
      record { walk = walk_begins s names w; low = omega arith; kept = λ v h k low. absurd (omega arith) }

  -- a cell below the limit is one of those that are still to come
  pub more_ahead : (w limit word count at : ℕ) (scratch : List ℕ) → look_of s names limit word ≡ look.Cons at → IsKeeping w limit word count scratch → count + 1 + ordinal s at ≤ words_in s
  more_ahead w limit word count at scratch e k =
      let x = some_is (word_of s at) (cons_first s names limit word at e) in
      let up : ordinal s at + 1 ≤ ordinal s limit = higher s at x.0 limit x.1 (cons_low s names limit word at e) in
      let low : count + ordinal s limit ≤ words_in s = k.low in
      omega arith

  next_head : (w limit word count at : ℕ) (v : Seen) → look_of s names limit word ≡ look.Cons at → IsRest s names w v limit word count → slice_get (heads s w v) count ≡ Some (read s at)
  next_head w limit word count at v e r =
      let c = cons_seen s names limit word at r.rest e r.seen in
      let here : word ≡ at + 1 = cons_is s names limit word at e in
      let place : word - 1 ≡ at = omega arith in
      let same : count + 0 ≡ count = omega arith in
      ap (slice_get (heads s w v)) (sym same) ∙ r.ahead 0 ∙ ap (λ u. slice_get (heads s word u) 0) c.is ∙ ap (λ p. Some (read s p)) place

  pub keeps_on : (w limit word count at head next : ℕ) (scratch : List ℕ) → look_of s names limit word ≡ look.Cons at → head ≡ read s at → next ≡ read s (at + 4) → count < length scratch → IsKeeping w limit word count scratch
      → IsKeeping w at next (count + 1) (slice_set scratch count head)
  keeps_on w limit word count at head next scratch e is later space k =
      let more : count + 1 + ordinal s at ≤ words_in s = more_ahead w limit word count at scratch e k in
      record {
        walk = walk_goes_on s names w limit word count at next e later k.walk;
        low = omega arith;
        kept = λ v h i below. elim (below_or i count below) [
          | inl less ↦ set_other scratch count head i less ∙ k.kept v h i less
          | inr here ↦ ap (slice_get (slice_set scratch count head)) here ∙ set_here scratch count head space ∙ ap Some is ∙ sym (next_head w limit word count at v e (k.walk.rests v h)) ∙ ap (slice_get (heads s w v)) (sym here)
        ];
      }

-- what is kept, from the last word down
pub kept_first : (ws : List ℕ) (n m x : ℕ) → n ≡ m + 1 → slice_get ws m ≡ Some x → kept_down ws n ≡ x ∷ kept_down ws m
kept_first ws n m x e there = let same : n ≡ suc m = omega arith in ap (kept_down ws) same ∙ ap (λ o. word_or_none o ∷ kept_down ws m) there

pub length-kept_down : (ws : List ℕ) (n : ℕ) → length (kept_down ws n) ≡ n
length-kept_down ws zero = refl
length-kept_down ws (suc n) = let rest = length-kept_down ws n in omega arith

alike_down : (ws hs : List ℕ) (n : ℕ) → ((k : ℕ) → k < n → slice_get ws k ≡ slice_get hs k) → kept_down ws n ≡ kept_down hs n
alike_down ws hs zero same = refl
alike_down ws hs (suc n) same = ap (λ o. word_or_none o ∷ kept_down ws n) (same n (omega arith)) ∙ ap (λ l. word_or_none (slice_get hs n) ∷ l) (alike_down ws hs n (λ k low. same k (omega arith)))

first_down : (x : ℕ) (hs : List ℕ) (n : ℕ) → kept_down (x ∷ hs) (suc n) ≡ kept_down hs n ++ x ∷ []
first_down x hs zero = refl
first_down x hs (suc n) = ap (λ l. word_or_none (slice_get hs n) ∷ l) (first_down x hs n)

onto_down : (hs ws : List ℕ) (n : ℕ) → length hs ≡ n → reverse_aux hs ws ≡ kept_down hs n ++ ws
onto_down [] ws zero e = refl
onto_down [] ws (suc n) e = absurd (omega arith)
onto_down (x ∷ hs) ws zero e = absurd (omega arith)
onto_down (x ∷ hs) ws (suc n) e = onto_down hs (x ∷ ws) n (omega arith) ∙ sym (append_later (kept_down hs n) (x ∷ []) ws) ∙ sym (ap (λ l. l ++ ws) (first_down x hs n))

pub kept_is_reverse : (ws hs : List ℕ) (n : ℕ) → length hs ≡ n → ((k : ℕ) → k < n → slice_get ws k ≡ slice_get hs k) → kept_down ws n ≡ reverse hs
kept_is_reverse ws hs n size same = alike_down ws hs n same ∙ sym (onto_down hs [] n size ∙ append_none (kept_down hs n))
