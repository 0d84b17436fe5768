-- Walks along a list: what is seen of its rest, behind so many cells.
use Rattle.std.proofs.Common.{◌≡◌, ℕ, ◌+◌, ◌-◌, ◌<◌, ◌≤◌, suc, List, [], ◌∷◌, length, slice_get, refl, ap, sym, subst, ◌∙◌, arith}
use Rattle.tagged_words.specs.declared.look.Look.{Look}
use Rattle.tagged_words.specs.declared.look.Look.TheVariants as look
use Rattle.tagged_words.specs.Look.{look_of, address_end}
use Rattle.tagged_words.specs.Seen.{Seen, Int, Atom, Nil, Cons, Tuple, Bad, Sees}
use Rattle.tagged_words.specs.Store.{Store}
use Rattle.prim_gates.proofs.Seeing.{cons_low, cons_is, cons_seen}
use Rattle.prim_gates.specs.Reply.{read}
use Rattle.prim_gates.specs.Shapes.{heads, End, Proper, Improper, Met, end_of}

-- how a list ends whose last word shows no cons
abbrev pub end_shown : ℕ → Look → End
end_shown w look.Nil = Proper
end_shown w look.Bad = Met w
end_shown w l = Improper

abbrev pub IsLast : Look → Type 0
IsLast (look.Cons at) = ⊥
IsLast l = Unit {0}

pub another_last : (l : Look) → ((at : ℕ) → l ≡ look.Cons at → ⊥) → IsLast l
another_last (look.Cons at) n = n at refl
another_last (look.Small i) n = tt
another_last (look.Atom i) n = tt
another_last look.Nil n = tt
another_last (look.Tuple at i) n = tt
another_last look.Bad n = tt

pub another_end : (w : ℕ) (l : Look) → (l ≡ look.Nil → ⊥) → (l ≡ look.Bad → ⊥) → end_shown w l ≡ Improper
another_end w look.Nil n m = absurd (n refl)
another_end w look.Bad n m = absurd (m refl)
another_end w (look.Small i) n m = refl
another_end w (look.Atom i) n m = refl
another_end w (look.Cons at) n m = refl
another_end w (look.Tuple at i) n m = refl

module _ (s : Store) (names : List (List ℕ)) where
  pub ends_so : (limit w : ℕ) (l : Look) (v : Seen) → look_of s names limit w ≡ l → IsLast l → Sees s names limit w v → end_shown w l ≡ end_of v
  ends_so limit w l (Int i) e last h = ap (end_shown w) (sym e ∙ h)
  ends_so limit w l (Atom a) e last h = ap (end_shown w) (sym e ∙ h.1)
  ends_so limit w l Nil e last h = ap (end_shown w) (sym e ∙ h)
  ends_so limit w l (Cons head tail) e last h = absurd (subst IsLast (sym e ∙ h.3) last)
  ends_so limit w l (Tuple vs) e last h = ap (end_shown w) (sym e ∙ h.1)
  ends_so limit w l (Bad v) e last h = ap (end_shown w) (sym e ∙ h.0) ∙ ap Met (sym h.1)

  pub none_left : (limit w : ℕ) (l : Look) (v : Seen) → look_of s names limit w ≡ l → IsLast l → Sees s names limit w v → heads s w v ≡ []
  none_left limit w l (Int i) e last h = refl
  none_left limit w l (Atom a) e last h = refl
  none_left limit w l Nil e last h = refl
  none_left limit w l (Cons head tail) e last h = absurd (subst IsLast (sym e ∙ h.3) last)
  none_left limit w l (Tuple vs) e last h = refl
  none_left limit w l (Bad v) e last h = refl

  -- what is seen of a list behind so many cells
  pub record IsRest (w : ℕ) (v : Seen) (limit word count : ℕ) : Type 0 where
    pub rest : Seen
    pub seen : Sees s names limit word rest
    pub many : length (heads s w v) ≡ count + length (heads s word rest)
    pub ahead : (k : ℕ) → slice_get (heads s w v) (count + k) ≡ slice_get (heads s word rest) k
    pub ends : end_of v ≡ end_of rest

  -- a walk has come below a limit, which counts the cells ahead
  pub record IsWalk (w limit word count : ℕ) : Type 0 where
    pub room : count + limit ≤ 4294967295
    pub rests : (v : Seen) → Sees s names address_end w v → IsRest w v limit word count

  pub walk_begins : (w : ℕ) → IsWalk w address_end w 0
  walk_begins w = record { room = omega arith; rests = λ v h. record { rest = v; seen = h; many = omega arith; ahead = λ k. let same : 0 + k ≡ k = omega arith in ap (slice_get (heads s w v)) same; ends = refl } }

  rest_on : (w : ℕ) (v : Seen) (limit word count at next : ℕ) → look_of s names limit word ≡ look.Cons at → next ≡ read s (at + 4) → IsRest w v limit word count → IsRest w v at next (count + 1)
  rest_on w v limit word count at next e is r =
      let c = cons_seen s names limit word at r.rest e r.seen in
      let here : word ≡ at + 1 = cons_is s names limit word at e in
      let place : at + 4 ≡ word + 3 = omega arith in
      let fewer : length (heads s word r.rest) ≡ length (read s (word - 1) ∷ heads s (read s (word + 3)) c.tail) = ap (λ u. length (heads s word u)) c.is in
      let same : heads s (read s (word + 3)) c.tail ≡ heads s next c.tail = ap (λ z. heads s z c.tail) (ap (read s) (sym place) ∙ sym is) in
      let size : length (heads s (read s (word + 3)) c.tail) ≡ length (heads s next c.tail) = ap length same in
      let many : length (heads s w v) ≡ count + length (heads s word r.rest) = r.many in
      record {
        rest = c.tail;
        seen = subst (λ z. Sees s names at z c.tail) (sym is) c.tail_seen;
        many = omega arith;
        ahead = λ k. let behind : count + 1 + k ≡ count + suc k = omega arith in
            ap (slice_get (heads s w v)) behind ∙ r.ahead (suc k) ∙ ap (λ u. slice_get (heads s word u) (suc k)) c.is ∙ ap (λ l. slice_get l k) same;
        ends = r.ends ∙ ap end_of c.is;
      }

  pub walk_goes_on : (w limit word count at next : ℕ) → look_of s names limit word ≡ look.Cons at → next ≡ read s (at + 4) → IsWalk w limit word count → IsWalk w at next (count + 1)
  walk_goes_on w limit word count at next e is walk =
      let low : at < limit = cons_low s names limit word at e in
      let room : count + limit ≤ 4294967295 = walk.room in
      record { room = omega arith; rests = λ v h. rest_on w v limit word count at next e is (walk.rests v h) }

  -- where the walk comes to an end
  pub walk_count : (w limit word count : ℕ) (l : Look) → look_of s names limit word ≡ l → IsLast l → IsWalk w limit word count → (v : Seen) → Sees s names address_end w v → count ≡ length (heads s w v)
  walk_count w limit word count l e last walk v h =
      let r = walk.rests v h in
      let none : length (heads s word r.rest) ≡ 0 = ap length (none_left limit word l r.rest e last r.seen) in
      let many : length (heads s w v) ≡ count + length (heads s word r.rest) = r.many in
      omega arith

  pub walk_end : (w limit word count : ℕ) (l : Look) → look_of s names limit word ≡ l → IsLast l → IsWalk w limit word count → (v : Seen) → Sees s names address_end w v → end_shown word l ≡ end_of v
  walk_end w limit word count l e last walk v h =
      let r = walk.rests v h in
      ends_so limit word l r.rest e last r.seen ∙ sym r.ends
