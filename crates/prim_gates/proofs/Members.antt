-- Looking for a term among the elements of a list.
use Rattle.std.proofs.Common.{◌≡◌, ℕ, ◌+◌, ◌<◌, ◌≤◌, true, false, List, refl, ap, sym, subst, ◌∙◌, arith}
use Rattle.std.specs.declared.cmp.Ordering.{Ordering}
use Rattle.std.specs.declared.cmp.Ordering.TheVariants.{Less, Equal, Greater}
use Rattle.beam_code.specs.BuiltIns.{BuiltIn, Badarg}
use Rattle.tagged_words.specs.declared.look.Look.{Look}
use Rattle.tagged_words.specs.declared.look.Look.TheVariants as look
use Rattle.tagged_words.specs.Look.{look_of, address_end}
use Rattle.tagged_words.specs.Seen.{Seen, Int, Atom, Nil, Cons, Tuple, Bad, seen_size, Sees}
use Rattle.tagged_words.specs.Store.{Store}
use Rattle.word_walks.specs.Compared.{Found, Is, Meets, compared}
use Rattle.prim_gates.proofs.Below.{look_below}
use Rattle.word_walks.proofs.Cells.{tuple_shown}
use Rattle.prim_gates.proofs.ListWalks.{IsLast}
use Rattle.prim_gates.proofs.Seeing.{cons_low, cons_seen}
use Rattle.prim_gates.specs.Ended.{is_bad}
use Rattle.prim_gates.specs.Reply.{Reply, Raise, Fault, read, says, raised, own_atom}
use Rattle.prim_gates.specs.Shapes.{member_of, member_found}
use Rattle.std.specs.Prelude.{codes}

module _ (s : Store) (names : List (List ℕ)) (limit w : ℕ) where
  pub bad_seen : (v : Seen) → is_bad (look_of s names limit w) ≡ true → Sees s names limit w v → v ≡ Bad w
  bad_seen (Int i) e h = let no : true ≡ false = sym e ∙ ap is_bad h in absurd cc
  bad_seen (Atom a) e h = let no : true ≡ false = sym e ∙ ap is_bad h.1 in absurd cc
  bad_seen Nil e h = let no : true ≡ false = sym e ∙ ap is_bad h in absurd cc
  bad_seen (Cons head tail) e h = let no : true ≡ false = sym e ∙ ap is_bad h.3 in absurd cc
  bad_seen (Tuple vs) e h = let no : true ≡ false = sym e ∙ ap is_bad h.1 in absurd cc
  bad_seen (Bad x) e h = ap Bad h.1

  -- what is seen below a limit, and stands for something, is seen below each higher one
  pub seen_up : (to : ℕ) (v : Seen) → limit ≤ to → is_bad (look_of s names limit w) ≡ false → Sees s names limit w v → Sees s names to w v
  seen_up to (Int i) up e h = look_below s names limit to w (look.Small i) h tt
  seen_up to (Atom a) up e h = (h.0, look_below s names limit to w (look.Atom h.0) h.1 tt, h.2)
  seen_up to Nil up e h = look_below s names limit to w look.Nil h tt
  seen_up to (Cons head tail) up e h =
      let low : h.0 < limit = cons_low s names limit w h.0 h.3 in
      (h.0, h.1, h.2, look_below s names limit to w (look.Cons h.0) h.3 (omega arith), h.4, h.5, h.6, h.7)
  seen_up to (Tuple vs) up e h =
      let low : h.0 < limit = (tuple_shown s names limit w h.0 (seen_size vs) h.1).low in
      (h.0, look_below s names limit to w (look.Tuple h.0 (seen_size vs)) h.1 (omega arith), h.2)
  seen_up to (Bad x) up e h = let no : false ≡ true = sym e ∙ ap is_bad h.0 in absurd cc

  pub compared_bad : (v : Seen) (x : ℕ) → is_bad (look_of s names limit w) ≡ false → Sees s names limit w v → compared v (Bad x) ≡ Meets x
  compared_bad (Int i) x e h = refl
  compared_bad (Atom a) x e h = refl
  compared_bad Nil x e h = refl
  compared_bad (Cons head tail) x e h = refl
  compared_bad (Tuple vs) x e h = refl
  compared_bad (Bad y) x e h = let no : false ≡ true = sym e ∙ ap is_bad h.0 in absurd cc

unequal_goes_on : (r : Reply) (o : Ordering) → (o ≡ Equal → ⊥) → member_found r (Is o) ≡ r
unequal_goes_on r Less n = refl
unequal_goes_on r Equal n = absurd (n refl)
unequal_goes_on r Greater n = refl

-- what is found of an argument in a list whose last word shows no cons
abbrev pub member_end : ℕ → Look → Reply
member_end w look.Nil = says false
member_end w look.Bad = Fault w
member_end w l = Raise 0 (own_atom (codes "badarg"))

module _ (s : Store) (names : List (List ℕ)) (first : ℕ) where
  pub record IsFrom (b : BuiltIn) (v y : Seen) (limit word : ℕ) : Type 0 where
    pub rest : Seen
    pub seen : Sees s names limit word rest
    pub is : member_of b first v y ≡ member_of b first v rest

  -- the search has come below a limit without finding the term
  pub record IsSearch (list limit word : ℕ) : Type 0 where
    pub low : limit ≤ address_end
    pub from : (b : BuiltIn) (v y : Seen) → Sees s names address_end first v → Sees s names address_end list y → IsFrom b v y limit word

  pub search_begins : (list : ℕ) → IsSearch list address_end list
  search_begins list = record { low = omega arith; from = λ b v y h k. record { rest = y; seen = k; is = refl } }

  module _ (list limit word at : ℕ) (search_is : IsSearch list limit word) (e : look_of s names limit word ≡ look.Cons at) (b : BuiltIn) (v y : Seen) (h : Sees s names address_end first v) (k : Sees s names address_end list y) where
    pub record IsCell : Type 0 where
      pub head : Seen
      pub tail : Seen
      pub head_seen : Sees s names at (read s at) head
      pub tail_seen : Sees s names at (read s (at + 4)) tail
      pub is : member_of b first v y ≡ member_found (member_of b first v tail) (compared v head)

    pub cell : IsCell
    cell =
        let r = search_is.from b v y h k in
        let c = cons_seen s names limit word at r.rest e r.seen in
        record { head = c.head; tail = c.tail; head_seen = c.head_seen; tail_seen = c.tail_seen; is = r.is ∙ ap (member_of b first v) c.is }

    pub first_bad : is_bad (look_of s names address_end first) ≡ true → Fault first ≡ member_of b first v y
    first_bad bad = sym (cell.is ∙ ap (λ u. member_found (member_of b first v cell.tail) (compared u cell.head)) (bad_seen s names address_end first v bad h))

    pub head_bad : (head : ℕ) → head ≡ read s at → is_bad (look_of s names address_end first) ≡ false → is_bad (look_of s names at head) ≡ true → Fault head ≡ member_of b first v y
    head_bad head here good bad =
        let seen : Sees s names at head cell.head = subst (λ z. Sees s names at z cell.head) (sym here) cell.head_seen in
        let is : cell.head ≡ Bad head = bad_seen s names at head cell.head bad seen in
        sym (cell.is ∙ ap (member_found (member_of b first v cell.tail)) (ap (compared v) is ∙ compared_bad s names address_end first v head good h))

    -- the head, where it is something, is compared
    module _ (head : ℕ) (here : head ≡ read s at) (good : is_bad (look_of s names at head) ≡ false) (f : Found)
        (answer : (x z : Seen) → Sees s names address_end first x → Sees s names address_end head z → f ≡ compared x z) where
      decides : member_of b first v y ≡ member_found (member_of b first v cell.tail) f
      decides =
          let seen : Sees s names at head cell.head = subst (λ z. Sees s names at z cell.head) (sym here) cell.head_seen in
          let low : at < limit = cons_low s names limit word at e in
          let high : limit ≤ address_end = search_is.low in
          let up : at ≤ address_end = omega arith in
          cell.is ∙ ap (member_found (member_of b first v cell.tail)) (sym (answer v cell.head h (seen_up s names at head address_end cell.head up good seen)))

      pub found_equal : f ≡ Is Equal → says true ≡ member_of b first v y
      found_equal is = sym (decides ∙ ap (member_found (member_of b first v cell.tail)) is)

      pub found_bad : (w : ℕ) → f ≡ Meets w → Fault w ≡ member_of b first v y
      found_bad w is = sym (decides ∙ ap (member_found (member_of b first v cell.tail)) is)

      pub found_other : (o : Ordering) → f ≡ Is o → (o ≡ Equal → ⊥) → (next : ℕ) → next ≡ read s (at + 4) → IsFrom b v y at next
      found_other o is n next there = record {
        rest = cell.tail;
        seen = subst (λ z. Sees s names at z cell.tail) (sym there) cell.tail_seen;
        is = decides ∙ ap (member_found (member_of b first v cell.tail)) is ∙ unequal_goes_on (member_of b first v cell.tail) o n;
      }

  rest_ends : (limit word : ℕ) (l : Look) (b : BuiltIn) (v u : Seen) → look_of s names limit word ≡ l → IsLast l → b.failure ≡ Badarg → Sees s names limit word u → member_end word l ≡ member_of b first v u
  rest_ends limit word l b v (Int i) e last fails h = ap (member_end word) (sym e ∙ h) ∙ sym (ap (λ f. raised f first) fails)
  rest_ends limit word l b v (Atom a) e last fails h = ap (member_end word) (sym e ∙ h.1) ∙ sym (ap (λ f. raised f first) fails)
  rest_ends limit word l b v Nil e last fails h = ap (member_end word) (sym e ∙ h)
  rest_ends limit word l b v (Cons head tail) e last fails h = absurd (subst IsLast (sym e ∙ h.3) last)
  rest_ends limit word l b v (Tuple vs) e last fails h = ap (member_end word) (sym e ∙ h.1) ∙ sym (ap (λ f. raised f first) fails)
  rest_ends limit word l b v (Bad x) e last fails h = ap (member_end word) (sym e ∙ h.0) ∙ ap Fault (sym h.1)

  pub search_ends : (list limit word : ℕ) (l : Look) → look_of s names limit word ≡ l → IsLast l → IsSearch list limit word
      → (b : BuiltIn) (v y : Seen) → b.failure ≡ Badarg → Sees s names address_end first v → Sees s names address_end list y → member_end word l ≡ member_of b first v y
  search_ends list limit word l e last search_is b v y fails h k =
      let r = search_is.from b v y h k in
      rest_ends limit word l b v r.rest e last fails r.seen ∙ sym r.is

pub other_end : (w : ℕ) (l : Look) → (l ≡ look.Nil → ⊥) → (l ≡ look.Bad → ⊥) → member_end w l ≡ Raise 0 (own_atom (codes "badarg"))
other_end w look.Nil n m = absurd (n refl)
other_end w look.Bad n m = absurd (m refl)
other_end w (look.Small i) n m = refl
other_end w (look.Atom i) n m = refl
other_end w (look.Cons at) n m = refl
other_end w (look.Tuple at i) n m = refl
