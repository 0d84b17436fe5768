-- The words of the elements of tuples and lists stand for the elements.
use Rattle.std.proofs.Common.{◌≡◌, ℕ, zero, suc, ◌+◌, ◌-◌, ◌*◌, ◌<◌, ◌≤◌, ◌⊎◌, inl, inr, List, [], ◌∷◌, Some, None, length, option_map, slice_get, refl, ap, sym, subst, ◌∙◌, one-add, arith}
use Rattle.std.proofs.lemmas.Bool.Decides.{nat_tests}
use Rattle.prim_gates.proofs.Below.{tree_under}
use Rattle.prim_gates.proofs.Each.{Each}
use Rattle.prim_gates.specs.Reply.{read, reads, word_or_none}
use Rattle.prim_gates.specs.Shapes.{heads, end_of, Proper, Improper}
use Rattle.beam_code.specs.BuiltIns.{elements_in}
use Rattle.tagged_words.proofs.SeenLaws.{is_there, class_shown}
use Rattle.tagged_words.specs.declared.kind.Class.TheVariants.{Cons, Boxed}
use Rattle.tagged_words.specs.declared.look.Look.TheVariants as look
use Rattle.tagged_words.specs.Look.{address_end}
use Rattle.tagged_words.specs.Seen.{IsTreeBelow, IsTreeOf, AreTreesBelow, seen_size, all_whole, whole}
use Rattle.tagged_words.specs.Store.{Store, word_of}
use Rattle.tagged_words.specs.Word.{class_of}
use Rattle.term_tree.specs.Tree as t
use Rattle.term_tree.specs.Size.{size_of}

pub cons_word : (w at : ℕ) → class_of w ≡ Cons at → w ≡ at + 1
cons_word w at e = grind (arith, nat_tests)

pub boxed_word : (w at : ℕ) → class_of w ≡ Boxed at → w ≡ at + 2
boxed_word w at e = grind (arith, nat_tests)

pub read_there : (s : Store) (at x : ℕ) → word_of s at ≡ Some x → read s at ≡ x
read_there s at x e = ap word_or_none e

pub seen_size_whole : (vs : t.Trees) → seen_size (all_whole vs) ≡ size_of vs
seen_size_whole t.No = refl
seen_size_whole (t.More v vs) = ap (λ n. 1 + n) (seen_size_whole vs)

pub length-list_of : (vs : t.Trees) → length (t.list_of vs) ≡ size_of vs
length-list_of t.No = refl
length-list_of (t.More v vs) = let rest = length-list_of vs in omega arith

module _ (s : Store) (names : List (List ℕ)) where
  reads_more : (at n : ℕ) → reads s at (1 + n) ≡ read s at ∷ reads s (at + 4) n
  reads_more at n = ap (reads s at) (one-add n)

  pub reads_each : (limit at : ℕ) (vs : t.Trees) → limit ≤ address_end → AreTreesBelow s names limit at vs → Each (IsTreeOf s names) (reads s at (seen_size (all_whole vs))) (t.list_of vs)
  reads_each limit at t.No low h = tt
  reads_each limit at (t.More v vs) low h =
      let first : IsTreeOf s names (read s at) v = subst (λ w. IsTreeOf s names w v) (sym (read_there s at h.0 h.1)) (tree_under s names limit address_end low h.0 v h.2) in
      let rest = reads_each limit (at + 4) vs low h.3 in
      subst (λ ws. Each (IsTreeOf s names) ws (v ∷ t.list_of vs)) (sym (reads_more at (seen_size (all_whole vs)))) (first, rest)

  -- one element by its place
  pub element_there : (limit at : ℕ) (vs : t.Trees) (i : ℕ) → limit ≤ address_end → AreTreesBelow s names limit at vs → i < size_of vs → (v : t.Tree) × (slice_get (t.list_of vs) i ≡ Some v) × IsTreeOf s names (read s (at + 4 * i)) v
  element_there limit at t.No i low h within = absurd (omega arith)
  element_there limit at (t.More v vs) zero low h within =
      let here : at + 4 * 0 ≡ at = omega arith in
      (v, refl, subst (λ w. IsTreeOf s names w v) (sym (ap (read s) here ∙ read_there s at h.0 h.1)) (tree_under s names limit address_end low h.0 v h.2))
  element_there limit at (t.More v vs) (suc i) low h within =
      let rest = element_there limit (at + 4) vs i low h.3 (omega arith) in
      let place : at + 4 + 4 * i ≡ at + 4 * suc i = omega arith in
      (rest.0, rest.1, subst (λ z. IsTreeOf s names (read s z) rest.0) place rest.2)

  -- ---- tuples: the place of the header, and what stands behind it

  pub record IsTupleAt (w : ℕ) (vs : t.Trees) : Type 0 where
    pub at : ℕ
    pub word : w ≡ at + 2
    pub low : at ≤ address_end
    pub elements : AreTreesBelow s names at (at + 4) vs

  pub tuple_at : (w : ℕ) (vs : t.Trees) → IsTreeOf s names w (t.Tuple vs) → IsTupleAt w vs
  tuple_at w vs h =
      let cell = is_there s names address_end w (look.Tuple h.0 (seen_size (all_whole vs))) h.1 in
      let below : h.0 < address_end = cell.below in
      record {
        at = h.0;
        word = boxed_word w h.0 (class_shown s names address_end w (look.Tuple h.0 (seen_size (all_whole vs))) h.1);
        low = omega arith;
        elements = h.2;
      }

  -- ---- conses

  pub record IsConsAt (limit w : ℕ) (head tail : t.Tree) : Type 0 where
    pub at : ℕ
    pub word : w ≡ at + 1
    pub low : at ≤ limit
    pub head_stands : IsTreeBelow s names at (read s at) head
    pub tail_stands : IsTreeBelow s names at (read s (at + 4)) tail

  pub cons_at : (limit w : ℕ) (head tail : t.Tree) → IsTreeBelow s names limit w (t.Cons head tail) → IsConsAt limit w head tail
  cons_at limit w head tail h =
      let cell = is_there s names limit w (look.Cons h.0) h.3 in
      let below : h.0 < limit = cell.below in
      record {
        at = h.0;
        word = cons_word w h.0 (class_shown s names limit w (look.Cons h.0) h.3);
        low = omega arith;
        head_stands = subst (λ x. IsTreeBelow s names h.0 x head) (sym (read_there s h.0 h.1 h.4)) h.6;
        tail_stands = subst (λ x. IsTreeBelow s names h.0 x tail) (sym (read_there s (h.0 + 4) h.2 h.5)) h.7;
      }

  -- ---- lists that end in `[]`, and others

  pub record IsList (w : ℕ) (v : t.Tree) (vs : List t.Tree) : Type 0 where
    pub some : t.elements_of v ≡ Some vs
    pub proper : end_of (whole v) ≡ Proper
    pub words : Each (IsTreeOf s names) (heads s w (whole v)) vs
    pub many : elements_in v ≡ length vs

pub record IsNoList (v : t.Tree) : Type 0 where
  pub none : t.elements_of v ≡ None
  pub improper : end_of (whole v) ≡ Improper

module _ (s : Store) (names : List (List ℕ)) where
  one_more : (limit w : ℕ) (head tail : t.Tree) → limit ≤ address_end → (c : IsConsAt s names limit w head tail) → IsNoList tail ⊎ ((vs : List t.Tree) × IsList s names (read s (c.at + 4)) tail vs)
      → IsNoList (t.Cons head tail) ⊎ ((vs : List t.Tree) × IsList s names w (t.Cons head tail) vs)
  one_more limit w head tail up c (inl other) = inl (record { none = ap (option_map (λ ts. head ∷ ts)) other.none; improper = other.improper })
  one_more limit w head tail up c (inr (vs, is)) =
      let word : w ≡ c.at + 1 = c.word in
      let low : c.at ≤ limit = c.low in
      let first : c.at ≡ w - 1 = omega arith in
      let second : c.at + 4 ≡ w + 3 = omega arith in
      let stands : IsTreeOf s names (read s (w - 1)) head = subst (λ z. IsTreeOf s names (read s z) head) first (tree_under s names c.at address_end (omega arith) (read s c.at) head c.head_stands) in
      let rest : Each (IsTreeOf s names) (heads s (read s (w + 3)) (whole tail)) vs = subst (λ z. Each (IsTreeOf s names) (heads s (read s z) (whole tail)) vs) second is.words in
      let fewer : elements_in tail ≡ length vs = is.many in
      inr (head ∷ vs, record { some = ap (option_map (λ ts. head ∷ ts)) is.some; proper = is.proper; words = (stands, rest); many = omega arith })

  pub list_or_not : (limit w : ℕ) (v : t.Tree) → limit ≤ address_end → IsTreeBelow s names limit w v → IsNoList v ⊎ ((vs : List t.Tree) × IsList s names w v vs)
  list_or_not limit w (t.Int i) up h = inl (record { none = refl; improper = refl })
  list_or_not limit w (t.Atom a) up h = inl (record { none = refl; improper = refl })
  list_or_not limit w t.Nil up h = inr ([], record { some = refl; proper = refl; words = tt; many = refl })
  list_or_not limit w (t.Cons head tail) up h =
      let c = cons_at s names limit w head tail h in
      let low : c.at ≤ limit = c.low in
      one_more limit w head tail up c (list_or_not c.at (read s (c.at + 4)) tail (omega arith) c.tail_stands)
  list_or_not limit w (t.Tuple vs) up h = inl (record { none = refl; improper = refl })
