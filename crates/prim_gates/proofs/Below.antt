-- The limit below which a tree stands: what a store has lies below its top, and a tree stands below any higher limit.
use Rattle.std.proofs.Common.{◌≡◌, ℕ, ◌+◌, ◌*◌, ◌/◌, ◌%◌, ◌<◌, ◌≤◌, Bool, true, false, ◌&&◌, if◌then◌else◌, Option, Some, None, is_some, List, length, nat_eq, nat_lt, refl, ap, sym, subst, ◌∙◌, arith}
use Rattle.std.proofs.lemmas.Bool.Decides.{nat_tests}
use Rattle.tagged_words.proofs.RegionLaws.{is_some-word_at}
use Rattle.tagged_words.proofs.StoreLaws.{word_inside}
use Rattle.tagged_words.proofs.SeenLaws.{is_there, class_shown}
use Rattle.tagged_words.specs.declared.addresses.TheConstants.{HEAP_START}
use Rattle.tagged_words.specs.declared.kind.Class.{Class}
use Rattle.tagged_words.specs.declared.kind.Class.TheVariants as class
use Rattle.tagged_words.specs.declared.look.Look.{Look}
use Rattle.tagged_words.specs.declared.look.Look.TheVariants as look
use Rattle.tagged_words.specs.Look.{look_of, look_in, look_atom, look_cons, look_tuple, address_end}
use Rattle.tagged_words.specs.Seen.{IsTreeBelow, IsTreeOf, seen_size, all_whole}
use Rattle.tagged_words.specs.Store.{Store, word_of, is_whole, literal_region, heap_region}
use Rattle.tagged_words.specs.Word.{class_of}
use Rattle.term_tree.specs.Tree as t

-- a word is there only below the top of the heap
pub word_low : (s : Store) (at x : ℕ) → word_of s at ≡ Some x → at < HEAP_START + 4 * length s.heap
word_low s at x e =
    let low = is_some-word_at (literal_region s) at in
    let high = is_some-word_at (heap_region s) at in
    let some : is_some (word_of s at) ≡ true = ap is_some e in
    grind (arith, nat_tests)

-- what a word shows, where its cell lies below another limit
abbrev Lies : ℕ → Look → Type 0
Lies limit (look.Small i) = Unit {0}
Lies limit (look.Atom n) = Unit {0}
Lies limit look.Nil = Unit {0}
Lies limit (look.Cons at) = at < limit
Lies limit (look.Tuple at n) = at < limit
Lies limit look.Bad = ⊥

module _ (s : Store) (names : List (List ℕ)) (limit to : ℕ) where
  at_atom : (n : ℕ) (b : Bool) → nat_lt n (length names) ≡ b → (l : Look) → (if b then look.Atom n else look.Bad) ≡ l → Lies to l → look_atom names n ≡ l
  at_atom n b is l e low = ap (λ c. if c then look.Atom n else look.Bad) is ∙ e

  at_cons : (at : ℕ) (b c : Bool) → nat_lt at limit ≡ b → is_whole s at 2 ≡ c → (l : Look) → (if b && c then look.Cons at else look.Bad) ≡ l → Lies to l → look_cons s to at ≡ l
  at_cons at true true below there l e low =
      let lies : at < to = subst (Lies to) (sym e) low in
      let test : nat_lt at to ≡ true = grind (arith, nat_tests) in
      rw test (rw there e)
  at_cons at true false below there l e low = absurd (subst (Lies to) (sym e) low)
  at_cons at false c below there l e low = absurd (subst (Lies to) (sym e) low)

  at_tuple : (at h : ℕ) (b c : Bool) → nat_lt at limit ≡ b → (nat_eq (h % 64) 0 && is_whole s at (1 + h / 64)) ≡ c → (l : Look) → (if b && c then look.Tuple at (h / 64) else look.Bad) ≡ l → Lies to l → look_tuple s to at (Some h) ≡ l
  at_tuple at h true true below there l e low =
      let lies : at < to = subst (Lies to) (sym e) low in
      let test : nat_lt at to ≡ true = grind (arith, nat_tests) in
      rw test (rw there e)
  at_tuple at h true false below there l e low = absurd (subst (Lies to) (sym e) low)
  at_tuple at h false c below there l e low = absurd (subst (Lies to) (sym e) low)

  at_boxed : (at : ℕ) (o : Option ℕ) (l : Look) → look_tuple s limit at o ≡ l → Lies to l → look_tuple s to at o ≡ l
  at_boxed at None l e low = e
  at_boxed at (Some h) l e low = at_tuple at h (nat_lt at limit) (nat_eq (h % 64) 0 && is_whole s at (1 + h / 64)) refl refl l e low

  at_class : (c : Class) (l : Look) → look_in s names limit c ≡ l → Lies to l → look_in s names to c ≡ l
  at_class (class.Small i) l e low = e
  at_class (class.Atom n) l e low = e
  at_class class.Nil l e low = e
  at_class (class.Cons at) l e low = at_cons at (nat_lt at limit) (is_whole s at 2) refl refl l e low
  at_class (class.Boxed at) l e low = at_boxed at (word_of s at) l e low
  at_class class.Other l e low = e

  pub look_below : (w : ℕ) (l : Look) → look_of s names limit w ≡ l → Lies to l → look_of s names to w ≡ l
  look_below w l e low = at_class (class_of w) l e low

  -- a tree stands below each higher limit
  pub tree_under : limit ≤ to → (w : ℕ) (v : t.Tree) → IsTreeBelow s names limit w v → IsTreeBelow s names to w v
  tree_under up w (t.Int i) h = look_below w (look.Small i) h tt
  tree_under up w (t.Atom a) h = (h.0, look_below w (look.Atom h.0) h.1 tt, h.2)
  tree_under up w t.Nil h = look_below w look.Nil h tt
  tree_under up w (t.Cons head tail) h =
      let cell = is_there s names limit w (look.Cons h.0) h.3 in
      let low : h.0 < limit = cell.below in
      (h.0, h.1, h.2, look_below w (look.Cons h.0) h.3 (omega arith), h.4, h.5, h.6, h.7)
  tree_under up w (t.Tuple vs) h =
      let cell = is_there s names limit w (look.Tuple h.0 (seen_size (all_whole vs))) h.1 in
      let low : h.0 < limit = cell.below in
      (h.0, look_below w (look.Tuple h.0 (seen_size (all_whole vs))) h.1 (omega arith), h.2)

-- a tree of a store stands in a later one below the top of the first
pub tree_below_top : (s later : Store) (names : List (List ℕ)) (limit w : ℕ) (v : t.Tree) → HEAP_START + 4 * length s.heap ≤ limit → IsTreeOf s names w v → IsTreeOf later names w v → IsTreeBelow later names limit w v
tree_below_top s later names limit w (t.Int i) up h g = look_below later names address_end limit w (look.Small i) g tt
tree_below_top s later names limit w (t.Atom a) up h g = (g.0, look_below later names address_end limit w (look.Atom g.0) g.1 tt, g.2)
tree_below_top s later names limit w t.Nil up h g = look_below later names address_end limit w look.Nil g tt
tree_below_top s later names limit w (t.Cons head tail) up h g =
    let there : h.0 < HEAP_START + 4 * length s.heap = word_low s h.0 h.1 h.4 in
    let mine : class_of w ≡ class.Cons h.0 = class_shown s names address_end w (look.Cons h.0) h.3 in
    let other : class_of w ≡ class.Cons g.0 = class_shown later names address_end w (look.Cons g.0) g.3 in
    let both : class.Cons h.0 ≡ class.Cons g.0 = sym mine ∙ other in
    let same : h.0 ≡ g.0 = cc in
    let lies : g.0 < limit = omega arith in
    (g.0, g.1, g.2, look_below later names address_end limit w (look.Cons g.0) g.3 lies, g.4, g.5, g.6, g.7)
tree_below_top s later names limit w (t.Tuple vs) up h g =
    let n : ℕ = seen_size (all_whole vs) in
    let cell = is_there s names address_end w (look.Tuple h.0 (seen_size (all_whole vs))) h.1 in
    let first = word_inside s h.0 (1 + seen_size (all_whole vs)) 0 cell.there (omega arith) in
    let there : h.0 + 4 * 0 < HEAP_START + 4 * length s.heap = word_low s (h.0 + 4 * 0) first.0 first.1 in
    let mine : class_of w ≡ class.Boxed h.0 = class_shown s names address_end w (look.Tuple h.0 (seen_size (all_whole vs))) h.1 in
    let other : class_of w ≡ class.Boxed g.0 = class_shown later names address_end w (look.Tuple g.0 (seen_size (all_whole vs))) g.1 in
    let both : class.Boxed h.0 ≡ class.Boxed g.0 = sym mine ∙ other in
    let same : h.0 ≡ g.0 = cc in
    let lies : g.0 < limit = omega arith in
    (g.0, look_below later names address_end limit w (look.Tuple g.0 (seen_size (all_whole vs))) g.1 lies, g.2)
