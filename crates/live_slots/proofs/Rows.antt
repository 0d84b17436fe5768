-- Rows of two states, by shape, where the states agree in what is live at their item.
use Rattle.std.proofs.Common.{inl, inr, ◌≡◌, ℕ, zero, suc, ◌+◌, ◌-◌, ◌<◌, ◌≤◌, Bool, true, false, not, ◌&&◌, List, [], ◌∷◌, Option, Some, None, drop, length, replicate, nat_eq, nat_le, nat_lt, slice_get, slice_set, refl, ap, subst, sym, ◌∙◌, arith, if◌then◌else◌, codes}
use Rattle.std.specs.List.{Contains, list_any}
use Rattle.std.specs.Option.{option_map}
use Rattle.std.proofs.lemmas.Bool.{cases_eq, ltb-true}
use Rattle.std.proofs.lemmas.Bool.Decides.{nat_tests}
use Rattle.small_step.specs.Stage.{Stage, Done}
use Rattle.paths.proofs.Tests.{here}
use Rattle.term_tree.specs.Size as sizes
use Rattle.term_tree.specs.Tree as t
use Rattle.term_tree.specs.Tree.{Tree}
use Rattle.beam_code.specs.declared.call.Limits.{Limits}
use Rattle.beam_code.specs.declared.call.RaiseClass.{RaiseClass}
use Rattle.beam_code.specs.declared.call.RaiseClass.TheVariants.{Error}
use Rattle.beam_code.specs.declared.instr.Callee.{Callee}
use Rattle.beam_code.specs.declared.instr.Operand.{Operand}
use Rattle.beam_code.specs.declared.instr.Operand.TheVariants.{X}
use Rattle.beam_code.specs.declared.instr.Place.{Place}
use Rattle.beam_code.specs.declared.instr.Place.TheVariants as place
use Rattle.beam_code.specs.declared.module.Module.{Module}
use Rattle.beam_code.specs.BuiltIns.{Answer, Gives, Fails, builtin, built_in_number, holds, inline_number, test_number}
use Rattle.beam_code.specs.BuiltIns as answer
use Rattle.beam_code.specs.Function.{Placed, exported_number, is_given, label_in, target_of}
use Rattle.beam_code.specs.Row as row
use Rattle.beam_code.specs.Shape as s
use Rattle.beam_code.specs.State.{Local, Event, TailCalls, Returns, Ends, BadOperand, only, Slot as State, Undefined, Holds, Tag, TagKind, OfTry, OfCatch}
use Rattle.beam_code.specs.Uses.{any_names, comes_back, is_below, names, same_place, shape_goes_on, shape_reads}
use Rattle.beam_rows.proofs.Callees.{comes_back_with}
use Rattle.path_rules.specs.Points.{labels_of}
use Rattle.live_slots.specs.Agree.{Agree, AgreeThere, SameRow, SameStack}
use Rattle.live_slots.proofs.Reading.{args_same, is_at_more, is_at_none, is_at_or, kept_same, or_left, or_right, read_same, reads_same}
use Rattle.live_slots.proofs.Slots.{kind_same, slots_drop, slots_fewer, slots_long, slots_self, slots_set, stack_fewer}
use Rattle.beam_rows.proofs.Lists.{get_set_here, get_set_other, length_kept, length_set}
use Rattle.run_laws.proofs.Rows.{size_label, value_label}
use Rattle.live_slots.specs.Live.{Name, Register, Slot, is_at, loads, stores}
use Rattle.run_laws.specs.Shown.{size_of}

-- two states of this stack at this item, which agree in these names
pub record Near (stack : Option ℕ) (at : ℕ) (A : Name → Type 0) (l m : Local) : Type 0 where
  pub item : l.item ≡ at
  pub stack_is : option_map size_of l.ys ≡ stack
  pub agree : Agree A l m

-- all of these names but that of a place, and of several
abbrev pub Minus : Option ℕ → Place → (Name → Type 0) → Name → Type 0
Minus stack to A name = A name × (is_at stack (same_place to) name ≡ false)

abbrev MinusParts : Option ℕ → List (s.Piece × Place) → (Name → Type 0) → Name → Type 0
MinusParts stack [] A = A
MinusParts stack (part ∷ parts) A = Minus stack part.1 (MinusParts stack parts A)

parts_are : (stack : Option ℕ) (parts : List (s.Piece × Place)) (A : Name → Type 0) (name : Name) → MinusParts stack parts A name → A name × (is_at stack (λ q. list_any (λ part. same_place part.1 q) parts) name ≡ false)
parts_are stack [] A name h = (h, is_at_none stack name)
parts_are stack (part ∷ parts) A name h =
    let r = parts_are stack parts A name h.0 in
    (r.0, is_at_or stack (same_place part.1) (λ q. list_any (λ part. same_place part.1 q) parts) name h.1 r.1)

-- what paths say of an item: what it loads is live there, and what is live where it goes on, but for what it stores
pub record Knows (f : Placed) (live : ℕ → Name → Type 0) (stack : Option ℕ) (at : ℕ) (shape : s.Shape) : Type 0 where
  pub loaded : (name : Name) → loads shape stack name ≡ true → live at name
  pub onward : (name : Name) → shape_goes_on shape ≡ true → stores shape stack name ≡ false → live (at + 1) name → live at name
  pub label : (name : Name) (label item : ℕ) → Contains (labels_of shape) label → label_in f.function label ≡ Some item → live item name → live at name

off_slot : (size k n : ℕ) → k ≤ size → (k + n ≡ size → ⊥) → is_at (Some size) (same_place (place.Y n)) (Slot k) ≡ false
off_slot size k n few out = by (nat_lt 0 k && nat_le k size)
  where
    other : n ≡ size - k → ⊥
    other e = out (omega arith)

    off : nat_eq n (size - k) ≡ false
    off = grind (arith, nat_tests, other)

    by : (g : Bool) → g && nat_eq n (size - k) ≡ false
    by true = off
    by false = refl

no_slot : (stack : Option ℕ) (n k : ℕ) → is_at stack (same_place (place.X n)) (Slot k) ≡ false
no_slot None n k = refl
no_slot (Some size) n k = is_at_none (Some size) (Slot k)

-- with other stacks
moved_to : (stack other : Option ℕ) (at : ℕ) (A B : Name → Type 0) (l m : Local) (o q : Option (List State)) → ((r : ℕ) → B (Register r) → A (Register r)) → option_map size_of o ≡ other → SameStack B o q
    → Near stack at A l m → Near other at B (record l { ys = o }) (record m { ys = q })
moved_to stack other at A B l m o q back e a n =
    record { item = n.item; stack_is = e; agree = record { item = n.agree.item; used = n.agree.used; left = n.agree.left; wide = n.agree.wide; xs = λ r on. n.agree.xs r (back r on); ys = a } }

using_near : (stack : Option ℕ) (at words : ℕ) (A : Name → Type 0) (l m : Local) → Near stack at A l m → Near stack at A (row.using words l) (row.using words m)
using_near stack at words A l m n =
    record { item = n.item; stack_is = n.stack_is; agree = record { item = n.agree.item; used = ap (λ k. k + words) n.agree.used; left = n.agree.left; wide = n.agree.wide; xs = n.agree.xs; ys = n.agree.ys } }

cut_near : (stack : Option ℕ) (at : ℕ) (A : Name → Type 0) (l m : Local) (live : Option ℕ) → Near stack at A l m → Near stack at A (row.cut live l) (row.cut live m)
cut_near stack at A l m None n = n
cut_near stack at A l m (Some k) n = record {
  item = n.item;
  stack_is = n.stack_is;
  agree = record {
    item = n.agree.item;
    used = n.agree.used;
    left = n.agree.left;
    wide = length_kept k l.xs ∙ n.agree.wide ∙ sym (length_kept k m.xs);
    xs = λ r on. kept_same k l.xs m.xs r n.agree.wide (n.agree.xs r on);
    ys = n.agree.ys;
  };
}

near_fewer : (stack : Option ℕ) (at : ℕ) (A B : Name → Type 0) (l m : Local) → ((name : Name) → B name → A name) → Near stack at A l m → Near stack at B l m
near_fewer stack at A B l m back n = record {
  item = n.item;
  stack_is = n.stack_is;
  agree = record {
    item = n.agree.item;
    used = n.agree.used;
    left = n.agree.left;
    wide = n.agree.wide;
    xs = λ r on. n.agree.xs r (back (Register r) on);
    ys = stack_fewer A B l.ys m.ys (λ k on. back (Slot k) on) n.agree.ys;
  };
}

module _ (live : ℕ → Name → Type 0) where
  abbrev S : Stage Local Event → Stage Local Event → Type 0
  S a b = SameRow live a b

  if_so : (b c : Bool) (x y u v : Stage Local Event) → b ≡ c → (b ≡ true → S x y) → S u v → S (if b then x else u) (if c then y else v)
  if_so true true x y u v e on off = on refl
  if_so false false x y u v e on off = off
  if_so true false x y u v e on off = absurd cc
  if_so false true x y u v e on off = absurd cc

  given_same : {A : Type 0} (l m : Local) (o q : Option A) (a b : A → Stage Local Event) → o ≡ q → ((v : A) → S (a v) (b v)) → S (row.given l o a) (row.given m q b)
  given_same l m (Some v) (Some w) a b e each = let same : v ≡ w = cc in subst (λ x. S (a v) (b x)) same (each v)
  given_same l m None None a b e each = refl
  given_same l m (Some v) None a b e each = absurd cc
  given_same l m None (Some v) a b e each = absurd cc

  there_same : (stack : Option ℕ) (at : ℕ) (l m : Local) → Near stack at (live at) l m → AgreeThere live l m
  there_same stack at l m n = subst (λ k. Agree (live k) l m) (sym n.item) n.agree

  goes_same : (stack : Option ℕ) (at : ℕ) (l m : Local) → Near stack at (live (at + 1)) l m → S (row.goes_on l) (row.goes_on m)
  goes_same stack at l m n =
      let a : Agree (live (l.item + 1)) l m = subst (λ k. Agree (live (k + 1)) l m) (sym n.item) n.agree in
      record { item = ap (λ k. k + 1) a.item; used = a.used; left = a.left; wide = a.wide; xs = a.xs; ys = a.ys }

  -- a y register takes a slot
  y_near : (stack : Option ℕ) (at : ℕ) (A : Name → Type 0) (l m : Local) (n : ℕ) (u : State) (more : Local → Stage Local Event) → Near stack at (Minus stack (place.Y n) A) l m
      → ((c d : Local) → Near stack at A c d → S (more c) (more d)) → (o q : Option (List State)) → option_map size_of o ≡ stack → SameStack (Minus stack (place.Y n) A) o q
      → S (row.y_set l o n u more) (row.y_set m q n u more)
  y_near stack at A l m n u more near done None None e a = refl
  y_near stack at A l m n u more near done None (Some ts) e a = absurd a
  y_near stack at A l m n u more near done (Some ss) None e a = absurd a
  y_near stack at A l m n u more near done (Some ss) (Some ts) e a =
      if_so (nat_lt n (length ss)) (nat_lt n (length ts)) _ _ _ _ (ap (nat_lt n) (slots_long (Minus stack (place.Y n) A) ss ts a))
      (λ on. done (record l { ys = Some (slice_set ss n u) }) (record m { ys = Some (slice_set ts n u) })
      (moved_to stack stack at (Minus stack (place.Y n) A) A l m (Some (slice_set ss n u)) (Some (slice_set ts n u)) (λ r on. (on, refl)) (ap (λ k. Some k) (length_set ss n u) ∙ e)
      (slots_set (Minus stack (place.Y n) A) A ss ts n u (λ k some few other b. (b, subst (λ o. is_at o (same_place (place.Y n)) (Slot k) ≡ false) e (off_slot (length ss) k n few other))) a) near)) refl

  -- a place takes a term
  put_near : (stack : Option ℕ) (at : ℕ) (A : Name → Type 0) (l m : Local) (to : Place) (v : Tree) (more : Local → Stage Local Event) → Near stack at (Minus stack to A) l m
      → ((c d : Local) → Near stack at A c d → S (more c) (more d)) → S (row.put l to v more) (row.put m to v more)
  put_near stack at A l m (place.Y n) v more near done = y_near stack at A l m n (Holds v) more near done l.ys m.ys near.stack_is near.agree.ys
  put_near stack at A l m (place.X n) v more near done =
      if_so (nat_lt n (length l.xs)) (nat_lt n (length m.xs)) _ _ _ _ (ap (nat_lt n) near.agree.wide)
      (λ on. done (record l { xs = slice_set l.xs n (Some v) }) (record m { xs = slice_set m.xs n (Some v) })
      (record {
        item = near.item;
        stack_is = near.stack_is;
        agree = record {
          item = near.agree.item;
          used = near.agree.used;
          left = near.agree.left;
          wide = length_set l.xs n (Some v) ∙ near.agree.wide ∙ sym (length_set m.xs n (Some v));
          xs = set (ltb-true n (length l.xs) on);
          ys = stack_fewer (Minus stack (place.X n) A) A l.ys m.ys (λ k c. (c, no_slot stack n k)) near.agree.ys;
        };
      })) refl
    where
      set : n < length l.xs → (r : ℕ) → A (Register r) → slice_get (slice_set l.xs n (Some v)) r ≡ slice_get (slice_set m.xs n (Some v)) r
      set low r on = elim (cases_eq r n) [
        | inl e ↦ (let wide : length l.xs ≡ length m.xs = near.agree.wide in let too : n < length m.xs = omega arith in
            ap (slice_get (slice_set l.xs n (Some v))) e ∙ get_set_here l.xs n (Some v) low ∙ sym (get_set_here m.xs n (Some v) too) ∙ sym (ap (slice_get (slice_set m.xs n (Some v))) e))
        | inr ne ↦ (let other : nat_eq n r ≡ false = grind (arith, nat_tests, ne) in
            get_set_other l.xs n r (Some v) ne ∙ near.agree.xs r (on, other) ∙ sym (get_set_other m.xs n r (Some v) ne))
      ]

  freed_same : (stack : Option ℕ) (at : ℕ) (A : Name → Type 0) (l m : Local) (n : ℕ) (a b : Local → Stage Local Event) → Near stack at A l m → S (a (record l { ys = None })) (b (record m { ys = None }))
      → (o q : Option (List State)) → SameStack A o q → S (row.freed l n o a) (row.freed m n q b)
  freed_same stack at A l m n a b near done None None e = refl
  freed_same stack at A l m n a b near done None (Some ts) e = absurd e
  freed_same stack at A l m n a b near done (Some ss) None e = absurd e
  freed_same stack at A l m n a b near done (Some ss) (Some ts) e =
      if_so (nat_eq (length ss) n) (nat_eq (length ts) n) _ _ _ _ (ap (λ k. nat_eq k n) (slots_long A ss ts e)) (λ on. done) refl

  without_same : (A : Name → Type 0) (l m : Local) (a b : Local → Stage Local Event) → S (a l) (b m) → (o q : Option (List State)) → SameStack A o q → S (row.without_stack l o a) (row.without_stack m q b)
  without_same A l m a b done None None e = done
  without_same A l m a b done None (Some ts) e = absurd e
  without_same A l m a b done (Some ss) None e = absurd e
  without_same A l m a b done (Some ss) (Some ts) e = refl

  asked_same : (limits : Limits) (l m : Local) (need : ℕ) (a b : Local → Stage Local Event) → l.used ≡ m.used → S (a l) (b m) → S (row.asked limits l need a) (row.asked limits m need b)
  asked_same limits l m need a b e done =
      if_so (nat_lt limits.heap (l.used + need)) (nat_lt limits.heap (m.used + need)) _ _ _ _ (ap (λ k. nat_lt limits.heap (k + need)) e) (λ on. refl) done

  moved_same : (stack : Option ℕ) (at : ℕ) (parts : List (s.Piece × Place)) (l m : Local) (v : Tree) → Near stack at (MinusParts stack parts (live (at + 1))) l m → S (row.moved l parts v) (row.moved m parts v)
  moved_same stack at [] l m v near = goes_same stack at l m near
  moved_same stack at (part ∷ parts) l m v near = by (row.piece_of part.0 v) (λ c d n. moved_same stack at parts c d v n)
    where
      by : (o : Option Tree) → ((c d : Local) → Near stack at (MinusParts stack parts (live (at + 1))) c d → S (row.moved c parts v) (row.moved d parts v))
          → S (row.put_piece l part.1 o (λ n. row.moved n parts v)) (row.put_piece m part.1 o (λ n. row.moved n parts v))
      by None more = refl
      by (Some w) more = put_near stack at (MinusParts stack parts (live (at + 1))) l m part.1 w (λ n. row.moved n parts v) near more

module _ (ms : List Module) (limits : Limits) (f : Placed) (live : ℕ → Name → Type 0) (stack : Option ℕ) (at : ℕ) (l m : Local) (near : Near stack at (live at) l m) where
  abbrev Same : Stage Local Event → Stage Local Event → Type 0
  Same a b = SameRow live a b

  abbrev Row : s.Shape → Type 0
  Row shape = Knows f live stack at shape → Same (row.row ms limits f l shape) (row.row ms limits f m shape)

  -- what is live where the item goes on, and is among these names, was live before
  goes_from : (shape : s.Shape) (A : Name → Type 0) → Knows f live stack at shape → shape_goes_on shape ≡ true → ((name : Name) → A name → live (at + 1) name × (stores shape stack name ≡ false)) → Near stack at A l m
  goes_from shape A k goes all =
      near_fewer stack at (live at) A l m (λ name on. let h = all name on in k.onward name goes h.1 h.0) near

  read_by : (shape : s.Shape) (o : Operand) → Knows f live stack at shape → ((q : Place) → names o q ≡ true → shape_reads shape q ≡ true) → row.read_of l o ≡ row.read_of m o
  read_by shape o k more =
      read_same (live at) l m near.agree o (λ name e. k.loaded name (is_at_more stack (names o) (shape_reads shape) name more (subst (λ x. is_at x (names o) name ≡ true) near.stack_is e)))

  reads_by : (shape : s.Shape) (os : List Operand) → Knows f live stack at shape → ((q : Place) → any_names os q ≡ true → shape_reads shape q ≡ true) → row.reads_of l os ≡ row.reads_of m os
  reads_by shape os k more =
      reads_same (live at) l m near.agree os (λ name e. k.loaded name (is_at_more stack (any_names os) (shape_reads shape) name more (subst (λ x. is_at x (any_names os) name ≡ true) near.stack_is e)))

  args_by : (shape : s.Shape) (n : ℕ) → Knows f live stack at shape → ((q : Place) → is_below n q ≡ true → shape_reads shape q ≡ true) → row.arguments n l.xs ≡ row.arguments n m.xs
  args_by shape n k more =
      args_same (live at) l m near.agree n (λ name e. k.loaded name (is_at_more stack (is_below n) (shape_reads shape) name more (subst (λ x. is_at x (is_below n) name ≡ true) near.stack_is e)))

  -- an item that stores nothing goes on, or leads to a label
  on_same : (shape : s.Shape) → Knows f live stack at shape → shape_goes_on shape ≡ true → ((name : Name) → stores shape stack name ≡ false) → Same (row.goes_on l) (row.goes_on m)
  on_same shape k goes none = goes_same live stack at l m (goes_from shape (live (at + 1)) k goes (λ name on. (on, none name)))

  jump_same : (shape : s.Shape) (label : ℕ) → Knows f live stack at shape → Contains (labels_of shape) label → Same (row.jumped f.function l label) (row.jumped f.function m label)
  jump_same shape label k c = by (label_in f.function label) refl
    where
      by : (o : Option ℕ) → label_in f.function label ≡ o → Same (row.at_item l o) (row.at_item m o)
      by None e = refl
      by (Some item) e =
          let n = near_fewer stack at (live at) (live item) l m (λ name on. k.label name label item c e on) near in
          record { item = refl; used = n.agree.used; left = n.agree.left; wide = n.agree.wide; xs = n.agree.xs; ys = n.agree.ys }

  stays_same : AgreeThere live l m
  stays_same = there_same live stack at l m near

  moves_row : (from : Operand) (parts : List (s.Piece × Place)) → Row (s.Moves from parts)
  moves_row from parts k =
      given_same live l m (row.read_of l from) (row.read_of m from) (row.moved l parts) (row.moved m parts) (read_by (s.Moves from parts) from k (λ q e. e))
      (λ v. moved_same live stack at parts l m v (goes_from (s.Moves from parts) (MinusParts stack parts (live (at + 1))) k refl (λ name h. parts_are stack parts (live (at + 1)) name h)))

  swaps_row : (a b : Place) → Row (s.Swaps a b)
  swaps_row a b k =
      by (row.read_of l (row.place_operand a)) (row.read_of l (row.place_operand b)) (row.read_of m (row.place_operand a)) (row.read_of m (row.place_operand b))
      (read_by (s.Swaps a b) (row.place_operand a) k (λ q e. or_left (same_place a q) (same_place b q) (named a q e)))
      (read_by (s.Swaps a b) (row.place_operand b) k (λ q e. or_right (same_place a q) (same_place b q) (named b q e)))
    where
      named : (a q : Place) → names (row.place_operand a) q ≡ true → same_place a q ≡ true
      named (place.X n) q e = e
      named (place.Y n) q e = e

      all : (name : Name) → Minus stack a (Minus stack b (live (at + 1))) name → live (at + 1) name × (stores (s.Swaps a b) stack name ≡ false)
      all name h = (h.0.0, is_at_or stack (same_place a) (same_place b) name h.1 h.0.1)

      by : (o p u w : Option Tree) → o ≡ u → p ≡ w → Same (row.swapped l a b o p) (row.swapped m a b u w)
      by (Some x) (Some y) (Some u) (Some w) e d =
          let first : x ≡ u = cc in
          let second : y ≡ w = cc in
          subst (λ z. Same (row.swapped l a b (Some x) (Some y)) (row.swapped m a b (Some z) (Some w))) first
          (subst (λ z. Same (row.swapped l a b (Some x) (Some y)) (row.swapped m a b (Some x) (Some z))) second
          (put_near live stack at (Minus stack b (live (at + 1))) l m a y (λ n. row.put n b x row.goes_on)
          (goes_from (s.Swaps a b) (Minus stack a (Minus stack b (live (at + 1)))) k refl all)
          (λ c d n. put_near live stack at (live (at + 1)) c d b x row.goes_on n (λ c d n. goes_same live stack at c d n))))
      by None p None w e d = refl
      by (Some x) None (Some u) None e d = refl
      by (Some x) None (Some u) (Some w) e d = absurd cc
      by (Some x) (Some y) (Some u) None e d = absurd cc
      by None p (Some u) w e d = absurd cc
      by (Some x) p None w e d = absurd cc

  -- a new cell goes to the one place that is stored
  celled_same : (shape : s.Shape) (to : Place) (words : ℕ) (v : Tree) → Knows f live stack at shape → shape_goes_on shape ≡ true → ((name : Name) → is_at stack (same_place to) name ≡ false → stores shape stack name ≡ false)
      → Same (row.celled l to words v) (row.celled m to words v)
  celled_same shape to words v k goes one =
      put_near live stack at (live (at + 1)) (row.using words l) (row.using words m) to v row.goes_on
      (using_near stack at words (Minus stack to (live (at + 1))) l m (goes_from shape (Minus stack to (live (at + 1))) k goes (λ name h. (h.0, one name h.1))))
      (λ c d n. goes_same live stack at c d n)

  conses_row : (head tail : Operand) (to : Place) → Row (s.Conses head tail to)
  conses_row head tail to k =
      by (row.read_of l head) (row.read_of l tail) (row.read_of m head) (row.read_of m tail)
      (read_by (s.Conses head tail to) head k (λ q e. or_left (names head q) (names tail q) e))
      (read_by (s.Conses head tail to) tail k (λ q e. or_right (names head q) (names tail q) e))
    where
      by : (o p u w : Option Tree) → o ≡ u → p ≡ w → Same (row.consed l to o p) (row.consed m to u w)
      by (Some x) (Some y) (Some u) (Some w) e d =
          let first : x ≡ u = cc in
          let second : y ≡ w = cc in
          subst (λ z. Same (row.celled l to 2 (t.Cons x y)) (row.celled m to 2 z)) (ap (λ z. t.Cons z y) first ∙ ap (t.Cons u) second)
          (celled_same (s.Conses head tail to) to 2 (t.Cons x y) k refl (λ name off. off))
      by None p None w e d = refl
      by (Some x) None (Some u) None e d = refl
      by (Some x) None (Some u) (Some w) e d = absurd cc
      by (Some x) (Some y) (Some u) None e d = absurd cc
      by None p (Some u) w e d = absurd cc
      by (Some x) p None w e d = absurd cc

  tuples_row : (parts : List Operand) (to : Place) → Row (s.Tuples parts to)
  tuples_row parts to k =
      given_same live l m (row.reads_of l parts) (row.reads_of m parts) (λ vs. row.celled l to (length parts + 1) (t.Tuple (t.trees_of vs))) (λ vs. row.celled m to (length parts + 1) (t.Tuple (t.trees_of vs)))
      (reads_by (s.Tuples parts to) parts k (λ q e. e))
      (λ vs. celled_same (s.Tuples parts to) to (length parts + 1) (t.Tuple (t.trees_of vs)) k refl (λ name off. off))

  tests_row : (name : List ℕ) (operands : List Operand) (label : ℕ) → Row (s.Tests name operands label)
  tests_row name operands label k =
      subst (λ x. Same (row.test_row f.function l label (test_number name (length operands)) (row.reads_of l operands)) (row.test_row f.function m label (test_number name (length operands)) x))
      (reads_by (s.Tests name operands label) operands k (λ q e. e)) (by (test_number name (length operands)) (row.reads_of l operands))
    where
      tested : (b : Bool) → Same (row.tested f.function l label b) (row.tested f.function m label b)
      tested true = on_same (s.Tests name operands label) k refl (λ n. is_at_none stack n)
      tested false = jump_same (s.Tests name operands label) label k (here label [] label refl)

      by : (o : Option ℕ) (vs : Option (List Tree)) → Same (row.test_row f.function l label o vs) (row.test_row f.function m label o vs)
      by (Some number) (Some vs) = tested (holds number vs)
      by (Some number) None = refl
      by None vs = refl

  selected_same : (from : Operand) (branches : s.Branches) (other : ℕ) (v : Tree) → Knows f live stack at (s.Selects from branches other) → Same (row.selected f.function l branches other v) (row.selected f.function m branches other v)
  selected_same from (s.ByValue cases) other v k = jump_same (s.Selects from (s.ByValue cases) other) (row.label_by_value v other cases) k (value_label v other cases)
  selected_same from (s.BySize cases) other (t.Tuple ts) k = jump_same (s.Selects from (s.BySize cases) other) (row.label_by_size (sizes.size_of ts) other cases) k (size_label (sizes.size_of ts) other cases)
  selected_same from (s.BySize cases) other (t.Int i) k = refl
  selected_same from (s.BySize cases) other (t.Atom a) k = refl
  selected_same from (s.BySize cases) other t.Nil k = refl
  selected_same from (s.BySize cases) other (t.Cons x y) k = refl

  selects_row : (from : Operand) (branches : s.Branches) (other : ℕ) → Row (s.Selects from branches other)
  selects_row from branches other k =
      given_same live l m (row.read_of l from) (row.read_of m from) (row.selected f.function l branches other) (row.selected f.function m branches other)
      (read_by (s.Selects from branches other) from k (λ q e. e)) (λ v. selected_same from branches other v k)

  jumps_row : (label : ℕ) → Row (s.Jumps label)
  jumps_row label k = jump_same (s.Jumps label) label k (here label [] label refl)

  -- ---- the stack

  allocated_same : (n : ℕ) (need : Option ℕ) (kept : ℕ) → Knows f live stack at (s.Stacks (s.Allocates n need kept)) → (o q : Option (List State)) → SameStack (live at) o q
      → Same (row.allocated (row.cut (Some kept) l) n o) (row.allocated (row.cut (Some kept) m) n q)
  allocated_same n need kept k None None e =
      goes_same live (Some (length (replicate n Undefined))) at (record (row.cut (Some kept) l) { ys = Some (replicate n Undefined) }) (record (row.cut (Some kept) m) { ys = Some (replicate n Undefined) })
      (moved_to stack (Some (length (replicate n Undefined))) at (live at) (live (at + 1)) (row.cut (Some kept) l) (row.cut (Some kept) m) (Some (replicate n Undefined)) (Some (replicate n Undefined))
      (λ r on. k.onward (Register r) refl refl on) refl (slots_self (live (at + 1)) (replicate n Undefined)) (cut_near stack at (live at) l m (Some kept) near))
  allocated_same n need kept k None (Some ts) e = absurd e
  allocated_same n need kept k (Some ss) None e = absurd e
  allocated_same n need kept k (Some ss) (Some ts) e = refl

  trimmed_same : (n rest : ℕ) → Knows f live stack at (s.Stacks (s.Trims n rest)) → (o q : Option (List State)) → SameStack (live at) o q → Same (row.trimmed l n rest o) (row.trimmed m n rest q)
  trimmed_same n rest k None None e = refl
  trimmed_same n rest k None (Some ts) e = absurd e
  trimmed_same n rest k (Some ss) None e = absurd e
  trimmed_same n rest k (Some ss) (Some ts) e =
      if_so live (nat_eq (length ss) (n + rest)) (nat_eq (length ts) (n + rest)) _ _ _ _ (ap (λ j. nat_eq j (n + rest)) (slots_long (live at) ss ts e))
      (λ on. goes_same live (Some (length (drop n ss))) at (record l { ys = Some (drop n ss) }) (record m { ys = Some (drop n ts) })
      (moved_to stack (Some (length (drop n ss))) at (live at) (live (at + 1)) l m (Some (drop n ss)) (Some (drop n ts)) (λ r on. k.onward (Register r) refl refl on) refl
      (slots_drop (live (at + 1)) ss ts n (slots_fewer (live at) (live (at + 1)) ss ts (λ j some few on. k.onward (Slot j) refl (is_at_none stack (Slot j)) on) e)) near)) refl

  -- a y register takes the same slot
  set_same : (shape : s.Shape) (n : ℕ) (u : State) → Knows f live stack at shape → shape_goes_on shape ≡ true → ((name : Name) → is_at stack (same_place (place.Y n)) name ≡ false → stores shape stack name ≡ false)
      → Same (row.y_set l l.ys n u row.goes_on) (row.y_set m m.ys n u row.goes_on)
  set_same shape n u k goes one =
      let from = goes_from shape (Minus stack (place.Y n) (live (at + 1))) k goes (λ name h. (h.0, one name h.1)) in
      y_near live stack at (live (at + 1)) l m n u row.goes_on from (λ c d n. goes_same live stack at c d n) l.ys m.ys from.stack_is from.agree.ys

  stack_row : (op : s.StackOp) → Row (s.Stacks op)
  stack_row (s.Allocates n None kept) k = allocated_same n None kept k l.ys m.ys near.agree.ys
  stack_row (s.Allocates n (Some need) kept) k =
      asked_same live limits l m need (λ a. row.allocated (row.cut (Some kept) a) n a.ys) (λ a. row.allocated (row.cut (Some kept) a) n a.ys) near.agree.used (allocated_same n (Some need) kept k l.ys m.ys near.agree.ys)
  stack_row (s.Asks need kept) k =
      asked_same live limits l m need (λ a. row.goes_on (row.cut (Some kept) a)) (λ a. row.goes_on (row.cut (Some kept) a)) near.agree.used
      (goes_same live stack at (row.cut (Some kept) l) (row.cut (Some kept) m) (cut_near stack at (live (at + 1)) l m (Some kept) (goes_from (s.Stacks (s.Asks need kept)) (live (at + 1)) k refl (λ name on. (on, is_at_none stack name)))))
  stack_row (s.Trims n rest) k = trimmed_same n rest k l.ys m.ys near.agree.ys
  stack_row (s.Frees n) k =
      freed_same live stack at (live at) l m n row.goes_on row.goes_on near
      (goes_same live None at (record l { ys = None }) (record m { ys = None }) (moved_to stack None at (live at) (live (at + 1)) l m None None (λ r on. k.onward (Register r) refl refl on) refl tt near)) l.ys m.ys near.agree.ys
  stack_row (s.Clears n) k = set_same (s.Stacks (s.Clears n)) n Undefined k refl (λ name off. off)

  -- ---- marks

  -- a mark goes
  ended_same : (n : ℕ) (kind : TagKind) → Near stack at (Minus stack (place.Y n) (live (at + 1))) l m → (o q : Option (List State)) → option_map size_of o ≡ stack → SameStack (Minus stack (place.Y n) (live (at + 1))) o q
      → Same (row.untagged l o kind n) (row.untagged m q kind n)
  ended_same n kind from None None e a = refl
  ended_same n kind from None (Some ts) e a = absurd a
  ended_same n kind from (Some ss) None e a = absurd a
  ended_same n kind from (Some ss) (Some ts) e a =
      if_so live (row.is_kind kind (slice_get ss n)) (row.is_kind kind (slice_get ts n)) _ _ _ _ (kind_same (Minus stack (place.Y n) (live (at + 1))) kind ss ts n a)
      (λ on. y_near live stack at (live (at + 1)) l m n Undefined row.goes_on from (λ c d n. goes_same live stack at c d n) (Some ss) (Some ts) e a) refl

  end_row : (op : s.TagOp) (n : ℕ) (kind : TagKind) → Knows f live stack at (s.Tags op) → ((name : Name) → is_at stack (same_place (place.Y n)) name ≡ false → stores (s.Tags op) stack name ≡ false)
      → Same (row.untagged l l.ys kind n) (row.untagged m m.ys kind n)
  end_row op n kind k one =
      let from = goes_from (s.Tags op) (Minus stack (place.Y n) (live (at + 1))) k refl (λ name h. (h.0, one name h.1)) in
      ended_same n kind from l.ys m.ys from.stack_is from.agree.ys

  -- x0 is read, and stays as it is
  catch_row : (n : ℕ) → Row (s.Tags (s.CatchEnds n))
  catch_row n k =
      given_same live l m (row.read_of l (X 0)) (row.read_of m (X 0)) (λ v. row.untagged l l.ys OfCatch n) (λ v. row.untagged m m.ys OfCatch n) (read_by (s.Tags (s.CatchEnds n)) (X 0) k named)
      (λ v. ended_same n OfCatch from l.ys m.ys from.stack_is from.agree.ys)
    where
      named : (q : Place) → names (X 0) q ≡ true → is_below 1 q ≡ true
      named (place.X r) e = grind (arith, nat_tests)
      named (place.Y r) e = absurd cc

      back : (name : Name) → (b : Bool) → is_at stack (is_below 1) name ≡ b → Minus stack (place.Y n) (live (at + 1)) name → live at name
      back name true e h = k.loaded name e
      back name false e h = k.onward name refl (is_at_or stack (same_place (place.Y n)) (is_below 1) name h.1 e) h.0

      from : Near stack at (Minus stack (place.Y n) (live (at + 1))) l m
      from = near_fewer stack at (live at) (Minus stack (place.Y n) (live (at + 1))) l m (λ name h. back name (is_at stack (is_below 1) name) refl h) near

  tag_row : (op : s.TagOp) → Row (s.Tags op)
  tag_row (s.Tries n label) k = set_same (s.Tags (s.Tries n label)) n (Tag OfTry label) k refl (λ name off. off)
  tag_row (s.Catches n label) k = set_same (s.Tags (s.Catches n label)) n (Tag OfCatch label) k refl (λ name off. off)
  tag_row (s.TryEnds n) k = end_row (s.TryEnds n) n OfTry k (λ name off. off)
  tag_row (s.TryHandles n) k = end_row (s.TryHandles n) n OfTry k (λ name off. off)
  tag_row (s.CatchEnds n) k = catch_row n k

  -- ---- built-ins

  raised_same : (class : RaiseClass) (reason : Tree) → Same (row.raised l class reason) (row.raised m class reason)
  raised_same class reason = (refl, refl, stays_same)

  answered_same : (a : Answer) (more : Tree → Local → Stage Local Event) (fails other : RaiseClass → Tree → Stage Local Event) → ((v : Tree) (words : ℕ) → a ≡ Gives v words → Same (more v (row.using words l)) (more v (row.using words m)))
      → ((class : RaiseClass) (reason : Tree) → Same (fails class reason) (other class reason)) → Same (row.answered limits l a more fails) (row.answered limits m a more other)
  answered_same (Gives v words) more fails other given fail = asked_same live limits l m words (λ c. more v (row.using words c)) (λ c. more v (row.using words c)) near.agree.used (given v words refl)
  answered_same (Fails class reason) more fails other given fail = fail class reason
  answered_same answer.Bignum more fails other given fail = refl

  computes_row : (name : List ℕ) (operands : List Operand) (fail : ℕ) (kept : Option ℕ) (to : Place) → Row (s.Computes name operands fail kept to)
  computes_row name operands fail kept to k =
      subst (λ x. Same (row.computed limits f.function l fail kept to (inline_number name (length operands)) (row.reads_of l operands)) (row.computed limits f.function m fail kept to (inline_number name (length operands)) x))
      (reads_by (s.Computes name operands fail kept to) operands k (λ q e. e)) (by (inline_number name (length operands)) (row.reads_of l operands))
    where
      failed : (b : Bool) (class : RaiseClass) (reason : Tree) → nat_eq fail 0 ≡ b → Same (if b then row.raised l class reason else row.jumped f.function l fail) (if b then row.raised m class reason else row.jumped f.function m fail)
      failed true class reason e = raised_same class reason
      failed false class reason e = jump_same (s.Computes name operands fail kept to) fail k (subst (λ b. Contains (if b then [] else fail ∷ []) fail) (sym e) (here fail [] fail refl))

      given : (v : Tree) (words : ℕ) → Same (row.put (row.cut kept (row.using words l)) to v row.goes_on) (row.put (row.cut kept (row.using words m)) to v row.goes_on)
      given v words =
          put_near live stack at (live (at + 1)) (row.cut kept (row.using words l)) (row.cut kept (row.using words m)) to v row.goes_on
          (cut_near stack at (Minus stack to (live (at + 1))) (row.using words l) (row.using words m) kept (using_near stack at words (Minus stack to (live (at + 1))) l m
          (goes_from (s.Computes name operands fail kept to) (Minus stack to (live (at + 1))) k refl (λ name h. h)))) (λ c d n. goes_same live stack at c d n)

      by : (o : Option ℕ) (vs : Option (List Tree)) → Same (row.computed limits f.function l fail kept to o vs) (row.computed limits f.function m fail kept to o vs)
      by (Some number) (Some vs) =
          answered_same (builtin number vs) (λ v c. row.put (row.cut kept c) to v row.goes_on) (row.failed f.function l fail) (row.failed f.function m fail) (λ v words e. given v words)
          (λ class reason. failed (nat_eq fail 0) class reason refl)
      by (Some number) None = refl
      by None vs = refl

  -- ---- calls

  dropped : Agree (live l.item) (record l { ys = None }) (record m { ys = None })
  dropped = record { item = stays_same.item; used = stays_same.used; left = stays_same.left; wide = stays_same.wide; xs = stays_same.xs; ys = tt }

  callee_same : (leaving : s.Leaving) (vs : List Tree) (callee : ℕ) → Same (row.callee_left leaving l vs callee) (row.callee_left leaving m vs callee)
  callee_same s.Stays vs callee = (refl, refl, stays_same)
  callee_same (s.Drops n) vs callee = freed_same live stack at (live at) l m n (λ c. Done (TailCalls callee vs c)) (λ c. Done (TailCalls callee vs c)) near (refl, refl, dropped) l.ys m.ys near.agree.ys
  callee_same s.HasNone vs callee = without_same live (live at) l m (λ c. Done (TailCalls callee vs c)) (λ c. Done (TailCalls callee vs c)) (refl, refl, stays_same) l.ys m.ys near.agree.ys

  -- x registers are the same behind a call
  value_same : (target : s.Target) (arity : ℕ) (leaving : s.Leaving) (v : Tree) (words : ℕ) → Knows f live stack at (s.Calls target arity leaving) → comes_back target ≡ true
      → Same (row.value_left leaving v (row.using words l)) (row.value_left leaving v (row.using words m))
  value_same target arity s.Stays v words k comes =
      goes_same live stack at (record (row.using words l) { xs = only (v ∷ []) }) (record (row.using words m) { xs = only (v ∷ []) })
      (record {
        item = near.item;
        stack_is = near.stack_is;
        agree = record {
          item = near.agree.item;
          used = ap (λ j. j + words) near.agree.used;
          left = near.agree.left;
          wide = refl;
          xs = λ r on. refl;
          ys = stack_fewer (live at) (live (at + 1)) l.ys m.ys (λ j on. k.onward (Slot j) comes (no_call_slot j) on) near.agree.ys;
        };
      })
    where
      no_call_slot : (j : ℕ) → is_at stack (is_below 1) (Slot j) ≡ false
      no_call_slot j = by stack
        where
          by : (o : Option ℕ) → is_at o (is_below 1) (Slot j) ≡ false
          by None = refl
          by (Some size) = is_at_none (Some size) (Slot j)
  value_same target arity (s.Drops n) v words k comes =
      freed_same live stack at (live at) (row.using words l) (row.using words m) n (λ c. Done (Returns v c)) (λ c. Done (Returns v c)) (using_near stack at words (live at) l m near)
      (refl, record { item = dropped.item; used = ap (λ j. j + words) dropped.used; left = dropped.left; wide = dropped.wide; xs = dropped.xs; ys = tt }) l.ys m.ys near.agree.ys
  value_same target arity s.HasNone v words k comes =
      without_same live (live at) (row.using words l) (row.using words m) (λ c. Done (Returns v c)) (λ c. Done (Returns v c))
      (refl, there_same live stack at (row.using words l) (row.using words m) (using_near stack at words (live at) l m near)) l.ys m.ys near.agree.ys

  outside_same : (c : Callee) (leaving : s.Leaving) (vs : List Tree) (o : Option ℕ) → Same (row.called_outside ms leaving l vs c o) (row.called_outside ms leaving m vs c o)
  outside_same c leaving vs (Some callee) = callee_same leaving vs callee
  outside_same c leaving vs None = if_so live (is_given ms c.owner) (is_given ms c.owner) _ _ _ _ refl (λ on. raised_same Error (t.Atom (codes "undef"))) refl

  resolved_same : (c : Callee) (arity : ℕ) (leaving : s.Leaving) (vs : List Tree) → Knows f live stack at (s.Calls (s.Outside c) arity leaving) → (o : Option ℕ) → built_in_number c.owner c.name c.arity ≡ o
      → Same (row.resolved ms limits leaving l vs c o) (row.resolved ms limits leaving m vs c o)
  resolved_same c arity leaving vs k (Some number) e =
      answered_same (builtin number vs) (row.value_left leaving) (row.raised l) (row.raised m)
      (λ v words gives. value_same (s.Outside c) arity leaving v words k (ap not (comes_back_with c.owner c.name c.arity number vs v words e gives))) raised_same
  resolved_same c arity leaving vs k None e = outside_same c leaving vs (exported_number ms c.owner c.name c.arity)

  calls_row : (target : s.Target) (arity : ℕ) (leaving : s.Leaving) → Row (s.Calls target arity leaving)
  calls_row target arity leaving k =
      given_same live l m (row.arguments arity l.xs) (row.arguments arity m.xs) (row.called ms limits f leaving l arity target) (row.called ms limits f leaving m arity target)
      (args_by (s.Calls target arity leaving) arity k (λ q e. e)) (λ vs. by target k vs)
    where
      by : (target : s.Target) → Knows f live stack at (s.Calls target arity leaving) → (vs : List Tree) → Same (row.called ms limits f leaving l arity target vs) (row.called ms limits f leaving m arity target vs)
      by (s.Inside label) k vs = given_same live l m (target_of ms f label arity) (target_of ms f label arity) (row.callee_left leaving l vs) (row.callee_left leaving m vs) refl (callee_same leaving vs)
      by (s.Outside c) k vs =
          if_so live (nat_eq arity c.arity) (nat_eq arity c.arity) _ _ _ _ refl (λ on. resolved_same c arity leaving vs k (built_in_number c.owner c.name c.arity) refl) refl

  first_named : (q : Place) → names (X 0) q ≡ true → is_below 1 q ≡ true
  first_named (place.X r) e = grind (arith, nat_tests)
  first_named (place.Y r) e = absurd cc

  returns_row : Row s.Returns
  returns_row k =
      given_same live l m (row.read_of l (X 0)) (row.read_of m (X 0)) (row.returned l) (row.returned m) (read_by s.Returns (X 0) k first_named)
      (λ v. without_same live (live at) l m (λ c. Done (Returns v c)) (λ c. Done (Returns v c)) (refl, stays_same) l.ys m.ys near.agree.ys)

  -- ---- exceptions

  pair_row : (reason : s.Reason) (name : List ℕ) (o : Operand) → Knows f live stack at (s.Raises reason) → ((q : Place) → names o q ≡ true → shape_reads (s.Raises reason) q ≡ true)
      → Same (row.given l (row.read_of l o) (row.pair_raised limits l name)) (row.given m (row.read_of m o) (row.pair_raised limits m name))
  pair_row reason name o k more =
      given_same live l m (row.read_of l o) (row.read_of m o) (row.pair_raised limits l name) (row.pair_raised limits m name) (read_by (s.Raises reason) o k more)
      (λ v. asked_same live limits l m 3 (λ c. row.raised (row.using 3 c) Error (t.Tuple (t.More (t.Atom name) (t.More v t.No)))) (λ c. row.raised (row.using 3 c) Error (t.Tuple (t.More (t.Atom name) (t.More v t.No))))
      near.agree.used (refl, refl, there_same live stack at (row.using 3 l) (row.using 3 m) (using_near stack at 3 (live at) l m near)))

  raised_as_same : (o : Option RaiseClass) (reason : Tree) (a b : Stage Local Event) → Same a b → Same (row.raised_as l o reason a) (row.raised_as m o reason b)
  raised_as_same (Some class) reason a b done = raised_same class reason
  raised_as_same None reason a b done = done

  raw_same : Knows f live stack at (s.Raises s.Raw) → (o : Option (List Tree)) → Same (row.raw_raised l o) (row.raw_raised m o)
  raw_same k (Some (class ∷ reason ∷ trace ∷ [])) =
      raised_as_same (row.class_of class) reason (row.put l (place.X 0) (t.Atom (codes "badarg")) row.goes_on) (row.put m (place.X 0) (t.Atom (codes "badarg")) row.goes_on)
      (put_near live stack at (live (at + 1)) l m (place.X 0) (t.Atom (codes "badarg")) row.goes_on
      (goes_from (s.Raises s.Raw) (Minus stack (place.X 0) (live (at + 1))) k refl (λ name h. (h.0, one name h.1))) (λ c d n. goes_same live stack at c d n))
    where
      one : (name : Name) → is_at stack (same_place (place.X 0)) name ≡ false → is_at stack (is_below 1) name ≡ false
      one (Register zero) e = absurd cc
      one (Register (suc r)) e = grind (arith, nat_tests)
      one (Slot j) e = by stack
        where
          by : (o : Option ℕ) → is_at o (is_below 1) (Slot j) ≡ false
          by None = refl
          by (Some size) = is_at_none (Some size) (Slot j)
  raw_same k (Some []) = refl
  raw_same k (Some (a ∷ [])) = refl
  raw_same k (Some (a ∷ b ∷ [])) = refl
  raw_same k (Some (a ∷ b ∷ c ∷ d ∷ vs)) = refl
  raw_same k None = refl

  given_raised_same : (o p : Option Tree) → Same (row.given_raised l o p) (row.given_raised m o p)
  given_raised_same (Some class) (Some reason) = raised_as_same (row.class_of class) reason (Done (Ends BadOperand l)) (Done (Ends BadOperand m)) refl
  given_raised_same (Some class) None = refl
  given_raised_same None p = refl

  raises_row : (reason : s.Reason) → Row (s.Raises reason)
  raises_row (s.Clause g h arity) k = raised_same Error (t.Atom (codes "function_clause"))
  raises_row (s.Match o) k = pair_row (s.Match o) (codes "badmatch") o k (λ q e. e)
  raises_row (s.InCase o) k = pair_row (s.InCase o) (codes "case_clause") o k (λ q e. e)
  raises_row (s.InTry o) k = pair_row (s.InTry o) (codes "try_clause") o k (λ q e. e)
  raises_row s.InIf k = raised_same Error (t.Atom (codes "if_clause"))
  raises_row (s.Given class reason to) k =
      let raised : Stage Local Event = row.given_raised l (row.read_of l class) (row.read_of l reason) in
      let first = read_by (s.Raises (s.Given class reason to)) class k (λ q e. or_left (names class q) (names reason q) e) in
      let second = read_by (s.Raises (s.Given class reason to)) reason k (λ q e. or_right (names class q) (names reason q) e) in
      subst (λ x. Same raised (row.given_raised m x (row.read_of m reason))) first
      (subst (λ x. Same raised (row.given_raised m (row.read_of l class) x)) second (given_raised_same (row.read_of l class) (row.read_of l reason)))
  raises_row s.Raw k = subst (λ x. Same (row.raw_raised l (row.arguments 3 l.xs)) (row.raw_raised m x)) (args_by (s.Raises s.Raw) 3 k (λ q e. e)) (raw_same k (row.arguments 3 l.xs))

  -- every row
  pub row_same : (shape : s.Shape) → Row shape
  row_same s.Passes k = on_same s.Passes k refl (λ name. is_at_none stack name)
  row_same (s.Moves from parts) k = moves_row from parts k
  row_same (s.Swaps a b) k = swaps_row a b k
  row_same (s.Conses head tail to) k = conses_row head tail to k
  row_same (s.Tuples parts to) k = tuples_row parts to k
  row_same (s.Tests name operands label) k = tests_row name operands label k
  row_same (s.Selects from branches other) k = selects_row from branches other k
  row_same (s.Jumps label) k = jumps_row label k
  row_same (s.Stacks op) k = stack_row op k
  row_same (s.Tags op) k = tag_row op k
  row_same (s.Computes name operands fail kept to) k = computes_row name operands fail kept to k
  row_same (s.Calls target arity leaving) k = calls_row target arity leaving k
  row_same s.Returns k = returns_row k
  row_same (s.Raises reason) k = raises_row reason k
