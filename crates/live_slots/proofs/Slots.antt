-- Slots of two states, as they change alike.
use Rattle.std.proofs.Common.{◌≡◌, ℕ, zero, suc, ◌+◌, ◌-◌, ◌<◌, ◌≤◌, List, [], ◌∷◌, Option, Some, None, drop, length, slice_get, slice_set, refl, ap, subst, sym, ◌∙◌, arith}
use Rattle.beam_code.specs.Raise.{Handler}
use Rattle.beam_code.specs.Row.{is_kind}
use Rattle.beam_code.specs.State.{Slot as State, Undefined, Holds, Tag, TagKind, OfTry, OfCatch}
use Rattle.live_slots.specs.Agree.{SameSlots, SameStack, mark_of}
use Rattle.beam_rows.proofs.Lists.{length_set}
use Rattle.live_slots.specs.Live.{Name, Slot}

pub slots_long : (A : Name → Type 0) (ss ts : List State) → SameSlots A ss ts → length ss ≡ length ts
slots_long A [] [] a = refl
slots_long A (s ∷ ss) (t ∷ ts) a = ap suc (slots_long A ss ts a.1)
slots_long A [] (t ∷ ts) a = absurd a
slots_long A (s ∷ ss) [] a = absurd a

pub slots_self : (A : Name → Type 0) (ss : List State) → SameSlots A ss ss
slots_self A [] = tt
slots_self A (s ∷ ss) = (record { marks = refl; same = λ a. refl }, slots_self A ss)

-- in fewer names
pub slots_fewer : (A B : Name → Type 0) (ss ts : List State) → ((k : ℕ) → 0 < k → k ≤ length ss → B (Slot k) → A (Slot k)) → SameSlots A ss ts → SameSlots B ss ts
slots_fewer A B [] [] f a = tt
slots_fewer A B (s ∷ ss) (t ∷ ts) f a = (
  record { marks = a.0.marks; same = λ b. a.0.same (f (suc (length ss)) (omega arith) (omega arith) b) },
  slots_fewer A B ss ts (λ k some few b. f k some (omega arith) b) a.1,
)
slots_fewer A B [] (t ∷ ts) f a = absurd a
slots_fewer A B (s ∷ ss) [] f a = absurd a

pub stack_fewer : (A B : Name → Type 0) (o q : Option (List State)) → ((k : ℕ) → B (Slot k) → A (Slot k)) → SameStack A o q → SameStack B o q
stack_fewer A B None None f a = tt
stack_fewer A B (Some ss) (Some ts) f a = slots_fewer A B ss ts (λ k some few b. f k b) a
stack_fewer A B None (Some ts) f a = absurd a
stack_fewer A B (Some ss) None f a = absurd a

-- a slot that is one of them
pub slot_same : (A : Name → Type 0) (ss ts : List State) (n : ℕ) → SameSlots A ss ts → (n < length ss → A (Slot (length ss - n))) → slice_get ss n ≡ slice_get ts n
slot_same A [] [] n a on = refl
slot_same A (s ∷ ss) (t ∷ ts) zero a on =
    let e : suc (length ss) - 0 ≡ suc (length ss) = omega arith in
    ap (λ u. Some u) (a.0.same (subst (λ k. A (Slot k)) e (on (omega arith))))
slot_same A (s ∷ ss) (t ∷ ts) (suc n) a on =
    let e : suc (length ss) - suc n ≡ length ss - n = omega arith in
    slot_same A ss ts n a.1 (λ low. subst (λ k. A (Slot k)) e (on (omega arith)))
slot_same A [] (t ∷ ts) n a on = absurd a
slot_same A (s ∷ ss) [] n a on = absurd a

pub slots_drop : (A : Name → Type 0) (ss ts : List State) (n : ℕ) → SameSlots A ss ts → SameSlots A (drop n ss) (drop n ts)
slots_drop A ss ts zero a = a
slots_drop A [] [] (suc n) a = tt
slots_drop A (s ∷ ss) (t ∷ ts) (suc n) a = slots_drop A ss ts n a.1
slots_drop A [] (t ∷ ts) (suc n) a = absurd a
slots_drop A (s ∷ ss) [] (suc n) a = absurd a

-- one slot is set alike
pub slots_set : (A B : Name → Type 0) (ss ts : List State) (n : ℕ) (u : State) → ((k : ℕ) → 0 < k → k ≤ length ss → (k + n ≡ length ss → ⊥) → B (Slot k) → A (Slot k))
    → SameSlots A ss ts → SameSlots B (slice_set ss n u) (slice_set ts n u)
slots_set A B [] [] n u f a = tt
slots_set A B (s ∷ ss) (t ∷ ts) zero u f a = (record { marks = refl; same = λ b. refl }, slots_fewer A B ss ts (λ k some few b. f k some (omega arith) (λ e. omega arith) b) a.1)
slots_set A B (s ∷ ss) (t ∷ ts) (suc n) u f a = (
  record { marks = a.0.marks; same = λ b. a.0.same (f (suc (length ss)) (omega arith) (omega arith) (λ e. omega arith) (subst (λ j. B (Slot (suc j))) (length_set ss n u) b)) },
  slots_set A B ss ts n u (λ k some few other b. f k some (omega arith) (λ e. other (omega arith)) b) a.1,
)
slots_set A B [] (t ∷ ts) n u f a = absurd a
slots_set A B (s ∷ ss) [] n u f a = absurd a

-- marks are the same, whatever is live
abbrev as_slot : Option Handler → State
as_slot None = Undefined
as_slot (Some h) = Tag h.kind h.label

by_mark : (kind : TagKind) (s : State) → is_kind kind (Some s) ≡ is_kind kind (Some (as_slot (mark_of s)))
by_mark OfTry Undefined = refl
by_mark OfCatch Undefined = refl
by_mark OfTry (Holds v) = refl
by_mark OfCatch (Holds v) = refl
by_mark kind (Tag k label) = refl

pub kind_same : (A : Name → Type 0) (kind : TagKind) (ss ts : List State) (n : ℕ) → SameSlots A ss ts → is_kind kind (slice_get ss n) ≡ is_kind kind (slice_get ts n)
kind_same A kind [] [] n a = refl
kind_same A kind (s ∷ ss) (t ∷ ts) zero a = by_mark kind s ∙ ap (λ o. is_kind kind (Some (as_slot o))) a.0.marks ∙ sym (by_mark kind t)
kind_same A kind (s ∷ ss) (t ∷ ts) (suc n) a = kind_same A kind ss ts n a.1
kind_same A kind [] (t ∷ ts) n a = absurd a
kind_same A kind (s ∷ ss) [] n a = absurd a
