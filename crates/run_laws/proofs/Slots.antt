-- Y registers that come, go and change, as paths and states know them.
use Rattle.std.proofs.Common.{◌≡◌, ℕ, zero, suc, ◌+◌, ◌-◌, ◌<◌, Bool, true, false, Option, Some, None, is_none, List, [], ◌∷◌, ◌++◌, drop, length, replicate, nat_eq, slice_get, slice_set, slice_index_or, refl, ap, subst, sym, ◌∙◌, arith}
use Rattle.std.specs.Option.{option_map}
use Rattle.std.proofs.lemmas.List.{length-drop, length-replicate}
use Rattle.beam_code.specs.State as state
use Rattle.beam_code.specs.State.{Slot, Holds, Undefined}
use Rattle.path_rules.specs.declared.tag.Tag.{Tag}
use Rattle.path_rules.specs.Points.{none_defined, undefined, y_registers}
use Rattle.path_rules.specs.Rules.{same_stack}
use Rattle.path_rules.specs.Tags.{tagged, trimmed, untagged}
use Rattle.beam_rows.proofs.Lists.{get_set_other, length_set}
use Rattle.run_laws.proofs.Lists.{index_unset, none_shown}
use Rattle.run_laws.proofs.Tags.{tagged_is, trimmed_is, untagged_is}
use Rattle.run_laws.specs.Shown.{ShowsStack, kind_of, tags_from}

no_marks : (n at : ℕ) → tags_from at (replicate n Undefined) ≡ []
no_marks zero at = refl
no_marks (suc n) at = no_marks n (at + 1)

-- a new stack, and none
pub new_shown : (n : ℕ) → ShowsStack (Some n) [] (none_defined y_registers) (Some (replicate n Undefined))
new_shown n =
    record {
      size = ap (λ k. Some k) (sym (length-replicate n Undefined));
      tags_are = sym (no_marks n 0);
      terms = λ m h. absurd (none_shown y_registers m h);
    }

pub none_shown_there : ShowsStack None [] (none_defined y_registers) None
none_shown_there = record { size = refl; tags_are = refl; terms = λ m h. absurd (none_shown y_registers m h) }

-- a register that is neither defined nor marked any more
unset_terms : (ys : List Bool) (ss : List Slot) (n : ℕ) (s : Slot) → ((m : ℕ) → slice_index_or ys m false ≡ true → (v : _) × (slice_get ss m ≡ Some (Holds v)))
    → (m : ℕ) → slice_index_or (undefined n ys) m false ≡ true → (v : _) × (slice_get (slice_set ss n s) m ≡ Some (Holds v))
unset_terms ys ss n s terms m h =
    let u = index_unset ys n m h in
    let t = terms m u.1 in
    (t.0, get_set_other ss n m s u.0 ∙ t.1)

pub cleared_shown : (stack : Option ℕ) (tags : List Tag) (ys : List Bool) (ss : List Slot) (n : ℕ) → ShowsStack stack tags ys (Some ss) → n < length ss
    → ShowsStack stack (untagged n tags) (undefined n ys) (Some (slice_set ss n Undefined))
cleared_shown stack tags ys ss n s low =
    record {
      size = s.size ∙ ap (λ k. Some k) (sym (length_set ss n Undefined));
      tags_are = ap (untagged n) s.tags_are ∙ untagged_is ss n Undefined tt low;
      terms = unset_terms ys ss n Undefined s.terms;
    }

pub marked_shown : (stack : Option ℕ) (tags : List Tag) (ys : List Bool) (ss : List Slot) (n : ℕ) (kind : state.TagKind) (label : ℕ) → ShowsStack stack tags ys (Some ss) → n < length ss
    → ShowsStack stack (tagged (record { y = n; kind = kind_of kind; label = label }) tags) (undefined n ys) (Some (slice_set ss n (state.Tag kind label)))
marked_shown stack tags ys ss n kind label s low =
    record {
      size = s.size ∙ ap (λ k. Some k) (sym (length_set ss n (state.Tag kind label)));
      tags_are = ap (tagged (record { y = n; kind = kind_of kind; label = label })) s.tags_are ∙ tagged_is ss n kind label low;
      terms = unset_terms ys ss n (state.Tag kind label) s.terms;
    }

-- the first ones go
padded : (ys : List Bool) (k m : ℕ) → slice_index_or (ys ++ replicate k false) m false ≡ true → slice_index_or ys m false ≡ true
padded [] k m h = absurd (none_shown k m h)
padded (y ∷ ys) k zero h = h
padded (y ∷ ys) k (suc m) h = padded ys k m h

dropped_index : (n : ℕ) (ys : List Bool) (k m : ℕ) → slice_index_or (drop n ys ++ replicate k false) m false ≡ true → slice_index_or ys (n + m) false ≡ true
dropped_index zero ys k m h = let same : m ≡ 0 + m = omega arith in subst (λ i. slice_index_or ys i false ≡ true) same (padded ys k m h)
dropped_index (suc n) [] k m h = absurd (none_shown k m h)
dropped_index (suc n) (y ∷ ys) k m h =
    let same : suc (n + m) ≡ suc n + m = omega arith in
    subst (λ i. slice_index_or (y ∷ ys) i false ≡ true) same (dropped_index n ys k m h)

dropped_get : (n : ℕ) (ss : List Slot) (m : ℕ) → slice_get (drop n ss) m ≡ slice_get ss (n + m)
dropped_get zero ss m = let same : m ≡ 0 + m = omega arith in ap (slice_get ss) same
dropped_get (suc n) [] m = refl
dropped_get (suc n) (s ∷ ss) m = let same : suc (n + m) ≡ suc n + m = omega arith in dropped_get n ss m ∙ ap (slice_get (s ∷ ss)) same

pub trimmed_shown : (stack : Option ℕ) (tags : List Tag) (ys : List Bool) (ss : List Slot) (n : ℕ) → ShowsStack stack tags ys (Some ss)
    → ShowsStack (option_map (λ size. size - n) stack) (trimmed n tags) (drop n ys ++ none_defined n) (Some (drop n ss))
trimmed_shown stack tags ys ss n s =
    record {
      size = ap (option_map (λ size. size - n)) s.size ∙ ap (λ k. Some k) (sym (length-drop n ss));
      tags_are = ap (trimmed n) s.tags_are ∙ trimmed_is ss n;
      terms = λ m h. let t = s.terms (n + m) (dropped_index n ys n m h) in (t.0, dropped_get n ss m ∙ t.1);
    }

-- ---- how large a stack is

pub no_slots : (stack : Option ℕ) (tags : List Tag) (ys : List Bool) (o : Option (List Slot)) → ShowsStack stack tags ys o → is_none stack ≡ true → o ≡ None
no_slots stack tags ys None s e = refl
no_slots stack tags ys (Some ss) s e = let off : is_none (Some (length ss)) ≡ true = sym (ap is_none s.size) ∙ e in absurd cc

pub record AreSlots (n : ℕ) (o : Option (List Slot)) : Type 0 where
  pub slots : List Slot
  pub is : o ≡ Some slots
  pub many : nat_eq (length slots) n ≡ true

pub so_many_slots : (stack : Option ℕ) (tags : List Tag) (ys : List Bool) (o : Option (List Slot)) (n : ℕ) → ShowsStack stack tags ys o → same_stack stack (Some n) ≡ true → AreSlots n o
so_many_slots stack tags ys None n s e = let off : same_stack None (Some n) ≡ true = sym (ap (λ k. same_stack k (Some n)) s.size) ∙ e in absurd cc
so_many_slots stack tags ys (Some ss) n s e = record { slots = ss; is = refl; many = sym (ap (λ k. same_stack k (Some n)) s.size) ∙ e }
