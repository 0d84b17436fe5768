-- Where the machine that watches chosen functions ends without a fault, the plain machine ends alike and is never at an item of one.
use Rattle.std.proofs.Common.{◌≡◌, ◌≢◌, ℕ, suc, ◌+◌, ◌-◌, ◌*◌, ◌/◌, ◌<◌, ◌≤◌, ◌⊎◌, inl, inr, ◌||◌, zero, slice_index_or, Bool, true, false, Some, None, Option, List, [], ◌∷◌, length, take, slice_get, nat_le, nat_lt, if◌then◌else◌, refl, ap, subst, sym, ◌∙◌, arith}
use Rattle.std.proofs.lemmas.Bool.Decides.{nat_tests}
use Rattle.std.specs.List.{list_any, Contains}
use Rattle.beam_code.specs.declared.module.Module.{Module}
use Rattle.beam_code.specs.Function.{Placed, function_at, all_functions, items_in, items_of}
use Rattle.faithful_image.specs.Faithful.{IsApart}
use Rattle.faithful_image.specs.Watched.{items_at, is_at_item_of, is_at_item, watched_step}
use Rattle.mode_switch.specs.declared.outcome.End.TheVariants as e
use Rattle.mode_switch.specs.declared.outcome.FaultKind.TheVariants.{Fetch}
use Rattle.mode_switch.specs.declared.outcome.Outcome.{Outcome}
use Rattle.mode_switch.specs.declared.outcome.Outcome.TheVariants.{Ended}
use Rattle.image_format.specs.declared.limits.TheConstants.{ITEM_START}
use Rattle.mode_switch.specs.Destination.{item_address, first_item, within}
use Rattle.mode_switch.specs.Run.{full_step}
use Rattle.mode_switch.specs.State.{Loaded, MixedState, Finish}
use Rattle.small_step.proofs.Strict.{same_run, always_allowed}
use Rattle.small_step.specs.Stage.{Still, Done, IfDone, run}

-- a run that ended by a fault
abbrev pub IsFault : Outcome → Type 0
IsFault (Ended (e.MachineFault kind at)) = Unit {0}
IsFault _ = ⊥

-- an address of an item of a chosen function is watched
within_so : (start count at i : ℕ) → at ≡ start + 4 * i → i < count → within start count at ≡ true
within_so start count at i e low = grind (arith, nat_tests)

later : (a : Bool) {b : Bool} → b ≡ true → (a || b) ≡ true
later true e = refl
later false e = e

any_at : (test : ℕ → Bool) (xs : List ℕ) (x k : ℕ) → k < length xs → slice_index_or xs k x ≡ x → test x ≡ true → list_any test xs ≡ true
any_at test [] x k low e is = absurd (omega arith)
any_at test (y ∷ ys) x zero low e is = let here : test y ≡ true = ap test e ∙ is in rw here refl
any_at test (y ∷ ys) x (suc k) low e is = later (test y) (any_at test ys x k (omega arith) e is)

any_here : (test : ℕ → Bool) (xs : List ℕ) (x : ℕ) → Contains xs x → test x ≡ true → list_any test xs ≡ true
any_here test xs x has is = any_at test xs x has.0 has.1 has.2 is

pub watched_there : (ms : List Module) (chosen : List ℕ) (fid i pc : ℕ) (p : Placed) → Contains chosen fid → function_at ms fid ≡ Some p → i < length p.function.items → pc ≡ item_address (first_item ms fid + i) → is_at_item ms chosen pc ≡ true
watched_there ms chosen fid i pc p among there low e =
    any_here (is_at_item_of ms pc) chosen fid among
    (ap (λ o. within (item_address (first_item ms fid)) (items_at o) pc) there
    ∙ within_so (item_address (first_item ms fid)) (length p.function.items) pc i (omega (arith, e)) low)

pub apart_if : (ms : List Module) (chosen : List ℕ) (pc : ℕ) → is_at_item ms chosen pc ≡ false → IsApart ms chosen pc
apart_if ms chosen pc off fid i p among there low e =
    let on : is_at_item ms chosen pc ≡ true = watched_there ms chosen fid i pc p among there low e in
    cc

module _ (g : Loaded) (chosen : List ℕ) where
  abbrev Watches : MixedState → Bool → Type 0
  Watches s b = ((watched_step g chosen s ≡ full_step g s) × IsApart g.modules chosen s.regs.pc) ⊎ ((said : Finish) × (watched_step g chosen s ≡ Done said) × IsFault said.outcome)

  watches_by : (s : MixedState) (b : Bool) → is_at_item g.modules chosen s.regs.pc ≡ b → Watches s b
  watches_by s true on = inr (record { outcome = Ended (e.MachineFault Fetch s.regs.pc); state = s }, rw on refl, tt)
  watches_by s false off = inl (rw off refl, apart_if g.modules chosen s.regs.pc off)

  either : (s : MixedState) → ((watched_step g chosen s ≡ full_step g s) × IsApart g.modules chosen s.regs.pc) ⊎ ((said : Finish) × (watched_step g chosen s ≡ Done said) × IsFault said.outcome)
  either s = watches_by s (is_at_item g.modules chosen s.regs.pc) refl

  -- the plain machine ends alike
  pub ends_alike : (n : ℕ) (s : MixedState) (said : Finish) → run (watched_step g chosen) n s ≡ Done said → (IsFault said.outcome → ⊥) → run (full_step g) n s ≡ Done said
  ends_alike n s said done good =
      same_run (full_step g) (watched_step g chosen) (λ t. IsApart g.modules chosen t.regs.pc) (λ f. IsFault f.outcome) either n s
      (subst (λ st. IfDone st (λ f. IsFault f.outcome → ⊥)) (sym done) good)
      ∙ done

  -- and on the way it is at no item of a chosen function
  pub apart_always : (n : ℕ) (s : MixedState) (said : Finish) → run (watched_step g chosen) n s ≡ Done said → (IsFault said.outcome → ⊥) → (k : ℕ) (t : MixedState) → run (full_step g) k s ≡ Still t → IsApart g.modules chosen t.regs.pc
  apart_always n s said done good k t still =
      always_allowed (full_step g) (watched_step g chosen) (λ t. IsApart g.modules chosen t.regs.pc) (λ f. IsFault f.outcome) either n s said done good k t still

-- the items of a function are among all items
items_before : (ps : List Placed) (k : ℕ) (p : Placed) → slice_get ps k ≡ Some p → items_in (take k ps) + length p.function.items ≤ items_in ps
items_before [] k p e = absurd cc
items_before (q ∷ ps) zero p e = let same : q ≡ p = cc in let n = ap (λ x. length x.function.items) same in omega arith
items_before (q ∷ ps) (suc k) p e = let rest = items_before ps k p e in omega arith

item_below : (ms : List Module) (fid : ℕ) (p : Placed) → function_at ms fid ≡ Some p → first_item ms fid + length p.function.items ≤ items_of ms
item_below ms fid p e = items_before (all_functions ms) fid p e

-- before the items and behind them nothing is watched
off_one : (ms : List Module) (pc fid : ℕ) (o : Option Placed) → function_at ms fid ≡ o → (pc < ITEM_START) ⊎ (ITEM_START + 4 * items_of ms ≤ pc) → within (item_address (first_item ms fid)) (items_at o) pc ≡ false
off_one ms pc fid None there off = grind (arith, nat_tests)
off_one ms pc fid (Some p) there (inl before) = grind (arith, nat_tests)
off_one ms pc fid (Some p) there (inr behind) =
    let last = item_below ms fid p there in
    grind (arith, nat_tests)

pub off_items : (ms : List Module) (chosen : List ℕ) (pc : ℕ) → (pc < ITEM_START) ⊎ (ITEM_START + 4 * items_of ms ≤ pc) → is_at_item ms chosen pc ≡ false
off_items ms [] pc off = refl
off_items ms (fid ∷ fids) pc off = rw (off_one ms pc fid (function_at ms fid) refl off, off_items ms fids pc off) refl

-- there the machine that watches does what the plain one does
pub step_off : (g : Loaded) (chosen : List ℕ) (s : MixedState) → (s.regs.pc < ITEM_START) ⊎ (ITEM_START + 4 * items_of g.modules ≤ s.regs.pc) → watched_step g chosen s ≡ full_step g s
step_off g chosen s off = rw (off_items g.modules chosen s.regs.pc off) refl
