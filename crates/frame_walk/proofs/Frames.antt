-- A walk goes by frames, and has no more of them than the stack has words.
use Rattle.std.proofs.Common.{ℕ, zero, suc, ◌≡◌, ◌≢◌, ◌+◌, ◌-◌, ◌*◌, ◌/◌, ◌%◌, ◌^◌, ◌<◌, ◌≤◌, ◌&&◌, ◌||◌, Bool, true, false, cond, Option, Some, None, List, [], ◌∷◌, length, take, drop, nat_eq, nat_le, if◌then◌else◌, arith, refl, sym, ap, subst, ◌∙◌, inl, inr}
use Rattle.std.proofs.lemmas.Bool.{cases_eq, eq-eqb, ne_eqb}
use Rattle.std.proofs.lemmas.List.{length-drop, drop-drop}
use Rattle.image_format.specs.declared.parts.Descriptor.{Descriptor}
use Rattle.image_format.specs.Fitting.{DescriptorFits, after_descriptor}
use Rattle.frame_walk.specs.Law.{IsFrame, IsNoFrame, IsWalk, WalksEnd, WalksGoByFrames}
use Rattle.frame_walk.specs.Walk.{Shown, broken_at, frame_in, frame_of, from_frame, return_of, behind, others_up, walked, words_up}
use Rattle.frame_walk.specs.declared.frame.TheConstants.{STOP_ADDRESS}
use Rattle.frame_walk.proofs.Walks.{IsAt, is_at, known_in, no_frame}
use Rattle.native_link.specs.Lookup.{descriptor_of}
use Rattle.tagged_words.specs.Follow.{Follow}
use Rattle.tagged_words.specs.Region.{Region, words_at}

-- ---- how many there are
no_longer : (ds : List Descriptor) (n ret at : ℕ) (ws : List ℕ) → length (walked ds n ret at ws) ≤ n + 1
no_longer ds zero ret at ws = by_stop (nat_eq ret STOP_ADDRESS)
  where
    by_stop : (b : Bool) → length (if b then [] else broken_at ret ∷ []) ≤ 1
    by_stop true = omega arith
    by_stop false = omega arith
no_longer ds (suc n) ret at ws = by_stop (nat_eq ret STOP_ADDRESS) (frame_of ds ret at ws) (λ f. no_longer ds n (return_of f.slots) (behind f) (others_up f ws))
  where
    by_stop : (b : Bool) (o : Option Shown) → ((f : Shown) → length (walked ds n (return_of f.slots) (behind f) (others_up f ws)) ≤ n + 1)
        → length (if b then [] else from_frame (walked ds n) ret ws o) ≤ suc n + 1
    by_stop true o others = omega arith
    by_stop false None others = omega arith
    by_stop false (Some f) others = omega (arith, others f)

words_up_few : (r : Region) (at : ℕ) → length (words_up r at) ≤ length r.words
words_up_few r at = by_test (nat_eq (at % 4) 0 && nat_le r.start at)
  where
    by_test : (b : Bool) → length (if b then drop ((at - r.start) / 4) r.words else []) ≤ length r.words
    by_test true = omega (arith, length-drop ((at - r.start) / 4) r.words)
    by_test false = omega arith

pub ends : WalksEnd
ends ds stack ret sp = omega (arith, no_longer ds (length (words_up stack sp)) ret sp (words_up stack sp), words_up_few stack sp)

-- ---- the words of a region
-- so many words from an address up are the first of all that are there
same_test : (k n long : ℕ) → 0 < n → (nat_eq n 0 || nat_le (k + n) long) ≡ nat_le n (long - k)
same_test k n long some = grind (arith, some)

-- so many words of a list, if it has them
abbrev first_of : ℕ → List ℕ → Option (List ℕ)
first_of n ws = if nat_le n (length ws) then Some (take n ws) else None

words_at-words_up : (r : Region) (at n : ℕ) → 0 < n → words_at r at n ≡ first_of n (words_up r at)
words_at-words_up r at n some = by_tests (nat_eq (at % 4) 0) (nat_le r.start at)
  where
    place : ℕ
    place = (at - r.start) / 4

    by_tests : (a b : Bool) → (if a && (nat_eq n 0 || (b && nat_le (place + n) (length r.words))) then Some (take n (drop place r.words)) else None)
        ≡ first_of n (if a && b then drop place r.words else [])
    by_tests false b = grind (arith, some)
    by_tests true false = grind (arith, some)
    by_tests true true =
        let test : (nat_eq n 0 || nat_le (place + n) (length r.words)) ≡ nat_le n (length (drop place r.words)) =
        same_test place n (length r.words) some ∙ ap (nat_le n) (sym (length-drop place r.words)) in
        ap (λ (t : Bool). if t then Some (take n (drop place r.words)) else None) test

-- the words behind these are those from the address behind them up
test_behind : (start at n long : ℕ) → at % 4 ≡ 0 → start ≤ at → (at - start) / 4 + n ≤ long → start + 4 * long ≤ 2 ^ 31
    → (nat_eq ((at + 4 * n) % 2 ^ 32 % 4) 0 && nat_le start ((at + 4 * n) % 2 ^ 32) ≡ true) × (((at + 4 * n) % 2 ^ 32 - start) / 4 ≡ (at - start) / 4 + n)
test_behind start at n long aligned from fits low =
    let whole : (at + 4 * n) % 2 ^ 32 ≡ at + 4 * n = omega (arith, aligned, from, fits, low) in
    rw whole (grind (arith, aligned, from), omega (arith, aligned, from))

words_up-behind : (r : Region) (at n : ℕ) → 0 < n → n ≤ length (words_up r at) → r.start + 4 * length r.words ≤ 2 ^ 31
    → words_up r ((at + 4 * n) % 2 ^ 32) ≡ drop n (words_up r at)
words_up-behind r at n some fits low = by_test (nat_eq (at % 4) 0 && nat_le r.start at) refl fits
  where
    by_test : (b : Bool) → nat_eq (at % 4) 0 && nat_le r.start at ≡ b → n ≤ length (if b then drop ((at - r.start) / 4) r.words else [])
        → words_up r ((at + 4 * n) % 2 ^ 32) ≡ drop n (if b then drop ((at - r.start) / 4) r.words else [])
    by_test false e fits = absurd (omega (arith, some, fits))
    by_test true e fits =
        let aligned : at % 4 ≡ 0 = grind (arith, e) in
        let from : r.start ≤ at = grind (arith, e) in
        let within : (at - r.start) / 4 + n ≤ length r.words = omega (arith, fits, some, length-drop ((at - r.start) / 4) r.words) in
        let tests = test_behind r.start at n (length r.words) aligned from within low in
        rw (tests.0, tests.1) (sym (drop-drop n ((at - r.start) / 4) r.words))

-- ---- frame by frame
has_words : (least : ℕ) (ds : List Descriptor) (ret : ℕ) (d : Descriptor)
    → Follow DescriptorFits after_descriptor least ds → descriptor_of ds ret ≡ Some d → 0 < d.frame
has_words least [] ret d h e = absurd cc
has_words least (x ∷ ds) ret d h e =
    let tested = λ (b : Bool). cond b (Some x) (descriptor_of ds ret) in
    elim (cases_eq x.ret ret) [
      | inl same ↦ omega (arith, ap (λ (d : Descriptor). d.frame) (some_is x d (sym (ap tested (eq-eqb x.ret ret same)) ∙ e)), h.0.some)
      | inr ne ↦ has_words (after_descriptor least x) ds ret d h.1 (sym (ap tested (ne_eqb x.ret ret ne)) ∙ e)
    ]
  where
    some_is : (x d : Descriptor) → Some x ≡ Some d → x ≡ d
    some_is x d e = cc

module _ (ds : List Descriptor) (stack : Region) (fit : Follow DescriptorFits after_descriptor 0 ds) (low : stack.start + 4 * length stack.words ≤ 2 ^ 31) where
  nowhere : (ret sp : ℕ) → frame_of ds ret sp (words_up stack sp) ≡ None → IsNoFrame ds stack ret sp
  nowhere ret sp none d known = words_at-words_up stack sp d.frame some ∙ by_test (nat_le d.frame (length (words_up stack sp))) refl
    where
      some : 0 < d.frame
      some = has_words 0 ds ret d fit known

      found : frame_in sp (words_up stack sp) (Some d) ≡ None
      found = ap (frame_in sp (words_up stack sp)) (sym known) ∙ none

      by_test : (b : Bool) → nat_le d.frame (length (words_up stack sp)) ≡ b → (if b then Some (take d.frame (words_up stack sp)) else None) ≡ None
      by_test false e = refl
      by_test true e = absurd (grind (arith, e, found, some))

  broken : (ret sp : ℕ) → ret ≢ STOP_ADDRESS → frame_of ds ret sp (words_up stack sp) ≡ None → IsWalk ds stack ret sp (broken_at ret ∷ [])
  broken ret sp goes none = (goes, refl, nowhere ret sp none, refl)

  module _ (ret sp : ℕ) (f : Shown) (is : frame_of ds ret sp (words_up stack sp) ≡ Some f) where
    here : IsAt sp (words_up stack sp) f
    here = is_at sp (words_up stack sp) (descriptor_of ds ret) f is

    frame : IsFrame ds stack ret sp f
    frame = record {
      known = known_in sp (words_up stack sp) (descriptor_of ds ret) f is;
      place = here.place;
      slots = words_at-words_up stack sp f.descriptor.frame (omega (arith, here.some)) ∙ fits ∙ ap Some (sym here.slots);
    }
      where
        fits : first_of f.descriptor.frame (words_up stack sp) ≡ Some (take f.descriptor.frame (words_up stack sp))
        fits = grind (arith, here.most)

    others : words_up stack (behind f) ≡ others_up f (words_up stack sp)
    others =
        ap (λ at. words_up stack ((at + 4 * f.descriptor.frame) % 2 ^ 32)) here.place
        ∙ words_up-behind stack sp f.descriptor.frame (omega (arith, here.some)) here.most low

  first : (n ret sp : ℕ) → ret ≢ STOP_ADDRESS → length (words_up stack sp) ≤ suc n
      → ((ret sp : ℕ) → length (words_up stack sp) ≤ n → IsWalk ds stack ret sp (walked ds n ret sp (words_up stack sp)))
      → (o : Option Shown) → frame_of ds ret sp (words_up stack sp) ≡ o → IsWalk ds stack ret sp (from_frame (walked ds n) ret (words_up stack sp) o)
  first n ret sp goes few rest None none = broken ret sp goes none
  first n ret sp goes few rest (Some f) is =
      let same = others ret sp f is in
      let fewer : length (words_up stack (behind f)) ≤ n =
      omega (arith, ap length same, length-drop f.descriptor.frame (words_up stack sp), (here ret sp f is).some, few) in
      let walks = λ (ws : List ℕ). IsWalk ds stack (return_of f.slots) (behind f) (walked ds n (return_of f.slots) (behind f) ws) in
      (goes, frame ret sp f is, subst walks same (rest (return_of f.slots) (behind f) fewer))

  by_frames : (n ret sp : ℕ) → length (words_up stack sp) ≤ n → IsWalk ds stack ret sp (walked ds n ret sp (words_up stack sp))
  by_frames zero ret sp few = elim (cases_eq ret STOP_ADDRESS) [
    | inl stops ↦ rw (eq-eqb ret STOP_ADDRESS stops) stops
    | inr goes ↦ rw (ne_eqb ret STOP_ADDRESS goes) (broken ret sp goes none)
  ]
    where
      empty : (ws : List ℕ) → length ws ≤ 0 → ws ≡ []
      empty [] few = refl
      empty (w ∷ ws) few = absurd (omega (arith, few))

      none : frame_of ds ret sp (words_up stack sp) ≡ None
      none = ap (λ ws. frame_in sp ws (descriptor_of ds ret)) (empty (words_up stack sp) few) ∙ no_frame sp (descriptor_of ds ret)
  by_frames (suc n) ret sp few = elim (cases_eq ret STOP_ADDRESS) [
    | inl stops ↦ rw (eq-eqb ret STOP_ADDRESS stops) stops
    | inr goes ↦ rw (ne_eqb ret STOP_ADDRESS goes) (first n ret sp goes few (by_frames n) (frame_of ds ret sp (words_up stack sp)) refl)
  ]

pub goes_by_frames : WalksGoByFrames
goes_by_frames ds stack ret sp fit low = by_frames ds stack fit low (length (words_up stack sp)) ret sp (omega arith)
