-- One node more is given the names of a word.
use Rattle.std.proofs.Common.{◌≡◌, ◌≢◌, ℕ, zero, suc, ◌-◌, ◌^◌, ◌<◌, ◌≤◌, ◌⊎◌, inl, inr, List, [], ◌∷◌, ◌++◌, length, set, min, max, refl, ap, sym, subst, ◌∙◌, arith, bit_or, bit_and, slice_index}
use Rattle.std.specs.List.{Contains}
use Rattle.std.specs.Int.{bit_at, bit_not, w64}
use Rattle.std.proofs.lemmas.Bool.{cases_eq}
use Rattle.std.proofs.lemmas.Nat.{le_or_l}
use Rattle.std.proofs.lemmas.Nat.Bits.{bit_at_and, bit_at_or, bit_at_not, bit_at-lt}
use Rattle.std.proofs.lemmas.List.{length-set, length-append, get_or-set_same, get_or-set_other}
use Rattle.std.proofs.lemmas.List.Elements.{All-push, Contains-push, Contains-push_cases, Contains-append_left}
use Rattle.liveness.specs.Words.{HasBit, LacksBit}
use Rattle.liveness.specs.Settling.{Spread, spare}

-- the bits of a node's word after a look
looked_bit : (old word written k : ℕ) → written < 2 ^ 64 → k < 64 → bit_at (bit_or old (bit_and word (bit_not w64 written))) k ≡ max (bit_at old k) (min (bit_at word k) (1 - bit_at written k))
looked_bit old word written k fits low = simp (bit_at_or, bit_at_and) (rw (bit_at_not w64 written k fits low) refl)

from_either : (p q r : ℕ) → p < 2 → q < 2 → r < 2 → max p (min q (1 - r)) ≡ 1 → (p ≡ 1) ⊎ ((q ≡ 1) × (r ≡ 0))
from_either p q r hp hq hr e = elim (cases_eq p 1) [ inl a ↦ inl a | inr a ↦ inr (omega arith, omega arith) ]

pub spare-set : (ws : List ℕ) (i v : ℕ) → i < length ws → slice_index ws i < v → slice_index ws i < 2 ^ 64 → spare (set ws i v) < spare ws
spare-set [] i v low rises fits = absurd (omega arith)
spare-set (w ∷ ws) zero v low rises fits = omega arith
spare-set (w ∷ ws) (suc i) v low rises fits = let s = spare-set ws i v (omega arith) rises fits in omega arith

pub nothing_spread : (word : ℕ) (writes old before : List ℕ) → Spread [] word writes old before old before
nothing_spread word writes old before =
    record {
      long = refl;
      kept = λ a k low h. h;
      only = λ a k low h. inl h;
      given = λ a k low c h lacks. absurd (omega (arith, c.1));
      told = λ a. inl refl;
      pending = λ a c. c;
      nodes = λ all. all;
      less = omega arith;
    }

module _ (from : List ℕ) (word : ℕ) (writes old before now after : List ℕ) (node new : ℕ)
    (is : new ≡ bit_or (slice_index now node) (bit_and word (bit_not w64 (slice_index writes node)))) (written : slice_index writes node < 2 ^ 64) (s : Spread from word writes old before now after) where
  bit_of_new : (k : ℕ) → k < 64 → bit_at new k ≡ max (bit_at (slice_index now node) k) (min (bit_at word k) (1 - bit_at (slice_index writes node) k))
  bit_of_new k low = ap (λ w. bit_at w k) is ∙ looked_bit (slice_index now node) word (slice_index writes node) k written low

  from_more : (a : ℕ) → Contains from a → Contains (from ++ node ∷ []) a
  from_more a c = Contains-append_left from (node ∷ []) a c

  only_more : (a k : ℕ) → k < 64 → HasBit now a k → HasBit old a k ⊎ (Contains (from ++ node ∷ []) a × (bit_at word k ≡ 1) × LacksBit writes a k)
  only_more a k low h = elim (s.only a k low h) [ inl first ↦ inl first | inr t ↦ inr (from_more a t.0, t.1, t.2) ]

  pub one_spread_same : new ≡ slice_index now node → Spread (from ++ node ∷ []) word writes old before now after
  one_spread_same same =
      record {
        long = s.long;
        kept = s.kept;
        only = only_more;
        given = λ a k low c h lacks. elim (Contains-push_cases from node a c) [
          | inl first ↦ s.given a k low first h lacks
          | inr e ↦
              let b = bit_of_new k low in
              let t = ap (λ w. bit_at w k) same in
              let lacks' : bit_at (slice_index writes node) k ≡ 0 = subst (λ i. LacksBit writes i k) (sym e) lacks in
              let l = bit_at-lt (slice_index now node) k in
              subst (λ i. HasBit now i k) e (omega arith)
        ];
        told = s.told;
        pending = s.pending;
        nodes = s.nodes;
        less = s.less;
      }

  module _ (low : node < length now) (fits : slice_index now node < 2 ^ 64) (differs : new ≢ slice_index now node) where
    here : slice_index (set now node new) node ≡ new
    here = get_or-set_same now node new 0 low

    other : (a : ℕ) → a ≢ node → slice_index (set now node new) a ≡ slice_index now a
    other a ne = get_or-set_other now node a new 0 ne

    grown : (a k : ℕ) → k < 64 → HasBit now a k → HasBit (set now node new) a k
    grown a k small h =
        elim (cases_eq a node) [
          | inl e ↦
              (let b = bit_of_new k small in
              let had : bit_at (slice_index now node) k ≡ 1 = subst (λ i. HasBit now i k) e h in
              let l = bit_at-lt word k in
              let has : HasBit (set now node new) node k = ap (λ w. bit_at w k) here ∙ omega arith in
              subst (λ i. HasBit (set now node new) i k) (sym e) has)
          | inr ne ↦ ap (λ w. bit_at w k) (other a ne) ∙ h
        ]

    pub one_spread_new : Spread (from ++ node ∷ []) word writes old before (set now node new) (after ++ node ∷ [])
    one_spread_new =
        record {
          long = length-set now node new ∙ s.long;
          kept = λ a k small h. grown a k small (s.kept a k small h);
          only = λ a k small h. elim (cases_eq a node) [
            | inl e ↦
                let has : bit_at new k ≡ 1 = sym (ap (λ w. bit_at w k) here) ∙ subst (λ i. HasBit (set now node new) i k) e h in
                elim (from_either _ _ _ (bit_at-lt (slice_index now node) k) (bit_at-lt word k) (bit_at-lt (slice_index writes node) k) (sym (bit_of_new k small) ∙ has)) [
                  | inl had ↦ only_more a k small (subst (λ i. HasBit now i k) (sym e) had)
                  | inr t ↦ inr (subst (λ i. Contains (from ++ node ∷ []) i) (sym e) (Contains-push from node), t.0, subst (λ i. LacksBit writes i k) (sym e) t.1)
                ]
            | inr ne ↦ only_more a k small (sym (ap (λ w. bit_at w k) (other a ne)) ∙ h)
          ];
          given = λ a k small c h lacks. elim (Contains-push_cases from node a c) [
            | inl first ↦ grown a k small (s.given a k small first h lacks)
            | inr e ↦
                let b = bit_of_new k small in
                let lacks' : bit_at (slice_index writes node) k ≡ 0 = subst (λ i. LacksBit writes i k) (sym e) lacks in
                let l = bit_at-lt (slice_index now node) k in
                let has : HasBit (set now node new) node k = ap (λ w. bit_at w k) here ∙ omega arith in
                subst (λ i. HasBit (set now node new) i k) e has
          ];
          told = λ a. elim (cases_eq a node) [
            | inl e ↦ inr (subst (λ i. Contains (after ++ node ∷ []) i) (sym e) (Contains-push after node))
            | inr ne ↦ elim (s.told a) [ inl same ↦ inl (other a ne ∙ same) | inr p ↦ inr (Contains-append_left after (node ∷ []) a p) ]
          ];
          pending = λ a c. Contains-append_left after (node ∷ []) a (s.pending a c);
          nodes = λ all. All-push (λ a. a < length old) after node (s.nodes all) (let l = s.long in omega arith);
          less = (
              let above : slice_index now node ≤ new = subst (λ v. slice_index now node ≤ v) (sym is) (le_or_l (slice_index now node) (bit_and word (bit_not w64 (slice_index writes node)))) in
              let falls = spare-set now node new low (omega arith) fits in
              let one = length-append after (node ∷ []) in
              let before_it = s.less in
              omega arith
              );
        }
