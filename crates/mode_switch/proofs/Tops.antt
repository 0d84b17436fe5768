-- The words below the heap top: what is read there, and how many words there are.
use Rattle.std.proofs.Common.{◌≡◌, ℕ, Bool, true, false, zero, suc, ◌+◌, ◌-◌, ◌/◌, ◌<◌, ◌≤◌, if◌then◌else◌, None, List, [], ◌∷◌, length, take, slice_get, nat_lt, refl, ap, ◌∙◌, arith}
use Rattle.std.proofs.lemmas.Bool.Decides.{nat_tests}
use Rattle.std.proofs.lemmas.List.{length-take}
use Rattle.mode_switch.specs.Memory.{stored}
use Rattle.mode_switch.specs.State.{Memory}
use Rattle.mode_switch.specs.Store.{below_top, extent}
use Rattle.mode_switch.specs.declared.addresses.TheConstants.{X_START, STACK_FLOOR}
use Rattle.tagged_words.proofs.RegionLaws.{start-with_word, length-with_word}
use Rattle.tagged_words.specs.Region.{Region, with_word, word_at}
use Rattle.tagged_words.specs.declared.addresses.TheConstants.{HEAP_START}

get_below : (ws : List ℕ) (used i : ℕ) → i < used → slice_get (take used ws) i ≡ slice_get ws i
get_below [] zero i low = refl
get_below [] (suc used) i low = refl
get_below (x ∷ ws) zero i low = absurd (omega arith)
get_below (x ∷ ws) (suc used) zero low = refl
get_below (x ∷ ws) (suc used) (suc i) low = get_below ws used i (omega arith)

-- below the top a word is that of the heap, and no word lies above
pub word_below_top : (r : Region) (top at : ℕ) → r.start ≡ HEAP_START
    → word_at (record { start = HEAP_START; words = below_top top r.words }) at ≡ (if nat_lt at top then word_at r at else None)
word_below_top r top at start = grind (arith, nat_tests, length-take, get_below, start)

pub few_below : (top : ℕ) (words : List ℕ) → length (below_top top words) ≤ length words
few_below top words = omega (arith, length-take ((top - HEAP_START + 3) / 4) words)

-- a store leaves the heap where it is, with as many words
same_extent : (r : Region) (at w : ℕ) → extent (with_word r at w) ≡ extent r
same_extent r at w = ap (λ s. (s, length (with_word r at w).words)) (start-with_word r at w) ∙ ap (λ n. (r.start, n)) (length-with_word r at w)

stored_if : (a b c : Bool) (m : Memory) (at w : ℕ)
    → extent (if a then m else if b then record m { heap = with_word m.heap at w } else if c then record m { xs = with_word m.xs at w } else record m { stack = with_word m.stack at w }).heap ≡ extent m.heap
stored_if true b c m at w = refl
stored_if false true c m at w = same_extent m.heap at w
stored_if false false true m at w = refl
stored_if false false false m at w = refl

pub heap_stays : (m : Memory) (at w : ℕ) → extent (stored m at w).heap ≡ extent m.heap
heap_stays m at w = stored_if (nat_lt at HEAP_START) (nat_lt at X_START) (nat_lt at STACK_FLOOR) m at w
