-- Fronts of bytes that pass a test, and numbers by their digits.
use Rattle.std.proofs.Common.{◌≡◌, ℕ, ◌+◌, ◌*◌, ◌<◌, ◌≤◌, List, [], ◌∷◌, length, get_or, drop, Bool, true, false, min, arith, add-one, ⊎_elim}
use Rattle.std.proofs.Math.Seq.{drop-cons, drop-length}
use Rattle.std.proofs.Math.Nat.{mul-le-mul_left}
use Rattle.std.proofs.lemmas.Bool.{cases_lt}
use Rattle.std.specs.Char.{digit_value}
use Rattle.text_tokens.specs.Character.{run, number_after}

-- bytes from a place on that is within them
pub drop-within : (bs : List ℕ) (i : ℕ) → i < length bs → drop i bs ≡ get_or bs i 0 ∷ drop (i + 1) bs
drop-within bs i h = rw (add-one, drop-cons bs i 0)

pub run-past : (p : ℕ → Bool) (bs : List ℕ) (i : ℕ) → i < length bs → p (get_or bs i 0) ≡ true → run p (drop i bs) ≡ 1 + run p (drop (i + 1) bs)
run-past p bs i h e = rw (drop-within bs i h, e)

pub run-stops : (p : ℕ → Bool) (bs : List ℕ) (i : ℕ) → i < length bs → p (get_or bs i 0) ≡ false → run p (drop i bs) ≡ 0
run-stops p bs i h e = rw (drop-within bs i h, e)

pub run-all : (p : ℕ → Bool) (bs : List ℕ) → run p (drop (length bs) bs) ≡ 0
run-all p bs = rw drop-length

value-grows : (value base : ℕ) → 1 ≤ base → value ≤ value * base
value-grows value base h = omega (arith, mul-le-mul_left value h)

-- a number is no less than its front
pub number_after-grows : (base value : ℕ) (ds : List ℕ) → 1 ≤ base → value ≤ number_after base value ds
number_after-grows base value [] h = omega arith
number_after-grows base value (d ∷ ds) h =
    let ih = number_after-grows base (value * base + digit_value d) ds h in
    let le = value-grows value base h in
    omega (arith, ih, le)

-- a front that is cut to a limit
pub number_after-cut : (base limit value : ℕ) (ds : List ℕ) → 1 ≤ base → min (number_after base (min value limit) ds) limit ≡ min (number_after base value ds) limit
number_after-cut base limit value ds h =
    let low = number_after-grows base (min value limit) ds h in
    let high = number_after-grows base value ds h in
    ⊎_elim (λ (lt : value < limit). let same : min value limit ≡ value = omega arith in rw same)
    (λ (le : limit ≤ value). omega arith) (cases_lt value limit)

pub number_after-step : (base limit value : ℕ) (ds : List ℕ) (i : ℕ) → 1 ≤ base → i < length ds →
    min (number_after base (min (value * base + digit_value (get_or ds i 0)) limit) (drop (i + 1) ds)) limit ≡ min (number_after base value (drop i ds)) limit
number_after-step base limit value ds i h lt =
    rw (drop-within ds i lt) (number_after-cut base limit (value * base + digit_value (get_or ds i 0)) (drop (i + 1) ds) h)

pub ruleset number_steps = (number_after-step, drop-length)
