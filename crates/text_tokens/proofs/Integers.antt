-- Integers from numbers that are cut to a limit.
use Rattle.std.proofs.Common.{◌≡◌, ℕ, ◌<◌, ◌≤◌, Bool, true, false, min, nat_lt, nat_le, arith, ⊎_elim}
use Rattle.std.proofs.lemmas.Bool.{cases_lt}
use Rattle.text_tokens.specs.Pieces.{integer}

wide : (negative : Bool) (n : ℕ) → 150000000 ≤ n → integer negative (min n 150000000) ≡ integer negative n
wide true n le =
    let same : min n 150000000 ≡ 150000000 = omega arith in
    let far : nat_le n 134217728 ≡ false = grind arith in
    rw (same, far)
wide false n le =
    let same : min n 150000000 ≡ 150000000 = omega arith in
    let far : nat_lt n 134217728 ≡ false = grind arith in
    rw (same, far)

pub integer-cut : (negative : Bool) (n : ℕ) → integer negative (min n 150000000) ≡ integer negative n
integer-cut negative n =
    ⊎_elim (λ (lt : n < 150000000). let same : min n 150000000 ≡ n = omega arith in rw same)
    (λ (le : 150000000 ≤ n). wide negative n le) (cases_lt n 150000000)

pub ruleset integer_steps = (integer-cut)
