-- The integers that a term may hold: 28 bits with a sign (docs/MACHINE.md, Words).
use Rattle.std.specs.Prelude.{ℕ, ℤ, pos, negsuc, Bool, nat_lt, ◌<◌}

-- one more than the greatest small integer, and the least one without its sign
abbrev pub small_limit : ℕ
small_limit = 134217728

abbrev pub is_small : ℤ → Bool
is_small (pos n) = nat_lt n small_limit
is_small (negsuc n) = nat_lt n small_limit

-- the same as a fact
abbrev pub IsSmall : ℤ → Type 0
IsSmall (pos n) = n < small_limit
IsSmall (negsuc n) = n < small_limit
