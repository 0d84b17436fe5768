-- Fields of a word, and signed numbers in a field: two's complement, as in The SPARC Architecture Manual, Version 8, section 3.
use Rattle.std.specs.Prelude.{ℕ, suc, ℤ, pos, negsuc, ◌+◌, ◌-◌, ◌*◌, ◌/◌, ◌%◌, ◌^◌, ◌<◌, nat_lt, if◌then◌else◌}

-- a field of `bits` bits put below what is there
abbrev pub joined : ℕ → ℕ → ℕ → ℕ
joined high bits low = high * 2 ^ bits + low

-- the field of `bits` bits whose lowest bit is `start`
abbrev pub field_at : ℕ → ℕ → ℕ → ℕ
field_at word start bits = word / 2 ^ start % 2 ^ bits

-- a signed number as a field of `bits` bits
abbrev pub unsigned_of : ℕ → ℤ → ℕ
unsigned_of bits (pos n) = n
unsigned_of bits (negsuc n) = 2 ^ bits - suc n

-- the signed number that a field of `bits` bits holds
abbrev pub signed_of : ℕ → ℕ → ℤ
signed_of bits field = if nat_lt field (2 ^ (bits - 1)) then pos field else negsuc (2 ^ bits - suc field)

-- a signed number fits `bits` bits
abbrev pub IsWithin : ℕ → ℤ → Type 0
IsWithin bits (pos n) = n < 2 ^ (bits - 1)
IsWithin bits (negsuc n) = n < 2 ^ (bits - 1)
