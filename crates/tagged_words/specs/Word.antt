-- The words of terms: what the low bits of a word of 32 bits say. It follows docs/MACHINE.md,
-- "Words". A word is a number below 2 ^ 32; its low n bits are its remainder by 2 ^ n.
use Rattle.std.specs.Prelude.{ℕ, ℤ, pos, negsuc, ◌+◌, ◌-◌, ◌*◌, ◌/◌, ◌%◌, if◌then◌else◌, nat_eq, nat_lt}
use Rattle.term_tree.specs.Small.{small_limit}
use Rattle.tagged_words.specs.declared.kind.Class.{Class}
use Rattle.tagged_words.specs.declared.kind.Class.TheVariants.{Small, Atom, Nil, Cons, Boxed, Other}

-- how many numbers fit 28 bits without a sign; half of these are not negative
abbrev pub small_end : ℕ
small_end = 268435456

-- the integer of 28 bits
abbrev pub small_of : ℕ → ℤ
small_of bits = if nat_lt bits small_limit then pos bits else negsuc (small_end - 1 - bits)

-- the 28 bits of an integer
abbrev pub bits_of : ℤ → ℕ
bits_of (pos n) = n
bits_of (negsuc n) = small_end - 1 - n

-- the words of a small integer, of an atom by its number, of the empty list, and of the header
-- before a tuple's elements
abbrev pub small_word : ℤ → ℕ
small_word i = bits_of i * 16 + 15

abbrev pub atom_word : ℕ → ℕ
atom_word n = n * 64 + 11

abbrev pub nil_word : ℕ
nil_word = 59

abbrev pub header_word : ℕ → ℕ
header_word arity = arity * 64

-- the table: the class of a word
abbrev pub class_of : ℕ → Class
class_of w =
    if nat_eq (w % 4) 1 then Cons (w - 1)
    else if nat_eq (w % 4) 2 then Boxed (w - 2)
    else if nat_eq (w % 16) 15 then Small (small_of (w / 16))
    else if nat_eq w nil_word then Nil
    else if nat_eq (w % 64) 11 then Atom (w / 64)
    else Other
