-- What the table of words says of the words that are made by it.
use Rattle.std.proofs.Common.{◌≡◌, ℕ, ℤ, pos, negsuc, ◌%◌, ◌^◌, ◌<◌, refl, arith}
use Rattle.tagged_words.specs.declared.kind.Class.TheVariants.{Small, Atom, Nil, Other}
use Rattle.tagged_words.specs.Word.{small_of, bits_of, small_word, atom_word, nil_word, header_word, class_of}
use Rattle.term_tree.specs.Small.{IsSmall}

pub small_of-bits_of : (i : ℤ) → IsSmall i → small_of (bits_of i) ≡ i
small_of-bits_of (pos n) low = grind arith
small_of-bits_of (negsuc n) low = grind arith

pub bits_of-below : (i : ℤ) → IsSmall i → bits_of i < 2 ^ 28
bits_of-below (pos n) low = omega arith
bits_of-below (negsuc n) low = omega arith

pub small_word-below : (i : ℤ) → IsSmall i → small_word i < 2 ^ 32
small_word-below i low = let b : bits_of i < 2 ^ 28 = bits_of-below i low in omega arith

pub class_of-small_word : (i : ℤ) → IsSmall i → class_of (small_word i) ≡ Small i
class_of-small_word (pos n) low = grind arith
class_of-small_word (negsuc n) low = grind arith

pub class_of-atom_word : (n : ℕ) → class_of (atom_word n) ≡ Atom n
class_of-atom_word n = grind arith

pub atom_word-below : (n : ℕ) → n < 2 ^ 26 → atom_word n < 2 ^ 32
atom_word-below n low = omega arith

pub class_of-nil_word : class_of nil_word ≡ Nil
class_of-nil_word = refl

pub class_of-header_word : (n : ℕ) → class_of (header_word n) ≡ Other
class_of-header_word n = grind arith

pub header_word-low : (n : ℕ) → header_word n % 64 ≡ 0
header_word-low n = omega arith

pub header_word-below : (n : ℕ) → n < 2 ^ 26 → header_word n < 2 ^ 32
header_word-below n low = omega arith
