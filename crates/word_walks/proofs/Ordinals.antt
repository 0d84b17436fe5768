-- The place of a cell among the words of a store: cells that lie lower have a lower one, and none is past the number of words.
use Rattle.std.proofs.Common.{◌≡◌, ℕ, ◌+◌, ◌<◌, ◌≤◌, Some, arith}
use Rattle.std.proofs.lemmas.Bool.Decides.{nat_tests}
use Rattle.tagged_words.specs.Store.{Store, word_of, words_in}
pub use Rattle.word_walks.specs.Ordinal.{ordinal}

pub few : (s : Store) (at : ℕ) → ordinal s at ≤ words_in s
few s at = grind arith

-- a word lies between its address and each higher one
pub higher : (s : Store) (at x to : ℕ) → word_of s at ≡ Some x → at < to → ordinal s at + 1 ≤ ordinal s to
higher s at x to there low = grind (arith, nat_tests)
