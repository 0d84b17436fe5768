-- What the module of a text of n bytes has at most (docs/BEAM.md, Forms).
use Rattle.std.specs.Prelude.{ℕ, ◌+◌, ◌*◌, ◌≤◌, List, length}
use Rattle.beam_code.specs.declared.module.Module.{Module}
use Rattle.beam_profile.specs.Sizes.{item_count}
use Rattle.beam_profile.specs.Whole.{IsModuleOf}
use Rattle.module_sizes.specs.Counts.{names_in, literals_in, literal_words_in}

pub record AreWithin (m : Module) (n : ℕ) : Type 0 where
  pub names : names_in m ≤ n
  pub literals : literals_in m ≤ n
  pub words : literal_words_in m ≤ 2 * n
  -- all three at once: a byte bears one of the first two, or two words
  pub together : 2 * (names_in m + literals_in m) + literal_words_in m ≤ 2 * n
  pub exports : length m.exports ≤ n
  pub functions : length m.functions ≤ n
  pub items : item_count m.functions ≤ n

-- whatever the greatest index of a register is, with which the text is read
abbrev pub SizesAreWithin : Type 0
SizesAreWithin = (last : ℕ) (text : List ℕ) (m : Module) → IsModuleOf last text m → AreWithin m (length text)
