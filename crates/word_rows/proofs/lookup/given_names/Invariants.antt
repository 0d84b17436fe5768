-- The names so far, and those of the modules that are left.
use Rattle.std.proofs.Common.{◌≡◌, ℕ, ◌||◌, List, drop}
use Rattle.beam_code.specs.Function.{is_given, same_name}
use Rattle.indexmap.specs.IndexSet.{contains}
use Rattle.word_rows.proofs.lookup.given_names.Given as goal

abbrev pub invariant-loop-module : goal.invariant-loop-module
invariant-loop-module l = (n : List ℕ) → (contains same_name l.set n || is_given (drop l.module-index l.modules) n) ≡ is_given l.modules n
