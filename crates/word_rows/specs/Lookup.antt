-- What is looked up of names in the modules of an image.
use Rattle.std.specs.Prelude.{◌≡◌, ℕ, List}
use Rattle.beam_code.specs.Function.{all_functions, first_that, is_given, is_target, same_name}
use Rattle.function_numbers.specs.Numbers.{AreNumbersOf}
use Rattle.indexmap.specs.IndexMap.{get}
use Rattle.indexmap.specs.IndexSet.{contains}
use Rattle.native_link.specs.Checking.{Linked}
use Rattle.word_rows.specs.declared.lookup.Lookup.{Lookup}
use Rattle.word_rows.specs.Targets.{Target, same_target}

-- the atoms of the image, the numbers of its functions by name and by label, and the names of its modules
pub record IsLookupOf (l : Linked) (look : Lookup) : Type 0 where
  pub atoms : look.atoms ≡ l.parts.atoms
  pub numbers : AreNumbersOf l.modules look.numbers
  pub targets : (k : Target) → get same_target look.targets k ≡ first_that (is_target k.owner k.label k.arity) 0 (all_functions l.modules)
  pub given : (n : List ℕ) → contains same_name look.given n ≡ is_given l.modules n
