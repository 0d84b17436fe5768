-- What a table of functions answers (README.md).
use Rattle.std.specs.Prelude.{◌≡◌, ℕ, Option, Some, None, List, if◌then◌else◌}
use Rattle.indexmap.specs.IndexMap.{get}
use Rattle.indexmap.specs.IndexSet.{contains}
use Rattle.beam_code.specs.declared.module.Module.{Module}
use Rattle.beam_code.specs.Function.{exported_number, number_of}
use Rattle.function_numbers.specs.declared.numbers.FunctionNumbers.{FunctionNumbers}
use Rattle.function_numbers.specs.Keys.{Key, key_of, same_key}

-- the number that is noted for a key
abbrev pub noted : FunctionNumbers → Option Key → Option ℕ
noted t None = None
noted t (Some k) = get same_key t.functions k

-- the same for a key that is exported
abbrev pub noted_export : FunctionNumbers → Option Key → Option ℕ
noted_export t None = None
noted_export t (Some k) = if contains same_key t.exports k then get same_key t.functions k else None

-- for all names and arities, what is noted is the function's number
pub record AreNumbersOf (ms : List Module) (t : FunctionNumbers) : Type 0 where
  pub functions : (m f : List ℕ) (arity : ℕ) → noted t (key_of t.names.keys m f arity) ≡ number_of ms m f arity
  pub exports : (m f : List ℕ) (arity : ℕ) → noted_export t (key_of t.names.keys m f arity) ≡ exported_number ms m f arity
