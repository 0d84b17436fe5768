-- Built-ins and tests by their names.
use Rattle.std.specs.Prelude.{ℕ, Option, List}
use Rattle.beam_code.specs.BuiltIns as b

-- the number of the built-in of these names and this arity, of the one that `bif` and `gc_bif` may name, and of a test
unfoldable pub built_in_number : List ℕ → List ℕ → ℕ → Option ℕ
built_in_number m f arity = b.built_in_number m f arity

unfoldable pub inline_number : List ℕ → ℕ → Option ℕ
inline_number f arity = b.inline_number f arity

unfoldable pub test_number : List ℕ → ℕ → Option ℕ
test_number f arity = b.test_number f arity
