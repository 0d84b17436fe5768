-- What came so far, with what is left.
use Rattle.std.proofs.Common.{◌≡◌, ◌+◌, drop}
use Rattle.std.specs.Option.{option_or}
use Rattle.indexmap.specs.IndexMap.{get}
use Rattle.beam_code.specs.Function.{first_that}
use Rattle.function_numbers.specs.Keys.{Key, is_function_at, same_key}
use Rattle.function_numbers.proofs.functions.add_functions.Given as goal

abbrev pub invariant-loop-function : goal.invariant-loop-function
invariant-loop-function l = record {
  at : l.number ≡ l.first + l.function-index;
  left : (k : Key) →
      option_or (get same_key l.map k) (first_that (is_function_at l.names.keys k l.owner.name) l.number (drop l.function-index l.owner.functions))
      ≡ option_or (get same_key l.initial.map k) (first_that (is_function_at l.names.keys k l.owner.name) l.first l.owner.functions);
}
