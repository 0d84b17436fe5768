-- What came so far, with what is left.
use Rattle.std.proofs.Common.{◌≡◌, ◌+◌, drop, length}
use Rattle.std.specs.Option.{option_or}
use Rattle.indexmap.specs.IndexMap.{get}
use Rattle.beam_code.specs.Function.{all_functions, first_that}
use Rattle.function_numbers.specs.Keys.{Key, is_placed_at, same_key}
use Rattle.function_numbers.proofs.functions.function_map.Given as goal

abbrev pub invariant-loop-module : goal.invariant-loop-module
invariant-loop-module l = record {
  at : l.number + length (all_functions (drop l.module-index l.modules)) ≡ length (all_functions l.modules);
  left : (k : Key) →
      option_or (get same_key l.map k) (first_that (is_placed_at l.names.keys k) l.number (all_functions (drop l.module-index l.modules)))
      ≡ first_that (is_placed_at l.names.keys k) 0 (all_functions l.modules);
}
