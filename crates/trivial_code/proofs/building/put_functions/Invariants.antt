-- The code so far, and that of the functions that are left.
use Rattle.std.proofs.Common.{◌≡◌, ◌+◌, ◌++◌, drop}
use Rattle.std.specs.List.{AllByRecursion}
use Rattle.trivial_code.specs.Compiled.{CanBePut, code_of}
use Rattle.trivial_code.specs.Returned.{literals_among}
use Rattle.trivial_code.proofs.building.put_functions.Given as goal

abbrev pub invariant-loop-f : goal.invariant-loop-f
invariant-loop-f l =
    record {
      fit : AllByRecursion CanBePut (drop l.f-index l.functions);
      count : l.count + literals_among (drop l.f-index l.functions) ≡ l.before + literals_among l.functions;
      words : l.code.items ++ code_of l.constants l.count (drop l.f-index l.functions) ≡ l.fn.code.items ++ code_of l.constants l.before l.functions;
    }
