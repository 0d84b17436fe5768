-- The code so far, and that of the modules that are left.
use Rattle.std.proofs.Common.{◌≡◌, ◌+◌, ◌++◌, drop}
use Rattle.std.specs.List.{AllByRecursion}
use Rattle.trivial_code.specs.Compiled.{AllCanBePut, code_in}
use Rattle.trivial_code.specs.Returned.{literals_within}
use Rattle.trivial_code.proofs.building.code.Given as goal

abbrev pub invariant-loop-m : goal.invariant-loop-m
invariant-loop-m l =
    record {
      fit : AllByRecursion AllCanBePut (drop l.m-index l.modules);
      count : l.count + literals_within (drop l.m-index l.modules) ≡ literals_within l.modules;
      words : l.code.items ++ code_in l.constants l.count (drop l.m-index l.modules) ≡ code_in l.constants 0 l.modules;
    }
