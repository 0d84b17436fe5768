-- The mentions so far, and those of the modules that are left.
use Rattle.std.proofs.Common.{◌≡◌, ◌++◌, drop}
use Rattle.ir_code.specs.Mentions.{mentions_of}
use Rattle.ir_code.specs.Shown.{shown}
use Rattle.ir_code.proofs.mentioning.mentions.Given as goal

abbrev pub invariant-loop-m : goal.invariant-loop-m
invariant-loop-m l = shown l.all.items ++ mentions_of (drop l.m-index l.modules) ≡ mentions_of l.modules
