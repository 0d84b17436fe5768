use Rattle.std.proofs.Common.{◌≡◌, drop, map, string_bytes}
use Rattle.std.specs.List.{list_all}
use Rattle.hipe_core.specs.Words as spec
use Rattle.hipe_core.proofs.asking.all_fit_check.Given as goal

abbrev pub invariant-loop-word : goal.invariant-loop-word
invariant-loop-word l = list_all spec.fits_check (map string_bytes (drop l.word-index l.words)) ≡ list_all spec.fits_check (map string_bytes l.words)
