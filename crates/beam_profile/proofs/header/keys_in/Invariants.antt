-- What came so far, in front of what is left.
use Rattle.std.proofs.Common.{◌≡◌, ◌++◌, drop}
use Rattle.std.specs.Option.{option_map}
use Rattle.beam_profile.specs.Header.{keys_in}
use Rattle.beam_profile.proofs.header.keys_in.Given as goal

abbrev pub invariant-loop-term : goal.invariant-loop-term
invariant-loop-term l = option_map (λ ks. l.all ++ ks) (keys_in (drop l.term-index l.terms)) ≡ keys_in l.terms
