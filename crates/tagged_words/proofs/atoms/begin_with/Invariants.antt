use Rattle.std.proofs.Common.{◌≡◌, drop, map}
use Rattle.tagged_words.specs.Atoms.{begins}
use Rattle.tagged_words.proofs.atoms.begin_with.Given as goal

abbrev pub invariant-loop-i : goal.invariant-loop-i
invariant-loop-i l = begins (map (λ w. w.now) (drop l.i l.texts)) (drop l.i l.names) ≡ begins (map (λ w. w.now) l.texts) l.names
