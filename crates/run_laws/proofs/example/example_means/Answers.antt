use Rattle.std.specs.Prelude.{refl}
use Rattle.run_laws.proofs.example.example_means.Goals as goal

pub returns : goal.returns
returns c = (refl, refl)
