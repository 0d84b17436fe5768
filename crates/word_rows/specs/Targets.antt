-- Functions by the labels where their calls begin.
use Rattle.std.specs.Prelude.{Bool, ◌&&◌, nat_eq}
use Rattle.beam_code.specs.declared.module.Function.{Function}
use Rattle.beam_code.specs.declared.module.Module.{Module}
use Rattle.beam_code.specs.Function.{Placed, same_name}
pub use Rattle.word_rows.specs.declared.targets.Target.{Target}

abbrev pub same_target : Target → Target → Bool
same_target a b = same_name a.owner b.owner && (nat_eq a.label b.label && nat_eq a.arity b.arity)

abbrev pub placed : Module → Function → Placed
placed m f = record { owner = m; function = f }
