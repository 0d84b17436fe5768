-- What is prepared of a function's items (README.md).
use Rattle.std.specs.Prelude.{◌≡◌, ℕ, ◌<◌, ◌^◌, List, length, map, slice_index_or, nat_eq}
use Rattle.indexmap.specs.IndexMap.{get}
use Rattle.beam_code.specs.declared.module.Function.{Function}
use Rattle.beam_code.specs.declared.module.Module.{Module}
use Rattle.beam_code.specs.Function.{Placed, label_in}
use Rattle.beam_code.specs.Gates.{may_raise}
use Rattle.beam_code.specs.Shape.{shape_of}
use Rattle.path_rules.specs.declared.sites.Sites.{Sites}
use Rattle.path_rules.specs.Rules.{calls_well, effective_item}

abbrev pub placed_in : Module → Function → Placed
placed_in m f = record { owner = m; function = f }

-- the items of labels; the first item with an effect from each on; which may raise; which call well
pub record AreSites (ms : List Module) (f : Placed) (sites : Sites) : Type 0 where
  pub labels : (n : ℕ) → get nat_eq sites.labels n ≡ label_in f.function n
  pub effective : (k : ℕ) → k < length f.function.items → slice_index_or sites.effective k 0 ≡ effective_item f.function k
  pub long : length sites.effective ≡ length f.function.items
  pub raise : sites.may_raise ≡ map (λ i. may_raise ms (shape_of i.instr)) f.function.items
  pub calls : sites.calls_well ≡ map (λ i. calls_well ms f (shape_of i.instr)) f.function.items
  pub few : length f.function.items < 2 ^ 32
