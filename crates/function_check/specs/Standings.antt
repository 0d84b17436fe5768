-- The stack and the handler that all paths carry to an item (docs/BEAM.md, Paths).
use Rattle.std.specs.Prelude.{◌≡◌, ℕ, ◌<◌, Option, Some, None, List, length, slice_get, option_map}
use Rattle.paths.specs.Paths.{Free}
use Rattle.beam_code.specs.declared.module.Function.{Function}
use Rattle.beam_code.specs.declared.module.HandlerKind.{HandlerKind}
use Rattle.beam_code.specs.declared.module.HandlerKind.TheVariants as kind
use Rattle.beam_code.specs.declared.module.Module.{Module}
use Rattle.beam_code.specs.Function.{Placed, label_in}
use Rattle.path_rules.specs.declared.frame_table.Frame.{Frame}
use Rattle.path_rules.specs.declared.tag.Tag.{Tag}
use Rattle.path_rules.specs.declared.tag.TagKind.{TagKind}
use Rattle.path_rules.specs.declared.tag.TagKind.TheVariants.{Try, Catch}
use Rattle.path_rules.specs.Points.{Point, graph}
use Rattle.path_rules.specs.Tags.{lowest_tag}
use Rattle.function_check.specs.declared.standing.Standing.{Standing}

abbrev pub kind_of : TagKind → HandlerKind
kind_of Try = kind.Try
kind_of Catch = kind.Catch

-- the item of a tag's label, and its kind
abbrev pub handler_of : Function → Option Tag → Option (ℕ × HandlerKind)
handler_of f None = None
handler_of f (Some t) = option_map (λ item. (item, kind_of t.kind)) (label_in f t.label)

abbrev pub standing_of : Function → Point → Standing
standing_of f p = record { stack = p.stack; handler = handler_of f (lowest_tag p.tags) }

-- what a frame says of the labels of a function
abbrev pub standing_in : Function → Frame → Standing
standing_in f g = record { stack = g.stack; handler = handler_of f g.lowest }

-- for each item how every path to it stands there, and nothing where none comes
pub record AreStandings (ms : List Module) (f : Placed) (table : List (Option Standing)) : Type 0 where
  pub long : length table ≡ length f.function.items
  pub known : (n : ℕ) (p : Point) → Free (graph ms f.function) n p → p.item < length f.function.items → slice_get table p.item ≡ Some (Some (standing_of f.function p))
  pub reached : (i : ℕ) (s : Standing) → slice_get table i ≡ Some (Some s) → (n : ℕ) × (p : Point) × Free (graph ms f.function) n p × (p.item ≡ i)
