-- What is asked of the items of checked functions (README.md).
use Rattle.std.specs.Prelude.{◌≡◌, ℕ, List, Option, Some}
use Rattle.paths.specs.Paths.{Free}
use Rattle.beam_code.specs.declared.module.HandlerKind.{HandlerKind}
use Rattle.beam_code.specs.declared.module.Module.{Module}
use Rattle.beam_code.specs.Function.{Placed}
use Rattle.path_rules.specs.Points.{Point, graph}
use Rattle.path_rules.specs.Tags.{lowest_tag}
use Rattle.function_check.specs.Standings.{handler_of}

-- the stack that every path carries to an item, or nothing where none comes there
pub record IsStackOf (ms : List Module) (f : Placed) (item : ℕ) (said : Option (Option ℕ)) : Type 0 where
  pub every : (n : ℕ) (p : Point) → Free (graph ms f.function) n p → p.item ≡ item → said ≡ Some p.stack
  pub some : (stack : Option ℕ) → said ≡ Some stack → (n : ℕ) × (p : Point) × Free (graph ms f.function) n p × (p.item ≡ item)

-- the same of the item and the kind of the label of the lowest tag, or nothing where there is no tag
pub record IsHandlerOf (ms : List Module) (f : Placed) (item : ℕ) (said : Option (ℕ × HandlerKind)) : Type 0 where
  pub every : (n : ℕ) (p : Point) → Free (graph ms f.function) n p → p.item ≡ item → said ≡ handler_of f.function (lowest_tag p.tags)
  pub some : (handler : ℕ × HandlerKind) → said ≡ Some handler → (n : ℕ) × (p : Point) × Free (graph ms f.function) n p × (p.item ≡ item)
