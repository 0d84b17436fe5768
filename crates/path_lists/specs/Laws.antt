-- What is said of points by rounds is so of whole paths.
use Rattle.std.specs.Prelude.{◌≡◌, ℕ, ◌↔◌, List, ◌∷◌, map}
use Rattle.paths.specs.Rules.{Broken, Reached}
use Rattle.beam_code.specs.declared.module.Module.{Module}
use Rattle.beam_code.specs.Function.{Placed}
use Rattle.path_rules.specs.declared.rule.Rule.{Rule}
use Rattle.path_rules.specs.Points.{Point, item_of}
use Rattle.path_rules.specs.Rules.{ways}
use Rattle.path_lists.specs.Lists.{IsPath, IsBrokenBy}

-- a path of a function by the list of its items, the last first, and what it carries at its end
pub record IsPathOf (ms : List Module) (f : Placed) (rule : Rule) (n : ℕ) (items : List ℕ) (y : Point) : Type 0 where
  pub passed : List Point
  pub path : IsPath (ways ms f rule) n passed y
  pub items_are : items ≡ item_of y ∷ map item_of passed

-- the points that paths come to in at most so many moves are those where lists of items end
abbrev pub PathsAreLists : Type 0
PathsAreLists = (ms : List Module) (f : Placed) (rule : Rule) (n : ℕ) (y : Point) → Reached (ways ms f rule) n y ↔ ((items : List ℕ) × IsPathOf ms f rule n items y)

-- and a rule is broken at a point exactly where a path breaks it there, or two do together
abbrev pub RulesAreOfPaths : Type 0
RulesAreOfPaths = (ms : List Module) (f : Placed) (rule : Rule) (y : Point) → Broken (ways ms f rule) y ↔ IsBrokenBy (ways ms f rule) y
