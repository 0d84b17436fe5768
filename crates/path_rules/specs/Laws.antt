-- What is so of the paths of every function of the profile (README.md).
use Rattle.std.specs.Prelude.{◌≡◌, ℕ, zero, suc, ◌<◌, false, List, length, slice_get}
use Rattle.std.specs.List.{Contains}
use Rattle.paths.specs.Paths.{Free, Graph}
use Rattle.beam_code.specs.declared.module.Function.{Function}
use Rattle.beam_code.specs.declared.module.Module.{Module}
use Rattle.beam_code.specs.Function.{Placed, all_functions}
use Rattle.path_rules.specs.declared.rule.Rule.{Rule}
use Rattle.path_rules.specs.Points.{Point, graph}
use Rattle.path_rules.specs.Profile.{InProfile}
use Rattle.path_rules.specs.Rules.{breaks_at}

-- n moves lead from the point x to the point y
abbrev pub Onward : {P : Type 0} → Graph P → ℕ → P → P → Type 0
Onward graph zero x y = y ≡ x
Onward {P} graph (suc n) x y = (z : P) × Onward graph n x z × Contains (graph.moves z) y

-- no path breaks a rule, and all that come to an item have one stack and the same tags there
pub record KeepsRules (ms : List Module) (f : Placed) : Type 0 where
  pub fine : (rule : Rule) (n : ℕ) (p : Point) → Free (graph ms f.function) n p → breaks_at ms f rule p (slice_get f.function.items p.item) ≡ false
  pub stack : (m n : ℕ) (p q : Point) → Free (graph ms f.function) m p → Free (graph ms f.function) n q → p.item ≡ q.item → p.stack ≡ q.stack
  pub tags : (m n : ℕ) (p q : Point) → Free (graph ms f.function) m p → Free (graph ms f.function) n q → p.item ≡ q.item → p.tags ≡ q.tags

-- no path comes to an item again, and each makes fewer moves than there are items
pub record Ends (ms : List Module) (f : Placed) : Type 0 where
  pub once : (n k : ℕ) (p q : Point) → Free (graph ms f.function) n p → Onward (graph ms f.function) (suc k) p q → p.item ≡ q.item → ⊥
  pub short : (n : ℕ) (p : Point) → Free (graph ms f.function) n p → p.item < length f.function.items → n < length f.function.items

abbrev pub PathsKeepRules : Type 0
PathsKeepRules = (ms : List Module) (f : Placed) → InProfile ms → Contains (all_functions ms) f → KeepsRules ms f

abbrev pub PathsEnd : Type 0
PathsEnd = (ms : List Module) (f : Placed) → InProfile ms → Contains (all_functions ms) f → Ends ms f

-- each path ends at an item, where calls of the function begin at one
abbrev pub PathsStay : Type 0
PathsStay = (ms : List Module) (f : Function) → f.entry < length f.items → (n : ℕ) (p : Point) → Free (graph ms f) n p → p.item < length f.items
