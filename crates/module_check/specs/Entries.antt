-- What is kept of each function of checked modules (README.md).
use Rattle.std.specs.Prelude.{◌≡◌, ℕ, ◌<◌, ◌≤◌, ◌^◌, true, Some, List, ◌++◌, length, map, slice_get, take}
use Rattle.std.specs.List.{Contains}
use Rattle.beam_code.specs.declared.module.Module.{Module}
use Rattle.beam_code.specs.Function.{Placed, all_functions, items_in}
use Rattle.path_rules.specs.Profile.{AreFew}
use Rattle.path_rules.specs.Ranges.{all_in_range}
use Rattle.path_rules.specs.Sites.{placed_in}
use Rattle.function_check.specs.Order.{AllHold}
use Rattle.function_check.specs.Standings.{AreStandings}
use Rattle.module_check.specs.declared.entries.Entries.{Entries}
use Rattle.module_check.specs.declared.entry.Entry.{Entry}

-- where the function stands, how many items come before its own, and how its paths stand at these; it keeps all rules
pub record IsEntry (ms : List Module) (first : ℕ) (f : Placed) (e : Entry) : Type 0 where
  pub owner : slice_get ms e.owner ≡ Some f.owner
  pub place : slice_get f.owner.functions e.place ≡ Some f.function
  pub first_is : e.first_item ≡ first
  pub standings : AreStandings ms f e.standings
  pub holds : AllHold ms f

-- one for each of these functions, in order
pub record AreEntries (ms : List Module) (fs : List Placed) (es : List Entry) : Type 0 where
  pub long : length es ≡ length fs
  pub each : (k : ℕ) (f : Placed) (e : Entry) → slice_get fs k ≡ Some f → slice_get es k ≡ Some e → IsEntry ms (items_in (take k fs)) f e

-- the same, with the number of their items
pub record HasEntries (ms : List Module) (fs : List Placed) (es : Entries) : Type 0 where
  pub list : AreEntries ms fs es.list
  pub items : es.items ≡ items_in fs

-- the functions before the one at this place of the module of this number
abbrev pub before : List Module → ℕ → Module → ℕ → List Placed
before ms number owner place = all_functions (take number ms) ++ map (placed_in owner) (take place owner.functions)

-- functions as texts have them: registers in range, and an item at least
pub record AreSound (ms : List Module) : Type 0 where
  pub in_range : (f : Placed) → Contains (all_functions ms) f → all_in_range f.function ≡ true
  pub has_item : (f : Placed) → Contains (all_functions ms) f → 1 ≤ length f.function.items

-- modules that are few, whose functions may be looked at
pub record AreReady (ms : List Module) : Type 0 where
  pub few : AreFew ms
  pub items : items_in (all_functions ms) < 2 ^ 32
  pub functions : length (all_functions ms) < 2 ^ 32
  pub sound : AreSound ms
