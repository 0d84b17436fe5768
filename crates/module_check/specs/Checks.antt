-- What is asked of modules in the profile (README.md).
use Rattle.std.specs.Prelude.{◌≡◌, ℕ, ◌<◌, ◌^◌, Option, Some, None, List, length, take, option_and_then, option_map, slice_get}
use Rattle.paths.specs.Paths.{Free}
use Rattle.beam_code.specs.declared.module.HandlerKind.{HandlerKind}
use Rattle.beam_code.specs.declared.module.Module.{Module}
use Rattle.beam_code.specs.Function.{Placed, all_functions, function_at, items_in}
use Rattle.path_rules.specs.Points.{Point, graph}
use Rattle.path_rules.specs.Tags.{lowest_tag}
use Rattle.function_check.specs.declared.standing.Standing.{Standing}
use Rattle.function_check.specs.Standings.{handler_of}
use Rattle.module_check.specs.declared.table.FunctionTable.{FunctionTable}
use Rattle.module_check.specs.declared.entry.Entry.{Entry}
use Rattle.module_check.specs.Entries.{AreEntries, IsEntry}

-- what is kept of the functions of these modules
pub record IsTableOf (ms : List Module) (table : FunctionTable) : Type 0 where
  pub entries : AreEntries ms (all_functions ms) table.entries
  pub functions : length (all_functions ms) < 2 ^ 32

-- how many items the functions before one have together
abbrev pub first_of : List Module → ℕ → Option Placed → Option ℕ
first_of ms fid None = None
first_of ms fid (Some f) = Some (items_in (take fid (all_functions ms)))

-- what every path to an item of a function carries, or none comes there
pub record IsStackAt (ms : List Module) (f : Placed) (item : ℕ) (said : Option (Option ℕ)) : Type 0 where
  pub every : (n : ℕ) (p : Point) → Free (graph ms f.function) n p → p.item ≡ item → item < length f.function.items → said ≡ Some p.stack
  pub some : (stack : Option ℕ) → said ≡ Some stack → (n : ℕ) × (p : Point) × Free (graph ms f.function) n p × (p.item ≡ item)

pub record IsHandlerAt (ms : List Module) (f : Placed) (item : ℕ) (said : Option (ℕ × HandlerKind)) : Type 0 where
  pub every : (n : ℕ) (p : Point) → Free (graph ms f.function) n p → p.item ≡ item → item < length f.function.items → said ≡ handler_of f.function (lowest_tag p.tags)
  pub some : (handler : ℕ × HandlerKind) → said ≡ Some handler → (n : ℕ) × (p : Point) × Free (graph ms f.function) n p × (p.item ≡ item)

-- what is said of a function of this number, and that nothing is said where there is none
pub record IsAbout {A : Type 0} (ms : List Module) (fid : ℕ) (Is : Placed → Type 0) (said : Option A) : Type 0 where
  pub is : (f : Placed) → function_at ms fid ≡ Some f → Is f
  pub none : function_at ms fid ≡ None → said ≡ None

-- what a table says of an item
abbrev pub standing_in : List (Option Standing) → ℕ → Option Standing
standing_in table item = option_and_then (λ s. s) (slice_get table item)

-- what is kept of the function of this number
pub record IsEntryAt (ms : List Module) (fid : ℕ) (e : Entry) : Type 0 where
  pub f : Placed
  pub is : function_at ms fid ≡ Some f
  pub entry : IsEntry ms (items_in (take fid (all_functions ms))) f e
