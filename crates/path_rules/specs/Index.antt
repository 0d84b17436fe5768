-- How functions of modules are looked up by name (README.md).
use Rattle.std.specs.Prelude.{◌≡◌, ℕ, Bool, false, ◌&&◌, Option, Some, None, List, length, nat_eq, slice_get}
use Rattle.std.specs.List.{list_any}
use Rattle.indexmap.specs.IndexMap.{get}
use Rattle.indexmap.specs.IndexSet.{contains}
use Rattle.beam_code.specs.declared.instr.Instr.{Instr}
use Rattle.beam_code.specs.declared.instr.Instr.TheVariants.{Label}
use Rattle.beam_code.specs.Lined.{Lined}
use Rattle.beam_code.specs.declared.module.Function.{Function}
use Rattle.beam_code.specs.declared.module.Module.{Module}
use Rattle.beam_code.specs.Function.{first_that, same_name}
use Rattle.path_rules.specs.declared.index.Index.{Index}
use Rattle.path_rules.specs.declared.index.Table.{Table}

abbrev pub Key : Type 0
Key = List ℕ × ℕ

abbrev pub same_key : Key → Key → Bool
same_key a b = same_name a.0 b.0 && nat_eq a.1 b.1

-- whether a module has this name
abbrev pub is_called : List ℕ → Module → Bool
is_called name m = same_name m.name name

abbrev pub key_of : Function → Key
key_of f = (f.name, f.arity)

-- whether a function has this key
abbrev pub has_key : Key → Function → Bool
has_key key f = same_key (key_of f) key

-- the label where the calls of a function begin
abbrev pub label_of : Instr → Option ℕ
label_of (Label n) = Some n
label_of _ = None

abbrev pub label_at : Option Lined → Option ℕ
label_at None = None
label_at (Some i) = label_of i.instr

abbrev pub entry_label : Function → Option ℕ
entry_label f = label_at (slice_get f.items f.entry)

-- a label and an arity
abbrev pub same_target : ℕ × ℕ → ℕ × ℕ → Bool
same_target a b = nat_eq a.0 b.0 && nat_eq a.1 b.1

abbrev pub begins : ℕ × ℕ → ℕ → Option ℕ → Bool
begins target arity None = false
begins target arity (Some label) = same_target (label, arity) target

abbrev pub begins_at : ℕ × ℕ → Function → Bool
begins_at target f = begins target f.arity (entry_label f)

-- whether a module exports a function of this key and has it
abbrev pub defines : Key → Module → Bool
defines key m = list_any (λ e. same_key e key) m.exports && list_any (has_key key) m.functions

-- what a module exports and has, and where calls of its functions begin
pub record IsTableOf (m : Module) (table : Table) : Type 0 where
  pub exports : (key : Key) → contains same_key table.exports key ≡ list_any (λ e. same_key e key) m.exports
  pub functions : (key : Key) → contains same_key table.functions key ≡ list_any (has_key key) m.functions
  pub targets : (target : ℕ × ℕ) → contains same_target table.targets target ≡ list_any (begins_at target) m.functions

-- a table of each module
pub record AreTables (ms : List Module) (tables : List Table) : Type 0 where
  pub long : length tables ≡ length ms
  pub each : (k : ℕ) (m : Module) (table : Table) → slice_get ms k ≡ Some m → slice_get tables k ≡ Some table → IsTableOf m table

-- the first module of each name, and the tables
pub record IsIndexOf (ms : List Module) (index : Index) : Type 0 where
  pub numbers : (name : List ℕ) → get same_name index.numbers name ≡ first_that (is_called name) 0 ms
  pub tables : AreTables ms index.tables
