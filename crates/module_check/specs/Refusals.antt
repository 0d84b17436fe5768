-- What checking modules says (docs/BEAM.md, Rules).
use Rattle.std.specs.Prelude.{◌≡◌, ℕ, true, List, [], ◌∷◌, ◌++◌}
use Rattle.std.specs.List.{Contains}
use Rattle.beam_code.specs.declared.module.Module.{Module}
use Rattle.beam_code.specs.Function.{Placed, all_functions, is_given}
use Rattle.path_rules.specs.declared.rule.Rule.{Rule}
use Rattle.path_rules.specs.Profile.{AreDistinct, AreFew, InProfile}
use Rattle.function_check.specs.Order.{AllHold, IsFirstBroken}
use Rattle.module_check.specs.declared.refusal.CheckRefusal.{CheckRefusal}
use Rattle.module_check.specs.declared.refusal.CheckRefusal.TheVariants.{Duplicate, TooMany, Broken, Memory}

-- the first module whose name came before has this name
pub record IsDuplicate (ms : List Module) (name : List ℕ) : Type 0 where
  pub front : List Module
  pub second : Module
  pub rest : List Module
  pub all : ms ≡ front ++ second ∷ rest
  pub distinct : AreDistinct front
  pub given : is_given front second.name ≡ true
  pub name_is : second.name ≡ name

-- the names differ, and the modules or their units are too many
pub record AreTooMany (ms : List Module) : Type 0 where
  pub distinct : AreDistinct ms
  pub many : AreFew ms → ⊥

-- the first of these functions that breaks a rule, the first rule that it breaks, and the lowest item where it does
pub record AreBroken (ms : List Module) (fs : List Placed) (rule : Rule) (owner name : List ℕ) (arity item : ℕ) : Type 0 where
  pub front : List Placed
  pub f : Placed
  pub rest : List Placed
  pub all : fs ≡ front ++ f ∷ rest
  pub before : (g : Placed) → Contains front g → AllHold ms g
  pub first : IsFirstBroken ms f rule item
  pub owner_is : f.owner.name ≡ owner
  pub name_is : f.function.name ≡ name
  pub arity_is : f.function.arity ≡ arity

-- the same of modules that are told apart and few
pub record IsBroken (ms : List Module) (rule : Rule) (owner name : List ℕ) (arity item : ℕ) : Type 0 where
  pub distinct : AreDistinct ms
  pub few : AreFew ms
  pub functions : AreBroken ms (all_functions ms) rule owner name arity item

-- why modules are refused; want of memory may come at any time
abbrev pub IsRefusedBy : List Module → CheckRefusal → Type 0
IsRefusedBy ms (Duplicate name) = IsDuplicate ms name
IsRefusedBy ms TooMany = AreTooMany ms
IsRefusedBy ms (Broken rule owner name arity item) = IsBroken ms rule owner name arity item
IsRefusedBy ms (Memory e) = Unit {0}

abbrev pub IsMemory : CheckRefusal → Type 0
IsMemory (Memory e) = Unit {0}
IsMemory _ = ⊥

-- why these functions are refused
abbrev pub StopsIn : List Module → List Placed → CheckRefusal → Type 0
StopsIn ms fs (Broken rule owner name arity item) = AreBroken ms fs rule owner name arity item
StopsIn ms fs (Memory e) = Unit {0}
StopsIn ms fs _ = ⊥

-- why one function is refused
abbrev pub StopsAt : List Module → Placed → CheckRefusal → Type 0
StopsAt ms f (Broken rule owner name arity item) = IsFirstBroken ms f rule item × (f.owner.name ≡ owner) × (f.function.name ≡ name) × (f.function.arity ≡ arity)
StopsAt ms f (Memory e) = Unit {0}
StopsAt ms f _ = ⊥
