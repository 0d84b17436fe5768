-- Images of trivial functions, and their laws (docs/BEAM.md, Trivial functions).
use Rattle.std.specs.Prelude.{ℕ, ◌≡◌, ◌+◌, ◌<◌, ◌≤◌, true, List, length, map, drop, take, nat_lt, Some, slice_get}
use Rattle.std.specs.List.{AllByRecursion}
use Rattle.beam_check.specs.Texts.{AreOfTheirTexts}
use Rattle.beam_code.specs.declared.module.Function.{Function}
use Rattle.beam_code.specs.declared.module.Module.{Module}
use Rattle.beam_code.specs.Function.{Placed, all_functions, function_at, items_of, cost_of}
use Rattle.faithful_image.specs.Faithful.{IsFaithful}
use Rattle.faithful_image.specs.Meaning.{HasMeaning}
use Rattle.image_format.specs.Fitting.{IsWord}
use Rattle.ir_code.specs.Constants.{ConstantsHold}
use Rattle.mode_switch.specs.Call.{Call, IsCallOf}
use Rattle.mode_switch.specs.declared.addresses.TheConstants.{MOST_ITEMS, X_WORDS}
use Rattle.image_format.specs.declared.parts.Native.{Native}
use Rattle.native_link.specs.Checking.{constants_in}
use Rattle.native_link.specs.Lookup.{native_of}
use Rattle.image_format.specs.declared.limits.TheConstants.{MOST_FRAME, MOST_CODE}
use Rattle.image_format.specs.declared.parts.Parts.{Parts}
use Rattle.path_rules.specs.Profile.{InProfile}
use Rattle.trivial_code.specs.declared.trivial.Origin.{Origin}
use Rattle.trivial_code.specs.declared.trivial.Origin.TheVariants.{Argument, Moved}
use Rattle.trivial_code.specs.Returned.{given_by, literals_among}
use Rattle.trivial_code.specs.Trivial.{are_trivial, origin_of, reads_well}
use Rattle.trivial_code.specs.Words.{trivial_words}

-- a trivial function that reads no register but its arguments, and x0 behind a move
pub record IsReady (f : Function) (origin : Origin) : Type 0 where
  pub is : origin_of f ≡ Some origin
  pub reads : reads_well f.arity (nat_lt 0 f.arity) (drop (f.entry + 1) f.items) ≡ true

-- each function of the modules is one
abbrev pub AreReady : List Module → Type 0
AreReady ms = (fid : ℕ) (p : Placed) → function_at ms fid ≡ Some p → (origin : Origin) × IsReady p.function origin

-- in the profile a path defines each register before it is read, so functions that are trivial are ready
abbrev pub TrivialFunctionsAreReady : Type 0
TrivialFunctionsAreReady = (ms : List Module) → InProfile ms → AreOfTheirTexts ms → are_trivial ms ≡ true → AreReady ms

-- the code words of a function stand at its native entry
pub record IsPlaced (parts : Parts) (fid : ℕ) (words : List ℕ) : Type 0 where
  pub native : Native
  pub found : native_of parts.natives fid ≡ Some native
  pub stands : (j : ℕ) (w : ℕ) → slice_get words j ≡ Some w → slice_get parts.code (native.first + j) ≡ Some w

-- the x area has what is returned, where it is no constant
abbrev pub IsInReach : Origin → Type 0
IsInReach (Argument n) = n < X_WORDS
IsInReach (Moved at) = Unit {0}

-- a function before which so many literal operands stand is trivial, and in native form
pub record IsTrivialFunction (parts : Parts) (before fid : ℕ) (f : Function) : Type 0 where
  pub origin : Origin
  pub ready : IsReady f origin
  pub reach : IsInReach origin
  pub frame : cost_of f ≤ MOST_FRAME
  pub placed : IsPlaced parts fid (trivial_words (given_by (constants_in parts) before f.items origin) (cost_of f))

-- the literal operands of the functions before one
abbrev pub literals_before : List Module → ℕ → ℕ
literals_before ms fid = literals_among (take fid (map (λ p. p.function) (all_functions ms)))

-- the atoms, literals and roots hold for the modules, and each function is trivial, and in native form
pub record IsTrivialImage (ms : List Module) (parts : Parts) : Type 0 where
  pub texts : parts.texts ≡ map (λ m. m.text) ms
  pub constants : ConstantsHold (constants_in parts) ms
  pub roots : AllByRecursion IsWord parts.roots
  pub functions : (fid : ℕ) (p : Placed) → function_at ms fid ≡ Some p → IsTrivialFunction parts (literals_before ms fid) fid p.function
  pub items : items_of ms ≤ MOST_ITEMS
  pub code : length parts.code ≤ MOST_CODE

-- such an image does what its texts say, in all its functions natively
abbrev pub TrivialFunctionsAreFaithful : Type 0
TrivialFunctionsAreFaithful = (ms : List Module) (parts : Parts) → IsTrivialImage ms parts → IsFaithful ms (map (λ n. n.fid) parts.natives) parts

-- where each function is trivial, each call has a meaning
abbrev pub TrivialFunctionsHaveMeanings : Type 0
TrivialFunctionsHaveMeanings = (ms : List Module) → AreReady ms → (call : Call) → IsCallOf ms call → HasMeaning ms call
