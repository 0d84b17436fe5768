-- The image of modules whose functions are all trivial, each of them in native form (docs/BEAM.md, Trivial functions).
use Rattle.std.specs.Prelude.{ℕ, zero, suc, ◌≡◌, ◌+◌, ◌*◌, ◌≤◌, ◌++◌, List, [], ◌∷◌, length, map, unwrap_or, Ok}
use Rattle.std.specs.List.{AllByRecursion}
use Rattle.beam_code.specs.declared.module.Function.{Function}
use Rattle.beam_code.specs.declared.module.Module.{Module}
use Rattle.beam_code.specs.declared.module.TheConstants.{MOST_TEXT_BYTES}
use Rattle.beam_code.specs.Function.{Placed, all_functions, cost_of, items_of}
use Rattle.faithful_image.specs.Faithful.{IsFaithful}
use Rattle.faithful_image.specs.Meaning.{HasMeaning}
use Rattle.mode_switch.specs.Call.{Call, IsCallOf}
use Rattle.mode_switch.specs.declared.addresses.TheConstants.{MOST_ITEMS}
use Rattle.image_format.specs.declared.limits.TheConstants.{MOST_FRAME, MOST_MODULES, MOST_NATIVES}
use Rattle.image_format.specs.declared.parts.Native.{Native}
use Rattle.image_format.specs.declared.parts.Parts.{Parts}
use Rattle.ir_code.specs.Constants.{Constants, constants_of}
use Rattle.native_link.specs.Checking.{checking}
use Rattle.ir_code.specs.Mentions.{literals_of, mentions_of}
use Rattle.ir_code.specs.Room.{HaveRoom}
use Rattle.term_tree.specs.IsTerm.{IsTerm}
use Rattle.image_format.specs.Fitting.{IsFitting, total_length}
use Rattle.trivial_code.specs.declared.trivial.Origin.{Origin}
use Rattle.trivial_code.specs.declared.trivial.Origin.TheVariants.{Argument}
use Rattle.trivial_code.specs.Image.{IsInReach, IsReady}
use Rattle.trivial_code.specs.Returned.{given_by, literals_among, literals_in}
use Rattle.trivial_code.specs.Trivial.{origin_of}
use Rattle.trivial_code.specs.declared.emitting.TheConstants.{FUNCTION_WORDS}
use Rattle.trivial_code.specs.Words.{trivial_words}

-- ---- code

-- what a function is compiled to return, where so many literal operands stand before it
abbrev pub returned_by : Function → Origin
returned_by f = unwrap_or (origin_of f) (Argument 0)

abbrev pub words_of : Constants → ℕ → Function → List ℕ
words_of c before f = trivial_words (given_by c before f.items (returned_by f)) (cost_of f)

-- the code of functions one after the other
abbrev pub code_of : Constants → ℕ → List Function → List ℕ
code_of c before [] = []
code_of c before (f ∷ fs) = words_of c before f ++ code_of c (before + literals_in f.items) fs

abbrev pub code_in : Constants → ℕ → List Module → List ℕ
code_in c before [] = []
code_in c before (m ∷ ms) = code_of c before m.functions ++ code_in c (before + literals_among m.functions) ms

-- so many native functions from a number on, whose code stands one after the other
abbrev pub native_at : ℕ → Native
native_at fid = record { fid = fid; first = FUNCTION_WORDS * fid; count = FUNCTION_WORDS }

abbrev pub natives_from : ℕ → ℕ → List Native
natives_from fid zero = []
natives_from fid (suc n) = native_at fid ∷ natives_from (fid + 1) n

-- so many numbers from a number on
abbrev pub numbers_from : ℕ → ℕ → List ℕ
numbers_from from zero = []
numbers_from from (suc n) = from ∷ numbers_from (from + 1) n

-- ---- the image

-- the parts with these constants, and so many functions
abbrev pub compiled_with : Constants → List Module → ℕ → Parts
compiled_with c ms count =
    record {
      texts = map (λ m. m.text) ms;
      atoms = c.atoms;
      literals = c.literals;
      roots = c.roots;
      natives = natives_from 0 count;
      code = code_in c 0 ms;
      descriptors = [];
    }

abbrev pub compiled : List Module → Parts
compiled ms = compiled_with (constants_of ms) ms (length (all_functions ms))

-- a function is ready to be compiled so
pub record IsCompilableFunction (p : Placed) : Type 0 where
  pub origin : Origin
  pub ready : IsReady p.function origin
  pub reach : IsInReach origin
  pub frame : cost_of p.function ≤ MOST_FRAME

-- modules that are compiled so
pub record IsCompilable (ms : List Module) : Type 0 where
  pub functions : AllByRecursion IsCompilableFunction (all_functions ms)
  pub some : 1 ≤ length ms
  pub modules : length ms ≤ MOST_MODULES
  pub few : length (all_functions ms) ≤ MOST_NATIVES
  pub items : items_of ms ≤ MOST_ITEMS
  pub texts : total_length (map (λ m. m.text) ms) ≤ MOST_TEXT_BYTES
  pub room : HaveRoom ms
  pub terms : AllByRecursion IsTerm (literals_of (mentions_of ms))

-- what is compiled meets the rules of the format, has what the modules ask for, and does what the texts say
pub record IsCompiledImage (ms : List Module) (parts : Parts) : Type 0 where
  pub fitting : IsFitting parts
  pub checked : checking parts ms ≡ Ok tt
  pub faithful : IsFaithful ms (numbers_from 0 (length (all_functions ms))) parts
  pub meanings : (call : Call) → IsCallOf ms call → HasMeaning ms call

abbrev pub CompiledIsAnImage : Type 0
CompiledIsAnImage = (ms : List Module) → IsCompilable ms → IsCompiledImage ms (compiled ms)

-- ---- what each step of the compilation asks for

-- the frame of a function has room in its entry, and its argument has a place
abbrev pub CanBePut : Function → Type 0
CanBePut f = (cost_of f ≤ MOST_FRAME) × IsInReach (returned_by f)

abbrev pub AllCanBePut : Module → Type 0
AllCanBePut m = AllByRecursion CanBePut m.functions
