-- What is written for modules (docs/COMMANDS.md, compile).
use Rattle.std.specs.Prelude.{ℕ, ◌≡◌, ◌≤◌, true, List, length, map}
use Rattle.beam_code.specs.declared.module.Module.{Module}
use Rattle.beam_code.specs.declared.module.TheConstants.{MOST_TEXT_BYTES}
use Rattle.image_format.specs.Fitting.{IsSized, total_length}
use Rattle.image_format.specs.Spelling.{spelling}
use Rattle.trivial_code.specs.Compiled.{IsCompiledImage, compiled}
use Rattle.trivial_code.specs.Trivial.{are_trivial}

-- the bytes are an image of these modules, in which all functions are native and there is no literal and no descriptor;
-- it meets the rules of the format and does what its texts say, and each call that fits has a meaning
pub record IsImageOf (ms : List Module) (bytes : List ℕ) : Type 0 where
  pub spelled : bytes ≡ spelling (compiled ms)
  pub sized : IsSized (compiled ms)
  pub is : IsCompiledImage ms (compiled ms)

-- there is a module, each function is trivial, and the texts are no longer together than the limit
pub record IsCompilable (ms : List Module) : Type 0 where
  pub some : 1 ≤ length ms
  pub trivial : are_trivial ms ≡ true
  pub texts : total_length (map (λ m. m.text) ms) ≤ MOST_TEXT_BYTES
