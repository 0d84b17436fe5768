-- Modules of their own texts (README.md).
use Rattle.std.specs.Prelude.{List}
use Rattle.std.specs.List.{Contains}
use Rattle.beam_code.specs.declared.module.Module.{Module}
use Rattle.beam_profile.specs.Whole.{IsModuleOf}
use Rattle.beam_profile.specs.declared.module.TheConstants.{LAST_INDEX}

-- each module is that of its own text
abbrev pub AreOfTheirTexts : List Module → Type 0
AreOfTheirTexts ms = (m : Module) → Contains ms m → IsModuleOf LAST_INDEX m.text m
