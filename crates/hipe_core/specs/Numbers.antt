-- The numbers of the command line (docs/COMMANDS.md).
use Rattle.std.specs.Prelude.{◌≡◌}
use Rattle.hipe_core.specs.declared.asking.TheConstants.{REDUCTIONS_DEFAULT, WORDS_DEFAULT}
use Rattle.mode_switch.specs.declared.addresses.TheConstants.{MOST_REDUCTIONS, MOST_WORDS}
use Rattle.beam_code.specs.declared.module.TheConstants.{MOST_TEXT_BYTES}
use Rattle.image_format.specs.declared.limits.TheConstants.{MOST_IMAGE_BYTES}

pub record TheNumbersAre : Type 0 where
  -- the limits of a call that names none, and the most that an option may say
  pub reductions : REDUCTIONS_DEFAULT ≡ 1000000
  pub words : WORDS_DEFAULT ≡ 1048576
  pub most_reductions : MOST_REDUCTIONS ≡ 1000000000
  pub most_words : MOST_WORDS ≡ 16777216
  -- the most bytes of files
  pub text_bytes : MOST_TEXT_BYTES ≡ 4194304
  pub image_bytes : MOST_IMAGE_BYTES ≡ 536870912
