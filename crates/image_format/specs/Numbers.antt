-- The numbers of the format (docs/FORMAT.md).
use Rattle.std.specs.Prelude.{◌≡◌}
use Rattle.term_tree.specs.declared.name.TheConstants.{MOST_CHARACTERS}
use Rattle.beam_code.specs.declared.module.TheConstants.{MOST_TEXT_BYTES}
use Rattle.image_format.specs.declared.limits.TheConstants.{MAGIC, VERSION, MOST_MODULES, MOST_ATOMS, MOST_LITERALS, MOST_NATIVES, MOST_CODE, MOST_DESCRIPTORS, MOST_FRAME, MOST_IMAGE_BYTES, ITEM_START, CODE_START}

pub record TheNumbersAre : Type 0 where
  pub magic : MAGIC ≡ 0x48495045
  pub version : VERSION ≡ 1
  -- the most of each count
  pub modules : MOST_MODULES ≡ 16384
  pub text_bytes : MOST_TEXT_BYTES ≡ 4194304
  pub atoms : MOST_ATOMS ≡ 33554432
  pub literals : MOST_LITERALS ≡ 33554432
  pub natives : MOST_NATIVES ≡ 262144
  pub code : MOST_CODE ≡ 16777216
  pub descriptors : MOST_DESCRIPTORS ≡ 1048576
  pub frame : MOST_FRAME ≡ 513
  pub characters : MOST_CHARACTERS ≡ 255
  pub image_bytes : MOST_IMAGE_BYTES ≡ 536870912
  pub item_start : ITEM_START ≡ 0x02000000
  pub code_start : CODE_START ≡ 0x04000000
