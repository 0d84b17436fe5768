-- The parts of a hand-made image meet the rules of parts.
use Rattle.std.proofs.Common.{◌≡◌, ◌+◌, ◌≤◌, ℕ, List, length, refl, arith}
use Rattle.image_format.specs.Fitting.{IsFitting}
use Rattle.beam_code.specs.declared.module.TheConstants.{MOST_TEXT_BYTES}
use Rattle.image_format.specs.declared.limits.TheConstants.{MOST_CODE}
use Rattle.hand_images.specs.Parts.{parts_of}

pub parts_fit : (text words : List ℕ) → length text ≤ MOST_TEXT_BYTES → 1 ≤ length words → length words ≤ MOST_CODE → IsFitting (parts_of text words)
parts_fit text words short some most = record {
  some_module = omega arith;
  modules = omega arith;
  text_bytes = omega arith;
  atoms = omega arith;
  distinct = (refl, (refl, (refl, (refl, (refl, (refl, (refl, (refl, (refl, (refl, (refl, (refl, (refl, (refl, (refl, (refl, tt))))))))))))))));
  literals = omega arith;
  roots = omega arith;
  natives = omega arith;
  native_places = (record { ascends = omega arith; place = refl; some = some }, tt);
  code = most;
  code_of_natives = omega arith;
  descriptors = omega arith;
  sites = tt;
}
