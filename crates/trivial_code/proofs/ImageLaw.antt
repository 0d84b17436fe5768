-- What is compiled is an image of the modules.
use Rattle.std.proofs.Common.{◌≡◌, ℕ, zero, suc, ◌+◌, ◌<◌, Some, length, slice_get, subst, arith}
use Rattle.beam_code.specs.Function.{all_functions}
use Rattle.image_format.specs.declared.parts.Native.{Native}
use Rattle.trivial_code.proofs.CompiledLaw.{compiled_is_faithful, holds_so, ready_at}
use Rattle.trivial_code.proofs.FittingLaw.{compiled_fits}
use Rattle.trivial_code.proofs.Law.{trivial_functions_have_meanings}
use Rattle.native_link.proofs.Tables.{nothing_in_vain}
use Rattle.trivial_code.specs.Compiled.{CompiledIsAnImage, compiled, native_at, natives_from}

natives_low : (from count i : ℕ) (n : Native) → slice_get (natives_from from count) i ≡ Some n → n.fid < from + count
natives_low from zero i n e = absurd cc
natives_low from (suc count) zero n e = let same : native_at from ≡ n = cc in subst (λ (m : Native). m.fid < from + suc count) same (omega arith)
natives_low from (suc count) (suc i) n e = let rest = natives_low (from + 1) count i n e in omega arith

pub compiled_is_an_image : CompiledIsAnImage
compiled_is_an_image ms ok =
    record {
      fitting = compiled_fits ms ok;
      checked = nothing_in_vain (compiled ms) ms (record {
        constants = holds_so ms ok;
        natives = λ i n e. (let low = natives_low 0 (length (all_functions ms)) i n e in omega arith);
        descriptors = λ i d e. absurd cc;
      });
      faithful = compiled_is_faithful ms ok;
      meanings = λ call fits. trivial_functions_have_meanings ms (ready_at ms ok.functions) call fits;
    }
