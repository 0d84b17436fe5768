use Rattle.std.proofs.Common.{◌≡◌, Some, sym, ap, ◌∙◌, arith}
use Rattle.image_format.specs.Fitting.{first_turn}
use Rattle.native_link.specs.Lookup.{native_of}
use Rattle.native_link.proofs.Lookups.{first_within}
use Rattle.native_link.proofs.image.Image.native_entry.Goals as goal

pub overflow_mul-result : goal.overflow_mul-result
overflow_mul-result c =
    let natives = c.self.inside.parts.natives in
    let is : native_of natives c.args.fid ≡ Some c.in_ok-native.native = sym (ap (λ l. native_of l c.args.fid) c.as_slice.ensures) ∙ sym c.native_with.ensures ∙ c.in_ok-native.was in
    omega (arith, first_within first_turn natives c.args.fid c.in_ok-native.native c.self.invariant.fitting.native_places is, c.self.invariant.fitting.code, c.self.invariant.fitting.code_of_natives)

pub overflow_add-result : goal.overflow_add-result
overflow_add-result c =
    let natives = c.self.inside.parts.natives in
    let is : native_of natives c.args.fid ≡ Some c.in_ok-native.native = sym (ap (λ l. native_of l c.args.fid) c.as_slice.ensures) ∙ sym c.native_with.ensures ∙ c.in_ok-native.was in
    omega (arith, first_within first_turn natives c.args.fid c.in_ok-native.native c.self.invariant.fitting.native_places is, c.self.invariant.fitting.code, c.self.invariant.fitting.code_of_natives)
