-- A module has at most as many items as its text has bytes.
use Rattle.std.proofs.Common.{◌≡◌, ℕ, ◌≤◌, List, [], ◌∷◌, ◌++◌, length, ap, arith, length-append}
use Rattle.text_forms.specs.declared.form.Form.{Form}
use Rattle.text_forms.specs.declared.refusal.TextRefusal.{TextRefusal}
use Rattle.asm_text.specs.Reading.{reading}
use Rattle.text_forms.specs.Refusals.{Meets as Reads}
use Rattle.asm_text.proofs.FewForms.{forms_few}
use Rattle.beam_code.specs.declared.item.Item.{Item}
use Rattle.beam_code.specs.declared.module.Function.{Function}
use Rattle.beam_code.specs.declared.module.Module.{Module}
use Rattle.std.specs.Prelude.{Result, Ok, Err, IfOk}
use Rattle.beam_profile.specs.declared.refusal.ModuleRefusal.{ModuleRefusal}
use Rattle.beam_profile.specs.Header.{Key}
use Rattle.beam_profile.specs.Forms.{AreItems, AreFunctions, key_of_function}
use Rattle.beam_profile.specs.Sizes.{item_count}
use Rattle.beam_profile.specs.Whole.{IsModuleOf}

one_each : (last : ℕ) (fs : List Form) (xs : List Item) → AreItems last fs xs → length xs ≤ length fs
one_each last [] [] are = omega arith
one_each last (f ∷ fs) [] are = absurd are
one_each last [] (x ∷ xs) are = absurd are
one_each last (f ∷ fs) (x ∷ xs) are = let n = one_each last fs xs are.1 in omega (arith, n)

all_items : (last : ℕ) (owner : List ℕ) (seen : List Key) (fs : List Form) (gs : List Function) → AreFunctions last owner seen fs gs → item_count gs ≤ length fs
all_items last owner seen fs [] are = omega arith
all_items last owner seen fs (g ∷ gs) are =
    let is = are.1 in
    let n = one_each last is.lines g.items is.items in
    let m = all_items last owner (seen ++ key_of_function g ∷ []) are.0 gs are.2 in
    let whole : length fs ≡ length (is.first ∷ (is.lines ++ are.0)) = ap (λ zs. length zs) is.spelled in
    omega (arith, n, m, whole, length-append is.lines are.0)

pub few_items : (last : ℕ) (text : List ℕ) (m : Module) → IsModuleOf last text m → item_count m.functions ≤ length text
few_items last text m p =
    let is = p.is in
    let n = all_items last m.name [] is.rest m.functions is.functions_are in
    let whole : length p.forms ≡ length (is.a ∷ is.b ∷ is.c ∷ is.d ∷ is.rest) = ap (λ zs. length zs) is.spelled in
    omega (arith, n, whole, forms_few text p.forms p.read)

pub few_is : (last : ℕ) (text : List ℕ) (r : Result Module ModuleRefusal) → IfOk r (λ m. IsModuleOf last text m) → IfOk r (λ m. item_count m.functions ≤ length text)
few_is last text (Ok m) p = few_items last text m p
few_is last text (Err refusal) p = tt

-- and at most as many forms
pub few_of : (text : List ℕ) (r : Result (List Form) TextRefusal) → Reads r (reading text) → IfOk r (λ forms. length forms ≤ length text)
few_of text (Ok forms) e = forms_few text forms e
few_of text (Err refusal) e = tt
