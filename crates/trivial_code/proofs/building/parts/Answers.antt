-- What is kept of the modules lets them be compiled, and what is compiled is their image.
use Rattle.std.proofs.Common.{◌≡◌, ◌<◌, ◌^◌, List, Result, Ok, Err, IfOk, ap, subst, sym, ◌∙◌, arith}
use Rattle.std.specs.List.{AllByRecursion}
use Rattle.beam_code.specs.declared.module.Module.{Module}
use Rattle.beam_profile.specs.declared.module.TheConstants.{LAST_INDEX}
use Rattle.image_format.specs.declared.parts.Parts.{Parts}
use Rattle.ir_code.proofs.Short.{short_texts_have_room}
use Rattle.ir_code.specs.Constants.{constants_of}
use Rattle.ir_code.specs.Mentions.{literals_of, mentions_of}
use Rattle.ir_code.specs.Room.{HaveRoom}
use Rattle.term_tree.specs.IsTerm.{IsTerm}
use Rattle.trivial_code.proofs.Checked.{can_be_put, compilable}
use Rattle.trivial_code.proofs.ImageLaw.{compiled_is_an_image}
use Rattle.trivial_code.proofs.Located.{within_low}
use Rattle.trivial_code.specs.Compiled.{AllCanBePut, IsCompiledImage, compiled, compiled_with}
use Rattle.trivial_code.specs.Returned.{literals_within}
use Rattle.trivial_code.proofs.building.parts.Goals as goal

pub constants-requires : goal.constants-requires
constants-requires c =
    subst HaveRoom (sym c.modules-modules.ensures)
    (short_texts_have_room LAST_INDEX c.args.checked.now c.are_in_profile.ensures.texts c.requires.texts)

pub parts_of-requires-clause-fit : goal.parts_of-requires-clause-fit
parts_of-requires-clause-fit c =
    let ms : List Module = c.args.checked.now in
    let room = short_texts_have_room LAST_INDEX ms c.are_in_profile.ensures.texts c.requires.texts in
    let terms = subst (λ (ns : List Module). AllByRecursion IsTerm (literals_of (mentions_of ns))) c.modules-modules.ensures c.in_ok-constants.ensures.terms in
    let ok = compilable ms c.are_in_profile.ensures.profile c.are_in_profile.ensures.texts c.requires.trivial c.requires.some c.requires.texts room terms in
    subst (λ (ns : List Module). AllByRecursion AllCanBePut ns) (sym c.modules-modules.ensures) (can_be_put ms ok.functions)

pub parts_of-requires-clause-room : goal.parts_of-requires-clause-room
parts_of-requires-clause-room c =
    let ms : List Module = c.args.checked.now in
    let room = short_texts_have_room LAST_INDEX ms c.are_in_profile.ensures.texts c.requires.texts in
    let terms = subst (λ (ns : List Module). AllByRecursion IsTerm (literals_of (mentions_of ns))) c.modules-modules.ensures c.in_ok-constants.ensures.terms in
    let ok = compilable ms c.are_in_profile.ensures.profile c.are_in_profile.ensures.texts c.requires.trivial c.requires.some c.requires.texts room terms in
    let low = within_low ms in
    let items = ok.items in
    subst (λ (ns : List Module). literals_within ns < 2 ^ 64) (sym c.modules-modules.ensures) (omega arith)

pub parts_of-requires-clause-few : goal.parts_of-requires-clause-few
parts_of-requires-clause-few c =
    let ms : List Module = c.args.checked.now in
    let room = short_texts_have_room LAST_INDEX ms c.are_in_profile.ensures.texts c.requires.texts in
    let terms = subst (λ (ns : List Module). AllByRecursion IsTerm (literals_of (mentions_of ns))) c.modules-modules.ensures c.in_ok-constants.ensures.terms in
    let ok = compilable ms c.are_in_profile.ensures.profile c.are_in_profile.ensures.texts c.requires.trivial c.requires.some c.requires.texts room terms in
    let few = ok.few in
    let same = c.functions.ensures in
    omega arith

image_by : {E : Type 0} (ms : List Module) (made : Parts) (r : Result Parts E) → made ≡ compiled ms → IsCompiledImage ms (compiled ms) → IfOk r (λ p. p ≡ made) → IfOk r (λ p. IsCompiledImage ms p)
image_by ms made (Ok p) same image e = subst (IsCompiledImage ms) (sym (e ∙ same)) image
image_by ms made (Err e) same image is = tt

pub returns-clause-image : goal.returns-clause-image
returns-clause-image c =
    let ms : List Module = c.args.checked.now in
    let room = short_texts_have_room LAST_INDEX ms c.are_in_profile.ensures.texts c.requires.texts in
    let terms = subst (λ (ns : List Module). AllByRecursion IsTerm (literals_of (mentions_of ns))) c.modules-modules.ensures c.in_ok-constants.ensures.terms in
    let ok = compilable ms c.are_in_profile.ensures.profile c.are_in_profile.ensures.texts c.requires.trivial c.requires.some c.requires.texts room terms in
    image_by ms _ c.parts_of.result
    (ap (λ k. compiled_with k c.modules-modules.result.now c.functions.result) c.in_ok-constants.ensures.constants
    ∙ ap (λ (ns : List Module). compiled_with (constants_of ns) ns c.functions.result) c.modules-modules.ensures
    ∙ ap (λ n. compiled_with (constants_of ms) ms n) c.functions.ensures)
    (compiled_is_an_image ms ok) c.parts_of.ensures
