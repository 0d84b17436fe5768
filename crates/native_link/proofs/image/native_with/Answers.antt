use Rattle.std.proofs.Common.{sym, ap, ◌∙◌, arith}
use Rattle.std.proofs.lemmas.List.{get_or_default}
use Rattle.image_format.specs.declared.parts.Native.{Native}
use Rattle.image_format.specs.Fitting.{first_turn}
use Rattle.native_link.proofs.Lookups.{natives_rise, found, not_found}
use Rattle.native_link.proofs.image.native_with.Goals as goal
use Rattle.native_link.proofs.image.native_with.Goals.{else-place-natives-via-then-place-natives+else-natives-place, else-place-natives-via-else-place-natives}

pub returns-then-natives-place : goal.returns-then-natives-place
returns-then-natives-place c =
    let ns = c.args.natives.now in
    let none : Native = record { fid = 0; first = 0; count = 0 } in
    sym (found (λ n. n.fid) 0 ns c.place_of_native-place.result none c.args.fid (natives_rise first_turn ns c.requires) c.if-place-natives.true c.if-natives-place.true)

pub returns-else-place-natives : goal.returns-else-place-natives
returns-else-place-natives c =
    let ns = c.args.natives.now in
    let none : Native = record { fid = 0; first = 0; count = 0 } in
    let place = c.place_of_native-place.result in
    sym (not_found (λ n. n.fid) 0 ns c.args.fid place (natives_rise first_turn ns c.requires) c.place_of_native-place.ensures
    (elim c.else-place-natives.branch [
      | else-place-natives-via-then-place-natives+else-natives-place w ↦ λ lt d e. w.if-natives-place.false (ap (λ (n : Native). n.fid) (get_or_default ns place none d lt) ∙ e)
      | else-place-natives-via-else-place-natives w ↦ λ lt d e. absurd (omega (arith, w.if-place-natives.false, lt))
    ]))
