-- Modules of their texts are as texts have them.
use Rattle.std.proofs.Common.{◌≡◌, inl, inr, refl, arith, subst, List, [], ◌∷◌, map}
use Rattle.std.specs.List.{Contains}
use Rattle.std.proofs.lemmas.List.Elements.{Contains-append_cases}
use Rattle.paths.proofs.Tests.{here, later, Contains-from_map}
use Rattle.beam_code.specs.declared.module.Function.{Function}
use Rattle.beam_code.specs.declared.module.Module.{Module}
use Rattle.beam_code.specs.Function.{Placed, all_functions}
use Rattle.path_rules.specs.Sites.{placed_in}
use Rattle.form_ranges.specs.Ranges.{IsRead}
use Rattle.form_ranges.proofs.Texts.{functions_read}
use Rattle.module_check.specs.Entries.{AreSound}
use Rattle.beam_check.specs.Texts.{AreOfTheirTexts}

-- where a function of modules stands
in_some : (ms : List Module) (f : Placed) → Contains (all_functions ms) f → (m : Module) × Contains ms m × (g : Function) × Contains m.functions g × (placed_in m g ≡ f)
in_some [] f c = absurd (omega (arith, c.1))
in_some (m ∷ ms) f c =
    elim (Contains-append_cases (map (placed_in m) m.functions) (all_functions ms) f c) [
      | inl own ↦ (let g = Contains-from_map (placed_in m) m.functions f own in (m, here m ms m refl, g.0, g.1, g.2))
      | inr rest ↦ (let r = in_some ms f rest in (r.0, later m ms r.0 r.1, r.2, r.3, r.4))
    ]

pub read : (ms : List Module) → AreOfTheirTexts ms → (f : Placed) → Contains (all_functions ms) f → IsRead f.function
read ms texts f c =
    let at = in_some ms f c in
    subst (λ (p : Placed). IsRead p.function) at.4 (functions_read at.0.text at.0 (texts at.0 at.1) at.2 at.3)

pub sound : (ms : List Module) → AreOfTheirTexts ms → AreSound ms
sound ms texts = record { in_range = λ f c. (read ms texts f c).range; has_item = λ f c. (let entry = (read ms texts f c).entry in omega arith) }
