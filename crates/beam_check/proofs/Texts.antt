-- Modules of their own texts: none, and one more (README.md).
use Rattle.std.proofs.Common.{ℕ, inl, inr, sym, arith, subst, List, [], ◌∷◌, ◌++◌}
use Rattle.std.proofs.lemmas.List.Elements.{Contains-push_cases}
use Rattle.beam_code.specs.declared.module.Module.{Module}
use Rattle.beam_profile.specs.Whole.{IsModuleOf}
use Rattle.beam_profile.specs.declared.module.TheConstants.{LAST_INDEX}
use Rattle.beam_check.specs.Texts.{AreOfTheirTexts}

pub none : AreOfTheirTexts []
none m c = absurd (omega (arith, c.1))

of_its_own : (text : List ℕ) (m : Module) → IsModuleOf LAST_INDEX text m → IsModuleOf LAST_INDEX m.text m
of_its_own text m of = subst (λ (t : List ℕ). IsModuleOf LAST_INDEX t m) (sym of.kept) of

pub added : (ms : List Module) (text : List ℕ) (m : Module) → AreOfTheirTexts ms → IsModuleOf LAST_INDEX text m → AreOfTheirTexts (ms ++ m ∷ [])
added ms text m are of n c =
    elim (Contains-push_cases ms m n c) [
      | inl before ↦ are n before
      | inr same ↦ subst (λ (k : Module). IsModuleOf LAST_INDEX k.text k) same (of_its_own text m of)
    ]
