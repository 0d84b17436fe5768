use Rattle.std.proofs.Common.{◌≡◌, sym, subst, List}
use Rattle.beam_code.specs.declared.module.Module.{Module}
use Rattle.beam_check.specs.Texts.{AreOfTheirTexts}
use Rattle.beam_check.proofs.Texts.{added}
use Rattle.check_tests.proofs.checks.Modules.add.Goals as goal

pub invariant_of-self-2 : goal.invariant_of-self-2
invariant_of-self-2 c =
    subst (λ (ms : List Module). AreOfTheirTexts ms) (sym c.in_ok-push.ensures.ok) (added _ _ c.in_ok-module.module c.self.invariant c.in_ok-module.ensures.written)
