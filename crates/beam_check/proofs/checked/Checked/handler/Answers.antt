use Rattle.std.proofs.Common.{◌∙◌, subst, List}
use Rattle.beam_code.specs.declared.module.Module.{Module}
use Rattle.module_check.specs.Checks.{IsAbout, IsHandlerAt}
use Rattle.beam_check.specs.Texts.{AreOfTheirTexts}
use Rattle.beam_check.proofs.Saying.{handler_of}
use Rattle.beam_check.proofs.checked.Checked.handler.Goals as goal

pub returns : goal.returns
returns c =
    handler_of c.args.self.now (subst (λ (ms : List Module). AreOfTheirTexts ms) c.self.view_is c.self.invariant.texts) c.args.fid c.args.item c.handler.result
    (subst (λ (ms : List Module). IsAbout ms c.args.fid (λ f. IsHandlerAt ms f c.args.item c.handler.result) c.handler.result) (c.as_slice.ensures ∙ c.self.view_is) c.handler.ensures)
