use Rattle.std.proofs.Common.{◌≡◌, ℕ, ap, ◌∙◌, subst, arith, List, Option, Some, None}
use Rattle.beam_code.specs.declared.module.Module.{Module}
use Rattle.module_check.specs.Checks.{IsAbout, IsStackAt}
use Rattle.beam_check.specs.Carried.{IsStackOf}
use Rattle.beam_check.specs.Texts.{AreOfTheirTexts}
use Rattle.beam_check.proofs.Saying.{small, stack_of}
use Rattle.beam_check.proofs.checked.Checked.stack.Goals as goal

-- what the table says of the modules
moved : (ms ns : List Module) (fid item : ℕ) (said : Option (Option ℕ)) → ms ≡ ns → IsAbout ms fid (λ f. IsStackAt ms f item said) said → IsAbout ns fid (λ f. IsStackAt ns f item said) said
moved ms ns fid item said e a = subst (λ (ls : List Module). IsAbout ls fid (λ f. IsStackAt ls f item said) said) e a

said_is : (ms : List Module) (texts : AreOfTheirTexts ms) (fid item : ℕ) (said told : Option (Option ℕ)) → said ≡ told → IsAbout ms fid (λ f. IsStackAt ms f item said) said → IsAbout ms fid (λ f. IsStackOf ms f item told) told
said_is ms texts fid item said told e a = subst (λ (o : Option (Option ℕ)). IsAbout ms fid (λ f. IsStackOf ms f item o) o) e (stack_of ms texts fid item said a)

pub overflow_cast-result : goal.overflow_cast-result
overflow_cast-result c =
    let a = moved c.as_slice.result.now c.args.self.now c.args.fid c.args.item c.stack.result (c.as_slice.ensures ∙ c.self.view_is) c.stack.ensures in
    let is : c.stack.result ≡ Some (Some c.in-Some-Some.size) = c.in-Some-Some.is ∙ ap (λ o. Some o) c.in-Some-Some.field-0-is in
    let low = small c.args.self.now (subst (λ (ms : List Module). AreOfTheirTexts ms) c.self.view_is c.self.invariant.texts) c.args.fid c.args.item c.stack.result c.in-Some-Some.size a is in
    omega arith

pub returns-in-None : goal.returns-in-None
returns-in-None c =
    said_is c.args.self.now (subst (λ (ms : List Module). AreOfTheirTexts ms) c.self.view_is c.self.invariant.texts) c.args.fid c.args.item c.stack.result None c.in-None.is
    (moved c.as_slice.result.now c.args.self.now c.args.fid c.args.item c.stack.result (c.as_slice.ensures ∙ c.self.view_is) c.stack.ensures)

pub returns-in-Some-None : goal.returns-in-Some-None
returns-in-Some-None c =
    said_is c.args.self.now (subst (λ (ms : List Module). AreOfTheirTexts ms) c.self.view_is c.self.invariant.texts) c.args.fid c.args.item c.stack.result (Some None) (c.in-Some-None.is ∙ ap (λ o. Some o) c.in-Some-None.field-0-is)
    (moved c.as_slice.result.now c.args.self.now c.args.fid c.args.item c.stack.result (c.as_slice.ensures ∙ c.self.view_is) c.stack.ensures)

pub returns-in-Some-Some : goal.returns-in-Some-Some
returns-in-Some-Some c =
    said_is c.args.self.now (subst (λ (ms : List Module). AreOfTheirTexts ms) c.self.view_is c.self.invariant.texts) c.args.fid c.args.item c.stack.result (Some (Some c.in-Some-Some.size)) (c.in-Some-Some.is ∙ ap (λ o. Some o) c.in-Some-Some.field-0-is)
    (moved c.as_slice.result.now c.args.self.now c.args.fid c.args.item c.stack.result (c.as_slice.ensures ∙ c.self.view_is) c.stack.ensures)
