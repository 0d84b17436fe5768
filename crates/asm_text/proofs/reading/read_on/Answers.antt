use Rattle.std.proofs.Common.{◌≡◌, ◌≤◌, ◌∷◌, arith}
use Rattle.std.proofs.lemmas.Grind.{common_steps}
use Rattle.text_tokens.specs.Tokens.{tokens}
use Rattle.text_forms.specs.Steps.{run}
use Rattle.asm_text.proofs.Advancing.{text-refused}
use Rattle.asm_text.proofs.reading.read_on.Goals as goal

pub returns-in-Err : goal.returns-in-Err
returns-in-Err c =
    let bytes : c.loop-first.rest.now ≡ c.in-Some.first.now ∷ c.in-Some.more.now = grind (arith, common_steps) in
    let none : c.loop-first.skip ≤ 0 = omega arith in
    text-refused c.loop-first.stand c.loop-first.skip c.loop-first.before c.loop-first.line c.loop-first.rest.now c.in-Some.first.now c.in-Some.more.now c.in-Err.refusal
    (run c.args.stand.now (tokens c.args.text.now)) bytes none c.in-Err.ensures c.loop-first.invariant
