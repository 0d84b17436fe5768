use Rattle.std.proofs.Common.{ap, ◌∙◌}
use Rattle.beam_code.specs.declared.module.Function.{Function}
use Rattle.beam_code.specs.Function.{function_at}
use Rattle.word_rows.proofs.Functions.{body_at}
use Rattle.word_rows.proofs.Standing.{stack_is}
use Rattle.word_rows.specs.Standing.{stack_at}
use Rattle.word_rows.proofs.targets.stack_of.Goals as goal

pub returns : goal.returns
returns c = λ f e.
    let ms = c.args.checked.now in
    let p = body_at (function_at ms c.args.fid) f e in
    stack_is ms c.args.fid p.0 c.args.item c.stack.result c.are_in_profile.ensures.profile p.1 (c.requires.entries c.args.fid p.0 p.1) (c.stack.ensures.is p.0 p.1)
    ∙ ap (λ (g : Function). stack_at ms g c.args.item) p.2
