use Rattle.std.proofs.Common.{map, string_bytes}
use Rattle.hipe_core.proofs.AnswerLaw.{answer_is}
use Rattle.hipe_core.proofs.commands.command.Goals as goal
use Rattle.hipe_core.specs.Answer.{case}
use Rattle.hipe_core.specs.Command.{effects}
use Rattle.hipe_core.specs.Files.{course}
use Rattle.hipe_core.specs.Words.{asked}

pub returns : goal.returns
returns g c =
    answer_is
    (case (asked (map string_bytes c.args.words.now))
    (effects (course (g.F.Files.told c.args.files.now) (g.F.Files.told c.end-ending.new.files)) (g.O.Sink.seen c.args.out.now) (g.O.Sink.seen c.end-ending.new.out))
    (g.E.Sink.seen c.args.err.now)
    (g.E.Sink.seen c.finish.new.err))
    c.end-ending.result c.finish.result c.end-ending.ensures.ends c.finish.ensures c.end-ending.ensures.quiet
