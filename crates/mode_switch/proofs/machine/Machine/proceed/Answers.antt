-- The atoms of an outcome that a native word comes to have names.
use Rattle.std.specs.Prelude.{slice_get}
use Rattle.mode_switch.proofs.Atoms.{word_named}
use Rattle.mode_switch.proofs.machine.Machine.proceed.Goals as goal

pub returns-in-Word-clause-atoms : goal.returns-in-Word-clause-atoms
returns-in-Word-clause-atoms c =
    word_named c.do_word.new.self.loaded.names c.args.self.now.loaded c.args.self.now.state c.do_word.new.self.state (slice_get c.args.self.now.loaded.parts.code c.in-Word.place) c.do_word.result c.do_word.ensures.stage
