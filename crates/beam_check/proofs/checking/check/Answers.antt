use Rattle.std.proofs.Common.{sym, subst, List}
use Rattle.beam_code.specs.declared.module.Module.{Module}
use Rattle.module_check.specs.Entries.{AreSound}
use Rattle.beam_check.proofs.Sound.{sound}
use Rattle.beam_check.proofs.checking.check.Goals as goal

pub check_modules-requires : goal.check_modules-requires
check_modules-requires c = record { sound = subst (λ (ms : List Module). AreSound ms) (sym c.as_slice.ensures) (sound c.args.modules c.requires.texts) }
