use Rattle.std.proofs.Common.{◌≡◌, sym, subst, List}
use Rattle.beam_code.specs.Function.{all_functions}
use Rattle.module_check.specs.declared.entry.Entry.{Entry}
use Rattle.module_check.specs.Entries.{AreEntries}
use Rattle.module_check.proofs.Refusing.{only_memory, ready_of}
use Rattle.module_check.proofs.check.check_modules.Goals as goal

pub returns-in-Err-clause-accepts : goal.returns-in-Err-clause-accepts
returns-in-Err-clause-accepts c = only_memory c.args.modules.now c.in-Err.refusal c.in-Err.ensures.refused

pub returns-in-Err-look_at_functions-clause-accepts : goal.returns-in-Err-look_at_functions-clause-accepts
returns-in-Err-look_at_functions-clause-accepts c = only_memory c.args.modules.now c.in-Err-look_at_functions.refusal c.in-Err-look_at_functions.ensures.refused

pub returns-in-Ok-look_at_functions-clause-table : goal.returns-in-Ok-look_at_functions-clause-table
returns-in-Ok-look_at_functions-clause-table c =
    let ms = c.args.modules.now in
    record {
      entries = subst (λ (es : List Entry). AreEntries ms (all_functions ms) es) (sym c.table.ensures) c.in-Ok-look_at_functions.ensures.entries.list;
      functions = (ready_of ms c.in-Ok.ensures.few c.requires.sound).functions;
    }
