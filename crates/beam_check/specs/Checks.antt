-- What checked modules keep (README.md).
use Rattle.std.specs.Prelude.{List}
use Rattle.beam_code.specs.declared.module.Module.{Module}
use Rattle.path_rules.specs.Profile.{InProfile}
use Rattle.function_numbers.specs.declared.numbers.FunctionNumbers.{FunctionNumbers}
use Rattle.function_numbers.specs.Numbers.{AreNumbersOf}
use Rattle.module_check.specs.declared.table.FunctionTable.{FunctionTable}
use Rattle.module_check.specs.Checks.{IsTableOf}
use Rattle.beam_check.specs.Texts.{AreOfTheirTexts}

-- modules in the profile, each that of its own text, with what is kept of their functions
pub record AreChecked (ms : List Module) (table : FunctionTable) (numbers : FunctionNumbers) : Type 0 where
  pub texts : AreOfTheirTexts ms
  pub profile : InProfile ms
  pub table_is : IsTableOf ms table
  pub numbers_are : AreNumbersOf ms numbers
