-- The limits of the profile, as users read them.
use Rattle.std.specs.Prelude.{◌≡◌}
use Rattle.path_rules.specs.declared.limits.TheConstants.{MOST_MODULES, MOST_FUNCTION_UNITS, MOST_UNITS}

pub record TheNumbersAre : Type 0 where
  pub modules : MOST_MODULES ≡ 16384
  pub function_units : MOST_FUNCTION_UNITS ≡ 16384
  pub units : MOST_UNITS ≡ 262144
