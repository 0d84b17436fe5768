-- What is asked of the y registers that an item names (README.md).
use Rattle.std.specs.Prelude.{ℕ, Bool}
use Rattle.path_rules.specs.declared.named.Asked.{Asked}
use Rattle.path_rules.specs.declared.named.Asked.TheVariants.{InStack, Untagged}
use Rattle.path_rules.specs.Rules.{is_in_stack}
use Rattle.path_rules.specs.Tags.{is_untagged}

abbrev pub asked : Asked → ℕ → Bool
asked (InStack stack) y = is_in_stack stack y
asked (Untagged tags) y = is_untagged tags.now y
