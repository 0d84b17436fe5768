-- Whether the terms of a module are canonical: those of the items of its functions (docs/TEXT.md, Terms and forms).
use Rattle.std.specs.Prelude.{Bool, List}
use Rattle.std.specs.List.{list_all}
use Rattle.beam_code.specs.declared.module.Function.{Function}
use Rattle.beam_code.specs.Canonical.{are_canonical_items}

abbrev pub are_canonical_functions : List Function → Bool
are_canonical_functions functions = list_all (λ f. are_canonical_items f.items) functions
