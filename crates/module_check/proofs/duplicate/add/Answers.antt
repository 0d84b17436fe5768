use Rattle.std.proofs.Common.{◌≡◌, ℕ, false, ap, ◌∙◌, List, [], ◌∷◌, ◌++◌}
use Rattle.std.specs.Prelude.{if◌then◌else◌}
use Rattle.std.specs.List.{list_any}
use Rattle.indexmap.specs.IndexSet.{insert_key, keys}
use Rattle.beam_code.specs.Function.{same_name}
use Rattle.module_check.proofs.duplicate.add.Goals as goal

pushed : (names : List (List ℕ)) (n : List ℕ) → list_any (same_name n) names ≡ false → insert_key same_name names n ≡ names ++ n ∷ []
pushed names n none = ap (λ b. if b then names else names ++ n ∷ []) none

pub returns : goal.returns
returns c =
    c.in_ok-insert.ensures.keys
    ∙ (ap (λ n. insert_key same_name (keys c.args.names.now) n) c.in_ok-name.ensures ∙ pushed (keys c.args.names.now) c.args.name.now c.requires)
