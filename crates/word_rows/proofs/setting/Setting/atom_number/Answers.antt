use Rattle.std.proofs.Common.{List, ℕ, ap, ◌∙◌}
use Rattle.std.specs.Prelude.{unwrap_or}
use Rattle.tagged_words.specs.Laid.{atom_number}
use Rattle.word_laying.proofs.Numbers.{number_is}
use Rattle.word_rows.proofs.setting.Setting.atom_number.Goals as goal

pub returns-clause-number : goal.returns-clause-number
returns-clause-number c =
    let names = c.args.self.now.lookup.now.atoms in
    c.unwrap_or.ensures
    ∙ ap (λ o. unwrap_or o 0) c.number.ensures.number
    ∙ number_is names c.args.name.now
    ∙ ap (λ (table : List (List ℕ)). atom_number table c.args.name.now) c.args.self.now.found.atoms
