use Rattle.std.proofs.Common.{◌≡◌, true, false}
use Rattle.std.specs.List.{list_all}
use Rattle.text_forms.specs.Spelling.{AreForms}
use Rattle.text_forms.specs.Steps.{whole_forms}
use Rattle.text_forms.proofs.Canonical.{canonical_forms}
use Rattle.text_forms.proofs.Roots.{forms_root}
use Rattle.asm_text.specs.Canonical.{has_canonical}
use Rattle.asm_text.specs.Reading.{reading}
use Rattle.asm_text.proofs.ReadingLaws.{answered, reading-is}
use Rattle.asm_text.proofs.reading.read_forms.Goals as goal

pub returns : goal.returns
returns c =
    let text = c.args.text.now in
    let a = answered AreForms false whole_forms forms_root (λ forms. list_all has_canonical forms ≡ true) canonical_forms text c.forms_in.result (reading text) (reading-is text) c.forms_in.ensures in
    record { forms = a.meets; written = a.written; spelled = a.spelled; refused = a.refused; canonical = a.canonical }
