use Rattle.std.proofs.Common.{◌≡◌, true}
use Rattle.std.specs.List.{list_all}
use Rattle.text_forms.specs.Spelling.{AreArguments}
use Rattle.text_forms.specs.Steps.{whole_arguments}
use Rattle.text_forms.proofs.Canonical.{canonical_arguments}
use Rattle.text_forms.proofs.Roots.{arguments_root}
use Rattle.term_tree.specs.Term.{is_canonical}
use Rattle.asm_text.specs.Reading.{arguments}
use Rattle.asm_text.proofs.ReadingLaws.{answered, arguments-is}
use Rattle.asm_text.proofs.reading.read_args.Goals as goal

pub returns : goal.returns
returns c =
    let text = c.args.text.now in
    let a = answered AreArguments true whole_arguments arguments_root (λ terms. list_all is_canonical terms ≡ true) canonical_arguments text c.arguments_in.result (arguments text) (arguments-is text) c.arguments_in.ensures in
    record { arguments = a.meets; written = a.written; spelled = a.spelled; refused = a.refused; canonical = a.canonical }
