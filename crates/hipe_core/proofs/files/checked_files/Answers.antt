use Rattle.std.proofs.Common.{map, string_bytes}
use Rattle.hipe_core.specs.Words.{others}
use Rattle.hipe_core.proofs.FilesLaw.{refused_within, short_texts}
use Rattle.hipe_core.proofs.files.checked_files.Goals as goal

pub check_texts-requires : goal.check_texts-requires
check_texts-requires g c =
    rw c.as_slice.ensures (short_texts (g.F.Files.told c.args.files.now).held (others (map string_bytes c.args.words.now)) c.in_ok-texts.texts c.in_ok-texts.ensures.texts)

pub module_refused-requires : goal.module_refused-requires
module_refused-requires g c =
    refused_within (g.F.Files.told c.args.files.now).held (others (map string_bytes c.args.words.now)) c.in_ok-texts.texts c.as_slice.result.now c.in-Err-Module.field-0 c.in-Err-Module.index
    c.in-Err-Module.refusal c.in_ok-texts.ensures.texts c.as_slice.ensures c.in-Err-Module.field-0-is c.in-Err-Module.ensures.refused
