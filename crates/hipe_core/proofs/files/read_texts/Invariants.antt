use Rattle.std.proofs.Common.{length, map, string_bytes}
use Rattle.hipe_core.specs.Files.{course}
use Rattle.hipe_core.specs.Words.{others}
use Rattle.hipe_core.proofs.FilesLaw.{Going}
use Rattle.hipe_core.proofs.files.read_texts.Given as goal

abbrev pub invariant-loop-first : goal.invariant-loop-first
invariant-loop-first g l =
    Going (course (g.F.Files.told l.fn.files) (g.F.Files.told l.files)) (others (map string_bytes l.fn.words)) (others (map string_bytes l.left)) l.texts l.room

abbrev pub decreases-loop-first : goal.decreases-loop-first
decreases-loop-first g l = length l.left
