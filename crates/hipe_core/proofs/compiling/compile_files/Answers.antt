use Rattle.std.proofs.Common.{map, string_bytes, sym, ◌∙◌}
use Rattle.hipe_core.proofs.CompilingLaw.{compilable, compiles_image}
use Rattle.hipe_core.proofs.compiling.compile_files.Goals as goal
use Rattle.hipe_core.specs.Files.{course}
use Rattle.hipe_core.specs.Words.{others}

pub write_image-requires : goal.write_image-requires
write_image-requires g c =
    compilable (course (g.F.Files.told c.args.files.now) (g.F.Files.told c.checked_files.new.files)) (others (map string_bytes c.args.words.now)) c.in-Ok.checked c.in-Ok.ensures.modules c.requires
    (sym c.are_trivial.ensures ∙ c.if-are_trivial.true)

pub returns-then-are_trivial-clause-ends : goal.returns-then-are_trivial-clause-ends
returns-then-are_trivial-clause-ends g c =
    compiles_image c.write_image.result (others (map string_bytes c.args.words.now)) (course (g.F.Files.told c.args.files.now) (g.F.Files.told c.checked_files.new.files))
    (g.O.Sink.seen c.args.out.now) (g.O.Sink.seen c.write_image.new.out) c.in-Ok.checked c.in-Ok.ensures.modules
    (sym c.are_trivial.ensures ∙ c.if-are_trivial.true) c.write_image.ensures
