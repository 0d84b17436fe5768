use Rattle.std.proofs.Common.{◌≡◌, ◌∷◌, arith, map, string_bytes}
use Rattle.std.proofs.lemmas.Grind.{common_steps}
use Rattle.hipe_core.specs.Words.{others}
use Rattle.hipe_core.proofs.FilesLaw.{goes_on, stops}
use Rattle.hipe_core.proofs.files.read_texts.Goals as goal

pub returns-in-Err-clause-texts : goal.returns-in-Err-clause-texts
returns-in-Err-clause-texts g c =
    let next : others (map string_bytes c.loop-first.left.now) ≡ c.as_str-file.result.now ∷ others (map string_bytes c.in-Some.more.now) = grind (arith, common_steps) in
    stops (g.F.Files.told c.args.files.now) (g.F.Files.told c.loop-first.files) (g.F.Files.told c.add_text.new.files) (others (map string_bytes c.args.words.now))
    (others (map string_bytes c.loop-first.left.now)) (others (map string_bytes c.in-Some.more.now)) c.loop-first.texts c.as_str-file.result.now c.loop-first.room c.in-Err.ending next
    c.loop-first.invariant c.in-Err.ensures.text

pub loop-first-preserved-in-Ok : goal.loop-first-preserved-in-Ok
loop-first-preserved-in-Ok g c =
    let next : others (map string_bytes c.loop-first.left.now) ≡ c.as_str-file.result.now ∷ others (map string_bytes c.in-Some.more.now) = grind (arith, common_steps) in
    goes_on (g.F.Files.told c.args.files.now) (g.F.Files.told c.loop-first.files) (g.F.Files.told c.add_text.new.files) (others (map string_bytes c.args.words.now))
    (others (map string_bytes c.loop-first.left.now)) (others (map string_bytes c.in-Some.more.now)) c.loop-first.texts c.add_text.new.texts c.as_str-file.result.now c.loop-first.room c.in-Ok.rest
    next c.loop-first.invariant c.in-Ok.ensures.text c.add_text.ensures.quiet
