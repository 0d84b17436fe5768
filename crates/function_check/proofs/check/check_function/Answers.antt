use Rattle.std.proofs.Common.{◌≡◌, List, Option, sym, ap, ◌∙◌, subst, map}
use Rattle.path_rules.specs.declared.frame_table.Frame.{Frame}
use Rattle.function_check.specs.declared.standing.Standing.{Standing}
use Rattle.function_check.specs.Standings.{AreStandings}
use Rattle.function_check.specs.Subjects.{placed}
use Rattle.function_check.proofs.Tables.{looked_up, standings_of}
use Rattle.function_check.proofs.check.check_function.Goals as goal

pub returns-in-Ok-clause-standings : goal.returns-in-Ok-clause-standings
returns-in-Ok-clause-standings c =
    let s = c.args.of.now in
    let frames = c.in_ok-frames.ensures.frames in
    let is = c.in-Ok.ensures s.modules.now (placed s) s.prepared in
    subst (λ (table : List (Option Standing)). AreStandings s.modules.now (placed s) table) (sym is)
    (subst (λ (fs : List (Option Frame)). AreStandings s.modules.now (placed s) (map (looked_up s.modules.now (placed s) c.in_ok-frames.frames frames) fs)) (sym c.as_slice-5.ensures) (standings_of s.modules.now (placed s) c.in_ok-frames.frames frames))
