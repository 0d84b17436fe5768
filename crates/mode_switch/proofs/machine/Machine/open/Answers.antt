-- The modules are those of the image's texts, the entry is that of the exported function, and the state is the first one.
use Rattle.std.proofs.Common.{length, map, subst}
use Rattle.beam_code.specs.Function.{exported_number}
use Rattle.mode_switch.proofs.Loadable.{loadable, low}
use Rattle.mode_switch.proofs.Starts.{opened_by, runnable}
use Rattle.native_link.specs.Image.{IsLinked}
use Rattle.term_tree.specs.Term.{tree_of}
use Rattle.mode_switch.proofs.machine.Machine.open.Goals as goal

pub start_of-requires-clause-loadable : goal.start_of-requires-clause-loadable
start_of-requires-clause-loadable c =
    let image : IsLinked c.args.image = subst IsLinked c.image.view_is c.image.invariant in
    loadable c.args.image.parts.texts c.args.image.modules image.profiled

pub start_of-requires-clause-low : goal.start_of-requires-clause-low
start_of-requires-clause-low c =
    let image : IsLinked c.args.image = subst IsLinked c.image.view_is c.image.invariant in
    low c.args.image.parts.texts c.args.image.modules image.profiled

pub invariant_of-result : goal.invariant_of-result
invariant_of-result c =
    let image : IsLinked c.args.image = subst IsLinked c.image.view_is c.image.invariant in
    let call = c.args.call in
    runnable c.args.image.modules c.args.image.parts c.args.limits c.args.junk.items (exported_number c.args.image.modules call.«module» call.function (length call.args)) (map tree_of call.args) c.in-Ok.start image.fitting
    (loadable c.args.image.parts.texts c.args.image.modules image.profiled)
    c.requires.limits c.requires.no_junk c.in-Ok.ensures.start

pub returns-in-Ok-clause-opened : goal.returns-in-Ok-clause-opened
returns-in-Ok-clause-opened c =
    let call = c.args.call in
    opened_by c.args.image.modules c.args.image.parts c.args.limits c.args.junk.items call.«module» call.function call.args c.in-Ok.start c.requires.limits c.requires.no_junk c.in-Ok.ensures.start
