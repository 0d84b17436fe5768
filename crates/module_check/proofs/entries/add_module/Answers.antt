use Rattle.std.proofs.Common.{◌≡◌, ℕ, sym, ap, ◌∙◌, subst, arith, List, length}
use Rattle.beam_code.specs.Function.{Placed}
use Rattle.module_check.specs.Entries.{HasEntries, before}
use Rattle.module_check.proofs.Placing.{all_before, none_before}
use Rattle.module_check.proofs.entries.add_module.Goals as goal

pub loop-place-init : goal.loop-place-init
loop-place-init c =
    subst (λ (fs : List Placed). HasEntries c.args.given.now.modules.now fs c.args.entries.now) (sym (none_before c.args.given.now.modules.now c.args.number c.args.owner.now c.requires.owner)) c.requires.entries

pub returns-clause-entries : goal.returns-clause-entries
returns-clause-entries c =
    let ms = c.args.given.now.modules.now in
    let m = c.args.owner.now in
    let low = c.loop-place.auto.place-end in
    let high = c.loop-place-test.false in
    let len = c.len-place-end.ensures in
    let e : c.loop-place.place ≡ length m.functions = omega arith in
    subst (λ (fs : List Placed). HasEntries ms fs c.loop-place.entries) (ap (λ k. before ms c.args.number m k) e ∙ all_before ms c.args.number m c.requires.owner) c.loop-place.invariant
