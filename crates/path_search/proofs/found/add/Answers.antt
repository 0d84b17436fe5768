use Rattle.std.proofs.Common.{◌≡◌, ℕ, ◌+◌, ◌%◌, if◌then◌else◌, Bool, true, false, List, length, Err, ap, sym, ◌∙◌, subst}
use Rattle.std.specs.List.{Contains}
use Rattle.path_search.specs.declared.rounds.Stop.TheVariants.{States}
use Rattle.path_search.specs.Found.{has_item}
use Rattle.path_search.specs.Kept.{Pushes}
use Rattle.path_search.proofs.Keeping.{crowd_of, kept_push}
use Rattle.path_search.proofs.found.add.Goals as goal

is_new : {P : Type 0} (xs : List P) (p : P) (b : Bool) → b ≡ false → (Contains xs p → b ≡ true) → Contains xs p → ⊥
is_new xs p b off on c = let t = on c in cc

pub returns-in-Err-clause-states : goal.returns-in-Err-clause-states
returns-in-Err-clause-states g c = λ e. (
    let item = g.W.Walk.item_of c.args.walk.now in
    let xs = c.args.found.now.points in
    let stop : c.in-Err.stop ≡ States = cc in
    let s = c.counted.ensures.states (c.in-Err.is ∙ ap (λ q. Err q) stop) in
    crowd_of item (g.W.Walk.number_of c.args.walk.now) c.args.limit c.args.found.now c.args.new s.1 c.requires (is_new xs c.args.new c.is_known.result c.if-is_known.false c.is_known.ensures.1)
    (ap (λ i. has_item item i xs) (sym c.item-item.ensures) ∙ (sym c.has_item-second.ensures ∙ s.0)) s.2 s.3)

pub returns-in-Ok-push-clause-kept : goal.returns-in-Ok-push-clause-kept
returns-in-Ok-push-clause-kept g c =
    let item = g.W.Walk.item_of c.args.walk.now in
    let number = g.W.Walk.number_of c.args.walk.now in
    let found = c.args.found.now in
    let xs = found.points in
    kept_push item number c.args.limit found c.push.new.self c.args.new c.bucket_of-bucket.result c.in-Ok.seconds c.requires (is_new xs c.args.new c.is_known.result c.if-is_known.false c.is_known.ensures.1)
    (c.bucket_of-bucket.ensures ∙ (ap (λ n. n % length c.deref.result.now) c.number.ensures ∙ ap (λ (l : List ℕ). number c.args.new % length l) c.deref.ensures.value))
    (λ most is. c.in-Ok.ensures.counted most is ∙ ap (λ b. (if b then 1 else 0) + found.seconds) (c.has_item-second.ensures ∙ ap (λ i. has_item item i xs) c.item-item.ensures))
    (subst (λ i. Pushes i c.bucket_of-bucket.result c.in-Ok.seconds c.args.new found c.push.new.self) c.item-item.ensures c.in-Ok-push.ensures)
