use Rattle.std.proofs.Common.{◌≡◌, ℕ, length, ◌-◌, ◌∙◌, Bool, true, false, List, Some, slice_get, ap, sym, refl, arith}
use Rattle.path_search.proofs.Chains.{known_done, known_next, known_smaller, known_start, known_within}
use Rattle.path_search.proofs.Listing.{contains_at}
use Rattle.path_search.proofs.found.is_known.Goals as goal

not_here : {P : Type 0} (xs ys : List P) (k : ℕ) (p : P) (b : Bool) → ys ≡ xs → b ≡ false → (slice_get ys k ≡ Some p → b ≡ true) → slice_get xs k ≡ Some p → ⊥
not_here {P = P} xs ys k p b same off on e = let t = on (ap (λ (l : List P). slice_get l k) same ∙ e) in cc

pub loop-at-init : goal.loop-at-init
loop-at-init g c =
    known_start (g.W.Walk.number_of c.args.walk.now) c.args.found.now.points c.args.found.now.older.items c.args.found.now.buckets.items c.requires.chained c.args.new.now
    c.requires.some c.number.result _ c.bucket_of.result c.index-at.result.now c.number.ensures (ap (λ (l : List ℕ). length l) c.deref.ensures.value) c.bucket_of.ensures c.index-at.ensures

pub returns-then-is_at : goal.returns-then-is_at
returns-then-is_at g c = (
  λ t. contains_at c.args.found.now.points (c.loop-at.at - 1) c.args.new.now (ap (λ (l : List g.row.W-Point.Denot). slice_get l (c.loop-at.at - 1)) (sym c.as_slice.ensures) ∙ c.is_at.ensures.0 c.if-is_at.true),
  λ q. refl,
)

pub index-at-requires-in-loop-at : goal.index-at-requires-in-loop-at
index-at-requires-in-loop-at g c =
    let low = known_within (g.W.Walk.number_of c.args.walk.now) c.args.found.now.points c.args.found.now.older.items c.args.found.now.buckets.items c.requires.chained c.args.new.now c.loop-at.at c.loop-at.invariant c.loop-at-test.true in
    omega (arith, low)

pub loop-at-smaller : goal.loop-at-smaller
loop-at-smaller g c =
    known_smaller (g.W.Walk.number_of c.args.walk.now) c.args.found.now.points c.args.found.now.older.items c.args.found.now.buckets.items c.requires.chained c.args.new.now c.loop-at.at c.loop-at.invariant c.loop-at-test.true
    c.index-at-in-loop-at.result.now c.index-at-in-loop-at.ensures

pub loop-at-preserved : goal.loop-at-preserved
loop-at-preserved g c =
    known_next (g.W.Walk.number_of c.args.walk.now) c.args.found.now.points c.args.found.now.older.items c.args.found.now.buckets.items c.requires.chained c.args.new.now c.loop-at.at c.loop-at.invariant c.loop-at-test.true
    c.index-at-in-loop-at.result.now c.index-at-in-loop-at.ensures (not_here c.args.found.now.points c.as_slice.result.now (c.loop-at.at - 1) c.args.new.now c.is_at.result c.as_slice.ensures c.if-is_at.false c.is_at.ensures.1)

pub returns : goal.returns
returns g c = (
  λ t. cc,
  λ q. absurd (known_done (g.W.Walk.number_of c.args.walk.now) c.args.found.now.points c.args.found.now.older.items c.args.found.now.buckets.items c.requires.chained c.args.new.now c.loop-at.at c.loop-at.invariant c.loop-at-test.false q),
)
