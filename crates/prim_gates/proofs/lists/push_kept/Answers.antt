use Rattle.std.proofs.Common.{◌≡◌, ◌+◌, ◌-◌, ◌*◌, ◌≤◌, ◌∷◌, length, subst, arith}
use Rattle.prim_gates.proofs.Growing.{pushing_begins, pushing_goes_on, IsPushing}
use Rattle.prim_gates.proofs.Kept.{kept_first, length-kept_down}
use Rattle.prim_gates.specs.Chain.{kept_down}
use Rattle.prim_gates.proofs.lists.push_kept.Goals as goal

pub cells-init : goal.cells-init
cells-init g c =
    let size : length (kept_down c.args.scratch.now c.args.count) ≡ c.args.count = length-kept_down c.args.scratch.now c.args.count in
    let room : 2 * c.args.count ≤ g.H.HeapWords.room c.args.heap.now = c.requires.room in
    record { pushing = pushing_begins c.args.heap.now (kept_down c.args.scratch.now c.args.count) c.args.end (omega arith); within = omega arith }

pub push_cell-tail-requires : goal.push_cell-tail-requires
push_cell-tail-requires g c =
    let size : length (kept_down c.args.scratch.now c.cells.left) ≡ c.cells.left = length-kept_down c.args.scratch.now c.cells.left in
    let fits : 2 * length (kept_down c.args.scratch.now c.cells.left) ≤ g.H.HeapWords.room c.cells.heap = c.cells.invariant.pushing.fits in
    omega arith

pub cells-preserved : goal.cells-preserved
cells-preserved g c =
    let within : c.cells.left ≤ c.args.count = c.cells.invariant.within in
    let less : c.cells.left ≡ c.cells.left - 1 + 1 = omega arith in
    let rest : kept_down c.args.scratch.now c.cells.left ≡ c.kept-head.result ∷ kept_down c.args.scratch.now (c.cells.left - 1) = kept_first c.args.scratch.now c.cells.left (c.cells.left - 1) c.kept-head.result less c.kept-head.ensures in
    record {
      pushing = pushing_goes_on (subst (IsPushing g.H.HeapWords.Grows g.H.Words.store g.H.HeapWords.room g.H.HeapWords.end c.args.heap.now (kept_down c.args.scratch.now c.args.count) c.args.end c.cells.heap c.cells.tail) rest c.cells.invariant.pushing)
          c.push_cell-tail.ensures.pushed c.push_cell-tail.ensures.word;
      within = omega arith;
    }
