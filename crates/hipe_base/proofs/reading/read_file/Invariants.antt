use Rattle.std.proofs.Common.{◌≡◌, ◌≤◌, ◌-◌, vec_len, IsTrue}
use Rattle.hipe_base.specs.Count.{counted}
use Rattle.hipe_base.proofs.ReadLaws.{Remains}
use Rattle.hipe_base.proofs.reading.read_file.Given as goal

abbrev pub invariant-pieces : goal.invariant-pieces
invariant-pieces g l = record {
  opened : IsTrue (g.F.Files.told l.files).is_open;
  remains : Remains (g.F.Files.told l.fn.files).held l.name l.bytes.items (g.F.Files.told l.files).left;
  limited : vec_len l.bytes ≤ l.limit;
  all_taken : (g.F.Files.told l.files).taken ≡ counted (g.F.Files.told l.fn.files).taken (vec_len l.bytes);
  later : (g.F.Files.told l.fn.files).faults ≤ (g.F.Files.told l.files).faults;
  same : (g.F.Files.told l.files).held ≡ (g.F.Files.told l.fn.files).held;
}

abbrev pub decreases-pieces : goal.decreases-pieces
decreases-pieces g l = l.limit - vec_len l.bytes
