use Rattle.std.proofs.Common.{◌≡◌, ◌<◌, take}
use Rattle.std.specs.Option.{IfSome}
use Rattle.hipe_base.specs.FileStore.{bytes_of, left_at}
use Rattle.hipe_base.proofs.stored_file.place_of.Given as goal

abbrev pub invariant-loop-i : goal.invariant-loop-i
invariant-loop-i l = record {
  within : IfSome l.found (λ place. place < l.i);
  bytes : bytes_of (take l.i l.files) l.name ≡ left_at l.files l.found 0;
}
