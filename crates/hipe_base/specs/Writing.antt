-- What a sink has taken after a whole piece of bytes was put: this crate's README, "Sinks".
use Rattle.std.specs.Prelude.{◌≡◌, ℕ, ◌<◌, List, length, take, Option, Result, Ok, Err}
use Rattle.hipe_base.specs.Sink.{with_more, FallsBy}
use Rattle.hipe_base.specs.declared.writing.SinkFault.{SinkFault}

-- all bytes are appended, or exactly those before the failure
abbrev pub PutsBytes : Result Unit SinkFault → List ℕ → Option (List ℕ) → Option (List ℕ) → Type 0
PutsBytes (Ok u) bytes before after = after ≡ with_more before bytes
PutsBytes (Err e) bytes before after = (e.written < length bytes) × (after ≡ with_more before (take e.written bytes))

-- the room falls by what was appended
abbrev pub FillsRoom : Result Unit SinkFault → ℕ → Option ℕ → Option ℕ → Type 0
FillsRoom (Ok u) n before after = FallsBy n before after
FillsRoom (Err e) n before after = FallsBy e.written before after
