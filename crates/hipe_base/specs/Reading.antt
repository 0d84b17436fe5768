-- When the reading of a whole file is refused: this crate's README, "Files".
use Rattle.std.specs.Prelude.{ℕ, ◌<◌, List, length, Some, None, IsSomeAnd, ⊤}
use Rattle.hipe_base.specs.Count.{RoseBy}
use Rattle.hipe_base.specs.Files.{Held, FilesFailed}
use Rattle.hipe_base.specs.declared.reading.ReadRefusal.{ReadRefusal}
use Rattle.hipe_base.specs.declared.reading.ReadRefusal.TheVariants.{Fault, TooLong, Memory}

-- the file holds more than n bytes, where that is told
abbrev pub IsLonger : Held → List ℕ → ℕ → Type 0
IsLonger None name n = ⊤
IsLonger (Some file) name n = IsSomeAnd (file name) (λ bytes. n < length bytes)

-- each refusal with its cause, from the counts of faults and of taken bytes before and after the call
abbrev pub IsRefused : Held → List ℕ → ℕ → ℕ → ℕ → ℕ → ℕ → ReadRefusal → Type 0
IsRefused held name limit faults faults' taken taken' Fault = FilesFailed faults faults' held name
IsRefused held name limit faults faults' taken taken' TooLong = RoseBy taken limit taken' × IsLonger held name limit
IsRefused held name limit faults faults' taken taken' (Memory e) = ⊤
