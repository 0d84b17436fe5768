-- What the code makes of a place in place, against what the definitions give.
use Rattle.std.specs.Prelude.{Bool, true, false, Option, Some, None, Result, Ok, Err}
use Rattle.text_forms.specs.declared.refusal.TextRefusal.{TextRefusal}

-- the value as it is now, where the token can follow
abbrev pub kept : {A : Type 0} → Bool → A → Option A
kept true a = Some a
kept false a = None

-- the same, unless the call refuses
abbrev pub now : {A : Type 0} → A → Result (Unit {0}) TextRefusal → Result A TextRefusal
now a (Err refusal) = Err refusal
now a (Ok u) = Ok a
