-- The setting of a function, in the words of Rows.
use Rattle.beam_code.specs.Shape as s
use Rattle.word_rows.specs.declared.calls.Leaving.{Leaving}
use Rattle.word_rows.specs.declared.calls.Leaving.TheVariants as l
use Rattle.word_rows.specs.declared.setting.Setting.{Setting}
use Rattle.word_rows.specs.Rows.{Here, here_of}
use Rattle.word_rows.specs.Targets.{placed}

abbrev pub here : Setting → Here
here s = here_of s.image.now (placed s.owner.now s.function.now) s.first

-- how a call leaves its function
abbrev pub leaving_of : Leaving → s.Leaving
leaving_of l.Stays = s.Stays
leaving_of (l.Drops n) = s.Drops n
leaving_of l.HasNone = s.HasNone
