-- What a walk for a text ends in.
use Rattle.std.specs.Prelude.{ℕ, List, Option, Some, None, string_bytes, nat_eq, if◌then◌else◌}
use Rattle.word_walks.specs.declared.printing.WordText.{WordText}
use Rattle.word_walks.specs.declared.printing.WordText.TheVariants as w
use Rattle.word_walks.specs.declared.walk.Step.{Step}
use Rattle.word_walks.specs.declared.walk.Step.TheVariants as step
use Rattle.word_walks.specs.declared.walk.Walk.{Walk}
use Rattle.word_walks.specs.Spelt.{Spelling, Text, Large, Meets}

abbrev pub spelling_of : WordText → Spelling
spelling_of (w.Text text nodes) = Text (string_bytes text) nodes
spelling_of w.Large = Large
spelling_of (w.NotATerm word) = Meets word

-- the walk that a step goes on with, where rows wait
abbrev pub going : Step → Option Walk
going (step.Goes walk) = if nat_eq walk.used 0 then None else Some walk
going step.Large = None
going (step.Bad word) = None

-- what a last step says of the text that is there
abbrev pub step_spelling : List ℕ → Step → Spelling
step_spelling out (step.Goes walk) = Text out walk.nodes
step_spelling out step.Large = Large
step_spelling out (step.Bad word) = Meets word
