-- What the code says of a list, of a word and of two words.
use Rattle.std.specs.Prelude.{◌≡◌, Bool, true, false, Option, Some, None}
use Rattle.std.specs.declared.cmp.Ordering.{Ordering}
use Rattle.prim_gates.specs.declared.lists.ListEnd.{ListEnd}
use Rattle.prim_gates.specs.declared.lists.ListEnd.TheVariants as list
use Rattle.tagged_words.specs.declared.look.Look.{Look}
use Rattle.tagged_words.specs.declared.look.Look.TheVariants as look
use Rattle.tagged_words.specs.Seen.{Seen}
use Rattle.word_walks.specs.Compared.{Is, compared}
use Rattle.prim_gates.specs.Shapes.{End, Proper, Improper, Met}

-- how a walk says that a list ends
abbrev pub ended : ListEnd → End
ended list.Proper = Proper
ended list.Improper = Improper
ended (list.Bad w) = Met w

-- whether a look shows that a word stands for no term
abbrev pub is_bad : Look → Bool
is_bad look.Bad = true
is_bad l = false

-- an order that is known at once is that of what is seen
abbrev pub Decides : Option Ordering → Seen → Seen → Type 0
Decides (Some o) x y = compared x y ≡ Is o
Decides None x y = Unit {0}
