-- Mentions of the code, in the words of Mentions.
use Rattle.std.specs.Prelude.{List, map}
use Rattle.ir_code.specs.declared.mentioning.Mention as code
use Rattle.ir_code.specs.declared.mentioning.Mention.TheVariants as held
use Rattle.ir_code.specs.Mentions.{Mention, Named, Literal}
use Rattle.term_tree.specs.Term.{tree_of}

abbrev pub mention_shown : code.Mention → Mention
mention_shown (held.Named a) = Named a.now
mention_shown (held.Literal u) = Literal (tree_of u.now)

abbrev pub shown : List code.Mention → List Mention
shown all = map mention_shown all
