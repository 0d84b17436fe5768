use Rattle.hand_words.proofs.Terms.{is_a_name}
use Rattle.hand_words.proofs.fitting.is_named.Goals as goal

pub returns-clause-name : goal.returns-clause-name
returns-clause-name c = is_a_name c.args.name.now c.as_str-text.ensures.utf8 c.as_str-text.ensures.short
