-- Tokens whose terms are canonical (docs/TEXT.md).
use Rattle.std.specs.Prelude.{Bool, true}
use Rattle.std.specs.List.{list_all}
use Rattle.term_tree.specs.Small.{is_small}
use Rattle.term_tree.specs.Term.{is_canonical}
use Rattle.text_tokens.specs.declared.token.Token.{Token}
use Rattle.text_tokens.specs.declared.token.Token.TheVariants as k

-- the integer and the code points of a token
abbrev pub in_token : Token → Bool
in_token (k.Integer n) = is_small n
in_token (k.Text codes) = list_all is_canonical codes
in_token other = true
