-- An atom without quotes is one token.
use Rattle.std.proofs.Common.{◌≡◌, ℕ, ◌≤◌, true, false, List, [], ◌∷◌, ◌++◌, length, refl, ◌∙◌, arith, nat_lt}
use Rattle.std.proofs.Math.Seq.{take-append_seam}
use Rattle.std.proofs.lemmas.Bool.Decides.{nat_tests}
use Rattle.std.specs.List.{list_all}
use Rattle.std.specs.Cmp.Derive.{both_true}
use Rattle.term_tree.proofs.TermLaws.{both_hold}
use Rattle.term_tree.specs.declared.name.TheConstants.{MOST_CHARACTERS}
use Rattle.term_tree.specs.Name.{characters_in}
use Rattle.term_tree.specs.Text.{is_bare, is_small_letter, is_name_character}
use Rattle.text_tokens.specs.declared.token.Piece.TheVariants.{Whole}
use Rattle.text_tokens.specs.declared.token.Token.TheVariants as k
use Rattle.text_tokens.specs.Pieces.{atom, bare_atom, is_name_byte, is_no_line_feed}
use Rattle.text_tokens.specs.Tokens.{More, tokens}
use Rattle.text_tokens.proofs.Longest.{letter_first}
use Rattle.printed_terms.proofs.Lexing.{all_imply, one_token, run-front, Stops}

pub short_atom : (text : List ℕ) (size : ℕ) → characters_in text ≤ MOST_CHARACTERS → atom text size ≡ Whole (k.Atom text) size
short_atom text size h = let few : nat_lt MOST_CHARACTERS (characters_in text) ≡ false = grind (arith, nat_tests) in rw few refl

no_line_feed : (b : ℕ) → is_name_byte b ≡ true → is_no_line_feed b ≡ true
no_line_feed b h = grind (arith, nat_tests)

bare_whole : (bs rest : List ℕ) → list_all is_name_byte bs ≡ true → Stops rest → bare_atom (bs ++ rest) ≡ atom bs (length bs)
unfolding bare_atom
bare_whole bs rest h stop = rw (run-front is_name_byte bs rest h stop.name, take-append_seam bs rest) refl

pub bare_token : (a rest : List ℕ) → is_bare a ≡ true → characters_in a ≤ MOST_CHARACTERS → Stops rest → tokens (a ++ rest) ≡ More 1 (k.Atom a) (tokens rest)
bare_token [] rest h few stop = absurd (cc)
bare_token (b ∷ bs) rest h few stop =
    let both = both_hold (is_small_letter b) (list_all is_name_character bs) h in
    let name : is_name_byte b ≡ true = grind (arith, nat_tests) in
    let all : list_all is_name_byte (b ∷ bs) ≡ true = both_true name both.1 in
    one_token b bs rest (k.Atom (b ∷ bs))
    (letter_first b (bs ++ rest) both.0 ∙ bare_whole (b ∷ bs) rest all stop ∙ short_atom (b ∷ bs) (length (b ∷ bs)) few)
    (all_imply is_name_byte is_no_line_feed no_line_feed (b ∷ bs) all)
