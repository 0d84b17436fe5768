-- An atom between quotes is one token.
use Rattle.std.proofs.Common.{◌≡◌, ◌≢◌, ℕ, ◌+◌, ◌-◌, ◌<◌, ◌≤◌, Bool, true, false, List, [], ◌∷◌, ◌++◌, length, drop, Some, None, encode_utf8, if◌then◌else◌, refl, sym, ap, ◌∙◌, subst, arith, ◌&&◌, nat_eq, nat_lt, nat_le, append_assoc}
use Rattle.std.proofs.Math.Seq.{take-append_seam, drop-append_seam}
use Rattle.std.proofs.lemmas.Bool.Decides.{nat_tests}
use Rattle.std.proofs.lemmas.Fmt.{digits_is_IsNumeral}
use Rattle.std.proofs.lemmas.List.{length-append}
use Rattle.std.proofs.lemmas.Str.{encodes-chars, scalars-chars}
use Rattle.std.specs.Fmt.{digits}
use Rattle.std.specs.List.{list_all, flat_map}
use Rattle.std.specs.Prelude.{option_and_then}
use Rattle.std.specs.Cmp.Derive.{both_true}
use Rattle.std.proofs.lemmas.List.Folds.{list_all-append}
use Rattle.std.specs.Str.{chars, IsUtf8}
use lib.Utf8.{scalar, scalars, encodes, scalar_fits, low_scalar}
use borrow.Author.Tests.{lt-ltb, eqb-true}
use Rattle.term_tree.proofs.TermLaws.{both_hold}
use Rattle.term_tree.specs.declared.name.TheConstants.{MOST_CHARACTERS}
use Rattle.term_tree.specs.Name.{characters_in}
use Rattle.term_tree.specs.Text.{quoted_character as spelled}
use Rattle.text_tokens.specs.declared.token.Piece.TheVariants.{Whole}
use Rattle.text_tokens.specs.declared.token.Token.TheVariants as k
use Rattle.text_tokens.specs.Character.{is_digit_of, number_after, scalar_of, braced_escape, quoted_character, between_quotes}
use Rattle.text_tokens.specs.Pieces.{piece, atom, quoted, is_no_line_feed}
use Rattle.text_tokens.specs.Tokens.{More, tokens}
use Rattle.text_tokens.specs.Cuts.{IsQuoted, closes, goes_on}
use Rattle.text_tokens.proofs.CutLaws.{quotes-joined}
use Rattle.printed_terms.proofs.Lexing.{all_imply, one_token, run-front}
use Rattle.printed_terms.proofs.Numbers.{all_digits, same_value}
use Rattle.printed_terms.proofs.BareAtoms.{short_atom}

-- ---- one character

-- the bytes of a character between quotes, of which no other character has a front
record IsSpelled (c : ℕ) : Type 0 where
  first : ℕ
  others : List ℕ
  is : spelled c ≡ first ∷ others
  no_quote : first ≢ 39
  reads : (tail : List ℕ) → quoted_character (first ∷ (others ++ tail)) ≡ Some (c, length (first ∷ others))
  no_line_feed : list_all is_no_line_feed (first ∷ others) ≡ true

quote_spelled : IsSpelled 39
unfolding quoted_character
quote_spelled = record { first = 92; others = 39 ∷ []; is = refl; no_quote = (λ e. absurd (omega arith)); reads = (λ tail. refl); no_line_feed = refl }

backslash_spelled : IsSpelled 92
unfolding quoted_character
backslash_spelled = record { first = 92; others = 92 ∷ []; is = refl; no_quote = (λ e. absurd (omega arith)); reads = (λ tail. refl); no_line_feed = refl }

plain_read : (c : ℕ) (tail : List ℕ) → nat_eq c 92 ≡ false → c < 128 → quoted_character (c ∷ tail) ≡ Some (c, 1)
unfolding quoted_character
plain_read c tail e h = let low : nat_lt c 128 ≡ true = lt-ltb c 128 h in rw (e, low, low_scalar c (omega arith)) refl

plain_spelled : (c : ℕ) → nat_eq c 39 ≡ false → nat_eq c 92 ≡ false → nat_le 32 c && nat_le c 126 ≡ true → IsSpelled c
plain_spelled c e f h =
    let both = both_hold (nat_le 32 c) (nat_le c 126) h in
    let low : 32 ≤ c = grind (arith, nat_tests) in
    let high : c ≤ 126 = grind (arith, nat_tests) in
    let other : c ≢ 39 = grind (arith, nat_tests) in
    let line : is_no_line_feed c ≡ true = grind (arith, nat_tests) in
    record { first = c; others = []; is = rw (e, f, h) refl; no_quote = other; reads = (λ tail. plain_read c tail f (omega arith)); no_line_feed = both_true line refl }

-- hexadecimal digits in braces
braced : (ds tail : List ℕ) (c : ℕ) → 0 < length ds → list_all (is_digit_of 16) ds ≡ true → number_after 16 0 ds ≡ c → scalar c ≡ true
    → braced_escape (ds ++ 125 ∷ tail) ≡ Some (c, length ds + 4)
braced ds tail c some h value fine =
    let there : nat_lt 0 (length ds) ≡ true = lt-ltb 0 (length ds) some in
    rw (run-front (is_digit_of 16) ds (125 ∷ tail) h refl, there, drop-append_seam ds (125 ∷ tail), take-append_seam ds (125 ∷ tail), value, fine) refl

coded_read : (ds tail : List ℕ) (c : ℕ) → 0 < length ds → list_all (is_digit_of 16) ds ≡ true → number_after 16 0 ds ≡ c → scalar c ≡ true
    → quoted_character (92 ∷ 120 ∷ 123 ∷ ((ds ++ 125 ∷ []) ++ tail)) ≡ Some (c, length (92 ∷ 120 ∷ 123 ∷ (ds ++ 125 ∷ [])))
unfolding quoted_character
coded_read ds tail c some h value fine =
    let size : length ds + 4 ≡ length (92 ∷ 120 ∷ 123 ∷ (ds ++ 125 ∷ [])) = omega (arith, length-append ds (125 ∷ [])) in
    ap (option_and_then (λ c. scalar_of c.0 c.1)) (ap braced_escape (append_assoc ds (125 ∷ []) tail) ∙ braced ds tail c some h value fine)
    ∙ ap (λ test. if test then Some (c, length ds + 4) else None) fine ∙ ap (λ n. Some (c, n)) size

hex_line : (b : ℕ) → is_digit_of 16 b ≡ true → is_no_line_feed b ≡ true
hex_line b h = grind (arith, nat_tests)

coded_spelled : (c : ℕ) → nat_eq c 39 ≡ false → nat_eq c 92 ≡ false → nat_le 32 c && nat_le c 126 ≡ false → scalar c ≡ true → IsSpelled c
coded_spelled c e f h fine =
    let small = scalar_fits c fine in
    let numeral = digits_is_IsNumeral 16 true (omega arith) (omega arith) c (omega arith) in
    let all : list_all (is_digit_of 16) (digits 16 true c) ≡ true = all_digits 16 (digits 16 true c) numeral.0.1 in
    record {
      first = 92;
      others = 120 ∷ 123 ∷ (digits 16 true c ++ 125 ∷ []);
      is = rw (e, f, h) refl;
      no_quote = (λ e. absurd (omega arith));
      reads = (λ tail. coded_read (digits 16 true c) tail c numeral.0.0 all (same_value 16 0 (digits 16 true c) ∙ numeral.1) fine);
      no_line_feed = list_all-append is_no_line_feed (digits 16 true c) (125 ∷ []) ∙ both_true (all_imply (is_digit_of 16) is_no_line_feed hex_line (digits 16 true c) all) refl;
    }

by_tests : (c : ℕ) (quote backslash printable : Bool) → nat_eq c 39 ≡ quote → nat_eq c 92 ≡ backslash → nat_le 32 c && nat_le c 126 ≡ printable → scalar c ≡ true → IsSpelled c
by_tests c true y p e f g fine = subst IsSpelled (sym (eqb-true c 39 e)) quote_spelled
by_tests c false true p e f g fine = subst IsSpelled (sym (eqb-true c 92 f)) backslash_spelled
by_tests c false false true e f g fine = plain_spelled c e f g
by_tests c false false false e f g fine = coded_spelled c e f g fine

is_spelled : (c : ℕ) → scalar c ≡ true → IsSpelled c
is_spelled c fine = by_tests c (nat_eq c 39) (nat_eq c 92) (nat_le 32 c && nat_le c 126) refl refl refl fine

-- ---- what stands between the quotes

inside : (cs rest : List ℕ) → scalars cs ≡ true → IsQuoted 39 (flat_map spelled cs ++ 39 ∷ rest) (encodes cs) rest
inside [] rest h = closes rest
inside (c ∷ cs) rest h =
    let both = both_hold (scalar c) (scalars cs) h in
    let s = is_spelled c both.0 in
    let tail : List ℕ = flat_map spelled cs ++ 39 ∷ rest in
    let less : length (s.first ∷ s.others) - 1 ≡ length s.others = omega arith in
    let P : List ℕ → Type 0 = λ bs. IsQuoted 39 bs (encodes cs) rest in
    let Q : List ℕ → Type 0 = λ bs. IsQuoted 39 bs (encode_utf8 c ++ encodes cs) rest in
    let joins : s.first ∷ (s.others ++ tail) ≡ (spelled c ++ flat_map spelled cs) ++ 39 ∷ rest = ap (λ bs. bs ++ tail) (sym s.is) ∙ sym (append_assoc (spelled c) (flat_map spelled cs) (39 ∷ rest)) in
    subst Q joins (goes_on s.first (s.others ++ tail) c (length (s.first ∷ s.others)) (encodes cs) rest s.no_quote (s.reads tail)
    (subst P (sym (ap (λ n. drop n (s.others ++ tail)) less ∙ drop-append_seam s.others tail)) (inside cs rest both.1)))

inside_lines : (cs : List ℕ) → scalars cs ≡ true → list_all is_no_line_feed (flat_map spelled cs) ≡ true
inside_lines [] h = refl
inside_lines (c ∷ cs) h =
    let both = both_hold (scalar c) (scalars cs) h in
    let s = is_spelled c both.0 in
    list_all-append is_no_line_feed (spelled c) (flat_map spelled cs) ∙ both_true (ap (list_all is_no_line_feed) s.is ∙ s.no_line_feed) (inside_lines cs both.1)

-- ---- the atom

quote_first : (bs : List ℕ) → piece (39 ∷ bs) ≡ quoted 39 (length bs + 1) (between_quotes 39 0 [] bs)
unfolding piece
quote_first bs = refl

closed : (text : List ℕ) (size left : ℕ) → quoted 39 size (Some (text, left)) ≡ atom text (size - left)
unfolding quoted
closed text size left = refl

-- the whole of an atom, by what stands between its quotes
between : (inner a rest : List ℕ) → between_quotes 39 0 [] (inner ++ 39 ∷ rest) ≡ Some (a, length rest) → list_all is_no_line_feed inner ≡ true → characters_in a ≤ MOST_CHARACTERS
    → tokens (39 ∷ ((inner ++ 39 ∷ []) ++ rest)) ≡ More 1 (k.Atom a) (tokens rest)
between inner a rest e line few =
    let left : ℕ = length ((inner ++ 39 ∷ []) ++ rest) + 1 in
    let size : left - length rest ≡ length (39 ∷ (inner ++ 39 ∷ [])) = omega (arith, length-append (inner ++ 39 ∷ []) rest) in
    one_token 39 (inner ++ 39 ∷ []) rest (k.Atom a)
    (quote_first ((inner ++ 39 ∷ []) ++ rest)
    ∙ ap (λ bs. quoted 39 left (between_quotes 39 0 [] bs)) (append_assoc inner (39 ∷ []) rest)
    ∙ ap (quoted 39 left) e
    ∙ closed a left (length rest)
    ∙ short_atom a (left - length rest) few
    ∙ ap (Whole (k.Atom a)) size)
    (list_all-append is_no_line_feed inner (39 ∷ []) ∙ both_true line refl)

pub quoted_token : (a rest : List ℕ) → IsUtf8 a → characters_in a ≤ MOST_CHARACTERS → tokens (39 ∷ ((flat_map spelled (chars a) ++ 39 ∷ []) ++ rest)) ≡ More 1 (k.Atom a) (tokens rest)
quoted_token a rest text few =
    let fine = scalars-chars a text in
    between (flat_map spelled (chars a)) a rest (quotes-joined 39 (flat_map spelled (chars a) ++ 39 ∷ rest) (encodes (chars a)) rest [] (inside (chars a) rest fine) ∙ ap (λ bs. Some (bs, length rest)) (encodes-chars a text)) (inside_lines (chars a) fine) few
