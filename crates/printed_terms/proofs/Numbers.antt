-- An integer in decimal is one token.
use Rattle.std.proofs.Common.{◌≡◌, ℕ, ℤ, pos, negsuc, suc, ◌+◌, ◌-◌, ◌*◌, ◌<◌, Bool, true, false, List, [], ◌∷◌, ◌++◌, length, refl, ap, ◌∙◌, arith, if◌then◌else◌, nat_lt, nat_le}
use Rattle.std.specs.Prelude.{◌-ℤ◌}
use Rattle.std.proofs.Math.Seq.{take-append_seam, drop-append_seam}
use Rattle.std.proofs.lemmas.Bool.Decides.{nat_tests}
use Rattle.std.proofs.lemmas.Fmt.{digits_is_IsNumeral}
use Rattle.std.specs.Char.{digit_value}
use Rattle.std.specs.Fmt.{decimal, signed_decimal}
use Rattle.std.specs.List.{list_all}
use Rattle.std.specs.Cmp.Derive.{both_true}
use Rattle.std.specs.Str.Parse.{AllDigits, digits_value_after}
use borrow.Author.Tests.{ltb-true, lt-ltb}
use Rattle.term_tree.proofs.TermLaws.{both_hold}
use Rattle.term_tree.specs.Small.{is_small, small_limit}
use Rattle.text_tokens.specs.declared.token.Piece.TheVariants.{Whole}
use Rattle.text_tokens.specs.declared.token.Token.TheVariants as k
use Rattle.text_tokens.specs.Character.{is_digit_of, number_after}
use Rattle.text_tokens.specs.Pieces.{number, integer, is_digit, is_no_line_feed}
use Rattle.text_tokens.specs.Tokens.{More, tokens}
use Rattle.text_tokens.proofs.Longest.{digit_byte, number_first}
use Rattle.printed_terms.proofs.Lexing.{all_imply, one_token, run-front, Stops}

-- the digits of a numeral, and its value, in the words of the reading
pub all_digits : (base : ℕ) (ds : List ℕ) → AllDigits base ds → list_all (is_digit_of base) ds ≡ true
all_digits base [] h = refl
all_digits base (d ∷ ds) h = both_true (lt-ltb (digit_value d) base h.0) (all_digits base ds h.1)

pub same_value : (base value : ℕ) (ds : List ℕ) → number_after base value ds ≡ digits_value_after base value ds
same_value base value [] = refl
same_value base value (d ∷ ds) = same_value base (value * base + digit_value d) ds

no_line_feeds : (ds : List ℕ) → list_all is_digit ds ≡ true → list_all is_no_line_feed ds ≡ true
no_line_feeds = all_imply is_digit is_no_line_feed (λ d h. (digit_byte d h).line_feed)

-- digits before a place where a number stops
digits_number : (negative : Bool) (ds rest : List ℕ) → list_all is_digit ds ≡ true → Stops rest
    → number negative (ds ++ rest) ≡ Whole (integer negative (number_after 10 0 ds)) (if negative then length ds + 1 else length ds)
unfolding number
digits_number negative ds rest h stop =
    rw (run-front is_digit ds rest h stop.digit, take-append_seam ds rest, drop-append_seam ds rest, stop.fraction, stop.based) refl

positive_token : (ds rest : List ℕ) (n : ℕ) → 0 < length ds → list_all is_digit ds ≡ true → number_after 10 0 ds ≡ n → n < small_limit → Stops rest
    → tokens (ds ++ rest) ≡ More 1 (k.Integer (pos n)) (tokens rest)
positive_token [] rest n some h value small stop = absurd (omega arith)
positive_token (d ∷ ds) rest n some h value small stop =
    let both = both_hold (is_digit d) (list_all is_digit ds) h in
    let fits : nat_lt n small_limit ≡ true = lt-ltb n small_limit small in
    one_token d ds rest (k.Integer (pos n))
    (number_first false (d ∷ (ds ++ rest)) both.0 ∙ digits_number false (d ∷ ds) rest h stop
    ∙ ap (λ m. Whole (integer false m) (length (d ∷ ds))) value
    ∙ ap (λ b. Whole (if b then k.Integer (pos n) else k.Wide) (length (d ∷ ds))) fits)
    (no_line_feeds (d ∷ ds) h)

minus : (n : ℕ) → pos 0 -ℤ pos (suc n) ≡ negsuc n
minus n =
    let below : nat_lt 0 (suc n) ≡ true = lt-ltb 0 (suc n) (omega arith) in
    let same : suc n - 1 ≡ n = omega arith in
    rw (below, same) refl

negative_token : (ds rest : List ℕ) (n : ℕ) → 0 < length ds → list_all is_digit ds ≡ true → number_after 10 0 ds ≡ suc n → n < small_limit → Stops rest
    → tokens (45 ∷ (ds ++ rest)) ≡ More 1 (k.Integer (negsuc n)) (tokens rest)
negative_token [] rest n some h value small stop = absurd (omega arith)
negative_token (d ∷ ds) rest n some h value small stop =
    let both = both_hold (is_digit d) (list_all is_digit ds) h in
    let fits : nat_le (suc n) small_limit ≡ true = grind (arith, nat_tests) in
    let size : length (d ∷ ds) + 1 ≡ length (45 ∷ d ∷ ds) = omega arith in
    one_token 45 (d ∷ ds) rest (k.Integer (negsuc n))
    (number_first true (d ∷ (ds ++ rest)) both.0 ∙ digits_number true (d ∷ ds) rest h stop
    ∙ ap (λ m. Whole (integer true m) (length (d ∷ ds) + 1)) value
    ∙ ap (λ b. Whole (if b then k.Integer (pos 0 -ℤ pos (suc n)) else k.Wide) (length (d ∷ ds) + 1)) fits
    ∙ ap (λ i. Whole (k.Integer i) (length (d ∷ ds) + 1)) (minus n)
    ∙ ap (Whole (k.Integer (negsuc n))) size)
    (no_line_feeds (d ∷ ds) h)

pub integer_token : (i : ℤ) (rest : List ℕ) → is_small i ≡ true → Stops rest → tokens (signed_decimal i ++ rest) ≡ More 1 (k.Integer i) (tokens rest)
integer_token (pos n) rest h stop =
    let small : n < small_limit = ltb-true n small_limit h in
    let numeral = digits_is_IsNumeral 10 false (omega arith) (omega arith) n (omega arith) in
    positive_token (decimal n) rest n numeral.0.0 (all_digits 10 (decimal n) numeral.0.1) (same_value 10 0 (decimal n) ∙ numeral.1) small stop
integer_token (negsuc n) rest h stop =
    let small : n < small_limit = ltb-true n small_limit h in
    let numeral = digits_is_IsNumeral 10 false (omega arith) (omega arith) (suc n) (omega arith) in
    negative_token (decimal (suc n)) rest n numeral.0.0 (all_digits 10 (decimal (suc n)) numeral.0.1) (same_value 10 0 (decimal (suc n)) ∙ numeral.1) small stop
