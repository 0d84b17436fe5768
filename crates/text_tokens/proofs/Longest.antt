-- A piece is the longest token that its bytes begin with.
use Rattle.std.proofs.Common.{◌≡◌, ℕ, zero, suc, ◌+◌, ◌-◌, ◌<◌, ◌≤◌, ◌==◌, Bool, true, false, ◌&&◌, ◌||◌, ◌⊎◌, inl, inr, ⊎_elim, nat_lt, if◌then◌else◌, List, [], ◌∷◌, length, take, drop, Option, Some, None, refl, sym, ap, ◌∙◌, subst, arith}
use Rattle.std.proofs.lemmas.Bool.{eqb-true, ltb-true, ltb-false, lt-ltb}
use Rattle.std.proofs.lemmas.Bool.Decides.{nat_tests}
use Rattle.std.proofs.lemmas.Str.Parse.{digit_from_value}
use Rattle.std.specs.Char.{digit_value}
use Rattle.std.specs.Cmp.Derive.{both_true}
use Rattle.std.specs.List.{list_all}
use Rattle.std.specs.Str.{is_utf8}
use Rattle.term_tree.proofs.TermLaws.{both_hold}
use Rattle.term_tree.specs.declared.name.TheConstants.{MOST_CHARACTERS}
use Rattle.term_tree.specs.Name.{characters_in}
use Rattle.text_tokens.specs.declared.token.Token.{Token}
use Rattle.text_tokens.specs.declared.token.Token.TheVariants as k
use Rattle.text_tokens.specs.declared.token.Piece.{Piece}
use Rattle.text_tokens.specs.declared.token.Piece.TheVariants.{Whole}
use Rattle.text_tokens.specs.Character.{is, begins, run, between_quotes}
use Rattle.text_tokens.specs.Pieces.{is_digit, is_separator, is_lower, is_name_byte, is_no_line_feed, sign_size, exponent_size, begins_fraction, float, number, comment, bare_atom, quoted, dot, mark, piece}
use Rattle.text_tokens.specs.Spellings.{IsFront, signed, signed_size, IsExponent, IsToken}
use Rattle.text_tokens.specs.Spellings as s
use Rattle.text_tokens.proofs.CutLaws.{quotes-cut, quotes-joined}

-- ---- fronts

pub run-within : (p : ℕ → Bool) (bs : List ℕ) → run p bs ≤ length bs
run-within p [] = omega arith
run-within p (b ∷ bs) = let n = run-within p bs in grind arith

run-passes : (p : ℕ → Bool) (bs : List ℕ) → list_all p (take (run p bs) bs) ≡ true
run-passes p [] = refl
run-passes p (b ∷ bs) = go (p b) refl (run-passes p bs)
  where
    go : (test : Bool) → p b ≡ test → list_all p (take (run p bs) bs) ≡ true → list_all p (take (if test then 1 + run p bs else 0) (b ∷ bs)) ≡ true
    go true e ih = let one : 1 + run p bs ≡ suc (run p bs) = omega arith in rw one (both_true e ih)
    go false e ih = refl

run-front : (p : ℕ → Bool) (bs : List ℕ) → 0 < run p bs → IsFront p (run p bs) bs
run-front p bs some = record { some = some; within = run-within p bs; all = run-passes p bs }

run-some : (p : ℕ → Bool) (bs : List ℕ) → begins p bs ≡ true → 0 < run p bs
run-some p [] h = absurd (cc)
run-some p (b ∷ bs) h = rw h (omega arith)

run-most : (p : ℕ → Bool) (bs : List ℕ) (n : ℕ) → n ≤ length bs → list_all p (take n bs) ≡ true → n ≤ run p bs
run-most p bs zero w h = omega arith
run-most p [] (suc n) w h = absurd (omega arith)
run-most p (b ∷ bs) (suc n) w h =
    let both = both_hold (p b) (list_all p (take n bs)) h in
    let more : n ≤ run p bs = run-most p bs n (omega arith) both.1 in
    rw both.0 (omega arith)

run-exact : (p : ℕ → Bool) (bs : List ℕ) (n c : ℕ) (cs : List ℕ) → list_all p (take n bs) ≡ true → drop n bs ≡ c ∷ cs → p c ≡ false → run p bs ≡ n
run-exact p [] zero c cs h e other = absurd (cc)
run-exact p [] (suc n) c cs h e other = absurd (cc)
run-exact p (b ∷ bs) zero c cs h e other =
    let same : b ≡ c = cc in
    let stops : p b ≡ false = ap p same ∙ other in
    rw stops refl
run-exact p (b ∷ bs) (suc n) c cs h e other =
    let both = both_hold (p b) (list_all p (take n bs)) h in
    let more : run p bs ≡ n = run-exact p bs n c cs both.1 e other in
    rw both.0 (omega arith)

front-begins : (p : ℕ → Bool) (n : ℕ) (bs : List ℕ) → IsFront p n bs → begins p bs ≡ true
front-begins p n [] f = absurd (omega (arith, f.some, f.within))
front-begins p zero (b ∷ bs) f = absurd (omega (arith, f.some))
front-begins p (suc n) (b ∷ bs) f = (both_hold (p b) (list_all p (take n bs)) f.all).0

-- ---- what a first byte begins

-- a digit is a byte from 48 to 57
pub record IsDecimal (b : ℕ) : Type 0 where
  pub separator : is_separator b ≡ false
  pub percent : (b == 37) ≡ false
  pub line_feed : is_no_line_feed b ≡ true

decimal_byte : (b : ℕ) → 48 ≤ b → b ≤ 57 → IsDecimal b
decimal_byte b low high = record { separator = grind (arith, nat_tests); percent = grind (arith, nat_tests); line_feed = grind (arith, nat_tests) }

pub digit_byte : (b : ℕ) → is_digit b ≡ true → IsDecimal b
digit_byte b h = let range = digit_from_value b (ltb-true (digit_value b) 10 h) in decimal_byte b range.0 range.1

pub number_first : (negative : Bool) (bs : List ℕ) → begins is_digit bs ≡ true → piece (signed negative bs) ≡ number negative bs
unfolding piece
number_first true bs h = rw h refl
number_first false [] h = absurd (cc)
number_first false (b ∷ bs) h = let byte = digit_byte b h in rw (byte.separator, byte.percent, h) refl

-- a small letter
record IsLetter (b : ℕ) : Type 0 where
  separator : is_separator b ≡ false
  percent : (b == 37) ≡ false
  digit : is_digit b ≡ false
  minus : (b == 45) ≡ false

letter : (b : ℕ) → is_lower b ≡ true → IsLetter b
letter b h = record { separator = grind (arith, nat_tests); percent = grind (arith, nat_tests); digit = grind (arith, nat_tests); minus = grind (arith, nat_tests) }

pub letter_first : (b : ℕ) (bs : List ℕ) → is_lower b ≡ true → piece (b ∷ bs) ≡ bare_atom (b ∷ bs)
unfolding piece
letter_first b bs h = let l = letter b h in rw (l.separator, l.percent, l.digit, l.minus, h) refl

-- ---- no token is longer

-- a token is no shorter than this
abbrev AtLeast : ℕ → Piece → Type 0
AtLeast n (Whole t size) = n ≤ size
AtLeast n other = Unit {0}

either : (n : ℕ) (test : Bool) (q r : Piece) → AtLeast n q → AtLeast n r → AtLeast n (if test then q else r)
either n true q r h e = h
either n false q r h e = e

number-least : (negative : Bool) (bs : List ℕ) (n : ℕ) → n ≤ run is_digit bs → AtLeast (signed_size negative n) (number negative bs)
unfolding number
number-least true bs n le =
    let rest : List ℕ = drop (run is_digit bs) bs in
    either (n + 1) (begins_fraction rest) (float (run is_digit bs + 1) rest) _ (omega arith) (either (n + 1) (begins (is 35) rest) _ _ tt (omega arith))
number-least false bs n le =
    let rest : List ℕ = drop (run is_digit bs) bs in
    either n (begins_fraction rest) (float (run is_digit bs) rest) _ (omega arith) (either n (begins (is 35) rest) _ _ tt le)

either_is : (a b : Bool) → (a || b) ≡ true → (a ≡ true) ⊎ (b ≡ true)
either_is true b e = inl refl
either_is false b e = inr e

no_digit : (b : ℕ) → (b == 101 || b == 69) ≡ true → is_digit b ≡ false
no_digit b is = ⊎_elim (λ (e : (b == 101) ≡ true). rw (eqb-true b 101 e) refl) (λ (e : (b == 69) ≡ true). rw (eqb-true b 69 e) refl) (either_is (b == 101) (b == 69) is)

-- the digits behind a point, and an exponent
behind_point : (cs : List ℕ) (count : ℕ) (xs : List ℕ) (more : ℕ) → IsFront is_digit count cs → drop count cs ≡ xs → IsExponent xs more → count + more ≤ run is_digit cs + exponent_size (drop (run is_digit cs) cs)
behind_point cs count _ _ f e (s.no_exponent bs) = let m = run-most is_digit cs count f.within f.all in omega arith
behind_point cs count _ _ f e (s.exponent b bs size is g) =
    let same : run is_digit cs ≡ count = run-exact is_digit cs count b bs f.all e (no_digit b is) in
    let m : size ≤ run is_digit (drop (sign_size bs) bs) = run-most is_digit (drop (sign_size bs) bs) size g.within g.all in
    let some : nat_lt 0 (run is_digit (drop (sign_size bs) bs)) ≡ true = lt-ltb 0 (run is_digit (drop (sign_size bs) bs)) (omega (arith, g.some)) in
    let here : exponent_size (b ∷ bs) ≡ 1 + sign_size bs + run is_digit (drop (sign_size bs) bs) = rw (is, some) refl in
    omega (arith, ap (λ n. exponent_size (drop n cs)) same, ap exponent_size e, here)

float-least : (negative : Bool) (bs cs : List ℕ) (size count more : ℕ) → IsFront is_digit size bs → drop size bs ≡ 46 ∷ cs → IsFront is_digit count cs → count + more ≤ run is_digit cs + exponent_size (drop (run is_digit cs) cs) →
    AtLeast (signed_size negative size + 1 + count + more) (number negative bs)
unfolding number
float-least negative bs cs size count more f point g le =
    let same : run is_digit bs ≡ size = run-exact is_digit bs size 46 cs f.all point refl in
    let first : begins is_digit cs ≡ true = front-begins is_digit count cs g in
    let one : 1 + run is_digit cs ≡ suc (run is_digit cs) = omega arith in
    rw (same, point, first, one) (omega arith)

pub longest : (bs : List ℕ) (t : Token) (n : ℕ) → IsToken bs t n → AtLeast n (piece bs)
unfolding piece mark bare_atom quoted
longest _ _ _ (s.whole negative bs n f) =
    let P : Piece → Type 0 = λ q. AtLeast (signed_size negative n) q in
    subst P (sym (number_first negative bs (front-begins is_digit n bs f))) (number-least negative bs n (run-most is_digit bs n f.within f.all))
longest _ _ _ (s.float negative bs cs n count more f point g x) =
    let P : Piece → Type 0 = λ q. AtLeast (signed_size negative n + 1 + count + more) q in
    subst P (sym (number_first negative bs (front-begins is_digit n bs f))) (float-least negative bs cs n count more f point g (behind_point cs count (drop count cs) more g refl x))
longest _ _ _ (s.bare b bs n lower f short) =
    let P : Piece → Type 0 = λ q. AtLeast n q in
    subst P (sym (letter_first b bs lower)) (either n (nat_lt MOST_CHARACTERS (characters_in (take (run is_name_byte (b ∷ bs)) (b ∷ bs)))) _ _ tt (run-most is_name_byte (b ∷ bs) n f.within f.all))
longest _ _ _ (s.quoted bs text rest is short) =
    let P : Option (List ℕ × ℕ) → Type 0 = λ o. AtLeast (length bs + 1 - length rest) (quoted 39 (length bs + 1) o) in
    subst P (sym (quotes-joined 39 bs text rest [] is)) (either (length bs + 1 - length rest) (nat_lt MOST_CHARACTERS (characters_in text)) _ _ tt (omega arith))
longest _ _ _ (s.string bs text rest is) =
    let P : Option (List ℕ × ℕ) → Type 0 = λ o. AtLeast (length bs + 1 - length rest) (quoted 34 (length bs + 1) o) in
    let same : length bs + 1 - length rest ≤ length bs + 1 - length rest = omega arith in
    subst P (sym (quotes-joined 34 bs text rest [] is)) same
longest _ _ _ (s.open_tuple bs) = omega arith
longest _ _ _ (s.open_list bs) = omega arith
longest _ _ _ (s.open_map bs) = omega arith
longest _ _ _ (s.close_brace bs) = omega arith
longest _ _ _ (s.close_bracket bs) = omega arith
longest _ _ _ (s.comma bs) = omega arith
longest _ _ _ (s.bar bs) = omega arith
longest _ _ _ (s.arrow bs) = omega arith
longest _ _ _ s.last_dot = omega arith
longest _ _ _ (s.dot b bs ends) = either 1 (is_separator b || b == 37) _ _ (omega arith) tt

-- ---- a piece is a token that the bytes begin with

abbrev pub IsPieceOf : List ℕ → Piece → Type 0
IsPieceOf bs (Whole t size) = IsToken bs t size
IsPieceOf bs other = Unit {0}

when : (bs : List ℕ) (test : Bool) (q r : Piece) → (test ≡ true → IsPieceOf bs q) → (test ≡ false → IsPieceOf bs r) → IsPieceOf bs (if test then q else r)
when bs true q r h e = h refl
when bs false q r h e = e refl

-- bytes as the tests have told them
first : (b c : ℕ) (bs : List ℕ) (q : Piece) → (b == c) ≡ true → IsPieceOf (c ∷ bs) q → IsPieceOf (b ∷ bs) q
first b c bs q e d = let P : ℕ → Type 0 = λ x. IsPieceOf (x ∷ bs) q in subst P (sym (eqb-true b c e)) d

second : (a b c : ℕ) (bs : List ℕ) (q : Piece) → (b == c) ≡ true → IsPieceOf (a ∷ c ∷ bs) q → IsPieceOf (a ∷ b ∷ bs) q
second a b c bs q e d = let P : ℕ → Type 0 = λ x. IsPieceOf (a ∷ x ∷ bs) q in subst P (sym (eqb-true b c e)) d

exponent-spelled : (bs : List ℕ) → IsExponent bs (exponent_size bs)
exponent-spelled [] = s.no_exponent []
exponent-spelled (b ∷ bs) = go (b == 101 || b == 69) (nat_lt 0 count) refl refl
  where
    count : ℕ
    count = run is_digit (drop (sign_size bs) bs)

    go : (marked some : Bool) → (b == 101 || b == 69) ≡ marked → nat_lt 0 count ≡ some → IsExponent (b ∷ bs) (if marked && some then 1 + sign_size bs + count else 0)
    go true true e n = s.exponent b bs count e (run-front is_digit (drop (sign_size bs) bs) (ltb-true 0 count n))
    go true false e n = s.no_exponent (b ∷ bs)
    go false some e n = s.no_exponent (b ∷ bs)

float-spelled : (negative : Bool) (bs rest : List ℕ) → begins is_digit bs ≡ true → drop (run is_digit bs) bs ≡ rest → begins_fraction rest ≡ true → IsPieceOf (signed negative bs) (float (signed_size negative (run is_digit bs)) rest)
float-spelled negative bs [] h e is = absurd (cc)
float-spelled negative bs (b ∷ cs) h e is =
    let both = both_hold (b == 46) (begins is_digit cs) is in
    let point : drop (run is_digit bs) bs ≡ 46 ∷ cs = e ∙ ap (λ x. x ∷ cs) (eqb-true b 46 both.0) in
    let one : 1 + run is_digit cs ≡ suc (run is_digit cs) = omega arith in
    rw one (s.float negative bs cs (run is_digit bs) (run is_digit cs) (exponent_size (drop (run is_digit cs) cs)) (run-front is_digit bs (run-some is_digit bs h)) point
    (run-front is_digit cs (run-some is_digit cs both.1)) (exponent-spelled (drop (run is_digit cs) cs)))

number-spelled : (negative : Bool) (bs : List ℕ) → begins is_digit bs ≡ true → IsPieceOf (signed negative bs) (number negative bs)
unfolding number
number-spelled negative bs h =
    let rest : List ℕ = drop (run is_digit bs) bs in
    when (signed negative bs) (begins_fraction rest) (float (signed_size negative (run is_digit bs)) rest) _ (float-spelled negative bs rest h refl) (λ other.
    when (signed negative bs) (begins (is 35) rest) _ _ (λ e. tt) (λ plain. s.whole negative bs (run is_digit bs) (run-front is_digit bs (run-some is_digit bs h))))

few : (n : ℕ) → nat_lt MOST_CHARACTERS n ≡ false → n ≤ MOST_CHARACTERS
few n h = ltb-false MOST_CHARACTERS n h

bare-spelled : (b : ℕ) (bs : List ℕ) → is_lower b ≡ true → IsPieceOf (b ∷ bs) (bare_atom (b ∷ bs))
unfolding bare_atom
bare-spelled b bs e =
    let name : is_name_byte b ≡ true = rw e refl in
    let count : ℕ = run is_name_byte (b ∷ bs) in
    when (b ∷ bs) (nat_lt MOST_CHARACTERS (characters_in (take count (b ∷ bs)))) _ _ (λ long. tt)
    (λ short. s.bare b bs count e (run-front is_name_byte (b ∷ bs) (run-some is_name_byte (b ∷ bs) name)) (few (characters_in (take count (b ∷ bs))) short))

atom-spelled : (bs : List ℕ) (inside : Option (List ℕ × ℕ)) → between_quotes 39 0 [] bs ≡ inside → IsPieceOf (39 ∷ bs) (quoted 39 (length bs + 1) inside)
unfolding quoted
atom-spelled bs None e = tt
atom-spelled bs (Some (text, left)) e =
    let c = quotes-cut 39 bs text left e in
    let P : ℕ → Type 0 = λ n. IsToken (39 ∷ bs) (k.Atom text) (length bs + 1 - n) in
    when (39 ∷ bs) (nat_lt MOST_CHARACTERS (characters_in text)) _ _ (λ long. tt) (λ short. subst P c.1 (s.quoted bs text c.0 c.2 (few (characters_in text) short)))

string-spelled : (bs : List ℕ) (inside : Option (List ℕ × ℕ)) → between_quotes 34 0 [] bs ≡ inside → IsPieceOf (34 ∷ bs) (quoted 34 (length bs + 1) inside)
unfolding quoted
string-spelled bs None e = tt
string-spelled bs (Some (text, left)) e =
    let c = quotes-cut 34 bs text left e in
    let P : ℕ → Type 0 = λ n. IsPieceOf (34 ∷ bs) (quoted 34 (length bs + 1) (Some (text, n))) in
    subst P c.1 (s.string bs text c.0 c.2)

quoted-spelled : (b : ℕ) (bs : List ℕ) → (b == 39) ≡ true ⊎ (b == 34) ≡ true → IsPieceOf (b ∷ bs) (quoted b (length bs + 1) (between_quotes b 0 [] bs))
quoted-spelled b bs is =
    let P : ℕ → Type 0 = λ x. IsPieceOf (x ∷ bs) (quoted x (length bs + 1) (between_quotes x 0 [] bs)) in
    ⊎_elim (λ (e : (b == 39) ≡ true). subst P (sym (eqb-true b 39 e)) (atom-spelled bs (between_quotes 39 0 [] bs) refl))
    (λ (e : (b == 34) ≡ true). subst P (sym (eqb-true b 34 e)) (string-spelled bs (between_quotes 34 0 [] bs) refl)) is

dot-spelled : (bs : List ℕ) → IsPieceOf (46 ∷ bs) (dot bs)
dot-spelled [] = s.last_dot
dot-spelled (b ∷ bs) = when (46 ∷ b ∷ bs) (is_separator b || b == 37) _ _ (λ ends. s.dot b bs ends) (λ other. tt)

map-spelled : (bs : List ℕ) (other : Piece) → IsPieceOf (35 ∷ bs) other → IsPieceOf (35 ∷ bs) (if begins (is 123) bs then Whole k.OpenMap 2 else other)
map-spelled [] other d = d
map-spelled (b ∷ bs) other d = when (35 ∷ b ∷ bs) (b == 123) _ _ (λ e. second 35 b 123 bs (Whole k.OpenMap 2) e (s.open_map bs)) (λ no. d)

arrow-spelled : (bs : List ℕ) → begins (is 62) bs ≡ true → IsToken (61 ∷ bs) k.Arrow 2
arrow-spelled [] e = absurd (cc)
arrow-spelled (b ∷ bs) e = second 61 b 62 bs (Whole k.Arrow 2) e (s.arrow bs)

mark-spelled : (b : ℕ) (bs : List ℕ) → IsPieceOf (b ∷ bs) (mark b bs)
unfolding mark
mark-spelled b bs =
    let one : (c : ℕ) (t : Token) (rest : Piece) → IsToken (c ∷ bs) t 1 → IsPieceOf (b ∷ bs) rest → IsPieceOf (b ∷ bs) (if b == c then Whole t 1 else rest) =
    λ c t rest d more. when (b ∷ bs) (b == c) (Whole t 1) rest (λ e. first b c bs (Whole t 1) e d) (λ no. more) in
    one 123 k.OpenTuple _ (s.open_tuple bs) (one 125 k.CloseBrace _ (s.close_brace bs) (one 91 k.OpenList _ (s.open_list bs) (one 93 k.CloseBracket _ (s.close_bracket bs)
    (one 44 k.Comma _ (s.comma bs) (one 124 k.Bar _ (s.bar bs)
    (when (b ∷ bs) (b == 46) (dot bs) _ (λ e. first b 46 bs (dot bs) e (dot-spelled bs)) (λ no.
    when (b ∷ bs) (b == 36) _ _ (λ e. tt) (λ no. when (b ∷ bs) (b == 60 && begins (is 60) bs) _ _ (λ e. tt) (λ no.
    when (b ∷ bs) (b == 35) _ _ (λ e. first b 35 bs _ e (map-spelled bs _ tt)) (λ no.
    when (b ∷ bs) (b == 61 && begins (is 62) bs) (Whole k.Arrow 2) _
    (λ e. let both = both_hold (b == 61) (begins (is 62) bs) e in first b 61 bs (Whole k.Arrow 2) both.0 (arrow-spelled bs both.1)) (λ no. tt)))))))))))

pub piece-spelled : (bs : List ℕ) → IsPieceOf bs (piece bs)
unfolding piece comment
piece-spelled [] = tt
piece-spelled (b ∷ bs) =
    when (b ∷ bs) (is_separator b) _ _ (λ e. tt) (λ no. when (b ∷ bs) (b == 37) _ _ (λ e. when (b ∷ bs) (is_utf8 (take (run is_no_line_feed bs) bs)) _ _ (λ e. tt) (λ no. tt)) (λ no.
    when (b ∷ bs) (is_digit b) (number false (b ∷ bs)) _ (λ e. number-spelled false (b ∷ bs) e) (λ no.
    when (b ∷ bs) (b == 45 && begins is_digit bs) (number true bs) _
    (λ e. let both = both_hold (b == 45) (begins is_digit bs) e in first b 45 bs (number true bs) both.0 (number-spelled true bs both.1)) (λ no.
    when (b ∷ bs) (is_lower b) (bare_atom (b ∷ bs)) _ (λ e. bare-spelled b bs e) (λ no.
    when (b ∷ bs) (b == 39 || b == 34) (quoted b (length bs + 1) (between_quotes b 0 [] bs)) (mark b bs) (λ e. quoted-spelled b bs (either_is (b == 39) (b == 34) e)) (λ no. mark-spelled b bs))))))

-- ---- the law

pub begins-with : (bs : List ℕ) (t : Token) (size : ℕ) → piece bs ≡ Whole t size → IsToken bs t size
begins-with bs t size e = let P : Piece → Type 0 = λ q. IsPieceOf bs q in subst P e (piece-spelled bs)

pub none-longer : (bs : List ℕ) (t u : Token) (size more : ℕ) → piece bs ≡ Whole t size → IsToken bs u more → more ≤ size
none-longer bs t u size more e d = let P : Piece → Type 0 = λ q. AtLeast more q in subst P e (longest bs u more d)
