-- The tokens of a text whose first bytes are one token with no line feed.
use Rattle.std.proofs.Common.{◌≡◌, ℕ, ◌+◌, ◌-◌, min, Bool, true, false, List, [], ◌∷◌, ◌++◌, length, refl, ap, ◌∙◌, arith, if◌then◌else◌, ◌==◌}
use Rattle.std.specs.List.{list_all}
use Rattle.std.specs.Cmp.Derive.{both_true}
use Rattle.term_tree.proofs.TermLaws.{both_hold}
use Rattle.text_tokens.specs.declared.token.Token.{Token}
use Rattle.text_tokens.specs.declared.token.Token.TheVariants as k
use Rattle.text_tokens.specs.declared.token.Piece.TheVariants.{Whole}
use Rattle.text_tokens.specs.Character.{is, begins, run}
use Rattle.text_tokens.specs.Pieces.{piece, mark, is_digit, is_name_byte, is_no_line_feed, begins_fraction}
use Rattle.text_tokens.specs.Tokens.{More, tokens, tokens_after, line_after, last_line}
use Rattle.text_tokens.proofs.Fronts.{tokens-skip, tokens-whole}

stays : (feed : Bool) (line : ℕ) → (if feed then false else true) ≡ true → (if feed then min (line + 1) last_line else line) ≡ line
stays true line h = absurd (cc)
stays false line h = refl

same_line : (line b : ℕ) → is_no_line_feed b ≡ true → line_after line b ≡ line
same_line line b h = stays (b == 10) line h

skipped : (cs rest : List ℕ) → list_all is_no_line_feed cs ≡ true → tokens_after (length cs) 1 1 (cs ++ rest) ≡ tokens rest
skipped [] rest h = refl
skipped (c ∷ cs) rest h =
    let both = both_hold (is_no_line_feed c) (list_all is_no_line_feed cs) h in
    let one_less : length (c ∷ cs) - 1 ≡ length cs = omega arith in
    tokens-skip (length (c ∷ cs)) 1 1 (c ∷ (cs ++ rest)) c (cs ++ rest) refl (omega arith)
    ∙ ap (λ line. tokens_after (length (c ∷ cs) - 1) 1 line (cs ++ rest)) (same_line 1 c both.0)
    ∙ ap (λ n. tokens_after n 1 1 (cs ++ rest)) one_less
    ∙ skipped cs rest both.1

-- all stands in the first line, since no byte is a line feed
pub one_token : (b : ℕ) (cs rest : List ℕ) (token : Token) → piece (b ∷ (cs ++ rest)) ≡ Whole token (length (b ∷ cs)) → list_all is_no_line_feed (b ∷ cs) ≡ true
    → tokens (b ∷ (cs ++ rest)) ≡ More 1 token (tokens rest)
one_token b cs rest token e h =
    let both = both_hold (is_no_line_feed b) (list_all is_no_line_feed cs) h in
    let one_less : length (b ∷ cs) - 1 ≡ length cs = omega arith in
    tokens-whole 0 1 1 (b ∷ (cs ++ rest)) b (cs ++ rest) token (length (b ∷ cs)) refl (omega arith) e
    ∙ ap (λ line. More 1 token (tokens_after (length (b ∷ cs) - 1) 1 line (cs ++ rest))) (same_line 1 b both.0)
    ∙ ap (λ n. More 1 token (tokens_after n 1 1 (cs ++ rest))) one_less
    ∙ ap (More 1 token) (skipped cs rest both.1)

-- what passes one test passes another
pub all_imply : (p q : ℕ → Bool) → ((b : ℕ) → p b ≡ true → q b ≡ true) → (bs : List ℕ) → list_all p bs ≡ true → list_all q bs ≡ true
all_imply p q h [] e = refl
all_imply p q h (b ∷ bs) e = let both = both_hold (p b) (list_all p bs) e in both_true (h b both.0) (all_imply p q h bs both.1)

-- the front that passes a test, before bytes that do not
pub run-front : (p : ℕ → Bool) (ds rest : List ℕ) → list_all p ds ≡ true → begins p rest ≡ false → run p (ds ++ rest) ≡ length ds
run-front p [] [] h e = refl
run-front p [] (r ∷ rest) h e = rw e refl
run-front p (d ∷ ds) rest h e =
    let both = both_hold (p d) (list_all p ds) h in
    let more = run-front p ds rest both.1 e in
    let sum : 1 + run p (ds ++ rest) ≡ length (d ∷ ds) = omega arith in
    ap (λ b. if b then 1 + run p (ds ++ rest) else 0) both.0 ∙ sum

-- where a number or an atom stops
pub record Stops (rest : List ℕ) : Type 0 where
  pub name : begins is_name_byte rest ≡ false
  pub digit : begins is_digit rest ≡ false
  pub fraction : begins_fraction rest ≡ false
  pub based : begins (is 35) rest ≡ false

-- a mark of one byte, before which a number or an atom stops
pub record IsMark (b : ℕ) (token : Token) : Type 0 where
  pub stops : (rest : List ℕ) → Stops (b ∷ rest)
  pub reads : (rest : List ℕ) → tokens (b ∷ rest) ≡ More 1 token (tokens rest)

mark_is : (b : ℕ) (token : Token) → ((rest : List ℕ) → Stops (b ∷ rest)) → is_no_line_feed b ≡ true → ((rest : List ℕ) → piece (b ∷ rest) ≡ Whole token 1) → IsMark b token
mark_is b token stops line is = record { stops = stops; reads = (λ rest. one_token b [] rest token (is rest) (both_true line refl)) }

pub comma : IsMark 44 k.Comma
unfolding piece mark
comma = mark_is 44 k.Comma (λ rest. record { name = refl; digit = refl; fraction = refl; based = refl }) refl (λ rest. refl)

pub bar : IsMark 124 k.Bar
unfolding piece mark
bar = mark_is 124 k.Bar (λ rest. record { name = refl; digit = refl; fraction = refl; based = refl }) refl (λ rest. refl)

pub open_list : IsMark 91 k.OpenList
unfolding piece mark
open_list = mark_is 91 k.OpenList (λ rest. record { name = refl; digit = refl; fraction = refl; based = refl }) refl (λ rest. refl)

pub close_list : IsMark 93 k.CloseBracket
unfolding piece mark
close_list = mark_is 93 k.CloseBracket (λ rest. record { name = refl; digit = refl; fraction = refl; based = refl }) refl (λ rest. refl)

pub open_tuple : IsMark 123 k.OpenTuple
unfolding piece mark
open_tuple = mark_is 123 k.OpenTuple (λ rest. record { name = refl; digit = refl; fraction = refl; based = refl }) refl (λ rest. refl)

pub close_tuple : IsMark 125 k.CloseBrace
unfolding piece mark
close_tuple = mark_is 125 k.CloseBrace (λ rest. record { name = refl; digit = refl; fraction = refl; based = refl }) refl (λ rest. refl)

-- the dot of the last form
pub stops_dot : Stops (46 ∷ [])
stops_dot = record { name = refl; digit = refl; fraction = refl; based = refl }

pub dot_token : tokens (46 ∷ []) ≡ More 1 k.Dot (tokens [])
unfolding piece mark
dot_token = one_token 46 [] [] k.Dot refl refl
