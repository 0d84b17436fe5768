-- One line alone is said of an outcome, since one thing alone is seen from a word.
use Rattle.std.proofs.Common.{◌≡◌, ℕ, List, sym, ap, ◌∙◌}
use Rattle.std.specs.Prelude.{Result, Ok, Err, IfOk}
use Rattle.mode_switch.specs.Store.{store_of}
use Rattle.mode_switch.specs.Text.{IsTermLine, OneLineIsSaid, raise_head, term_line, value_head}
use Rattle.mode_switch.specs.declared.outcome.Outcome.TheVariants.{Returned, Raised, Ended}
use Rattle.mode_switch.specs.declared.text.TheConstants.{MOST_PRINTED, RAISE_STATUS, VALUE_STATUS}
use Rattle.tagged_words.proofs.SeenLaws.{one_seen, something_seen}
use Rattle.tagged_words.specs.Look.{address_end}
use Rattle.tagged_words.specs.Seen.{Seen, Sees}
use Rattle.tagged_words.specs.Store.{Store}
use Rattle.word_walks.specs.Spelt.{Spelling, spelt}

-- the line of a word is that of what is seen from it
pub line_of_seen : (store : Store) (names : List (List ℕ)) (head : List ℕ) (status w : ℕ) (v : Seen) (line : List ℕ × ℕ)
    → Sees store names address_end w v → IsTermLine store names head status w line → term_line head status (spelt MOST_PRINTED v) ≡ line
line_of_seen store names head status w v line sees is =
    ap (λ u. term_line head status (spelt MOST_PRINTED u)) (one_seen store names address_end w v is.0 sees is.1) ∙ is.2

pub one_term_line : (store : Store) (names : List (List ℕ)) (head : List ℕ) (status w : ℕ) (a b : List ℕ × ℕ)
    → IsTermLine store names head status w a → IsTermLine store names head status w b → a ≡ b
one_term_line store names head status w a b x y = sym x.2 ∙ line_of_seen store names head status w x.0 b x.1 y

pub one_line : OneLineIsSaid
one_line g s (Returned w) a b x y = one_term_line (store_of g s) g.names value_head VALUE_STATUS w a b x y
one_line g s (Raised class w) a b x y = one_term_line (store_of g s) g.names (raise_head class) RAISE_STATUS w a b x y
one_line g s (Ended end) a b x y = sym x ∙ y

-- the line that is made of the text of whatever is seen is the word's line
pub seen_line : {X E : Type 0} (line : X → List ℕ × ℕ) (store : Store) (names : List (List ℕ)) (head : List ℕ) (status w : ℕ) (text : Spelling) (r : Result X E)
    → ((v : Seen) → Sees store names address_end w v → text ≡ spelt MOST_PRINTED v)
    → IfOk r (λ t. term_line head status text ≡ line t) → IfOk r (λ t. IsTermLine store names head status w (line t))
seen_line line store names head status w text (Ok t) all is =
    let seen : (v : Seen) × Sees store names address_end w v = something_seen store names address_end w in
    (seen.0, seen.1, sym (ap (term_line head status) (all seen.0 seen.1)) ∙ is)
seen_line line store names head status w text (Err e) all is = tt
