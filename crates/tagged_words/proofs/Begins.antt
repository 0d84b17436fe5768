-- What a table begins with, from a place on.
use Rattle.std.proofs.Common.{◌≡◌, ℕ, ◌+◌, ◌<◌, Bool, true, false, List, [], ◌∷◌, length, get_or, drop, map, refl, sym, ap, ◌∙◌, arith}
use Rattle.std.specs.Prelude.{◌&&◌, ◌==◌}
use Rattle.std.specs.Cmp.Lexicographic.{pointwise}
use Rattle.std.proofs.lemmas.List.{drop_more, get_or_default}
use Rattle.tagged_words.specs.Atoms.{begins}

and_false : (b : Bool) → b && false ≡ false
and_false true = refl
and_false false = refl

pub begins_short : (rs table : List (List ℕ)) → length table < length rs → begins rs table ≡ false
begins_short [] table lt = absurd (omega arith)
begins_short (r ∷ rs) [] lt = refl
begins_short (r ∷ rs) (a ∷ table) lt = ap (λ b. pointwise ◌==◌ r a && b) (begins_short rs table (omega arith)) ∙ and_false (pointwise ◌==◌ r a)

pub begins_at : {X : Type 0} (f : X → List ℕ) (words : List X) (table : List (List ℕ)) (i : ℕ) (w : X) (a : List ℕ) → i < length words → i < length table → w ≡ get_or words i w → a ≡ get_or table i a
    → begins (map f (drop i words)) (drop i table) ≡ (pointwise ◌==◌ (f w) a && begins (map f (drop (i + 1) words)) (drop (i + 1) table))
begins_at f words table i w a lw la ew ea =
    let one : drop i words ≡ w ∷ drop (i + 1) words = drop_more words i w lw ∙ ap (λ y. y ∷ drop (i + 1) words) (sym ew) in
    let two : drop i table ≡ a ∷ drop (i + 1) table = drop_more table i a la ∙ ap (λ y. y ∷ drop (i + 1) table) (sym ea) in
    ap (λ l. begins (map f l) (drop i table)) one ∙ ap (begins (map f (w ∷ drop (i + 1) words))) two

-- one more word of the table
pub begins_differs : {X : Type 0} (f : X → List ℕ) (words : List X) (table : List (List ℕ)) (i : ℕ) (d : X) (a : List ℕ) (b : Bool) → i < length words → i < length table → a ≡ get_or table i a → b ≡ pointwise ◌==◌ (f (get_or words i d)) a → b ≡ false
    → begins (map f (drop i words)) (drop i table) ≡ false
begins_differs f words table i d a b lw la ea is differs =
    begins_at f words table i (get_or words i d) a lw la (get_or_default words i d (get_or words i d) lw) ea ∙ ap (λ x. x && begins (map f (drop (i + 1) words)) (drop (i + 1) table)) (sym is ∙ differs)

pub begins_agrees : {X : Type 0} (f : X → List ℕ) (words : List X) (table : List (List ℕ)) (i : ℕ) (d : X) (a : List ℕ) (b : Bool) → i < length words → i < length table → a ≡ get_or table i a → b ≡ pointwise ◌==◌ (f (get_or words i d)) a → b ≡ true
    → begins (map f (drop i words)) (drop i table) ≡ begins (map f (drop (i + 1) words)) (drop (i + 1) table)
begins_agrees f words table i d a b lw la ea is agrees =
    begins_at f words table i (get_or words i d) a lw la (get_or_default words i d (get_or words i d) lw) ea ∙ ap (λ x. x && begins (map f (drop (i + 1) words)) (drop (i + 1) table)) (sym is ∙ agrees)
